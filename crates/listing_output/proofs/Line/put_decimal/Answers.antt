-- `listing_output::Line::put_decimal` meets its contract: the digits, of which there are twenty at most, and what ends
-- them. Assumes nothing.
use Rattle.std.proofs.Common.{arith}
use Rattle.listing_output.specs.laws.Put.{put_then}
use Rattle.listing_output.proofs.Digits.{decimal-short}
use Rattle.listing_output.proofs.Line.put_decimal.Goals as goal

pub put_digits-requires : goal.put_digits-requires
put_digits-requires c = omega (arith, decimal-short c.args.number c.ranges.number.fits)

pub push-requires : goal.push-requires
push-requires c = omega (arith, c.put_digits.ensures.ends, decimal-short c.args.number c.ranges.number.fits)

pub returns : goal.returns
returns c =
    let short = decimal-short c.args.number c.ranges.number.fits in record {
      put = put_then c.put_digits.ensures c.push.ensures (omega (arith, c.put_digits.ensures.ends));
      upper_bound = omega (arith, c.push.ensures.ends, c.put_digits.ensures.ends);
    }
