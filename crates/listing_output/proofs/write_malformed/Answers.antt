-- `listing_output::write_malformed` meets its contract: the number, and behind it the rest of the line.
-- Assumes nothing.
use Rattle.std.proofs.Common.{refl, arith}
use Rattle.listing_output.specs.laws.Put.{put_then, put_whole}
use Rattle.listing_output.specs.Text.{malformed_text}
use Rattle.listing_output.proofs.write_malformed.Goals as goal

pub returns : goal.returns
unfolding malformed_text
returns c =
    let whole = put_whole (put_then c.put_decimal.ensures.put c.put.ensures (omega arith)) refl
    (omega (arith, c.put.ensures.ends)) in
    record { value = whole.0; out_after = whole.1.0; upper_bound = whole.1.1 }
