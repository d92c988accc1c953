-- `listing_output::write_counts` meets its contract: six fields, one behind the other.
-- Assumes nothing.
use Rattle.std.proofs.Common.{refl, arith}
use Rattle.listing_output.specs.laws.Put.{put_then, put_whole}
use Rattle.listing_output.specs.Text.{counts_text}
use Rattle.listing_output.proofs.write_counts.Goals as goal

pub returns : goal.returns
unfolding counts_text
returns c =
    rw (← c.from.ensures, ← c.from-2.ensures, ← c.from-3.ensures, ← c.from-4.ensures, ← c.from-5.ensures)
    (let whole = put_whole {room = 128}
    (put_then c.put.ensures
    (put_then c.put_decimal.ensures.put
    (put_then c.put_decimal-2.ensures.put
    (put_then c.put_decimal-3.ensures.put
    (put_then c.put_decimal-4.ensures.put
    c.put_decimal-5.ensures.put (omega arith)) (omega arith)) (omega arith)) (omega arith)) (omega arith))
    refl (omega arith) in
    record { value = whole.0; out_after = whole.1.0; upper_bound = whole.1.1 })
