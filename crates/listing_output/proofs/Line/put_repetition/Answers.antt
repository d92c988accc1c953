-- `listing_output::Line::put_repetition` meets its contract: three numbers, one behind the other.
-- Assumes nothing.
use Rattle.std.proofs.Common.{arith}
use Rattle.listing_output.specs.laws.Put.{put_then}
use Rattle.listing_output.proofs.Line.put_repetition.Goals as goal

pub returns-clause-put : goal.returns-clause-put
returns-clause-put c =
    rw (← c.from.ensures, ← c.from-2.ensures, ← c.from-3.ensures)
    (put_then c.put_decimal.ensures.put
    (put_then c.put_decimal-2.ensures.put c.put_decimal-3.ensures.put (omega arith)) (omega arith))
