-- `listing_output::Line::put_segment` meets its contract: three fields, one behind the other.
-- Assumes nothing.
use Rattle.std.proofs.Common.{arith}
use Rattle.listing_output.specs.laws.Put.{put_then}
use Rattle.listing_output.proofs.Line.put_segment.Goals as goal

pub returns-clause-put : goal.returns-clause-put
returns-clause-put c =
    rw (← c.from.ensures)
    (put_then c.put_hex.ensures.put (put_then c.put_part.ensures.put c.put_decimal.ensures.put (omega arith))
    (omega arith))
