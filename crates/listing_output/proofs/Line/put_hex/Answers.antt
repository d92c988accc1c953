-- `listing_output::Line::put_hex` meets its contract: four digits, each of its own four bits.
-- Assumes nothing.
use Rattle.listing_output.specs.Number.{four_digits}
use Rattle.listing_output.specs.laws.Put.{put_same}
use Rattle.listing_output.proofs.Line.put_hex.Goals as goal

pub returns-clause-put : goal.returns-clause-put
unfolding four_digits
returns-clause-put c =
    put_same c.put.ensures (rw (c.digit.ensures, c.digit-2.ensures, c.digit-3.ensures, c.digit-4.ensures))
