-- `listing_output::Line::put_digits` ends: a number has fewer digits in front of its last one.
-- Assumes nothing.
use Rattle.listing_output.proofs.Line.+put_digits.Given as goal

abbrev pub decreases-put_digits : goal.decreases-put_digits
decreases-put_digits l = l.number
