-- `listing_input::byte` meets its contract: each digit fits four bits.
-- Assumes nothing.
use Rattle.std.proofs.Common.{arith}
use Rattle.listing_input.proofs.Hex.{digit_bound}
use Rattle.listing_input.proofs.byte.Goals as goal

pub overflow_mul-result : goal.overflow_mul-result
overflow_mul-result c = grind (arith, digit_bound)

pub overflow_add-result : goal.overflow_add-result
overflow_add-result c = grind (arith, digit_bound)
