-- `yovtirak::answer_word` meets its contract.
-- Assumes nothing.
use mathlib.Core.Path.{refl}
use native.Mathlib.Omega.{arith}
use Rattle.yovtirak.proofs.answer_word.Goals as goal

pub overflow_add-result : goal.overflow_add-result
overflow_add-result c = record { fits = omega (arith, c.returned_word.ensures.1) }

pub returns : goal.returns
returns c = rw (c.number_of-number.ensures, c.returned_word.ensures.0, c.returned_with-returned.ensures)
    refl
