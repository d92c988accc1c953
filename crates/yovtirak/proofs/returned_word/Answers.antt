-- `yovtirak::returned_word` meets its contract.
-- Assumes nothing.
use mathlib.Core.Path.{refl}
use native.Mathlib.Omega.{arith}
use Rattle.yovtirak.proofs.returned_word.Goals as goal

pub overflow_add-result : goal.overflow_add-result
overflow_add-result c = record { fits = omega (arith, c.heard_word.ensures.1, c.repetition_word.ensures.1) }

pub returns-in-Sent : goal.returns-in-Sent
returns-in-Sent c = (
  rw (c.in-Sent.is, c.heard_word.ensures.0, c.repetition_word.ensures.0)
      refl,
  omega (arith, c.heard_word.ensures.1, c.repetition_word.ensures.1),
)

pub returns-in-Segment : goal.returns-in-Segment
returns-in-Segment c = (
  rw c.in-Segment.is c.heard_word-in-Segment.ensures.0,
  omega (arith, c.heard_word-in-Segment.ensures.1),
)

pub returns-in-Number : goal.returns-in-Number
returns-in-Number c = (rw c.in-Number.is refl, omega arith)
