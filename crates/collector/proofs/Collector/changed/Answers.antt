-- `collector::Collector::changed` meets its contract: nothing changes, or one slot does.
-- Assumes nothing.
use mathlib.Core.Path.{refl, ◌∙◌}
use borrow.Author.Rules.{rules}
use Rattle.collector.proofs.Collector.changed.Goals as goal
use Rattle.collector.proofs.Collector.changed.Goals.{in-Nothing, in-At}

pub offset_bounds-self-i : goal.offset_bounds-self-i
offset_bounds-self-i c = let inside = rw c.in-At.is at c.requires in search rules

pub bounds-self-i : goal.bounds-self-i
bounds-self-i c = rw c.in-At.is at c.requires

pub returns : goal.returns
returns c = λ lent. c.answered.ensures lent ∙ elim c.match-change.branch [
  | in-Nothing w ↦ rw (w.self-is, w.answer-is, w.in-Nothing.is) refl
  | in-At w ↦ rw (w.self-is, w.answer-is, w.in-At.is) refl
]
