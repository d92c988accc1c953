-- `slots::is_unlike` meets its contract.
-- Assumes nothing.
use mathlib.Core.Path.{ap, ◌∙◌}
use mathlib.Core.Bool.{not}
use borrow.Author.Tests.{eq-eqb, ne_eqb}
use Rattle.slots.specs.Keys.{unlike_key}
use Rattle.slots.proofs.Laws.{absent-any}
use Rattle.slots.proofs.is_unlike.Goals as goal

pub returns-then-key-eq0 : goal.returns-then-key-eq0
unfolding unlike_key
returns-then-key-eq0 c = rw (eq-eqb _ _ c.if-key-eq0.true)

pub returns-else-key-eq0 : goal.returns-else-key-eq0
unfolding unlike_key
returns-else-key-eq0 c = rw (ne_eqb _ _ c.if-key-eq0.false)
    (ap not c.contains.ensures.value ∙ absent-any c.args.key c.args.others.now)
