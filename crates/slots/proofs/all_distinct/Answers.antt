-- `slots::all_distinct` meets its contract: what is not looked at yet decides, at each turn.
-- Assumes nothing.
use mathlib.Core.Path.{refl, sym, ◌∙◌}
use native.Mathlib.Omega.{arith}
use Rattle.slots.specs.Keys.{distinct_keys}
use Rattle.slots.specs.laws.StateTests.{spent}
use Rattle.slots.proofs.all_distinct.Goals as goal

pub returns-then-not-is_unlike : goal.returns-then-not-is_unlike
unfolding distinct_keys
returns-then-not-is_unlike c =
    sym (c.loop-key.invariant ∙ rw (c.in-Some.ensures.cases.0, sym c.is_unlike.ensures ∙ c.if-not-is_unlike.true) refl)

pub loop-key-preserved : goal.loop-key-preserved
unfolding distinct_keys
loop-key-preserved c =
    c.loop-key.invariant ∙ rw (c.in-Some.ensures.cases.0, sym c.is_unlike.ensures ∙ c.if-not-is_unlike.false) refl

pub returns : goal.returns
unfolding distinct_keys
returns c =
    sym (c.loop-key.invariant ∙ rw (spent c.loop-key.rest.now 0 (omega (arith, c.in_default.ensures.cases))) refl)
