-- `slots::holds` meets its contract: a free slot holds no number.
-- Assumes nothing.
use Rattle.std.proofs.Common.{rules}
use Rattle.slots.specs.Find.{is_free, holds}
use Rattle.slots.proofs.holds.Goals as goal

pub returns-then-not-is_free : goal.returns-then-not-is_free
unfolding holds is_free
returns-then-not-is_free c = search rules

pub returns-else-not-is_free : goal.returns-else-not-is_free
unfolding holds is_free
returns-else-not-is_free c = search rules
