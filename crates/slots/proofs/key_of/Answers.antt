-- `slots::key_of` meets its contract.
-- Assumes nothing.
use Rattle.std.proofs.Common.{rules}
use Rattle.slots.specs.Keys.{key_of}
use Rattle.slots.proofs.key_of.Goals as goal

pub returns-then-is_free : goal.returns-then-is_free
unfolding key_of
returns-then-is_free c = search rules

pub returns-else-is_free : goal.returns-else-is_free
unfolding key_of
returns-else-is_free c = search rules
