-- `slots::is_free` meets its contract.
-- Assumes nothing.
use Rattle.std.proofs.Common.{rules}
use Rattle.slots.specs.Find.{is_free}
use Rattle.slots.proofs.is_free.Goals as goal

pub returns : goal.returns
unfolding is_free
returns c = search rules
