-- `slots::free_slot` meets its contract: both records are empty.
-- Assumes nothing.
use borrow.Author.Rules.{rules}
use Rattle.slots.specs.Stores.{free_slot}
use Rattle.slots.proofs.free_slot.Goals as goal

pub returns : goal.returns
unfolding free_slot
returns c = search rules
