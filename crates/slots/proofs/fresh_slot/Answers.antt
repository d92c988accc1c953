-- `slots::fresh_slot` meets its contract: all but the number and the stage is that of a free slot.
-- Assumes nothing.
use Rattle.slots.specs.Stores.{free_slot, fresh_slot}
use Rattle.slots.proofs.fresh_slot.Goals as goal

pub returns : goal.returns
unfolding free_slot fresh_slot
returns c = rw c.free_slot.ensures
