-- `collector::Lent::shown_at` meets its contract: past the slots there is nothing to show.
-- Assumes nothing.
use mathlib.Core.Path.{◌≡◌, refl, sym}
use native.Mathlib.Omega.{arith}
use Rattle.slots.specs.Show.{shown_of}
use Rattle.slots.specs.Stores.{free_slot, slot_at}
use Rattle.collector.proofs.Lent.shown_at.Goals as goal

pub returns-in_default : goal.returns-in_default
unfolding shown_of slot_at free_slot
returns-in_default c =
    let a = c.args in
    let past : slot_at a.i a.self.now.collector.now.slots ≡ free_slot =
    sym (c.in_default.ensures.lookup.4 (omega arith) free_slot) in
    rw past refl

pub returns : goal.returns
unfolding slot_at free_slot
returns c =
    let a = c.args in
    let there : slot_at a.i a.self.now.collector.now.slots ≡ c.in-Some.slot.now =
    sym (c.in-Some.ensures.lookup.4 (omega arith) free_slot) in
    rw there c.shown.ensures
