-- What a call gives, put together from what its parts give.
-- Assumes nothing.
use mathlib.Core.Path.{◌≡◌, ap, ◌∙◌}
use Prim.Native.Nat.{ℕ, ◌<◌}
use Rattle.counts.specs.declared.Counts.{Counts}
use Rattle.object.specs.declared.Slot.{Slot}
use Rattle.object.specs.Take.{take_into}
use Rattle.slots.specs.Stores.{slots_most, Stores, lent_at}
use Rattle.slots.specs.Take.{placed_at, among}
use Rattle.collector.specs.declared.Collector.{Collector}
use Rattle.collector.specs.State.{state}
use Rattle.collector.specs.Calls.{taken_by}
use Rattle.collector.specs.Changes.{place_of, Came, offered_at, left_by}
use Rattle.collector.specs.Arrival.{Arrival}

-- a segment was offered to a slot, and that is put among the others
pub put_as : (c : Collector) (i : ℕ) (a : Arrival) (lent : Stores) {came : Came} (slot other : Slot)
    → came ≡ offered_at c.limit i a slot lent → slot ≡ other → i < slots_most
    → (place_of came.change < slots_most)
    × ((counts : Counts) → left_by came.change (state c counts came.stores)
    ≡ taken_by a (state c counts lent)
    (among i c.slots (placed_at c.limit i lent
    (take_into a.part c.limit a.segment other (lent_at c.limit i lent)))))
put_as c i a lent slot other e f h =
    let g = e ∙ ap (λ (x : Slot). offered_at c.limit i a x lent) f in
    (rw e h, λ counts. ap (λ (came : Came). left_by came.change (state c counts came.stores)) g)
