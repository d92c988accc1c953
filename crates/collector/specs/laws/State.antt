-- What a sound state has.
use Rattle.std.specs.Prelude.{◌≡◌, Some, true, ℕ, ◌<◌}
use Rattle.counts.specs.Counted.{within}
use Rattle.cut.specs.laws.Decision.{both_true}
use Rattle.slots.specs.State.{sound_slots}
use Rattle.slots.specs.Stores.{slots_most}
use Rattle.slots.specs.laws.Ready.{found_inside}
use Rattle.collector.specs.State.{State, find}
use Rattle.collector.specs.Calls.{sound}

-- its slots are sound
pub slots-sound : (s : State) → sound s ≡ true
    → sound_slots s.collector.limit s.collector.count s.collector.slots s.stores ≡ true
unfolding sound
slots-sound s e =
    (both_true (sound_slots s.collector.limit s.collector.count s.collector.slots s.stores)
    (within s.counts) e).0

-- a slot that is found is one of its slots
pub found-among : (number i : ℕ) (s : State) → sound s ≡ true → find number s ≡ Some i → i < slots_most
found-among number i s e f =
    (found_inside s.collector.limit s.collector.count s.collector.slots s.stores (slots-sound s e) number i f).slot
