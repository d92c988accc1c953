-- What the test of a state gives, where it passes: of each slot in use, of the one that holds a number and of a free
-- one.
use Rattle.std.specs.Prelude.{◌≡◌, None, Some, true, false, ℕ, ◌*◌, ◌≤◌, length, drop}
use Rattle.std.proofs.Common.{arith}
use Rattle.octets.specs.Octets.{sum_of}
use Rattle.counts.specs.Counted.{within}
use Rattle.cut.specs.laws.Lists.{bytes_take, bytes_drop}
use Rattle.cut.specs.Requirement.{header_most, limit_most}
use Rattle.cut.specs.laws.Decision.{both_true}
use Rattle.object.specs.Sound.{sound_slot}
use Rattle.object.specs.laws.Shape.{IsLent}
use Rattle.slots.specs.Stores.{slot_marks, lent_at, Limits}
use Rattle.slots.specs.Find.{is_free, holds, find_in, free_in}
use Rattle.slots.specs.State.{sound_slots}
use Rattle.slots.specs.Take.{Inside}
use Rattle.slots.specs.laws.Shares.{lent-wide}
use Rattle.slots.specs.laws.Ready.{inside-store, held-sound, free-unmarked}
use Rattle.collector.specs.State.{State, find, free}
use Rattle.collector.specs.Calls.{sound}
use Rattle.history.specs.laws.Counts.{within_low}
use Rattle.history.specs.laws.Slots.{Undamaged, found_at, found_none, sound-undamaged}
use Rattle.history.specs.Held.{lent_of, limit_of, slot_of}
use Rattle.history.specs.State.{InUse, OfBytes, Low}

-- within the limits each slot has its shares
module _ (s : State) (i : ℕ) (w : Limits (limit_of s) s.collector.count (length s.stores.header)
    (length s.stores.body) (length s.stores.marks)) (u : InUse i s) where
  pub limits-inside : Inside (limit_of s) i s.stores
  limits-inside = record {
    slot = omega (arith, w.slots, u.counted);
    header = omega (arith, w.header, inside-store header_most s.collector.count i u.counted);
    body = omega (arith, w.body, inside-store (limit_of s) s.collector.count i u.counted);
    marks = omega (arith, w.marks, inside-store slot_marks s.collector.count i u.counted);
  }

  pub limits-lent : OfBytes s.stores → IsLent (limit_of s) (lent_of i s)
  unfolding lent_at
  limits-lent b =
      let wide = lent-wide (limit_of s) i s.stores limits-inside in
      record {
        header_length = wide.header;
        body_length = wide.body;
        marks_length = wide.marks;
        header_bytes = bytes_take header_most (drop (i * header_most) s.stores.header)
            (bytes_drop (i * header_most) s.stores.header b.header);
        body_bytes = bytes_take (limit_of s) (drop (i * limit_of s) s.stores.body)
            (bytes_drop (i * limit_of s) s.stores.body b.body);
      }

module _ (s : State) (good : sound s ≡ true) where
  both-sound : (sound_slots (limit_of s) s.collector.count s.collector.slots s.stores ≡ true)
      × (within s.counts ≡ true)
  unfolding sound
  both-sound = both_true (sound_slots (limit_of s) s.collector.count s.collector.slots s.stores)
      (within s.counts) good

  pub slots-sound : sound_slots (limit_of s) s.collector.count s.collector.slots s.stores ≡ true
  slots-sound = both-sound.0

  pub counts-low : Low s.counts
  counts-low = within_low s.counts both-sound.1

  pub slots-right : Undamaged (limit_of s) s.collector.count s.collector.slots s.stores
  slots-right = sound-undamaged (limit_of s) s.collector.count s.collector.slots s.stores slots-sound

  pub limit-low : limit_of s ≤ limit_most
  limit-low = slots-right.limits.most

  -- the shares of a slot in use
  pub used-inside : (i : ℕ) → InUse i s → Inside (limit_of s) i s.stores
  used-inside i u = limits-inside s i slots-right.limits u

  pub used-lent : (i : ℕ) → InUse i s → OfBytes s.stores → IsLent (limit_of s) (lent_of i s)
  used-lent i u b = limits-lent s i slots-right.limits u b

  -- the slot that holds a number
  pub found-used : (number i : ℕ) → find number s ≡ Some i → InUse i s
  unfolding find_in
  found-used number i e = (found_at (holds number) s.collector.count s.collector.slots i e).0

  pub found-holds : (number i : ℕ) → find number s ≡ Some i → holds number (slot_of i s) ≡ true
  unfolding find_in
  found-holds number i e = (found_at (holds number) s.collector.count s.collector.slots i e).1

  pub found-sound : (number i : ℕ) → find number s ≡ Some i → sound_slot (limit_of s) (slot_of i s) (lent_of i s) ≡ true
  found-sound number i e = held-sound (limit_of s) number (slot_of i s) (lent_of i s) (found-holds number i e)
      (slots-right.right i (found-used number i e))

  pub none-holds : (number i : ℕ) → find number s ≡ None → InUse i s → holds number (slot_of i s) ≡ false
  unfolding find_in
  none-holds number i e u = found_none (holds number) s.collector.count s.collector.slots e i u

  -- the lowest slot that is free
  pub free-used : (i : ℕ) → free s ≡ Some i → InUse i s
  unfolding free_in
  free-used i e = (found_at is_free s.collector.count s.collector.slots i e).0

  pub free-free : (i : ℕ) → free s ≡ Some i → is_free (slot_of i s) ≡ true
  unfolding free_in
  free-free i e = (found_at is_free s.collector.count s.collector.slots i e).1

  pub free-marks : (i : ℕ) → free s ≡ Some i → sum_of (lent_of i s).marks ≡ 0
  free-marks i e = free-unmarked (limit_of s) (slot_of i s) (lent_of i s) (free-free i e)
      (slots-right.right i (free-used i e))
