-- No state so reached is damaged: an opening within the limits gives a state that is not, and every call leaves it so.
use Rattle.std.proofs.Common.{subst, sym, ◌∙◌, arith, eq-eqb, Option, None, Some}
use Rattle.std.specs.Prelude.{◌≡◌, refl, true, Result, Ok, Err, length, drop, set, replicate}
use mathlib.Core.List.{List, []}
use Prim.Native.Nat.{ℕ, ◌*◌, ◌≤◌}
use Rattle.std.proofs.lemmas.List.{length-replicate, get_or-replicate}
use Rattle.octets.specs.Octets.{zeros, sum_of, largest_of}
use Rattle.octets.specs.laws.Over.{zeros-length}
use Rattle.octets.specs.laws.Marks.{largest-part, zeros-largest}
use Rattle.answer.specs.declared.Answer.{Answer}
use Rattle.answer.specs.declared.Reason.TheVariants as Reason
use Rattle.answer.specs.declared.Part.{Part}
use Rattle.answer.specs.declared.Refusal.{Refusal}
use Rattle.counts.specs.Counted.{none_yet, counted, within}
use Rattle.wire.specs.declared.Carried.{Carried}
use Rattle.wire.specs.Reading.{reading_of}
use Rattle.cut.specs.laws.Lists.{bytes_take, bytes_drop, over-bytes}
use Rattle.cut.specs.Requirement.{header_most, limit_most, Segment}
use Rattle.cut.specs.laws.Decision.{false-true, true-both}
use Rattle.cut.specs.Lists.{Bytes}
use Rattle.object.specs.declared.Slot.{Slot}
use Rattle.object.specs.Take.{Taken, take_into}
use Rattle.object.specs.laws.Shape.{IsLent}
use Rattle.object.specs.laws.StepSound.{taken-lent, added-sound}
use Rattle.object.specs.laws.StateAnswered.{sound-stays, lent-stays}
use Rattle.object.specs.Parts.{Lent}
use Rattle.slots.specs.Stores.{slots_most, slot_marks, Stores, lent_at, with_lent, free_slot, fresh_slot, slot_at}
use Rattle.slots.specs.Find.{is_free, holds}
use Rattle.slots.specs.Alone.{fits_alone}
use Rattle.slots.specs.State.{right_slot, sound_slots}
use Rattle.slots.specs.laws.StateTests.{limits-hold}
use Rattle.slots.specs.laws.Shares.{Wide}
use Rattle.collector.specs.State.{Start, State, Reply, state, all_free, find, free}
use Rattle.collector.specs.Calls.{answer_for, drop_number, in_limits, open_with, sound, answering}
use Rattle.collector.specs.Arrival.{Arrival, arrival_in, heard_as, segment_in}
use Rattle.history.specs.Handed.{Handed, HandedBytes, Brought, arrives, refused, brought_in, brought_by, group, segment, by_itself}
use Rattle.history.specs.laws.Counts.{low-within, counted-low}
use Rattle.history.specs.laws.Ready.{slots-sound, counts-low, slots-right, limit-low, used-inside, used-lent, found-used, found-holds, found-sound, none-holds, free-used, free-marks}
use Rattle.history.specs.laws.Taken.{sound-right, taken-number, fresh-gathers, fresh_added}
use Rattle.history.specs.laws.Slots.{Undamaged, held-is, is_held, free-holds, undamaged-sound, replaced}
use Rattle.history.specs.Held.{lent_of, limit_of, slot_of}
use Rattle.history.specs.laws.Call.{drop_leaves, replacing, Came, alone, full, first, more, unread, came, none_dropped, found-dropped, cleared, opened-all, handed_leaves}
use Rattle.history.specs.State.{Used, InUse, OfBytes}
use Rattle.history.specs.Taking.{take}

-- a state that is not damaged, and what is lent are bytes, as all memory is
pub record Intact (s : State) : Type 0 where
  pub undamaged : sound s ≡ true
  pub bytes : OfBytes s.stores

-- ---- what a call leaves

-- where nothing but a count changes
answered-intact : (answer : Answer) (s : State) → Intact s → Intact (answering answer s).left
unfolding sound
answered-intact answer s whole = record {
  undamaged = true-both (sound_slots (limit_of s) s.collector.count s.collector.slots s.stores)
      (within (counted answer s.counts)) (slots-sound s whole.undamaged)
      (low-within (counted answer s.counts) (counted-low answer s.counts (counts-low s whole.undamaged)));
  bytes = whole.bytes;
}

pub lent-is-wide : (limit : ℕ) (lent : Lent) → IsLent limit lent → Wide limit lent
lent-is-wide limit lent l = record { header = l.header_length; body = l.body_length; marks = l.marks_length }

-- the shares of a slot, its marks cleared
pub cleared-lent : (limit : ℕ) (lent : Lent) → IsLent limit lent → IsLent limit (cleared lent)
cleared-lent limit lent l = record {
  header_length = l.header_length;
  body_length = l.body_length;
  marks_length =
      zeros-length slot_marks;
  header_bytes = l.header_bytes;
  body_bytes = l.body_bytes;
}

with-bytes : (limit i : ℕ) (lent : Lent) (stores : Stores) → IsLent limit lent → OfBytes stores
    → OfBytes (with_lent limit i lent stores)
unfolding with_lent
with-bytes limit i lent stores l b = record {
  header = over-bytes stores.header (i * header_most) lent.header b.header l.header_bytes;
  body = over-bytes stores.body (i * limit) lent.body b.body l.body_bytes;
}

-- where slot i is replaced by a right one whose number no other slot holds
replaced-intact : (answer : Answer) (i : ℕ) (slot : Slot) (lent : Lent) (s : State) → Intact s → InUse i s
    → IsLent (limit_of s) lent → right_slot (limit_of s) slot lent ≡ true
    → ((number j : ℕ) → InUse j s → holds number slot ≡ true → holds number (slot_of j s) ≡ true → i ≡ j)
    → Intact (replacing answer i slot lent s).left
unfolding sound
replaced-intact answer i slot lent s whole u l r only = record {
  undamaged = true-both (sound_slots (limit_of s) s.collector.count (set s.collector.slots i slot)
      (with_lent (limit_of s) i lent s.stores)) (within (counted answer s.counts))
      (undamaged-sound (limit_of s) s.collector.count (set s.collector.slots i slot)
      (with_lent (limit_of s) i lent s.stores)
      (replaced (limit_of s) s.collector.count i slot lent s.collector.slots s.stores u
      (lent-is-wide (limit_of s) lent l) (used-inside s whole.undamaged i u)
      (slots-right s whole.undamaged) r only))
      (low-within (counted answer s.counts) (counted-low answer s.counts (counts-low s whole.undamaged)));
  bytes = with-bytes (limit_of s) i lent s.stores l whole.bytes;
}

module _ (s : State) (whole : Intact s) where
  low : limit_of s ≤ limit_most
  low = limit-low s whole.undamaged

  -- what is lent for the slot is as it has to be afterwards
  pub more-lent : (number i : ℕ) (part : Part) (piece : Segment) → Bytes piece.bytes → find number s ≡ Some i
      → IsLent (limit_of s) (take_into part (limit_of s) piece (slot_of i s) (lent_of i s)).lent
  more-lent number i part piece y e =
      lent-stays part (limit_of s) piece (slot_of i s) (lent_of i s) low y
      (used-lent s whole.undamaged i (found-used s whole.undamaged number i e) whole.bytes)
      (found-sound s whole.undamaged number i e)

  pub first-lent : (number i : ℕ) (part : Part) (piece : Segment) → Bytes piece.bytes → free s ≡ Some i
      → IsLent (limit_of s) (take_into part (limit_of s) piece (fresh_slot number) (lent_of i s)).lent
  first-lent number i part piece y e =
      let lends = used-lent s whole.undamaged i (free-used s whole.undamaged i e) whole.bytes in
      taken-lent part (limit_of s) piece (fresh_slot number) (lent_of i s) [] [] low y lends
      (fresh-gathers part (limit_of s) number piece (lent_of i s) low y lends (free-marks s whole.undamaged i e))

  -- a segment offered to the slot that holds its number
  more-intact : (answer : Answer) (number i : ℕ) (part : Part) (piece : Segment) → Bytes piece.bytes
      → find number s ≡ Some i
      → Intact (replacing answer i (take_into part (limit_of s) piece (slot_of i s) (lent_of i s)).slot
      (take_into part (limit_of s) piece (slot_of i s) (lent_of i s)).lent s).left
  more-intact answer number i part piece y e =
      replaced-intact answer i x.slot x.lent s whole u l
      (sound-right limit x.slot x.lent low l
      (sound-stays part limit piece slot lent low y (used-lent s whole.undamaged i u whole.bytes)
      (found-sound s whole.undamaged number i e))) only
    where
      limit : ℕ
      limit = limit_of s

      slot : Slot
      slot = slot_of i s

      lent : Lent
      lent = lent_of i s

      x : Taken
      x = take_into part limit piece slot lent

      u : InUse i s
      u = found-used s whole.undamaged number i e

      l : IsLent limit x.lent
      l = more-lent number i part piece y e

      only : (n j : ℕ) → InUse j s → holds n x.slot ≡ true → holds n (slot_of j s) ≡ true → i ≡ j
      only n j v h g = (slots-right s whole.undamaged).once n i j u v
          (is_held n slot (held-is number slot (found-holds s whole.undamaged number i e)).0
          (sym (taken-number part limit piece slot lent) ∙ (held-is n x.slot h).1)) g

  -- the first segment of a number, in a free slot
  first-intact : (answer : Answer) (number i : ℕ) (part : Part) (piece : Segment) → Bytes piece.bytes
      → find number s ≡ None → fits_alone part (limit_of s) piece ≡ true → free s ≡ Some i
      → Intact (replacing answer i (take_into part (limit_of s) piece (fresh_slot number) (lent_of i s)).slot
      (take_into part (limit_of s) piece (fresh_slot number) (lent_of i s)).lent s).left
  unfolding fresh_slot
  first-intact answer number i part piece y n a e =
      replaced-intact answer i x.slot x.lent s whole u l
      (sound-right limit x.slot x.lent low l
      (added-sound part limit piece (fresh_slot number) [] [] x
      (fresh_added part limit number piece lent low y lends none a))) only
    where
      limit : ℕ
      limit = limit_of s

      lent : Lent
      lent = lent_of i s

      x : Taken
      x = take_into part limit piece (fresh_slot number) lent

      u : InUse i s
      u = free-used s whole.undamaged i e

      lends : IsLent limit lent
      lends = used-lent s whole.undamaged i u whole.bytes

      none : sum_of lent.marks ≡ 0
      none = free-marks s whole.undamaged i e

      l : IsLent limit x.lent
      l = first-lent number i part piece y e

      only : (m j : ℕ) → InUse j s → holds m x.slot ≡ true → holds m (slot_of j s) ≡ true → i ≡ j
      only m j v h g =
          let same : number ≡ m = sym (taken-number part limit piece (fresh_slot number) lent) ∙ (held-is m
          x.slot h).1 in
          absurd (false-true (rw same at (none-holds s whole.undamaged number j n v)) g)

  -- a slot that is dropped
  drop-left : (answer : Answer) (number i : ℕ) → find number s ≡ Some i
      → Intact (replacing answer i free_slot (cleared (lent_of i s)) s).left
  unfolding right_slot is_free free_slot
  drop-left answer number i e = replaced-intact answer i free_slot (cleared (lent_of i s)) s whole u
      (cleared-lent (limit_of s) (lent_of i s) l) (eq-eqb (largest_of (zeros slot_marks)) 0 (zeros-largest slot_marks))
      (λ n j v h g. absurd (false-true (free-holds n free_slot refl) h))
    where
      u : InUse i s
      u = found-used s whole.undamaged number i e

      l : IsLent (limit_of s) (lent_of i s)
      l = used-lent s whole.undamaged i u whole.bytes

-- the segment of a group of bytes is bytes
segment-bytes : (bytes : List ℕ) (carried : Carried) → Bytes bytes → Bytes (segment_in bytes carried).bytes
segment-bytes bytes carried y =
    bytes_take carried.bytes.length (drop carried.bytes.start bytes) (bytes_drop carried.bytes.start bytes y)

pub brought-bytes : (given : Handed) (arrived : Arrival) → HandedBytes given → brought_by given ≡ arrives arrived
    → Bytes arrived.segment.bytes
brought-bytes (group bytes) arrived y e = go (reading_of bytes) refl e
  where
    go : (reading : Result Carried Refusal) → reading_of bytes ≡ reading → brought_in reading bytes ≡ arrives arrived
        → Bytes arrived.segment.bytes
    go (Err why) r f = let z : ◌≡◌ {A = ℕ} 0 1 = cc in absurd (omega arith)
    go (Ok carried) r f =
        let same : arrival_in bytes carried ≡ arrived = cc in
        subst (λ (a : Arrival). Bytes a.segment.bytes) same (segment-bytes bytes carried y)
brought-bytes (segment heard last bytes) arrived y e =
    let same : by_itself heard last bytes ≡ arrived = cc in
    subst (λ (a : Arrival). Bytes a.segment.bytes) same y.0

came-intact : (arrived : Arrival) (s : State) (t : Reply) → Bytes arrived.segment.bytes → Intact s
    → Came arrived s t → Intact t.left
came-intact arrived s t y whole (alone n a e) = rw e (answered-intact (Answer.Conflict (heard_as arrived)) s whole)
came-intact arrived s t y whole (full n a f e) = rw e (answered-intact (Answer.Full (heard_as arrived)) s whole)
came-intact arrived s t y whole (first i n a f e) =
    rw e (first-intact s whole (answer_for
    (take_into arrived.part (limit_of s) arrived.segment (fresh_slot arrived.number) (lent_of i s)).outcome
    arrived) arrived.number i arrived.part arrived.segment y n a f)
came-intact arrived s t y whole (more i n e) =
    rw e (more-intact s whole (answer_for
    (take_into arrived.part (limit_of s) arrived.segment (slot_of i s) (lent_of i s)).outcome arrived)
    arrived.number i arrived.part arrived.segment y n)

-- A GROUP of any bytes leaves the state undamaged
pub handed-intact : (given : Handed) (s : State) → HandedBytes given → Intact s → Intact (handed_leaves given s)
handed-intact given s y whole = go (brought_by given) refl
  where
    go : (brought : Brought) → brought_by given ≡ brought → Intact (take given s).left
    go (refused why) e = rw (unread given s whole.undamaged why e) (answered-intact (Answer.Refused why) s whole)
    go (arrives arrived) e = came-intact arrived s (take given s)
        (brought-bytes given arrived y e) whole (came given s whole.undamaged arrived e)

-- A DROP of any number does so too
pub drop-intact : (number : ℕ) (s : State) → Intact s → Intact (drop_leaves number s)
drop-intact number s whole = go (find number s) refl
  where
    go : (found : Option ℕ) → find number s ≡ found → Intact (drop_number number s).left
    go None e = rw (none_dropped number s whole.undamaged e)
        (answered-intact (Answer.Denied Reason.NotHeld) s whole)
    go (Some i) e = rw (found-dropped number s whole.undamaged i
        (used-inside s whole.undamaged i (found-used s whole.undamaged number i e)) e)
        (drop-left s whole (Answer.Dropped number) number i e)

-- AN OPENING within the limits gives a state that is not damaged, whatever the stores hold
pub opening-intact : (start : Start) → in_limits start ≡ true → OfBytes start.stores → Intact (open_with start).left
unfolding slot_at lent_at right_slot is_free free_slot sound within
opening-intact start e b =
    rw (opened-all start e) (record { undamaged = whole; bytes = record { header = b.header; body = b.body } })
  where
    limit : ℕ
    limit = start.limit

    count : ℕ
    count = start.count

    stores : Stores
    stores = start.stores

    slots : List Slot
    slots = replicate slots_most free_slot

    lends : Stores
    lends = record { header = stores.header; body = stores.body; marks = zeros (length stores.marks) }

    isfree : (i : ℕ) → Used count i slots → slot_at i slots ≡ free_slot
    isfree i u = get_or-replicate slots_most i free_slot free_slot
        (omega (arith, u.there, length-replicate slots_most free_slot))

    none : (i : ℕ) → largest_of (lent_at limit i lends).marks ≡ 0
    none i = omega (
      arith,
      largest-part (zeros (length stores.marks)) (i * slot_marks) slot_marks,
      zeros-largest (length stores.marks),
    )

    right : (i : ℕ) → right_slot limit free_slot (lent_at limit i lends) ≡ true
    right i = eq-eqb (largest_of (lent_at limit i lends).marks) 0 (none i)

    undamaged : Undamaged limit count slots lends
    undamaged = record {
      limits = rw zeros-length (limits-hold limit count (length stores.header) (length stores.body)
          (length stores.marks) e);
      once = λ number i j u v h g. absurd (false-true (free-holds number free_slot refl) (rw (isfree i u) at h));
      right = λ i u. rw (isfree i u) (right i);
    }

    whole : sound (state (all_free limit count) none_yet lends) ≡ true
    whole = true-both (sound_slots limit count slots lends) (within none_yet)
        (undamaged-sound limit count slots lends undamaged) refl
