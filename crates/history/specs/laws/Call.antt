-- What a call can come to, case by case: the words in which all theorems here speak of the collector's own definitions.
use Rattle.std.specs.Prelude.{◌≡◌, Option, None, Some, Bool, true, false, Result, Ok, Err, List, ℕ, ◌+◌, ◌*◌, ◌≤◌, length, drop, set}
use Rattle.std.proofs.Math.Path.{refl}
use Rattle.std.proofs.Common.{subst, append_assoc, arith, take-append-drop, drop-drop}
use Rattle.octets.specs.Octets.{over, zeros, share}
use Rattle.octets.specs.laws.Over.{part_length}
use Rattle.answer.specs.declared.Answer.{Answer}
use Rattle.answer.specs.declared.Reason.TheVariants as Reason
use Rattle.answer.specs.declared.Refusal.{Refusal}
use Rattle.counts.specs.Counted.{none_yet, counted}
use Rattle.wire.specs.declared.Carried.{Carried}
use Rattle.wire.specs.Reading.{reading_of}
use Rattle.cut.specs.Requirement.{header_most}
use Rattle.object.specs.declared.Slot.{Slot}
use Rattle.object.specs.Take.{Taken, take_into}
use Rattle.object.specs.Parts.{Lent}
use Rattle.slots.specs.Stores.{slot_marks, Stores, lent_at, with_lent, free_slot, fresh_slot}
use Rattle.slots.specs.Alone.{fits_alone}
use Rattle.slots.specs.Take.{Inside, take_at, take_new, drop_at}
use Rattle.collector.specs.State.{State, Reply, Start, state, find, free, all_free}
use Rattle.collector.specs.Calls.{answer_for, into_free, if_alone, into_held, take_segment, take_group, drop_number, in_limits, open_with, locate, sound, answering, with_slots}
use Rattle.collector.specs.Arrival.{Arrival, heard_as, arrival_in}
use Rattle.history.specs.Handed.{Handed, group, segment, by_itself, arrives, refused, brought_in, brought_by}
use Rattle.history.specs.History.{Collecting, asking}
use Rattle.history.specs.Held.{limit_of, slot_of, lent_of}
use Rattle.queries.specs.Missing.{missing}
use Rattle.history.specs.Taking.{take, address}
use Rattle.collector.specs.Calls as calls
use Rattle.queries.specs.Questions as queries

-- what is answered to what is handed in, and what it leaves
abbrev pub handed_answer : Handed → State → Answer
handed_answer given s = (take given s).answer

abbrev pub handed_leaves : Handed → State → State
handed_leaves given s = (take given s).left

-- and a drop
abbrev pub drop_answer : ℕ → State → Answer
drop_answer number s = (drop_number number s).answer

abbrev pub drop_leaves : ℕ → State → State
drop_leaves number s = (drop_number number s).left

-- ---- what a call can come to

-- the answer is counted, and slot i and its shares are replaced
abbrev pub replacing : Answer → ℕ → Slot → Lent → State → Reply
replacing answer i slot lent s = record {
  answer = answer;
  left =
      state (with_slots (set s.collector.slots i slot) s.collector) (counted answer s.counts)
      (with_lent (limit_of s) i lent s.stores);
}

-- a segment is offered to slot i
abbrev pub offering : Arrival → ℕ → State → Taken → Reply
offering arrived i s taken = replacing (answer_for taken.outcome arrived) i taken.slot taken.lent s

-- what the segment of a group that was read comes to
pub data Came (arrived : Arrival) (s : State) (t : Reply) : Type 0 where
  -- no slot holds its number, and it conflicts alone
  alone : find arrived.number s ≡ None → fits_alone arrived.part (limit_of s) arrived.segment ≡ false
      → t ≡ answering (Answer.Conflict (heard_as arrived)) s → Came arrived s t
  -- no slot holds its number, it fits, and none is free
  full : find arrived.number s ≡ None → fits_alone arrived.part (limit_of s) arrived.segment ≡ true
      → free s ≡ None → t ≡ answering (Answer.Full (heard_as arrived)) s → Came arrived s t
  -- it takes the lowest free slot
  first : (i : ℕ) → find arrived.number s ≡ None → fits_alone arrived.part (limit_of s) arrived.segment ≡ true
      → free s ≡ Some i
      → t ≡ offering arrived i s (take_into arrived.part (limit_of s) arrived.segment (fresh_slot arrived.number)
      (lent_of i s)) → Came arrived s t
  -- it is offered to the slot that holds its number
  more : (i : ℕ) → find arrived.number s ≡ Some i
      → t ≡ offering arrived i s (take_into arrived.part (limit_of s) arrived.segment (slot_of i s) (lent_of i s))
      → Came arrived s t

came-free : (arrived : Arrival) (s : State) → find arrived.number s ≡ None
    → fits_alone arrived.part (limit_of s) arrived.segment ≡ true → (found : Option ℕ) → free s ≡ found
    → Came arrived s (into_free found arrived s)
unfolding take_new
came-free arrived s n a None e = full n a e refl
came-free arrived s n a (Some i) e = first i n a e refl

came-alone : (arrived : Arrival) (s : State) → find arrived.number s ≡ None → (fits : Bool)
    → fits_alone arrived.part (limit_of s) arrived.segment ≡ fits → Came arrived s (if_alone fits arrived s)
came-alone arrived s n false e = alone n e refl
came-alone arrived s n true e = came-free arrived s n e (free s) refl

came_held : (arrived : Arrival) (s : State) (found : Option ℕ) → find arrived.number s ≡ found
    → Came arrived s (into_held found arrived s)
unfolding take_at
came_held arrived s None e = came-alone arrived s e (fits_alone arrived.part (limit_of s) arrived.segment) refl
came_held arrived s (Some i) e = more i e refl

-- a segment comes in
module _ (arrived : Arrival) (s : State) where
  pub segment-damaged : sound s ≡ false → take_segment arrived s ≡ answering (Answer.Denied Reason.State) s
  unfolding take_segment
  segment-damaged d = rw d refl

  pub segment-came : sound s ≡ true → Came arrived s (take_segment arrived s)
  unfolding take_segment
  segment-came good = rw good (came_held arrived s (find arrived.number s) refl)

-- by a group
module _ (bytes : List ℕ) (s : State) where
  group-damaged : sound s ≡ false → take_group bytes s ≡ answering (Answer.Denied Reason.State) s
  unfolding take_group
  group-damaged d = rw d refl

  module _ (good : sound s ≡ true) where
    group-unread : (why : Refusal) → reading_of bytes ≡ Err why
        → take_group bytes s ≡ answering (Answer.Refused why) s
    unfolding take_group
    group-unread why e = rw (good, e) refl

    group-came : (carried : Carried) → reading_of bytes ≡ Ok carried
        → Came (arrival_in bytes carried) s (take_group bytes s)
    unfolding take_group
    group-came carried e = rw (good, e) (segment-came (arrival_in bytes carried) s good)

-- whatever is handed in
pub handed-damaged : (given : Handed) (s : State) → sound s ≡ false
    → take given s ≡ answering (Answer.Denied Reason.State) s
handed-damaged (group bytes) s d = group-damaged bytes s d
handed-damaged (segment heard last bytes) s d = segment-damaged (by_itself heard last bytes) s d

pub unread : (given : Handed) (s : State) → sound s ≡ true → (why : Refusal) → brought_by given ≡ refused why
    → take given s ≡ answering (Answer.Refused why) s
unread (group bytes) s good why e = go (reading_of bytes) refl e
  where
    go : (reading : Result Carried Refusal) → reading_of bytes ≡ reading → brought_in reading bytes ≡ refused why
        → take_group bytes s ≡ answering (Answer.Refused why) s
    go (Err other) r f = let same : other ≡ why = cc in rw same at (group-unread bytes s good other r)
    go (Ok carried) r f = let z : ◌≡◌ {A = ℕ} 0 1 = cc in absurd (omega arith)
unread (segment heard last bytes) s good why e = let z : ◌≡◌ {A = ℕ} 0 1 = cc in absurd (omega arith)

pub came : (given : Handed) (s : State) → sound s ≡ true → (arrived : Arrival) → brought_by given ≡ arrives arrived
    → Came arrived s (take given s)
came (group bytes) s good arrived e = go (reading_of bytes) refl e
  where
    go : (reading : Result Carried Refusal) → reading_of bytes ≡ reading → brought_in reading bytes ≡ arrives arrived
        → Came arrived s (take_group bytes s)
    go (Err why) r f = let z : ◌≡◌ {A = ℕ} 0 1 = cc in absurd (omega arith)
    go (Ok carried) r f =
        let same : arrival_in bytes carried ≡ arrived = cc in
        subst (λ (a : Arrival). Came a s (take_group bytes s)) same (group-came bytes s good carried r)
came (segment heard last bytes) s good arrived e =
    let other = by_itself heard last bytes in
    let same : other ≡ arrived = cc in
    subst (λ (a : Arrival). Came a s (take_segment other s)) same (segment-came other s good)

-- ---- a drop

-- no mark is set
abbrev pub cleared : Lent → Lent
cleared lent = record { header = lent.header; body = lent.body; marks = zeros slot_marks }

-- a share laid back as it was lent
over-same : (w i : ℕ) (l : List ℕ) → i * w + w ≤ length l → over l (i * w) (share w i l) ≡ l
unfolding over
over-same w i l h =
    rw (part_length l (i * w) w h, append_assoc, ← drop-drop w (i * w) l, take-append-drop w (drop (i * w) l))
    (take-append-drop (i * w) l)

pub lent_same : (limit i : ℕ) (stores : Stores) → Inside limit i stores
    → with_lent limit i (lent_at limit i stores) stores ≡ stores
unfolding with_lent lent_at
lent_same limit i stores inside =
    rw (
      over-same header_most i stores.header inside.header,
      over-same limit i stores.body inside.body,
      over-same slot_marks i stores.marks inside.marks,
    ) refl

lent-cleared : (limit i : ℕ) (stores : Stores) → Inside limit i stores
    → with_lent limit i (cleared (lent_at limit i stores)) stores
    ≡ record {
      header = stores.header;
      body = stores.body;
      marks =
          over stores.marks (i * slot_marks) (zeros slot_marks);
    }
unfolding with_lent lent_at
lent-cleared limit i stores inside =
    rw (over-same header_most i stores.header inside.header, over-same limit i stores.body inside.body) refl

module _ (number : ℕ) (s : State) where
  pub drop-damaged : sound s ≡ false → drop_number number s ≡ answering (Answer.Denied Reason.State) s
  unfolding drop_number
  drop-damaged d = rw d refl

  module _ (good : sound s ≡ true) where
    pub none_dropped : find number s ≡ None → drop_number number s ≡ answering (Answer.Denied Reason.NotHeld) s
    unfolding drop_number
    none_dropped e = rw (good, e) refl

    pub found-dropped : (i : ℕ) → Inside (limit_of s) i s.stores → find number s ≡ Some i
        → drop_number number s ≡ replacing (Answer.Dropped number) i free_slot (cleared (lent_of i s)) s
    unfolding drop_number drop_at
    found-dropped i inside e = rw (good, e, lent-cleared (limit_of s) i s.stores inside) refl

-- ---- an opening

-- within the limits
pub opened-all : (start : Start) → in_limits start ≡ true
    → (open_with start).left
    ≡ state (all_free start.limit start.count) none_yet
    (record {
      header = start.stores.header;
      body = start.stores.body;
      marks =
          zeros (length start.stores.marks);
    })
unfolding open_with
opened-all start e = rw e refl

-- and outside
pub opened-none : (start : Start) → in_limits start ≡ false
    → (open_with start).left ≡ state (all_free 0 0) start.counts start.stores
unfolding open_with
opened-none start e = rw e refl

-- the collector's own definitions, of which the laws speak
abbrev pub defined : Collecting
defined = record {
  opens = open_with;
  takes = take;
  drops = drop_number;
  locates = locate;
  shows = calls.show;
  tells = queries.parameters;
  names = queries.name;
  finds = queries.find;
  awaits = missing;
  addresses = address;
  asks = asking;
}
