-- What each call of the collector answers, and the state that it leaves.
use Rattle.std.specs.Prelude.{Option, None, Some, Bool, true, false, Result, Ok, Err, List, [], ℕ, length}
use Rattle.octets.specs.Octets.{zeros}
use Rattle.answer.specs.declared.Answer.{Answer}
use Rattle.answer.specs.declared.Reason.{Reason}
use Rattle.answer.specs.declared.Heard.{Heard}
use Rattle.answer.specs.declared.Part.{Part}
use Rattle.answer.specs.declared.Refusal.{Refusal}
use Rattle.answer.specs.declared.Repetition.{Repetition}
use Rattle.counts.specs.Counted.{none_yet, counted, within}
use Rattle.wire.specs.declared.Carried.{Carried}
use Rattle.wire.specs.Reading.{reading_of}
use Rattle.cut.specs.Lists.{pick, both}
use Rattle.object.specs.declared.Outcome.{Outcome}
use Rattle.object.specs.declared.Outcome.TheVariants.{Stored, Complete, Repeat, Conflict}
use Rattle.object.specs.declared.Stage.{Stage}
use Rattle.object.specs.declared.Stage.TheVariants.{Free, Gathering, Finished}
use Rattle.object.specs.declared.Slot.{Slot}
use Rattle.slots.specs.Stores.{slot_at}
use Rattle.slots.specs.Alone.{fits_alone}
use Rattle.slots.specs.State.{within_limits, sound_slots}
use Rattle.slots.specs.Show.{shown_of}
use Rattle.slots.specs.Take.{TakenAt, take_at, take_new, drop_at}
use Rattle.collector.specs.declared.Collector.{Collector}
use Rattle.collector.specs.State.{State, Reply, Start, Opened, state, find, free, all_free}
use Rattle.collector.specs.Arrival.{Arrival, heard_as, arrival_in}

-- ---- what every call begins and ends with

-- the state is not damaged, to every call: document 01's list, the counts last
unfoldable pub sound : State → Bool
sound s =
    both (sound_slots s.collector.limit s.collector.count s.collector.slots s.stores) (within s.counts)

-- the answer is counted, and nothing else changes
abbrev pub answering : Answer → State → Reply
answering answer s = record { answer = answer; left = state s.collector (counted answer s.counts) s.stores }

abbrev pub with_slots : List Slot → Collector → Collector
with_slots slots c = record { limit = c.limit; count = c.count; slots = slots }

-- ---- a segment

-- what the sender meant by a repeat is passed up with STORED, COMPLETE and REPEAT
abbrev pub answer_as : Outcome → Heard → Repetition → Answer
answer_as Stored heard repetition = Answer.Stored heard repetition
answer_as Complete heard repetition = Answer.Complete heard repetition
answer_as Repeat heard repetition = Answer.Repeat heard repetition
answer_as Conflict heard repetition = Answer.Conflict heard

abbrev pub answer_for : Outcome → Arrival → Answer
answer_for outcome a = answer_as outcome (heard_as a) a.repetition

-- a slot was offered the segment
abbrev pub taken_by : Arrival → State → TakenAt → Reply
taken_by a s taken =
    answering (answer_for taken.outcome a)
    (state (with_slots taken.slots s.collector) s.counts taken.stores)

-- no slot holds the number: the segment takes the lowest free one
abbrev pub into_free : Option ℕ → Arrival → State → Reply
into_free None a s = answering (Answer.Full (heard_as a)) s
into_free (Some i) a s =
    taken_by a s
    (take_new a.number a.part s.collector.limit i a.segment s.collector.slots s.stores)

-- a first segment's CONFLICT looks at it alone, and FULL comes after it
abbrev pub if_alone : Bool → Arrival → State → Reply
if_alone true a s = into_free (free s) a s
if_alone false a s = answering (Answer.Conflict (heard_as a)) s

abbrev pub into_held : Option ℕ → Arrival → State → Reply
into_held (Some i) a s =
    taken_by a s (take_at a.part s.collector.limit i a.segment s.collector.slots s.stores)
into_held None a s = if_alone (fits_alone a.part s.collector.limit a.segment) a s

-- STATE, then CONFLICT, then FULL
unfoldable pub take_segment : Arrival → State → Reply
take_segment a s = pick (sound s) (into_held (find a.number s) a s) (answering (Answer.Denied Reason.State) s)

-- ---- a group

abbrev pub take_read : Result Carried Refusal → List ℕ → State → Reply
take_read (Err refusal) group s = answering (Answer.Refused refusal) s
take_read (Ok carried) group s = take_segment (arrival_in group carried) s

-- STATE, then the reading checks; then the segment comes in
unfoldable pub take_group : List ℕ → State → Reply
take_group group s =
    pick (sound s) (take_read (reading_of group) group s) (answering (Answer.Denied Reason.State) s)

-- ---- a drop

abbrev pub drop_found : Option ℕ → ℕ → State → Reply
drop_found None number s = answering (Answer.Denied Reason.NotHeld) s
drop_found (Some i) number s =
    let left = drop_at i s.collector.slots s.stores.marks in
    answering (Answer.Dropped number)
    (state (with_slots left.slots s.collector) s.counts
    (record { header = s.stores.header; body = s.stores.body; marks = left.marks }))

unfoldable pub drop_number : ℕ → State → Reply
drop_number number s =
    pick (sound s) (drop_found (find number s) number s) (answering (Answer.Denied Reason.State) s)

-- ---- an opening

-- the limits are kept, and what is lent has the lengths that they give
abbrev pub in_limits : Start → Bool
in_limits start =
    within_limits start.limit start.count (length start.stores.header) (length start.stores.body)
    (length start.stores.marks)

-- Within the bounds and the lent lengths all marks and counts are 0; else LIMITS: nothing changes, and the state handed
-- back has no slots, which every call answers with STATE.
unfoldable pub open_with : Start → Opened
open_with start =
    let lent = start.stores in
    pick (in_limits start)
    (record {
      opening = Ok tt;
      left =
          state (all_free start.limit start.count) none_yet
          (record { header = lent.header; body = lent.body; marks = zeros (length lent.marks) });
    })
    (record { opening = Err Reason.Limits; left = state (all_free 0 0) start.counts lent })

-- ---- a finished object

abbrev pub located_as : Stage → ℕ → Result ℕ Reason
located_as Free i = Err Reason.NotHeld
located_as Gathering i = Err Reason.Unfinished
located_as (Finished header body) i = Ok i

abbrev pub located_in : Option ℕ → Collector → Result ℕ Reason
located_in None c = Err Reason.NotHeld
located_in (Some i) c = located_as (slot_at i c.slots).stage i

-- STATE, NOTHELD, UNFINISHED
unfoldable pub locate : ℕ → State → Result ℕ Reason
locate number s = pick (sound s) (located_in (find number s) s.collector) (Err Reason.State)

abbrev pub shown_at : Result ℕ Reason → Part → State → List ℕ
shown_at (Err why) part s = []
shown_at (Ok i) part s =
    shown_of part i s.collector.limit (slot_at i s.collector.slots) s.stores.header s.stores.body

-- its header or body, as the part of the store that has it; nothing where it can't be shown
unfoldable pub show : ℕ → Part → State → List ℕ
show number part s = shown_at (locate number s) part s
