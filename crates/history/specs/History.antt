-- A history: any calls, each handed the state and the lent memory just as the one before left them; and what was stored
-- under a number, read off the calls and their answers alone. The latest call comes first.
use Rattle.std.specs.Prelude.{◌≡◌, ◌≢◌, Bool, List, [], ◌∷◌, ℕ, leb, eqb, length, Result, Option}
use Rattle.answer.specs.declared.Answer.{Answer}
use Rattle.answer.specs.declared.Part.{Part}
use Rattle.answer.specs.declared.Part.TheVariants.{Header, Body}
use Rattle.answer.specs.declared.Reason.{Reason}
use Rattle.answer.specs.Table.{number_of}
use Rattle.cut.specs.Lists.{pick}
use Rattle.cut.specs.Requirement.{Segment}
use Rattle.cut.specs.Parts.{headers_with, bodies_with}
use Rattle.header.specs.declared.Fields.{Fields}
use Rattle.collector.specs.State.{Start, Opened, Reply, State}
use Rattle.collector.specs.Arrival.{Arrival}
use Rattle.history.specs.State.{OfBytes}
use Rattle.slots.specs.Stores.{Limits}
use Rattle.history.specs.Handed.{Handed, HandedBytes, Brought, arrives, refused, brought_by}

-- a part of a finished object is asked for, what its header says, its name, or whose a name is; how many bytes of an
-- object are still to come; or the end user address of a group
pub data Question : Type 0 where
  show : (number : ℕ) (part : Part) → Question
  parameters : (number : ℕ) → Question
  name : (number : ℕ) → Question
  find : (sought : List ℕ) → Question
  missing : (number : ℕ) → Question
  address : (bytes : List ℕ) → Question

-- a group or a segment is handed in, a number is dropped, a question is asked
pub data Call : Type 0 where
  hand : (given : Handed) → Call
  drop : (number : ℕ) → Call
  ask : (question : Question) → Call

-- what is handed in is bytes, as all memory is
abbrev pub CallBytes : Call → Type 0
CallBytes (hand given) = HandedBytes given
CallBytes (drop number) = Unit {0}
CallBytes (ask question) = Unit {0}

-- the call does not drop the number
abbrev pub Keeps : ℕ → Call → Type 0
Keeps number (hand given) = Unit {0}
Keeps number (drop other) = number ≢ other
Keeps number (ask question) = Unit {0}

-- the call is not under the number
abbrev pub Elsewhere : ℕ → Call → Type 0
Elsewhere number (hand given) = (arrived : Arrival) → brought_by given ≡ arrives arrived → number ≢ arrived.number
Elsewhere number (drop other) = number ≢ other
Elsewhere number (ask question) = Unit {0}

-- what comes back of a question: where the object is, with the part itself; what its header says; that, with the data
-- of its name; whose the name is; how many bytes are still to come; or the address
pub data Said : Type 0 where
  shown : (located : Result ℕ Reason) (bytes : List ℕ) → Said
  read : (fields : Result Fields Reason) → Said
  named : (fields : Result Fields Reason) (bytes : List ℕ) → Said
  found : (whose : Result ℕ Reason) → Said
  awaited : (bytes : Result (Option ℕ) Reason) → Said
  addressed : (bytes : List ℕ) → Said

-- a call with what came back
pub data Event : Type 0 where
  handed : (given : Handed) (answer : Answer) → Event
  dropped : (number : ℕ) (answer : Answer) → Event
  asked : (question : Question) (said : Said) → Event

-- ---- since an opening

-- the limit and the number of slots are within their bounds, and what is lent has the lengths that they give
abbrev pub Within : Start → Type 0
Within start = Limits start.limit start.count (length start.stores.header) (length start.stores.body)
    (length start.stores.marks)

-- and it is bytes, as all memory is
pub record Allowed (start : Start) : Type 0 where
  pub limits : Within start
  pub bytes : OfBytes start.stores

-- a collector, as a history of calls meets it: what an opening, a group and a drop are answered and leave, what each
-- question is answered, and what a question leaves
pub record Collecting : Type 0 where
  pub opens : Start → Opened
  pub takes : Handed → State → Reply
  pub drops : ℕ → State → Reply
  pub locates : ℕ → State → Result ℕ Reason
  pub shows : ℕ → Part → State → List ℕ
  pub tells : ℕ → State → Result Fields Reason
  pub names : ℕ → State → List ℕ
  pub finds : List ℕ → State → Result ℕ Reason
  pub awaits : ℕ → State → Result (Option ℕ) Reason
  pub addresses : List ℕ → State → List ℕ
  pub asks : Question → State → State

-- all that comes back of a question
abbrev pub says : Collecting → Question → State → Said
says k (show number part) s = shown (k.locates number s) (k.shows number part s)
says k (parameters number) s = read (k.tells number s)
says k (name number) s = named (k.tells number s) (k.names number s)
says k (find sought) s = found (k.finds sought s)
says k (missing number) s = awaited (k.awaits number s)
says k (address bytes) s = addressed (k.addresses bytes s)

abbrev pub leaves : Collecting → Call → State → State
leaves k (hand given) s = (k.takes given s).left
leaves k (drop number) s = (k.drops number s).left
leaves k (ask question) s = k.asks question s

abbrev pub event : Collecting → Call → State → Event
event k (hand given) s = handed given (k.takes given s).answer
event k (drop number) s = dropped number (k.drops number s).answer
event k (ask question) s = asked question (says k question s)

-- the state after the calls
abbrev pub after : Collecting → List Call → State → State
after k [] s = s
after k (call ∷ calls) s = leaves k call (after k calls s)

abbrev pub reached : Collecting → Start → List Call → State
reached k start calls = after k calls (k.opens start).left

-- and all that came back
abbrev pub told : Collecting → Start → List Call → List Event
told k start [] = []
told k start (call ∷ calls) = event k call (reached k start calls) ∷ told k start calls

-- ---- what was stored under a number, since it took its slot

-- STORED and COMPLETE; DROPPED
abbrev pub is_stored : Answer → Bool
is_stored answer = leb (number_of answer) 1

abbrev pub is_dropped : Answer → Bool
is_dropped answer = eqb (number_of answer) 3

-- a segment of a part, among those of a part
abbrev pub with : Part → Part → Segment → List Segment → List Segment
with Header part s segments = headers_with part s segments
with Body part s segments = bodies_with part s segments

-- the segment that was brought under the number, if its answer passes the test
abbrev pub after_handed : (Answer → Bool) → Part → ℕ → Brought → Answer → List Segment → List Segment
after_handed test part number (refused why) answer segments = segments
after_handed test part number (arrives arrived) answer segments =
    pick (eqb arrived.number number)
    (pick (test answer) (with part arrived.part arrived.segment segments) segments) segments

-- a drop of the number leaves none
abbrev pub after_drop : ℕ → ℕ → Answer → List Segment → List Segment
after_drop number other answer segments = pick (eqb other number) (pick (is_dropped answer) [] segments) segments

-- the segments of a part that came under a number since it was last dropped, with an answer that passes the test
unfoldable pub under : (Answer → Bool) → Part → ℕ → List Event → List Segment
under test part number [] = []
under test part number (handed given answer ∷ events) =
    after_handed test part number (brought_by given) answer (under test part number events)
under test part number (dropped other answer ∷ events) = after_drop number other answer (under test part number events)
under test part number (asked question said ∷ events) = under test part number events

-- what was stored under it
abbrev pub stored_under : Part → ℕ → List Event → List Segment
stored_under = under is_stored

-- a question is lent nothing that it could change
abbrev pub asking : Question → State → State
asking question s = s
