-- What is promised of a collector: document 01's demands, each with a name of its own, over any run of it, an
-- opening within the limits and any calls after it. What was stored under a number is read off the answers.
use Rattle.std.specs.Prelude.{◌≡◌, ◌≢◌, ◌⊎◌, ◌↔◌, None, Bool, true, false, Ok, Err, List, [], ◌∷◌, ℕ, suc, ◌≤◌, ◌<◌, min, leb, eqb, length, Result, Some}
use Rattle.octets.specs.Octets.{zeros, part}
use Rattle.answer.specs.declared.Answer.{Answer}
use Rattle.answer.specs.declared.Reason.TheVariants as Reason
use Rattle.answer.specs.declared.Heard.{Heard}
use Rattle.answer.specs.declared.Part.{Part}
use Rattle.answer.specs.declared.Part.TheVariants.{Header, Body}
use Rattle.answer.specs.declared.Refusal.{Refusal}
use Rattle.answer.specs.declared.Repetition.{Repetition}
use Rattle.answer.specs.Table.{number_of}
use Rattle.counts.specs.declared.Counts.{Counts}
use Rattle.counts.specs.Counted.{ceiling, none_yet, one_repeated, one_refused}
use Rattle.wire.specs.declared.Carried.{Carried}
use Rattle.wire.specs.Wire.{end_user_address, end_user_address_length}
use Rattle.wire.specs.Reading.{repetition_in, check_holds, reading_of}
use Rattle.wire.specs.Ignored.{SameButIgnored}
use Rattle.cut.specs.Lists.{pick, Each, Among, Bytes, both}
use Rattle.cut.specs.Requirement.{header_least, header_numbers, body_numbers, Segment, empty, Fits, Finished, joined}
use Rattle.cut.specs.Missing.{missing_of, outside_of}
use Rattle.cut.specs.Parts.{headers_with, bodies_with}
use Rattle.header.specs.declared.Fields.{Fields}
use Rattle.header.specs.declared.Refusal.{Refusal as HeaderRefusal}
use Rattle.header.specs.Parameters.{read_header}
use Rattle.header.specs.Names.{name_data}
use Rattle.object.specs.declared.Stage.TheVariants as Stage
use Rattle.object.specs.Source.{Source, SegmentOf, SentBy}
use Rattle.slots.specs.Find.{is_free}
use Rattle.name_search.specs.Requirement.{Named}
use Rattle.collector.specs.State.{Start, State, find, free, all_free}
use Rattle.collector.specs.Arrival.{Arrival, heard_as, segment_in, heard_in}
use Rattle.queries.specs.Said.{asked_as}
use Rattle.history.specs.Held.{Same, SlotFor, limit_of, slot_of, stage_for, marked_under}
use Rattle.history.specs.History.{Question, Call, CallBytes, Keeps, Elsewhere, shown, read, named, found, awaited, addressed, Event, handed, dropped, asked, Within, Allowed, Collecting, after, reached, told, under, stored_under}
use Rattle.history.specs.State.{OfBytes, InOrder}
use Rattle.history.specs.Handed.{Handed, group, HandedBytes, arrives, brought_by}

-- ---- the words

-- an opening within the limits, and any calls after it
pub record Run : Type 0 where
  pub start : Start
  pub allowed : Allowed start
  pub calls : List Call
  pub bytes : Each CallBytes calls

-- the state that it reaches, and all that came back
abbrev pub reached_by : Collecting → Run → State
reached_by k r = reached k r.start r.calls

abbrev pub told_by : Collecting → Run → List Event
told_by k r = told k r.start r.calls

-- what was stored of a part under a number
abbrev pub stored : Collecting → Run → Part → ℕ → List Segment
stored k r part number = stored_under part number (told_by k r)

-- a group that passes the reading checks, or a segment by itself, with the segment that it brings
pub record Passing : Type 0 where
  pub given : Handed
  pub are_bytes : HandedBytes given
  pub arrived : Arrival
  pub brought : brought_by given ≡ arrives arrived

abbrev pub segment_of : Passing → Segment
segment_of g = g.arrived.segment

abbrev pub heard_of : Passing → Heard
heard_of g = heard_as g.arrived

-- what its sender meant by a repeat; 0 for a segment by itself
abbrev pub repetition_of : Passing → Repetition
repetition_of g = g.arrived.repetition

-- ---- what an answer is told by

-- a state, the limit on a body, and what is stored of each part under each number
pub record View : Type 0 where
  pub state : State
  pub limit : ℕ
  pub kept : Part → ℕ → List Segment

-- after a run: what was answered STORED or COMPLETE
abbrev pub since : Collecting → Run → View
since k r = record { state = reached_by k r; limit = r.start.limit; kept = stored k r }

-- however the state came about: what its marks say
abbrev pub by_marks : State → View
by_marks s = record { state = s; limit = limit_of s; kept = λ part number. marked_under part number s }

-- what is answered to it
abbrev pub answer_to : Collecting → View → Passing → Answer
answer_to k v g = (k.takes g.given v.state).answer

-- some object and cut send all that is stored under a number
abbrev pub FitsStored : View → ℕ → Type 0
FitsStored v number = Fits v.limit (v.kept Header number) (v.kept Body number)

-- ... and this segment, stored under its number
abbrev pub FitsWith : View → Passing → Type 0
FitsWith v g =
    Fits v.limit (headers_with g.arrived.part (segment_of g) (v.kept Header g.arrived.number))
    (bodies_with g.arrived.part (segment_of g) (v.kept Body g.arrived.number))

-- some segment is missing, of every object and cut that fits
abbrev pub Missing : View → ℕ → Type 0
Missing v number = (f : FitsStored v number) → ¬ (Finished f)

-- the answer that came back is not STATE
abbrev pub NotState : Event → Type 0
NotState (handed given answer) = answer ≢ Answer.Denied Reason.State
NotState (dropped number answer) = answer ≢ Answer.Denied Reason.State
NotState (asked question (shown located bytes)) = located ≢ Err Reason.State
NotState (asked question (read fields)) = fields ≢ Err Reason.State
NotState (asked question (named fields bytes)) = fields ≢ Err Reason.State
NotState (asked question (found whose)) = whose ≢ Err Reason.State
NotState (asked question (awaited bytes)) = bytes ≢ Err Reason.State
NotState (asked question (addressed bytes)) = Unit {0}

-- ---- the five counts

-- the answer's number lies from low to high
abbrev pub between : ℕ → ℕ → Answer → Bool
between low high answer = both (leb low (number_of answer)) (leb (number_of answer) high)

-- how many groups, segments and drops were answered so
unfoldable pub answers_from : ℕ → ℕ → List Event → ℕ
answers_from low high [] = 0
answers_from low high (handed given answer ∷ events) =
    pick (between low high answer) (suc (answers_from low high events)) (answers_from low high events)
answers_from low high (dropped number answer ∷ events) =
    pick (between low high answer) (suc (answers_from low high events)) (answers_from low high events)
answers_from low high (asked question said ∷ events) = answers_from low high events

-- taken (0 and 1), repeated (2), refused (10 to 18), completed (1), dropped (3), each up to the ceiling
abbrev pub tallied : List Event → Counts
tallied events = record {
  taken = min (answers_from 0 1 events) ceiling;
  repeated = min (answers_from 2 2 events) ceiling;
  refused = min (answers_from 10 18 events) ceiling;
  completed = min (answers_from 1 1 events) ceiling;
  dropped = min (answers_from 3 3 events) ceiling;
}

-- ---- groups of one cut of one object

-- all that is stored under a number since it took its slot comes from this cut of this object
abbrev pub StoredFrom : {limit : ℕ} → Source limit → ℕ → View → Type 0
StoredFrom object number v = (part : Part) → Each (SentBy object part) (v.kept part number)

-- the segments of a part that came under a number since it was last dropped, each with a slot there: not answered FULL
abbrev pub had_slot : Answer → Bool
had_slot answer = pick (eqb (number_of answer) 18) false true

abbrev pub came_under : Part → ℕ → List Event → List Segment
came_under = under had_slot

-- ---- what is answered, by what is stored

-- a number's finished object has the name, and no finished object of a lower number does
pub record Lowest (v : View) (sought : List ℕ) (number : ℕ) : Type 0 where
  pub object : FitsStored v number
  pub finished : Finished object
  pub named : Named sought object.header
  pub lowest : (other : ℕ) (f : FitsStored v other) → Finished f → Named sought f.header → number ≤ other

module _ (k : Collecting) (v : View) where
  -- CONFLICT exactly when no object and cut send the segment and all that is stored under its number.
  abbrev pub ConflictBy : Type 0
  ConflictBy = (g : Passing) → (answer_to k v g ≡ Answer.Conflict (heard_of g)) ↔ (¬ (FitsWith v g))

  -- FULL exactly when it is no conflict, its number holds no slot and none is free.
  abbrev pub FullBy : Type 0
  FullBy = (g : Passing) → (answer_to k v g ≡ Answer.Full (heard_of g))
      ↔ (FitsWith v g × (find g.arrived.number v.state ≡ None) × (free v.state ≡ None))

  -- REPEAT exactly when the same segment is stored.
  abbrev pub RepeatBy : Type 0
  RepeatBy = (g : Passing) → (answer_to k v g ≡ Answer.Repeat (heard_of g) (repetition_of g))
      ↔ Among (segment_of g) (v.kept g.arrived.part g.arrived.number)

  -- A group is a REPEAT, with numbers of its own, where it differs from one whose segment is stored only in what its
  -- sender meant by a repeat, in its end user address, in what else plays no part, and in its check word.
  abbrev pub ResentBy : Type 0
  ResentBy = (bytes again : List ℕ) (carried : Carried) → Bytes again → reading_of bytes ≡ Ok carried
      → Among (segment_in bytes carried) (v.kept carried.heard.part carried.heard.number)
      → SameButIgnored bytes again → check_holds again ≡ true
      → (k.takes (group again) v.state).answer ≡ Answer.Repeat (heard_in carried) (repetition_in again)

  -- COMPLETE exactly when with it every segment is in, before it not, and a slot is there.
  abbrev pub CompleteBy : Type 0
  CompleteBy = (g : Passing) → (answer_to k v g ≡ Answer.Complete (heard_of g) (repetition_of g))
      ↔ (((f : FitsWith v g) × Finished f) × Missing v g.arrived.number × SlotFor g.arrived.number v.state)

  -- STORED exactly when it is new and fits, with it some segment is still missing or before it none was, and a slot is
  -- there.
  abbrev pub StoredBy : Type 0
  StoredBy = (g : Passing) → (answer_to k v g ≡ Answer.Stored (heard_of g) (repetition_of g))
      ↔ (((f : FitsWith v g) × ((¬ (Finished f)) ⊎ ((h : FitsStored v g.arrived.number) × Finished h)))
      × (¬ (Among (segment_of g) (v.kept g.arrived.part g.arrived.number)))
      × SlotFor g.arrived.number v.state)

  -- Once it is finished, a group that fits is a REPEAT, but for the empty last segment of its body: that one is STORED
  -- once, and then a REPEAT too.
  abbrev pub LateBy : Type 0
  LateBy = (g : Passing) (f : FitsStored v g.arrived.number) → Finished f → FitsWith v g
      → (answer_to k v g ≡ Answer.Repeat (heard_of g) (repetition_of g))
      ⊎ ((answer_to k v g ≡ Answer.Stored (heard_of g) (repetition_of g)) × (g.arrived.part ≡ Body)
      × (segment_of g ≡ empty))

  -- A number that holds no slot takes the lowest free one: with STORED or COMPLETE it holds slot i, which was free,
  -- and no slot below i was.
  abbrev pub LowestFreeBy : Type 0
  LowestFreeBy = (g : Passing) → find g.arrived.number v.state ≡ None → number_of (answer_to k v g) ≤ 1
      → (i : ℕ) × (find g.arrived.number (k.takes g.given v.state).left ≡ Some i)
      × (is_free (slot_of i v.state) ≡ true) × ((j : ℕ) → j < i → is_free (slot_of j v.state) ≡ false)

  -- A group that does not pass the reading checks is answered with the first that it fails.
  abbrev pub UnreadBy : Type 0
  UnreadBy = (bytes : List ℕ) (why : Refusal) → reading_of bytes ≡ Err why
      → (k.takes (group bytes) v.state).answer ≡ Answer.Refused why

  -- A drop: DROPPED exactly when the number holds a slot, NOTHELD exactly when not.
  abbrev pub DropBy : Type 0
  DropBy = (number : ℕ)
      → (((k.drops number v.state).answer ≡ Answer.Dropped number) ↔ (find number v.state ≢ None))
      × (((k.drops number v.state).answer ≡ Answer.Denied Reason.NotHeld) ↔ (find number v.state ≡ None))

  -- A number holds no slot exactly when nothing is stored under it.
  abbrev pub UnheldBy : Type 0
  UnheldBy = (number : ℕ) → (find number v.state ≡ None)
      ↔ ((v.kept Header number ≡ []) × (v.kept Body number ≡ []))

  -- An object that is asked for, its parameters, or how much of it is missing: NOTHELD exactly when its number holds no
  -- slot.
  abbrev pub NotHeldBy : Type 0
  NotHeldBy = (number : ℕ)
      → ((k.locates number v.state ≡ Err Reason.NotHeld) ↔ (find number v.state ≡ None))
      × ((k.tells number v.state ≡ Err Reason.NotHeld) ↔ (find number v.state ≡ None))
      × ((k.awaits number v.state ≡ Err Reason.NotHeld) ↔ (find number v.state ≡ None))

  -- How many bytes are still to come, of a number that holds a slot: what the stored segments give.
  abbrev pub AwaitedBy : Type 0
  AwaitedBy = (number : ℕ) → find number v.state ≢ None
      → k.awaits number v.state ≡ Ok (missing_of (v.kept Header number) (v.kept Body number))

  -- None exactly when every segment is in.
  abbrev pub NoneAwaitedBy : Type 0
  NoneAwaitedBy = (number : ℕ) → (k.awaits number v.state ≡ Ok (Some 0))
      ↔ ((f : FitsStored v number) × Finished f)

  -- Every object and cut that fits has exactly that many bytes outside the stored segments.
  abbrev pub OutsideBy : Type 0
  OutsideBy = (number bytes : ℕ) → k.awaits number v.state ≡ Ok (Some bytes)
      → (f : FitsStored v number) → outside_of f ≡ bytes

  -- UNFINISHED exactly when it holds one and some segment is missing.
  abbrev pub UnfinishedBy : Type 0
  UnfinishedBy = (number : ℕ)
      → ((k.locates number v.state ≡ Err Reason.Unfinished)
      ↔ ((find number v.state ≢ None) × Missing v number))
      × ((k.tells number v.state ≡ Err Reason.Unfinished)
      ↔ ((find number v.state ≢ None) × Missing v number))

  -- It is located exactly when every segment is in, in the slot that holds its number.
  abbrev pub LocatedBy : Type 0
  LocatedBy = (number i : ℕ) → (k.locates number v.state ≡ Ok i)
      ↔ ((find number v.state ≡ Some i) × (f : FitsStored v number) × Finished f)

  -- What is shown of a finished object: the header and the body of every object and cut that fits, which are the stored
  -- segments joined by number.
  abbrev pub ShownBy : Type 0
  ShownBy = (number : ℕ) (f : FitsStored v number) → Finished f
      → (k.shows number Header v.state ≡ f.header) × (k.shows number Body v.state ≡ f.body)
      × (k.shows number Header v.state ≡ joined header_numbers (v.kept Header number))
      × (k.shows number Body v.state ≡ joined body_numbers (v.kept Body number))

  -- The header of a finished object has its 7 bytes at least, and so has whatever a question reads.
  abbrev pub CoreBy : Type 0
  CoreBy = (number i : ℕ) → k.locates number v.state ≡ Ok i
      → header_least ≤ length (k.shows number Header v.state)

  -- Of any other number, nothing.
  abbrev pub UnshownBy : Type 0
  UnshownBy = (number : ℕ) → Missing v number → (part : Part) → k.shows number part v.state ≡ []

  -- What is read off a header, or why it is not, HEADER and DUPLICATE: what the header of the finished object reads as.
  abbrev pub ReadBy : Type 0
  ReadBy = (number : ℕ) (reading : Result Fields HeaderRefusal) → (k.tells number v.state ≡ asked_as reading)
      ↔ ((f : FitsStored v number) × Finished f × (read_header f.header ≡ reading))

  -- The data of its name, a part of that header; of any other number nothing.
  abbrev pub NamedBy : Type 0
  NamedBy = (number : ℕ)
      → ((f : FitsStored v number) → Finished f → k.names number v.state ≡ name_data f.header)
      × (Missing v number → k.names number v.state ≡ [])

  -- A number is found by a name exactly when its finished object has the name and none of a lower number does.
  abbrev pub FoundBy : Type 0
  FoundBy = (sought : List ℕ) (number : ℕ) → (k.finds sought v.state ≡ Ok number)
      ↔ Lowest v sought number

  -- NOTFOUND exactly when no finished object has it.
  abbrev pub NotFoundBy : Type 0
  NotFoundBy = (sought : List ℕ) → (k.finds sought v.state ≡ Err Reason.NotFound)
      ↔ ((number : ℕ) (f : FitsStored v number) → Finished f → ¬ (Named sought f.header))

-- all of it
pub record AnsweredBy (k : Collecting) (v : View) : Type 0 where
  pub conflict : ConflictBy k v
  pub full : FullBy k v
  pub repeated : RepeatBy k v
  pub resent : ResentBy k v
  pub complete : CompleteBy k v
  pub storing : StoredBy k v
  pub late : LateBy k v
  pub lowest : LowestFreeBy k v
  pub unread : UnreadBy k v
  pub dropping : DropBy k v
  pub unheld : UnheldBy k v
  pub not_held : NotHeldBy k v
  pub awaited : AwaitedBy k v
  pub none_awaited : NoneAwaitedBy k v
  pub outside : OutsideBy k v
  pub unfinished : UnfinishedBy k v
  pub located : LocatedBy k v
  pub shown : ShownBy k v
  pub core : CoreBy k v
  pub unshown : UnshownBy k v
  pub reading : ReadBy k v
  pub named : NamedBy k v
  pub found : FoundBy k v
  pub not_found : NotFoundBy k v

-- ---- the promises, of any collector

module _ (k : Collecting) where
  -- Demand 1. A refused group or segment, 10 to 18, in any state: one more is refused, and every other count, every
  -- store byte,
  -- every mark and every slot's record stay.
  abbrev pub RefusedLeaves : Type 0
  RefusedLeaves = (given : Handed) (s : State) → 10 ≤ number_of (k.takes given s).answer
      → number_of (k.takes given s).answer ≤ 18
      → (k.takes given s).left ≡ record
      { collector = s.collector; counts = one_refused s.counts; stores = s.stores }

  -- A group or a segment that is answered 19 to 26 changes nothing, the counts neither.
  abbrev pub UnansweredLeaves : Type 0
  UnansweredLeaves = (given : Handed) (s : State) → 19 ≤ number_of (k.takes given s).answer
      → (k.takes given s).left ≡ s

  -- A repeat: one more is repeated, and nothing else changes.
  abbrev pub RepeatLeaves : Type 0
  RepeatLeaves = (given : Handed) (s : State) (heard : Heard) (repetition : Repetition)
      → (k.takes given s).answer ≡ Answer.Repeat heard repetition
      → (k.takes given s).left ≡ record
      { collector = s.collector; counts = one_repeated s.counts; stores = s.stores }

  -- STATE exactly when the state is damaged: document 01's list.
  abbrev pub StateExactly : Type 0
  StateExactly = (given : Handed) (s : State) → OfBytes s.stores
      → ((k.takes given s).answer ≡ Answer.Denied Reason.State)
      ↔ (¬ (InOrder s))

  -- Any other state is answered as if its marked segments had been stored.
  abbrev pub MarkedExactly : Type 0
  MarkedExactly = (s : State) → OfBytes s.stores → InOrder s → AnsweredBy k (by_marks s)

  -- An opening is LIMITS exactly when it is outside the bounds or a lent length is wrong, and else the collector is
  -- open.
  abbrev pub LimitsExactly : Type 0
  LimitsExactly = (start : Start) → (((k.opens start).opening ≡ Err Reason.Limits) ↔ (¬ (Within start)))
      × (((k.opens start).opening ≡ Ok tt) ↔ Within start)

  -- Then all slots are free, all marks and counts are 0, and no store is touched.
  abbrev pub OpenedLeaves : Type 0
  OpenedLeaves = (start : Start) → Within start → (k.opens start).left ≡ record {
    collector = all_free start.limit start.count;
    counts = none_yet;
    stores = record {
      header = start.stores.header;
      body = start.stores.body;
      marks = zeros (length start.stores.marks);
    };
  }

  -- An opening outside the limits leaves the counts and all that is lent, and hands back a state that every call
  -- answers with STATE.
  abbrev pub UnopenedLeaves : Type 0
  UnopenedLeaves = (start : Start) → ¬ (Within start)
      → ((k.opens start).left.counts ≡ start.counts) × ((k.opens start).left.stores ≡ start.stores)
      × (¬ (InOrder (k.opens start).left))

  -- No state so reached meets STATE.
  abbrev pub NeverState : Type 0
  NeverState = (r : Run) → Each NotState (told_by k r)

  -- A drop that is not carried out changes nothing, in any state.
  abbrev pub UndroppedLeaves : Type 0
  UndroppedLeaves = (number : ℕ) (s : State) → 10 ≤ number_of (k.drops number s).answer → (k.drops number s).left ≡ s

  -- A drop is answered STATE exactly when the state is damaged.
  abbrev pub StateDropExactly : Type 0
  StateDropExactly = (number : ℕ) (s : State) → OfBytes s.stores
      → ((k.drops number s).answer ≡ Answer.Denied Reason.State)
      ↔ (¬ (InOrder s))

  -- A drop touches no store byte, in any state.
  abbrev pub DropKeepsStores : Type 0
  DropKeepsStores = (number : ℕ) (s : State) → ((k.drops number s).left.stores.header ≡ s.stores.header)
      × ((k.drops number s).left.stores.body ≡ s.stores.body)

  -- A question is answered STATE exactly when the state is damaged, and then nothing is shown and no name is given.
  abbrev pub StateAskExactly : Type 0
  StateAskExactly = (s : State) → OfBytes s.stores
      → ((number : ℕ) → (k.locates number s ≡ Err Reason.State) ↔ (¬ (InOrder s)))
      × ((number : ℕ) → (k.tells number s ≡ Err Reason.State) ↔ (¬ (InOrder s)))
      × ((sought : List ℕ) → (k.finds sought s ≡ Err Reason.State) ↔ (¬ (InOrder s)))
      × (¬ (InOrder s) → (number : ℕ) → ((part : Part) → k.shows number part s ≡ []) × (k.names number s ≡ []))
      × ((number : ℕ) → (k.awaits number s ≡ Err Reason.State) ↔ (¬ (InOrder s)))

  -- A question changes nothing, in any state.
  abbrev pub AskedLeaves : Type 0
  AskedLeaves = (question : Question) (s : State) → k.asks question s ≡ s

  -- The end user address of a group, in any state: the bytes between its transport number and its segmentation header,
  -- none where there are none; a group that is not read has none.
  abbrev pub AddressExactly : Type 0
  AddressExactly = (bytes : List ℕ) (s : State)
      → ((carried : Carried) → reading_of bytes ≡ Ok carried
      → k.addresses bytes s ≡ part bytes (end_user_address bytes) (end_user_address_length bytes))
      × ((why : Refusal) → reading_of bytes ≡ Err why → k.addresses bytes s ≡ [])

  -- Calls under other numbers change nothing that is held for a number, nor what is shown of it.
  abbrev pub OthersLeave : Type 0
  OthersLeave = (r : Run) (number : ℕ) (more : List Call) → Each CallBytes more → Each (Elsewhere number) more
      → Same number (reached_by k r) (after k more (reached_by k r))
      × ((part : Part) → k.shows number part (after k more (reached_by k r)) ≡ k.shows number part (reached_by k r))

  -- Demand 2.
  abbrev pub ShownJoined : Type 0
  ShownJoined = (r : Run) → ShownBy k (since k r)

  abbrev pub CoreShown : Type 0
  CoreShown = (r : Run) → CoreBy k (since k r)

  abbrev pub UnfinishedUnshown : Type 0
  UnfinishedUnshown = (r : Run) → UnshownBy k (since k r)

  -- Each count is the number of such answers, or 2147483647 where there were more.
  abbrev pub CountsTold : Type 0
  CountsTold = (r : Run) → (reached_by k r).counts ≡ tallied (told_by k r)

  -- Demand 3.
  abbrev pub ConflictExactly : Type 0
  ConflictExactly = (r : Run) → ConflictBy k (since k r)

  abbrev pub FullExactly : Type 0
  FullExactly = (r : Run) → FullBy k (since k r)

  abbrev pub RepeatExactly : Type 0
  RepeatExactly = (r : Run) → RepeatBy k (since k r)

  abbrev pub ResentRepeats : Type 0
  ResentRepeats = (r : Run) → ResentBy k (since k r)

  abbrev pub CompleteExactly : Type 0
  CompleteExactly = (r : Run) → CompleteBy k (since k r)

  abbrev pub StoredExactly : Type 0
  StoredExactly = (r : Run) → StoredBy k (since k r)

  abbrev pub LateStored : Type 0
  LateStored = (r : Run) → LateBy k (since k r)

  abbrev pub LowestFreeTaken : Type 0
  LowestFreeTaken = (r : Run) → LowestFreeBy k (since k r)

  abbrev pub UnreadRefused : Type 0
  UnreadRefused = (r : Run) → UnreadBy k (since k r)

  abbrev pub DropExactly : Type 0
  DropExactly = (r : Run) → DropBy k (since k r)

  abbrev pub UnheldExactly : Type 0
  UnheldExactly = (r : Run) → UnheldBy k (since k r)

  -- The questions.
  abbrev pub NotHeldExactly : Type 0
  NotHeldExactly = (r : Run) → NotHeldBy k (since k r)

  abbrev pub AwaitedExactly : Type 0
  AwaitedExactly = (r : Run) → AwaitedBy k (since k r)

  abbrev pub NoneAwaitedExactly : Type 0
  NoneAwaitedExactly = (r : Run) → NoneAwaitedBy k (since k r)

  abbrev pub OutsideExactly : Type 0
  OutsideExactly = (r : Run) → OutsideBy k (since k r)

  -- The number of bytes still to come never rises while a number is held: once it is known, calls that do not drop the
  -- number leave it known, and no larger.
  abbrev pub NeverRises : Type 0
  NeverRises = (r : Run) (number bytes : ℕ) (more : List Call) → Each CallBytes more → Each (Keeps number) more
      → k.awaits number (reached_by k r) ≡ Ok (Some bytes)
      → (fewer : ℕ) × (k.awaits number (after k more (reached_by k r)) ≡ Ok (Some fewer))
      × (fewer ≤ bytes)

  abbrev pub UnfinishedExactly : Type 0
  UnfinishedExactly = (r : Run) → UnfinishedBy k (since k r)

  abbrev pub LocatedExactly : Type 0
  LocatedExactly = (r : Run) → LocatedBy k (since k r)

  abbrev pub ReadExactly : Type 0
  ReadExactly = (r : Run) → ReadBy k (since k r)

  abbrev pub NamesRead : Type 0
  NamesRead = (r : Run) → NamedBy k (since k r)

  abbrev pub FoundExactly : Type 0
  FoundExactly = (r : Run) → FoundBy k (since k r)

  abbrev pub NotFoundExactly : Type 0
  NotFoundExactly = (r : Run) → NotFoundBy k (since k r)

  -- None is free exactly when each slot holds a number.
  abbrev pub NoneFreeExactly : Type 0
  NoneFreeExactly = (r : Run) → (free (reached_by k r) ≡ None)
      ↔ ((i : ℕ) → i < r.start.count → (number : ℕ) × (find number (reached_by k r) ≡ Some i))

  -- The stage is finished exactly when every segment is in.
  abbrev pub FinishedExactly : Type 0
  FinishedExactly = (r : Run) (number : ℕ)
      → ((header : ℕ) × (body : ℕ) × (stage_for number (reached_by k r) ≡ Stage.Finished header body))
      ↔ ((f : FitsStored (since k r) number) × Finished f)

  -- And with the two lengths of the object.
  abbrev pub FinishedLengths : Type 0
  FinishedLengths = (r : Run) (number : ℕ) (f : FitsStored (since k r) number) → Finished f
      → stage_for number (reached_by k r) ≡ Stage.Finished (length f.header) (length f.body)

  -- Where all that is stored under a number since it took its slot comes from one cut of one object, no group of
  -- that cut conflicts, in any order, repeated, mixed with any other calls.
  abbrev pub OneCutAgrees : Type 0
  OneCutAgrees = (r : Run) (object : Source r.start.limit) (number : ℕ) → StoredFrom object number (since k r)
      → (g : Passing) → g.arrived.number ≡ number → SentBy object g.arrived.part (segment_of g)
      → answer_to k (since k r) g ≢ Answer.Conflict (heard_of g)

  -- Once all its segments have come, each with a slot there, it is finished and shown with that header and that body.
  abbrev pub OneCutFinishes : Type 0
  OneCutFinishes = (r : Run) (object : Source r.start.limit) (number : ℕ) → StoredFrom object number (since k r)
      → ((part : Part) (s : Segment) → SegmentOf object part s → Among s (came_under part number (told_by k r)))
      → (stage_for number (reached_by k r) ≡ Stage.Finished (length object.header) (length object.body))
      × (k.shows number Header (reached_by k r) ≡ object.header)
      × (k.shows number Body (reached_by k r) ≡ object.body)

-- ---- all of them

pub record Promised (k : Collecting) : Type 0 where
  pub refused : RefusedLeaves k
  pub unanswered : UnansweredLeaves k
  pub repeating : RepeatLeaves k
  pub state : StateExactly k
  pub marked : MarkedExactly k
  pub limits : LimitsExactly k
  pub opened : OpenedLeaves k
  pub unopened : UnopenedLeaves k
  pub never_state : NeverState k
  pub undropped : UndroppedLeaves k
  pub state_drop : StateDropExactly k
  pub drop_keeps : DropKeepsStores k
  pub state_ask : StateAskExactly k
  pub asking : AskedLeaves k
  pub addressed : AddressExactly k
  pub others : OthersLeave k
  pub shown : ShownJoined k
  pub core : CoreShown k
  pub unshown : UnfinishedUnshown k
  pub counts : CountsTold k
  pub conflict : ConflictExactly k
  pub full : FullExactly k
  pub repeated : RepeatExactly k
  pub resent : ResentRepeats k
  pub complete : CompleteExactly k
  pub storing : StoredExactly k
  pub late : LateStored k
  pub lowest : LowestFreeTaken k
  pub unread : UnreadRefused k
  pub dropping : DropExactly k
  pub unheld : UnheldExactly k
  pub none_free : NoneFreeExactly k
  pub finished : FinishedExactly k
  pub lengths : FinishedLengths k
  pub not_held : NotHeldExactly k
  pub awaited : AwaitedExactly k
  pub none_awaited : NoneAwaitedExactly k
  pub outside : OutsideExactly k
  pub never_rises : NeverRises k
  pub unfinished : UnfinishedExactly k
  pub located : LocatedExactly k
  pub reading : ReadExactly k
  pub named : NamesRead k
  pub found : FoundExactly k
  pub not_found : NotFoundExactly k
  pub agrees : OneCutAgrees k
  pub finishes : OneCutFinishes k
