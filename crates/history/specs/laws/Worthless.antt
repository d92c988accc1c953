-- WRONG COLLECTORS, document 01's five worthless ones among them: each is the collector's own definitions with one
-- piece that is wrong, and is proved to break the promise that shuts it out, by a run that is computed. The edits in
-- refused/ put that piece into our collector, which is then refused at that promise.
use Rattle.std.specs.Prelude.{◌≡◌, refl, ◌≢◌, ◌⊎◌, Bool, true, false, Option, Some, None, Result, Ok, Err, List, [], ◌∷◌, ℕ, zero, suc, ◌+◌, ◌-◌, ◌*◌, ◌/◌, ◌%◌, ◌≤◌, ◌<◌, min, length, set, eqb}
use Rattle.std.proofs.Common.{sym, ap, ◌∙◌, inl, inr, arith, leb-true}
use Rattle.octets.specs.Octets.{zeros}
use Rattle.answer.specs.declared.Answer.{Answer}
use Rattle.answer.specs.declared.Part.{Part}
use Rattle.answer.specs.declared.Part.TheVariants.{Header, Body}
use Rattle.answer.specs.declared.Returned.{Returned}
use Rattle.answer.specs.Table.{number_of, returned_with}
use Rattle.answer.specs.declared.Reason.TheVariants as Reason
use Rattle.answer.specs.declared.Refusal.{Refusal}
use Rattle.counts.specs.declared.Counts.{Counts}
use Rattle.counts.specs.Counted.{ceiling, none_yet, counted}
use Rattle.wire.specs.declared.Carried.{Carried}
use Rattle.wire.specs.Wire.{type_number}
use Rattle.wire.specs.Reading.{kind_of, reading_of}
use Rattle.cut.specs.Requirement as cut
use Rattle.cut.specs.Requirement.{Segment, Fits, Finished}
use Rattle.cut.specs.laws.Segment.{sends-sits, sent-ends, inside}
use Rattle.cut.specs.Lists.{both, Among, pick}
use Rattle.cut.specs.laws.Decision.{false-true}
use Rattle.object.specs.Source.{SegmentOf}
use Rattle.object.specs.declared.Slot.{Slot}
use Rattle.object.specs.declared.Stage.{Stage}
use Rattle.slots.specs.Find.{is_free}
use Rattle.slots.specs.Alone.{fits_alone}
use Rattle.collector.specs.State.{Start, Opened, Reply, State, all_free, find, free}
use Rattle.collector.specs.Calls.{drop_number, into_free, locate, open_with, take_group, answering, sound, with_slots}
use Rattle.collector.specs.Arrival.{no_repetition, arrival_in, heard_in, segment_in}
use Rattle.history.specs.Handed.{group}
use Rattle.history.specs.Held.{limit_of, slot_of, stage_for}
use Rattle.history.specs.History.{Question, drop, ask, Collecting, told, under}
use Rattle.history.specs.laws.Stage.{none-finished}
use Rattle.history.specs.laws.Demands.{run-answered, finished-lengths}
use Rattle.history.specs.Promise.{Run, reached_by, told_by, stored, segment_of, heard_of, repetition_of, since, answer_to, StoredFrom, came_under, between, answers_from, RefusedLeaves, NeverState, OthersLeave, ShownJoined, UnfinishedUnshown, CountsTold, ConflictExactly, FullExactly, RepeatExactly, ResentRepeats, CompleteExactly, StoredExactly, LateStored, LowestFreeTaken, UnreadRefused, DropExactly, UnheldExactly, NoneFreeExactly, FinishedExactly, FinishedLengths, OneCutAgrees, OneCutFinishes}
use Rattle.history.specs.laws.Samples.{computing, small, pair, body_last, body_first, header, read_as, object, one_cut, sent-one, all-sent}
use Rattle.history.specs.laws.Trials.{core, whole, finished-core, fits-empty, single, five, six, five_again, read_again, sent-again, reads, other_kind, group_five, group_six, group_short, group_last, group_empty, group_again, none, one, two, dropped, again, many, later, empty, twice, with_counts, found_slot, opening_by, taking_by, dropping_by, showing_by, asking_by}
use Rattle.history.specs.laws.Call.{defined}

-- ---- what cannot be the same

different : (a b : Option ℕ) → a ≡ b → a ≡ None → b ≡ Some 0 → ⊥
different a b e n f = let z : ◌≡◌ {A = ℕ} 0 1 = cc in absurd (omega arith)

free-unfinished : (header body : ℕ) → Stage.Free ≢ Stage.Finished header body
free-unfinished header body e = let z : ◌≡◌ {A = ℕ} 0 1 = cc in absurd (omega arith)

gathering-unfinished : (header body : ℕ) → Stage.Gathering ≢ Stage.Finished header body
gathering-unfinished header body e = let z : ◌≡◌ {A = ℕ} 0 1 = cc in absurd (omega arith)

-- ---- demand 1

-- a drop that leaves the marks of its slot
abbrev pub keeps_marks : ℕ → State → Reply
keeps_marks number s = record {
  answer = (drop_number number s).answer;
  left = record {
    collector = (drop_number number s).left.collector;
    counts = (drop_number number s).left.counts;
    stores =
        s.stores;
  };
}

-- a free slot with a mark is damaged, so the next group meets STATE
pub keeps-marks-breaks : ¬ (NeverState (dropping_by keeps_marks))
unfolding computing small
keeps-marks-breaks p = (p again).0 refl

-- a group that is FULL drops the object in the first slot, to make room
abbrev pub makes_room : List ℕ → State → Reply
makes_room bytes s = record {
  answer = (take_group bytes s).answer;
  left = pick (eqb (number_of (take_group bytes s).answer) 18)
      (drop_number (slot_of 0 s).number (take_group bytes s).left).left (take_group bytes s).left;
}

-- a refusal leaves every slot's record
pub makes-room-breaks : ¬ (RefusedLeaves (taking_by makes_room))
unfolding computing small
makes-room-breaks p =
    let s : State = reached_by (taking_by makes_room) one in
    different (find 5 (makes_room six s).left) (find 5 s)
    (ap (λ (t : State). find 5 t) (p (group six) s (omega arith) (omega arith))) refl refl

-- a drop that frees every slot
abbrev pub drops_all : ℕ → State → Reply
drops_all number s = record {
  answer = (drop_number number s).answer;
  left = record {
    collector = all_free (limit_of s) s.collector.count;
    counts = (drop_number number s).left.counts;
    stores = record { header = s.stores.header; body = s.stores.body; marks = zeros (length s.stores.marks) };
  };
}

-- the drop of another number changes nothing that is held for a number
pub drops-all-breaks : ¬ (OthersLeave (dropping_by drops_all))
unfolding computing small
drops-all-breaks p =
    let s : State = reached_by (dropping_by drops_all) one in
    different (find 5 (drops_all 6 s).left) (find 5 s)
    (p one 5 (drop 6 ∷ []) (tt, tt) ((λ e. absurd (omega arith)), tt)).0.found refl refl

-- a question that drops what it asks for
abbrev pub drops_asked : Question → State → State
drops_asked (Question.show number part) s = (drop_number number s).left
drops_asked (Question.parameters number) s = (drop_number number s).left
drops_asked (Question.name number) s = (drop_number number s).left
drops_asked (Question.find sought) s = s
drops_asked (Question.missing number) s = (drop_number number s).left
drops_asked (Question.address bytes) s = s

-- nor does a question change anything
pub drops-asked-breaks : ¬ (OthersLeave (asking_by drops_asked))
unfolding computing small
drops-asked-breaks p =
    let s : State = reached_by (asking_by drops_asked) one in
    different (find 5 (drops_asked (Question.show 5 Header) s)) (find 5 s)
    (p one 5 (ask (Question.show 5 Header) ∷ []) (tt, tt) (tt, tt)).0.found refl refl

-- ---- demand 2

-- by the joined bytes: what was answered STORED or COMPLETE is shown
shown-breaks : (k : Collecting) (r : Run) (number : ℕ) → r.start.limit ≡ 1024
    → (stored k r Header number ≡ whole ∷ []) × (stored k r Body number ≡ [])
    × (k.shows number Header (reached_by k r) ≡ []) → ¬ (ShownJoined k)
shown-breaks k r number l c p =
    let object = finished-core r.start.limit (stored k r Header number) (stored k r Body number) l c.0 c.1 in
    let e : ◌≡◌ {A = List ℕ} [] core = sym c.2 ∙ (p r number object.0 object.1).0 ∙ object.2 in
    let z : ◌≡◌ {A = ℕ} 0 1 = cc in
    absurd (omega arith)

-- answers, records, marks and counts as they should be, and no store byte is written
abbrev pub writes_nothing : List ℕ → State → Reply
writes_nothing bytes s = record {
  answer = (take_group bytes s).answer;
  left = record {
    collector = (take_group bytes s).left.collector;
    counts = (take_group bytes s).left.counts;
    stores = record {
      header = s.stores.header;
      body = s.stores.body;
      marks =
          (take_group bytes s).left.stores.marks;
    };
  };
}

pub writes-nothing-breaks : ¬ (ShownJoined (taking_by writes_nothing))
unfolding computing small
writes-nothing-breaks = shown-breaks (taking_by writes_nothing) one 5 refl (refl, refl, refl)

-- the header store is shown of every number, whatever is in it
abbrev pub shows_store : ℕ → Part → State → List ℕ
shows_store number part s = s.stores.header

-- of a number that is not finished nothing is shown
pub shows-store-breaks : ¬ (UnfinishedUnshown (showing_by shows_store))
unfolding computing small
shows-store-breaks p =
    let e = p none 5 (λ f w. none-finished 1024 [] [] f w refl) Header in
    let z : ◌≡◌ {A = ℕ} 0 1 = cc in
    absurd (omega arith)

-- by the history: a count is the number of such answers
taken-breaks : (k : Collecting) (r : Run) (counted told : ℕ) → (reached_by k r).counts.taken ≡ counted
    → answers_from 0 1 (told_by k r) ≡ told → counted ≢ min told ceiling → ¬ (CountsTold k)
taken-breaks k r counted told c t n p = n (rw (c, t) at (ap (λ (x : Counts). x.taken) (p r)))

-- counts that are made up
abbrev pub invents_counts : List ℕ → State → Reply
invents_counts bytes s = record {
  answer = (take_group bytes s).answer;
  left = record {
    collector = (take_group bytes s).left.collector;
    counts = none_yet;
    stores =
        (take_group bytes s).left.stores;
  };
}

pub invents-counts-breaks : ¬ (CountsTold (taking_by invents_counts))
unfolding computing small answers_from
invents-counts-breaks = taken-breaks (taking_by invents_counts) one 0 1 refl refl (λ e. absurd (omega arith))

-- an opening that leaves the counts as they were
abbrev pub keeps_counts : Start → Opened
keeps_counts start = record {
  opening = (open_with start).opening;
  left =
      record {
        collector = (open_with start).left.collector;
        counts = start.counts;
        stores =
            (open_with start).left.stores;
      };
}

-- an opening sets them to 0
pub keeps-counts-breaks : ¬ (CountsTold (opening_by keeps_counts))
unfolding computing small answers_from
keeps-counts-breaks = taken-breaks (opening_by keeps_counts) later 3 0 refl refl (λ e. absurd (omega arith))

-- ---- demand 3

-- no object and cut send a whole header of 6 bytes
abbrev six_bytes : Segment
six_bytes = record { number = 0; last = true; bytes = 0x00 ∷ 0x00 ∷ 0x00 ∷ 0x00 ∷ 0x03 ∷ 0x84 ∷ [] }

too_short : ¬ (Fits 1024 (six_bytes ∷ []) [])
too_short f =
    let sent = f.header_sent.0 in
    let low : 0 < f.header_cut = omega (arith, f.header_cuts.low) in
    let long : 6 ≡ min f.header_cut (length f.header - 0 * f.header_cut) =
    (inside f.header_cut (length f.header) six_bytes low
    (sends-sits f.header f.header_cut six_bytes sent)).long in
    let ends : length f.header ≤ 1 * f.header_cut =
    leb-true (length f.header) (1 * f.header_cut)
    (sym (sent-ends f.header f.header_cut six_bytes sent)) in
    omega (arith, f.object.header_low)

-- LENGTH for every group
abbrev pub refuses_every : List ℕ → State → Reply
refuses_every bytes s = answering (Answer.Refused Refusal.Length) s

-- a group that no object and cut send is CONFLICT, whatever else is refused
pub refuses-every-breaks : ¬ (ConflictExactly (taking_by refuses_every))
unfolding under small group_short
refuses-every-breaks p =
    let e : Answer.Refused Refusal.Length ≡ Answer.Conflict (heard_of group_short) = (p none group_short).1 too_short in
    let z : ◌≡◌ {A = ℕ} 0 1 = cc in
    absurd (omega arith)

-- FULL where no slot is free, though the number holds one
abbrev full_as : Option ℕ → Result Carried Refusal → List ℕ → State → Reply
full_as None (Ok carried) bytes s = answering (Answer.Full (heard_in carried)) s
full_as None (Err why) bytes s = take_group bytes s
full_as (Some i) reading bytes s = take_group bytes s

abbrev pub full_unless_free : List ℕ → State → Reply
full_unless_free bytes s = full_as (free s) (reading_of bytes) bytes s

-- a number that holds a slot is never FULL
pub full-unless-free-breaks : ¬ (FullExactly (taking_by full_unless_free))
unfolding computing small group_five
full-unless-free-breaks p =
    let s : State = reached_by (taking_by full_unless_free) one in
    different (find 5 s) (find 5 s) refl ((p one group_five).0 refl).1 refl

-- STORED for every group that can be read, and nothing is stored
abbrev stored_as : Result Carried Refusal → Answer
stored_as (Ok carried) = Answer.Stored (heard_in carried) carried.repetition
stored_as (Err why) = Answer.Refused why

abbrev pub stores_every : List ℕ → State → Reply
stores_every bytes s = answering (stored_as (reading_of bytes)) s

-- a segment that was stored comes again as REPEAT
pub stores-every-breaks : ¬ (RepeatExactly (taking_by stores_every))
unfolding computing small group_five
stores-every-breaks p =
    let e : Answer.Stored (heard_of group_five) (repetition_of group_five)
    ≡ Answer.Repeat (heard_of group_five) (repetition_of group_five) = (p one group_five).1 (inl refl) in
    let z : ◌≡◌ {A = ℕ} 0 1 = cc in
    absurd (omega arith)

-- and what was stored is shown
pub stores-every-unshown : ¬ (ShownJoined (taking_by stores_every))
unfolding computing small
stores-every-unshown = shown-breaks (taking_by stores_every) one 5 refl (refl, refl, refl)

-- the group is taken, and another answer is given and counted
abbrev renamed : Answer → List ℕ → State → Reply
renamed answer bytes s = record {
  answer = answer;
  left = record {
    collector = (take_group bytes s).left.collector;
    counts = counted answer s.counts;
    stores =
        (take_group bytes s).left.stores;
  };
}

-- COMPLETE as soon as a last segment is stored
abbrev complete_as : Result Carried Refusal → Answer → Answer
complete_as (Ok carried) answer =
    pick (both carried.last (eqb (number_of answer) 0)) (Answer.Complete (heard_in carried) carried.repetition)
    answer
complete_as (Err why) answer = answer

abbrev pub completes_by_last : List ℕ → State → Reply
completes_by_last bytes s = renamed (complete_as (reading_of bytes) (take_group bytes s).answer) bytes s

-- nothing is COMPLETE without a header
pub completes-by-last-breaks : ¬ (CompleteExactly (taking_by completes_by_last))
unfolding computing small group_last
completes-by-last-breaks p =
    let m = (p none group_last).0 refl in
    none-finished 1024 [] (segment_in body_last (read_as 5 Body 1 true 4) ∷ []) m.0.0 m.0.1 refl

-- DROPPED for every number
abbrev pub drops_unheld : ℕ → State → Reply
drops_unheld number s = record {
  answer = Answer.Dropped number;
  left = record {
    collector = (drop_number number s).left.collector;
    counts =
        counted (Answer.Dropped number) s.counts;
    stores = (drop_number number s).left.stores;
  };
}

-- a drop is DROPPED only where the number holds a slot
pub drops-unheld-breaks : ¬ (DropExactly (dropping_by drops_unheld))
unfolding computing small
drops-unheld-breaks p = (p none 5).0.0 refl refl

-- a segment that completes its object is answered and counted, and not taken in
abbrev pub never_finishes : List ℕ → State → Reply
never_finishes bytes s = pick (eqb (number_of (take_group bytes s).answer) 1) (answering (take_group bytes s).answer s)
    (take_group bytes s)

-- an object is finished once every segment is stored
pub never-finishes-breaks : ¬ (FinishedExactly (taking_by never_finishes))
unfolding computing small
never-finishes-breaks p =
    let object = finished-core 1024 (stored (taking_by never_finishes) one Header 5)
    (stored (taking_by never_finishes) one Body 5) refl refl refl in
    let stage = (p one 5).1 (object.0, object.1) in
    free-unfinished stage.0 stage.1 stage.2

-- CONFLICT for a segment that comes again
abbrev conflict_as : Result Carried Refusal → List ℕ → State → Reply
conflict_as (Ok carried) bytes s =
    pick (eqb (number_of (take_group bytes s).answer) 2) (answering (Answer.Conflict (heard_in carried)) s)
    (take_group bytes s)
conflict_as (Err why) bytes s = take_group bytes s

abbrev pub repeat_conflicts : List ℕ → State → Reply
repeat_conflicts bytes s = conflict_as (reading_of bytes) bytes s

-- a group that comes again from the same cut does not conflict
pub repeat-conflicts-breaks : ¬ (OneCutAgrees (taking_by repeat_conflicts))
unfolding computing small group_five single
repeat-conflicts-breaks p = p one single 5 from group_five refl
    (inl (record { starts = omega arith; holds = refl; ends = refl })) refl
  where
    from : StoredFrom single 5 (since (taking_by repeat_conflicts) one)
    from Header = (inl (record { starts = omega arith; holds = refl; ends = refl }), tt)
    from Body = tt

-- it stores the first group, and afterwards only says so
abbrev pub stores_first : List ℕ → State → Reply
stores_first bytes s = pick (eqb s.counts.taken 0) (take_group bytes s) (answering (stored_as (reading_of bytes)) s)

-- once all groups of a cut have come, the object is finished
pub stores-first-breaks : ¬ (OneCutFinishes (taking_by stores_first))
unfolding computing small
stores-first-breaks p = gathering-unfinished (length object.header) (length object.body)
    (p many object 5 from all_come).0
  where
    from : StoredFrom object 5 (since (taking_by stores_first) many)
    from Header = (sent-one.0, tt)
    from Body = (sent-one.1, (sent-one.2, (sent-one.2, tt)))

    all_come : (part : Part) (s : Segment) → SegmentOf object part s
        → Among s (came_under part 5 (told (taking_by stores_first) small one_cut))
    all_come Header = all-sent Header
    all_come Body = all-sent Body

-- and what was stored is shown
pub stores-first-unshown : ¬ (ShownJoined (taking_by stores_first))
unfolding computing small
stores-first-unshown = shown-breaks (taking_by stores_first) two 6 refl (refl, refl, refl)

-- ---- the slots

-- a segment whose number holds no slot is offered to slot `chosen`
abbrev pub placed_in : Option ℕ → Option ℕ → Carried → List ℕ → State → Reply
placed_in (Some i) chosen carried bytes s = take_group bytes s
placed_in None chosen carried bytes s =
    pick (both (sound s) (fits_alone carried.heard.part (limit_of s) (segment_in bytes carried)))
    (into_free chosen (arrival_in bytes carried) s)
    (take_group bytes s)

abbrev pub choosing : (Carried → State → Option ℕ) → Result Carried Refusal → List ℕ → State → Reply
choosing choose (Ok carried) bytes s = placed_in (find carried.heard.number s) (choose carried s) carried bytes s
choosing choose (Err why) bytes s = take_group bytes s

-- the highest free slot
abbrev highest_free : ℕ → State → Option ℕ
highest_free zero s = None
highest_free (suc i) s = pick (is_free (slot_of i s)) (Some i) (highest_free i s)

abbrev pub takes_highest : List ℕ → State → Reply
takes_highest bytes s = choosing (λ carried t. highest_free t.collector.count t) (reading_of bytes) bytes s

-- of two free slots a number takes the first
pub takes-highest-breaks : ¬ (LowestFreeTaken (taking_by takes_highest))
unfolding computing pair group_five
takes-highest-breaks p =
    let m = p empty group_five refl (omega arith) in
    let slot : 1 ≡ m.0 = ap found_slot m.1 in
    false-true (m.3 0 (omega arith)) refl

-- the slot that is the number's remainder, or the lowest free one where that is held
abbrev slot_for : ℕ → State → Option ℕ
slot_for i s = pick (is_free (slot_of i s)) (Some i) (free s)

abbrev pub takes_by_number : List ℕ → State → Reply
takes_by_number bytes s =
    choosing (λ carried t. slot_for (carried.heard.number % t.collector.count) t) (reading_of bytes) bytes s

pub takes-by-number-breaks : ¬ (LowestFreeTaken (taking_by takes_by_number))
unfolding computing pair group_five
takes-by-number-breaks p =
    let m = p empty group_five refl (omega arith) in
    let slot : 1 ≡ m.0 = ap found_slot m.1 in
    false-true (m.3 0 (omega arith)) refl

-- every group takes a slot of its own
abbrev another_as : Result Carried Refusal → List ℕ → State → Reply
another_as (Ok carried) bytes s = placed_in None (free s) carried bytes s
another_as (Err why) bytes s = take_group bytes s

abbrev pub takes_another : List ℕ → State → Reply
takes_another bytes s = another_as (reading_of bytes) bytes s

-- where none is free, each slot is the one that holds a number
pub takes-another-breaks : ¬ (NoneFreeExactly (taking_by takes_another))
unfolding computing pair
takes-another-breaks p = let m = (p twice).0 refl 1 (omega arith) in never (eqb 5 m.0) m.1
  where
    never : (b : Bool) → pick {A = Option ℕ} b (Some 0) (pick {A = Option ℕ} b (Some 1) None) ≢ Some 1
    never true e = let z : ◌≡◌ {A = ℕ} 0 1 = ap found_slot e in absurd (omega arith)
    never false e = let z : ◌≡◌ {A = ℕ} 16 1 = ap found_slot e in absurd (omega arith)

-- DROPPED, and the slot stays as it was
abbrev pub keeps_slot : ℕ → State → Reply
keeps_slot number s = answering (drop_number number s).answer s

-- a number under which nothing is stored holds no slot
pub keeps-slot-breaks : ¬ (UnheldExactly (dropping_by keeps_slot))
unfolding computing small
keeps-slot-breaks p =
    let e : ◌≡◌ {A = ℕ} 0 16 = ap found_slot ((p dropped 5).1 (refl, refl)) in
    absurd (omega arith)

-- NOTHELD for every number, and it is dropped
abbrev pub drops_unsaid : ℕ → State → Reply
drops_unsaid number s = record {
  answer = pick (sound s) (Answer.Denied Reason.NotHeld) (Answer.Denied Reason.State);
  left = with_counts s.counts (drop_number number s).left;
}

-- and one under which something is stored does
pub drops-unsaid-breaks : ¬ (UnheldExactly (dropping_by drops_unsaid))
unfolding computing small
drops-unsaid-breaks p =
    let e : ◌≡◌ {A = ℕ} 1 0 = ap length ((p dropped 5).0 refl).0 in
    absurd (omega arith)

-- ---- the stage's two lengths

-- the slot in which an object was finished, changed
abbrev changed_in : (Slot → Slot) → Option ℕ → State → State
changed_in change None s = s
changed_in change (Some i) s = record {
  collector = with_slots (set s.collector.slots i (change (slot_of i s))) s.collector;
  counts = s.counts;
  stores = s.stores;
}

abbrev changing : (Slot → Slot) → Result Carried Refusal → List ℕ → State → Reply
changing change (Err why) bytes s = take_group bytes s
changing change (Ok carried) bytes s =
    pick (eqb (number_of (take_group bytes s).answer) 1)
    (record {
      answer = (take_group bytes s).answer;
      left = changed_in change (find carried.heard.number (take_group bytes s).left) (take_group bytes s).left;
    })
    (take_group bytes s)

abbrev with_stage : (ℕ → ℕ → Stage) → Stage → Slot → Slot
with_stage lengths Stage.Free slot = slot
with_stage lengths Stage.Gathering slot = slot
with_stage lengths (Stage.Finished header body) slot = record {
  number = slot.number;
  stage = lengths header body;
  header = slot.header;
  body = slot.body;
  missing = slot.missing;
}

-- the body's length first
abbrev swapped : Slot → Slot
swapped slot = with_stage (λ header body. Stage.Finished body header) slot.stage slot

abbrev pub swaps_lengths : List ℕ → State → Reply
swaps_lengths bytes s = changing swapped (reading_of bytes) bytes s

abbrev body_length : Stage → ℕ
body_length Stage.Free = 0
body_length Stage.Gathering = 0
body_length (Stage.Finished header body) = body

-- by the lengths of the object that our collector finishes with the same segments
lengths-break : (k : Collecting) (r : Run) (number slot : ℕ) (hs bs : List Segment) → (stored k r Header number ≡ hs)
    × (stored k r Body number ≡ bs) → (stored defined r Header number ≡ hs) × (stored defined r Body number ≡ bs)
    → locate number (reached_by defined r) ≡ Ok slot
    → body_length (stage_for number (reached_by k r)) ≢ body_length (stage_for number (reached_by defined r))
    → ¬ (FinishedLengths k)
lengths-break k r number slot hs bs c d l n p =
    let m = ((run-answered r).located number slot).0 l in
    let e = rw (c.0 ∙ sym d.0, c.1 ∙ sym d.1) at (p r number) in
    n (ap body_length (e m.1 m.2 ∙ sym (finished-lengths r number m.1 m.2)))

pub swaps-lengths-breaks : ¬ (FinishedLengths (taking_by swaps_lengths))
unfolding computing small
swaps-lengths-breaks =
    lengths-break (taking_by swaps_lengths) one 5 0 (whole ∷ []) [] (refl, refl) (refl, refl) refl
    (λ e. absurd (omega arith))

-- the body's length in whole segments
abbrev rounded_to : ℕ → ℕ → ℕ
rounded_to zero n = n
rounded_to (suc size) n = (n + size) / suc size * suc size

abbrev rounded : Slot → Slot
rounded slot = with_stage (λ header body. Stage.Finished header (rounded_to slot.body.size body)) slot.stage slot

-- what document 01's example stores
abbrev many_headers : List Segment
many_headers = segment_in header (read_as 5 Header 0 true 7) ∷ []

abbrev many_bodies : List Segment
many_bodies = segment_in body_first (read_as 5 Body 0 false 16) ∷ segment_in body_last (read_as 5 Body 1 true 4) ∷ []

abbrev pub rounds_length : List ℕ → State → Reply
rounds_length bytes s = changing rounded (reading_of bytes) bytes s

pub rounds-length-breaks : ¬ (FinishedLengths (taking_by rounds_length))
unfolding computing small
rounds-length-breaks =
    lengths-break (taking_by rounds_length) many 5 0 many_headers many_bodies (refl, refl) (refl, refl) refl
    (λ e. absurd (omega arith))

-- ---- STORED, and groups that are not read

-- STORED where with it every segment is in
abbrev pub never_completes : List ℕ → State → Reply
never_completes bytes s =
    pick (eqb (number_of (take_group bytes s).answer) 1) (renamed (stored_as (reading_of bytes)) bytes s)
    (take_group bytes s)

-- with STORED some segment is missing
pub never-completes-breaks : ¬ (StoredExactly (taking_by never_completes))
unfolding computing small group_five
never-completes-breaks p =
    let e : ◌≡◌ {A = ℕ} 1 0 = ap number_of (((run-answered none).storing group_five).1 ((p none group_five).0 refl)) in
    absurd (omega arith)

-- STORED where no slot is there
abbrev pub stores_full : List ℕ → State → Reply
stores_full bytes s =
    pick (eqb (number_of (take_group bytes s).answer) 18) (renamed (stored_as (reading_of bytes)) bytes s)
    (take_group bytes s)

-- with STORED a slot is there
pub stores-full-breaks : ¬ (StoredExactly (taking_by stores_full))
unfolding computing small group_six
stores-full-breaks p =
    let e : ◌≡◌ {A = ℕ} 18 0 = ap number_of (((run-answered one).storing group_six).1 ((p one group_six).0 refl)) in
    absurd (omega arith)

-- a segment is stored though its object was finished before
abbrev comes_late : Stage → Answer → Bool
comes_late Stage.Free answer = false
comes_late Stage.Gathering answer = false
comes_late (Stage.Finished header body) answer = eqb (number_of answer) 0

-- such a one is answered as somebody likes
abbrev late_by : (Carried → Reply) → Result Carried Refusal → List ℕ → State → Reply
late_by say (Ok carried) bytes s =
    pick (comes_late (stage_for carried.heard.number s) (take_group bytes s).answer) (say carried) (take_group bytes s)
late_by say (Err why) bytes s = take_group bytes s

-- COMPLETE again
abbrev pub completes_twice : List ℕ → State → Reply
completes_twice bytes s =
    late_by (λ carried. renamed (Answer.Complete (heard_in carried) carried.repetition) bytes s) (reading_of bytes)
    bytes s

-- CONFLICT, as for any other segment of a number that is not in
abbrev pub refuses_late : List ℕ → State → Reply
refuses_late bytes s = late_by (λ carried. answering (Answer.Conflict (heard_in carried)) s) (reading_of bytes) bytes s

-- an object of no body is finished, and its empty last segment comes
late-breaks : (k : Collecting) (n : ℕ) → (stored k one Header 5 ≡ whole ∷ []) × (stored k one Body 5 ≡ [])
    → number_of (answer_to k (since k one) group_empty) ≡ n → n ≢ 0 → n ≢ 2 → ¬ (LateStored k)
unfolding group_empty small
late-breaks k n e a x y p =
    let object = finished-core 1024 (stored k one Header 5) (stored k one Body 5) refl e.0 e.1 in
    go (p one group_empty object.0 object.1 (rw (e.0, e.1) fits-empty))
  where
    go : (answer_to k (since k one) group_empty ≡ Answer.Repeat (heard_of group_empty) (repetition_of group_empty))
        ⊎ ((answer_to k (since k one) group_empty ≡ Answer.Stored (heard_of group_empty) (repetition_of group_empty))
        × (Body ≡ Body) × (segment_of group_empty ≡ cut.empty)) → ⊥
    go (inl q) = y (sym a ∙ ap number_of q)
    go (inr q) = x (sym a ∙ ap number_of q.0)

pub completes-twice-breaks : ¬ (LateStored (taking_by completes_twice))
unfolding computing small group_empty
completes-twice-breaks =
    late-breaks (taking_by completes_twice) 1 (refl, refl) refl (λ e. absurd (omega arith)) (λ e. absurd (omega arith))

pub refuses-late-breaks : ¬ (LateStored (taking_by refuses_late))
unfolding computing small group_empty
refuses-late-breaks =
    late-breaks (taking_by refuses_late) 17 (refl, refl) refl (λ e. absurd (omega arith)) (λ e. absurd (omega arith))

-- a group of another kind is KIND, and its check word is not asked for
abbrev kind_as : Option Part → List ℕ → State → Reply
kind_as (Some part) bytes s = take_group bytes s
kind_as None bytes s = renamed (Answer.Refused Refusal.Kind) bytes s

abbrev pub kind_first : List ℕ → State → Reply
kind_first bytes s =
    pick (eqb (number_of (take_group bytes s).answer) 12) (kind_as (kind_of (type_number bytes)) bytes s)
    (take_group bytes s)

-- the first check that fails is answered
pub kind-first-breaks : ¬ (UnreadRefused (taking_by kind_first))
unfolding computing small
kind-first-breaks p =
    let e : ◌≡◌ {A = ℕ} 13 12 = ap number_of (p none other_kind Refusal.BadCheck refl) in
    absurd (omega arith)

-- LENGTH for every group that is not read
abbrev pub length_for_all : List ℕ → State → Reply
length_for_all bytes s =
    pick (between 10 16 (take_group bytes s).answer) (renamed (Answer.Refused Refusal.Length) bytes s)
    (take_group bytes s)

pub length-for-all-breaks : ¬ (UnreadRefused (taking_by length_for_all))
unfolding computing small
length-for-all-breaks p =
    let e : ◌≡◌ {A = ℕ} 10 12 = ap number_of (p none other_kind Refusal.BadCheck refl) in
    absurd (omega arith)

-- ---- what the sender meant by a repeat

-- the repetition index that an answer passes up
abbrev index_in : Returned → ℕ
index_in (Returned.Sent heard repetition) = repetition.index
index_in (Returned.Segment heard) = 0
index_in (Returned.Number number) = 0
index_in Returned.Nothing = 0

abbrev index_with : Answer → ℕ
index_with answer = index_in (returned_with answer)

-- a REPEAT is answered as somebody likes
abbrev repeat_as : (Carried → Answer) → Result Carried Refusal → Answer → Answer
repeat_as say (Ok carried) answer = pick (eqb (number_of answer) 2) (say carried) answer
repeat_as say (Err why) answer = answer

abbrev repeats_by : (Carried → Answer) → List ℕ → State → Reply
repeats_by say bytes s = renamed (repeat_as say (reading_of bytes) (take_group bytes s).answer) bytes s

-- with the two indices swapped
abbrev pub swaps_indices : List ℕ → State → Reply
swaps_indices = repeats_by λ carried. Answer.Repeat (heard_in carried) (record {
  index = carried.repetition.continuity;
  continuity = carried.repetition.index;
  count = carried.repetition.count;
})

pub swaps-indices-breaks : ¬ (RepeatExactly (taking_by swaps_indices))
unfolding computing small group_again
swaps-indices-breaks p =
    let e : ◌≡◌ {A = ℕ} 3 10 = ap index_with ((p one group_again).1 (inl refl)) in
    absurd (omega arith)

-- a segment that is sent again with other numbers and for some end user
resent-breaks : (k : Collecting) (n : ℕ) (about : Answer → ℕ) → stored k one Header 5 ≡ whole ∷ []
    → about (k.takes (group five_again) (reached_by k one)).answer ≡ n
    → about (Answer.Repeat (heard_in read_again) read_again.repetition) ≢ n → ¬ (ResentRepeats k)
unfolding small
resent-breaks k n about e a x p =
    x (sym (ap about (p one five five_again (read_as 5 Header 0 true 7) sent-again.2 reads.0
    (rw e (inl refl)) sent-again.0 sent-again.1)) ∙ a)

-- the numbers are forgotten
abbrev pub forgets_numbers : List ℕ → State → Reply
forgets_numbers = repeats_by λ carried. Answer.Repeat (heard_in carried) no_repetition

pub forgets-numbers-breaks : ¬ (ResentRepeats (taking_by forgets_numbers))
unfolding computing small
forgets-numbers-breaks = resent-breaks (taking_by forgets_numbers) 0 index_with refl refl (λ e. absurd (omega arith))

-- CONFLICT for a repeat that says that it is to be sent again
abbrev pub conflicts_resent : List ℕ → State → Reply
conflicts_resent = repeats_by λ carried. pick (eqb carried.repetition.index 0)
    (Answer.Repeat (heard_in carried) carried.repetition) (Answer.Conflict (heard_in carried))

pub conflicts-resent-breaks : ¬ (ResentRepeats (taking_by conflicts_resent))
unfolding computing small
conflicts-resent-breaks = resent-breaks (taking_by conflicts_resent) 17 number_of refl refl (λ e. absurd (omega arith))
