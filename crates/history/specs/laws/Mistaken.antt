-- WRONG ANSWERS TO QUESTIONS. Each is the collector's own definitions with one question that is answered wrongly, and
-- is proved to break the promise that shuts it out. What the collector itself answers after the same run is right.
use Rattle.std.specs.Prelude.{◌≡◌, refl, Bool, Result, Ok, Err, List, [], ◌∷◌, ℕ, suc, ◌+◌, ◌-◌, ◌*◌, min, eqb, ltb, length, get_or, take, drop, Option, Some, None}
use Rattle.std.proofs.Common.{sym, ap, ◌∙◌, arith}
use Rattle.octets.specs.Octets.{equal, part}
use Rattle.answer.specs.declared.Answer.TheVariants as Answer
use Rattle.answer.specs.declared.Reason.{Reason}
use Rattle.answer.specs.declared.Part.{Part}
use Rattle.answer.specs.declared.Part.TheVariants.{Header, Body}
use Rattle.answer.specs.Table.{number_of}
use Rattle.counts.specs.Counted.{ceiling, none_yet, one_refused}
use Rattle.answer.specs.declared.Refusal.{Refusal}
use Rattle.answer.specs.declared.Refusal.TheVariants.{BadCheck}
use Rattle.wire.specs.declared.Carried.{Carried}
use Rattle.wire.specs.Wire.{end_user_address, end_user_address_length}
use Rattle.wire.specs.Reading.{reading_of}
use Rattle.cut.specs.Requirement.{header_size}
use Rattle.cut.specs.laws.Theorem.{fits-sent}
use Rattle.cut.specs.Lists.{pick}
use Rattle.header.specs.declared.Fields.{Fields}
use Rattle.header.specs.declared.Refusal.TheVariants as Refusal
use Rattle.header.specs.Parameters.{read_header}
use Rattle.header.specs.Names.{name_data, has_name}
use Rattle.object.specs.declared.Slot.{Slot}
use Rattle.object.specs.declared.Stage.{Stage}
use Rattle.name_search.specs.Finding.{lower, holds_name, found_by_name}
use Rattle.collector.specs.State.{State, find}
use Rattle.collector.specs.Calls.{locate, located_in, show, shown_at}
use Rattle.queries.specs.Questions as queries
use Rattle.queries.specs.Missing.{awaited_in, missing}
use Rattle.queries.specs.Questions.{asked_of, sought_as}
use Rattle.queries.specs.Said.{asked_as}
use Rattle.history.specs.Held.{lent_of, stage_for}
use Rattle.history.specs.Handed.{group}
use Rattle.history.specs.History.{Question, hand}
use Rattle.history.specs.laws.Stage.{none-finished}
use Rattle.history.specs.laws.Demands.{run-answered}
use Rattle.history.specs.Promise.{Run, reached_by, stored, StateAskExactly, AskedLeaves, AddressExactly, NotHeldExactly, AwaitedExactly, NoneAwaitedExactly, OutsideExactly, NeverRises, UnfinishedExactly, LocatedExactly, CoreShown, ReadExactly, NamesRead, FoundExactly, NotFoundExactly}
use Rattle.history.specs.laws.Samples.{computing, small, allowed, pair, body_last, header, object, sent-one}
use Rattle.history.specs.laws.Trials.{core, empty_five, five_again, five_spoilt, read_again, none, one, waiting, named_waiting, named, spoilt, crossed, with_counts, recounted-bytes, recounted, damaged, is-damaged, uneven, doubted, found_slot, located_number, asked_number, asked_length, sought_number, awaited_number, locating_by, showing_by, telling_by, naming_by, finding_by, awaiting_by, addressing_by, asking_by}
use Rattle.history.specs.laws.Call.{defined}

-- ---- in a damaged state

-- the counts are never looked at
abbrev pub counts_unasked : ℕ → State → Result ℕ Reason
counts_unasked number s = locate number (with_counts none_yet s)

pub counts-unasked-breaks : ¬ (StateAskExactly (locating_by counts_unasked))
unfolding computing small
counts-unasked-breaks p =
    let e : ◌≡◌ {A = ℕ} 0 26 = ap located_number (((p damaged (recounted-bytes one)).0 5).1 is-damaged) in
    absurd (omega arith)

-- a name is looked for in any state
abbrev pub searches_damaged : List ℕ → State → Result ℕ Reason
searches_damaged sought s = sought_as (found_by_name sought s.collector.count s.collector.slots s.stores.header)

pub searches-damaged-breaks : ¬ (StateAskExactly (finding_by searches_damaged))
unfolding computing small
searches-damaged-breaks p =
    let e : ◌≡◌ {A = ℕ} 24 26 = ap sought_number (((p damaged (recounted-bytes one)).2 []).1 is-damaged) in
    absurd (omega arith)

-- an object is shown in any state
abbrev pub shows_damaged : ℕ → Part → State → List ℕ
shows_damaged number part s = shown_at (located_in (find number s) s.collector) part s

pub shows-damaged-breaks : ¬ (StateAskExactly (showing_by shows_damaged))
unfolding computing small
shows-damaged-breaks p =
    let e : ◌≡◌ {A = ℕ} 7 0 = ap length (((p damaged (recounted-bytes one)).3 is-damaged 5).0 Header) in
    absurd (omega arith)

-- STATE where more objects were completed than segments taken
abbrev pub doubts_counts : ℕ → State → Result Fields Reason
doubts_counts number s =
    pick (ltb s.counts.taken s.counts.completed) (Err Reason.State) (queries.parameters number s)

pub doubts-counts-breaks : ¬ (StateAskExactly (telling_by doubts_counts))
unfolding computing small
doubts-counts-breaks p = ((p doubted (recounted-bytes one)).1 5).0 refl (recounted one uneven refl)

-- ---- what a question leaves

-- a question that is refused is counted so
abbrev counted_as : Result ℕ Reason → State → State
counted_as (Ok i) s = s
counted_as (Err why) s = with_counts (one_refused s.counts) s

abbrev pub counts_questions : Question → State → State
counts_questions (Question.show number part) s = counted_as (locate number s) s
counts_questions (Question.parameters number) s = counted_as (locate number s) s
counts_questions (Question.name number) s = counted_as (locate number s) s
counts_questions (Question.find sought) s = s
counts_questions (Question.missing number) s = counted_as (locate number s) s
counts_questions (Question.address bytes) s = s

pub counts-questions-breaks : ¬ (AskedLeaves (asking_by counts_questions))
unfolding computing small
counts-questions-breaks p =
    let s : State = reached_by defined none in
    let e : ◌≡◌ {A = ℕ} 1 0 = ap (λ (t : State). t.counts.refused) (p (Question.parameters 5) s) in
    absurd (omega arith)

-- a question sets counts that lie above the ceiling back to it
abbrev pub mends_counts : Question → State → State
mends_counts question s = with_counts (record {
  taken = min s.counts.taken ceiling;
  repeated = min s.counts.repeated ceiling;
  refused = min s.counts.refused ceiling;
  completed = min s.counts.completed ceiling;
  dropped = min s.counts.dropped ceiling;
}) s

pub mends-counts-breaks : ¬ (AskedLeaves (asking_by mends_counts))
mends-counts-breaks p =
    let e : ceiling ≡ suc ceiling = ap (λ (s : State). s.counts.taken) (p (Question.find []) damaged) in
    absurd (omega arith)

-- ---- NOTHELD

-- UNFINISHED for a number that holds no slot
abbrev unfinished_as : Option ℕ → ℕ → State → Result ℕ Reason
unfinished_as None number s = Err Reason.Unfinished
unfinished_as (Some i) number s = locate number s

abbrev pub unfinished_unheld : ℕ → State → Result ℕ Reason
unfinished_unheld number s = unfinished_as (find number s) number s

pub unfinished-unheld-breaks : ¬ (NotHeldExactly (locating_by unfinished_unheld))
unfolding computing small
unfinished-unheld-breaks p =
    let e : ◌≡◌ {A = ℕ} 20 19 = ap located_number ((p none 5).0.1 refl) in
    absurd (omega arith)

-- what is shown is read, and nobody asks whether anything is: fields of no bytes
abbrev pub reads_nothing : ℕ → State → Result Fields Reason
reads_nothing number s = asked_as (read_header (show number Header s))

pub reads-nothing-breaks : ¬ (NotHeldExactly (telling_by reads_nothing))
unfolding computing small
reads-nothing-breaks p =
    let e : ◌≡◌ {A = ℕ} 0 19 = ap asked_number ((p none 5).1.1 refl) in
    absurd (omega arith)

-- ---- UNFINISHED

-- NOTHELD for an object until it is finished
abbrev not_held_as : Result ℕ Reason → Result ℕ Reason
not_held_as (Ok i) = Ok i
not_held_as (Err why) = Err Reason.NotHeld

abbrev pub not_held_unfinished : ℕ → State → Result ℕ Reason
not_held_unfinished number s = not_held_as (locate number s)

pub not-held-unfinished-breaks : ¬ (UnfinishedExactly (locating_by not_held_unfinished))
unfolding computing small
not-held-unfinished-breaks p =
    let e : ◌≡◌ {A = ℕ} 19 20 = ap located_number ((p waiting 5).0.1 (((run-answered waiting).unfinished 5).0.0 refl)) in
    absurd (omega arith)

-- the header in slot i, once its segment 0 is in
abbrev header_early : ℕ → State → List ℕ
header_early i s =
    pick (eqb (get_or (lent_of i s).marks 0 0) 1) (take (header_size (lent_of i s).header) (lent_of i s).header) []

abbrev early_in : Option ℕ → State → List ℕ
early_in None s = []
early_in (Some i) s = header_early i s

-- a header is read as soon as its segment 0 is in, and the body is not waited for
abbrev pub reads_early : ℕ → State → Result Fields Reason
reads_early number s = asked_as (read_header (early_in (find number s) s))

pub reads-early-breaks : ¬ (UnfinishedExactly (telling_by reads_early))
unfolding computing small
reads-early-breaks p =
    let e : ◌≡◌ {A = ℕ} 0 20 = ap asked_number ((p waiting 5).1.1 (((run-answered waiting).unfinished 5).0.0 refl)) in
    absurd (omega arith)

-- ---- where an object is

-- nobody asks whether it is finished
abbrev held_as : Option ℕ → Result ℕ Reason
held_as None = Err Reason.NotHeld
held_as (Some i) = Ok i

abbrev pub locates_held : ℕ → State → Result ℕ Reason
locates_held number s = held_as (find number s)

pub locates-held-breaks : ¬ (LocatedExactly (locating_by locates_held))
unfolding computing small
locates-held-breaks p =
    let m = (p waiting 5 0).0 refl in
    (((run-answered waiting).unfinished 5).0.0 refl).1 m.1 m.2

-- slots counted from 1
abbrev from_one_as : Result ℕ Reason → Result ℕ Reason
from_one_as (Ok i) = Ok (suc i)
from_one_as (Err why) = Err why

abbrev pub slots_from_one : ℕ → State → Result ℕ Reason
slots_from_one number s = from_one_as (locate number s)

pub slots-from-one-breaks : ¬ (LocatedExactly (locating_by slots_from_one))
unfolding computing small
slots-from-one-breaks p =
    let e : ◌≡◌ {A = ℕ} 0 1 = ap found_slot ((p one 5 1).0 refl).0 in
    absurd (omega arith)

-- ---- its core

-- a header is shown from its first parameter on
abbrev list_as : Part → List ℕ → List ℕ
list_as Header bytes = drop 7 bytes
list_as Body bytes = bytes

abbrev pub shows_list : ℕ → Part → State → List ℕ
shows_list number part s = list_as part (show number part s)

pub shows-list-breaks : ¬ (CoreShown (showing_by shows_list))
unfolding computing small
shows-list-breaks p = absurd (omega (arith, p one 5 0 refl))

-- an object that is not finished is located, and has no header to show
pub locates-held-coreless : ¬ (CoreShown (locating_by locates_held))
unfolding computing small
locates-held-coreless p = absurd (omega (arith, p waiting 5 0 refl))

-- ---- what a header says

-- it is read off the body
abbrev pub reads_body : ℕ → State → Result Fields Reason
reads_body number s = asked_of (locate number s) (show number Body s)

pub reads-body-breaks : ¬ (ReadExactly (telling_by reads_body))
unfolding computing small
reads-body-breaks p =
    let m = ((run-answered one).reading 5 (read_header core)).0 refl in
    let e : ◌≡◌ {A = ℕ} 0 7 = ap asked_length ((p one 5 (read_header core)).1 m) in
    absurd (omega arith)

-- a broken list of parameters is called DUPLICATE
abbrev duplicate_as : Result Fields Reason → Result Fields Reason
duplicate_as (Ok fields) = Ok fields
duplicate_as (Err why) = Err (pick (eqb (number_of (Answer.Denied why)) 21) Reason.Duplicate why)

abbrev pub broken_duplicate : ℕ → State → Result Fields Reason
broken_duplicate number s = duplicate_as (queries.parameters number s)

pub broken-duplicate-breaks : ¬ (ReadExactly (telling_by broken_duplicate))
unfolding computing small
broken-duplicate-breaks p =
    let m = ((run-answered spoilt).reading 5 (Err Refusal.Header)).0 refl in
    let e : ◌≡◌ {A = ℕ} 22 21 = ap asked_number ((p spoilt 5 (Err Refusal.Header)).1 m) in
    absurd (omega arith)

-- ---- its name

-- the character set byte is cut off
abbrev pub cuts_set : ℕ → State → List ℕ
cuts_set number s = drop 1 (queries.name number s)

pub cuts-set-breaks : ¬ (NamesRead (naming_by cuts_set))
unfolding computing small
cuts-set-breaks p =
    let m = ((run-answered named).located 5 0).0 refl in
    let right = ((run-answered named).named 5).0 m.1 m.2 in
    let e : ◌≡◌ {A = ℕ} 1 2 = ap length ((p named 5).0 m.1 m.2 ∙ sym right) in
    absurd (omega arith)

-- a name is given as soon as segment 0 of the header is in
abbrev pub names_early : ℕ → State → List ℕ
names_early number s = name_data (early_in (find number s) s)

pub names-early-breaks : ¬ (NamesRead (naming_by names_early))
unfolding computing small
names-early-breaks p =
    let e : ◌≡◌ {A = ℕ} 2 0 = ap length ((p named_waiting 5).1 (((run-answered named_waiting).unfinished 5).0.0 refl).1) in
    absurd (omega arith)

-- ---- whose a name is

-- the lowest number among the slots that pass a test, the first of the list being number i
abbrev lowest_by : (ℕ → Slot → Bool) → ℕ → List Slot → Option ℕ
lowest_by test i [] = None
lowest_by test i (slot ∷ slots) = lower (pick (test i slot) (Some slot.number) None) (lowest_by test (suc i) slots)

abbrev in_use : State → List Slot
in_use s = take s.collector.count s.collector.slots

-- the number in the first slot that passes it
abbrev first_by : (ℕ → Slot → Bool) → ℕ → List Slot → Option ℕ
first_by test i [] = None
first_by test i (slot ∷ slots) = pick (test i slot) (Some slot.number) (first_by test (suc i) slots)

-- the first slot that has the name is taken, and not the lowest number
abbrev pub first_slot_wins : List ℕ → State → Result ℕ Reason
first_slot_wins sought s =
    sought_as (first_by (λ i slot. holds_name sought i slot s.stores.header) 0 (in_use s))

pub first-slot-wins-breaks : ¬ (FoundExactly (finding_by first_slot_wins))
unfolding computing pair
first-slot-wins-breaks p =
    let five = ((run-answered crossed).found (0x61 ∷ []) 5).0 refl in
    let six = (p crossed (0x61 ∷ []) 6).0 refl in
    absurd (omega (arith, six.lowest 5 five.object five.finished five.named))

-- objects that are not finished are found too
abbrev pub finds_unfinished : List ℕ → State → Result ℕ Reason
finds_unfinished sought s = sought_as (lowest_by (λ i slot. has_name sought (header_early i s)) 0 (in_use s))

pub finds-unfinished-breaks : ¬ (FoundExactly (finding_by finds_unfinished))
unfolding computing small
finds-unfinished-breaks p =
    let m = (p named_waiting (0x61 ∷ []) 5).0 refl in
    (((run-answered named_waiting).unfinished 5).0.0 refl).1 m.object m.finished

-- NOTHELD for a name that nobody has
abbrev not_held_for : Result ℕ Reason → Result ℕ Reason
not_held_for (Ok number) = Ok number
not_held_for (Err why) = Err Reason.NotHeld

abbrev pub nobody_not_held : List ℕ → State → Result ℕ Reason
nobody_not_held sought s = not_held_for (queries.find sought s)

pub nobody-not-held-breaks : ¬ (NotFoundExactly (finding_by nobody_not_held))
unfolding computing small
nobody-not-held-breaks p =
    let e : ◌≡◌ {A = ℕ} 19 24 = ap sought_number
    ((p none []).1 λ number f d. absurd (none-finished 1024 [] [] f d refl)) in
    absurd (omega arith)

-- no slash is dropped
abbrev pub slash_kept : List ℕ → State → Result ℕ Reason
slash_kept sought s =
    sought_as (lowest_by (λ i slot. equal (drop 1 (queries.name slot.number s)) sought) 0 (in_use s))

pub slash-kept-breaks : ¬ (NotFoundExactly (finding_by slash_kept))
unfolding computing small
slash-kept-breaks p =
    let m = ((run-answered named).found (0x2F ∷ 0x61 ∷ []) 5).0 refl in
    (p named (0x2F ∷ 0x61 ∷ [])).0 refl 5 m.object m.finished m.named

-- ---- the end user address of a group

-- it starts a byte late
abbrev late_in : Result Carried Refusal → List ℕ → List ℕ
late_in (Ok carried) bytes = part bytes (carried.address.start + 1) carried.address.length
late_in (Err why) bytes = []

abbrev pub addresses_late : List ℕ → State → List ℕ
addresses_late bytes s = late_in (reading_of bytes) bytes

pub addresses-late-breaks : ¬ (AddressExactly (addressing_by addresses_late))
unfolding computing small
addresses-late-breaks p =
    let e : ◌≡◌ {A = ℕ} 0xB2 0xA1 = ap (λ (l : List ℕ). get_or l 0 0)
    ((p five_again (reached_by defined one)).0 read_again refl) in
    absurd (omega arith)

-- it is given of a group whose check word is wrong, too
abbrev pub addresses_unread : List ℕ → State → List ℕ
addresses_unread bytes s = part bytes (end_user_address bytes) (end_user_address_length bytes)

pub addresses-unread-breaks : ¬ (AddressExactly (addressing_by addresses_unread))
unfolding computing small
addresses-unread-breaks p =
    let e : ◌≡◌ {A = ℕ} 2 0 = ap (λ (l : List ℕ). length l)
    ((p five_spoilt (reached_by defined one)).1 BadCheck refl) in
    absurd (omega arith)

-- ---- how many bytes are still to come

-- where that is not known, none
abbrev zero_for : Result (Option ℕ) Reason → Result (Option ℕ) Reason
zero_for (Ok None) = Ok (Some 0)
zero_for (Ok (Some bytes)) = Ok (Some bytes)
zero_for (Err why) = Err why

abbrev pub unknown_as_none : ℕ → State → Result (Option ℕ) Reason
unknown_as_none number s = zero_for (missing number s)

-- the last segment of a body alone
abbrev parked : Run
parked = record { start = small; allowed = allowed; calls = hand (group body_last) ∷ []; bytes = (omega arith, tt) }

pub unknown-as-none-breaks : ¬ (NoneAwaitedExactly (awaiting_by unknown_as_none))
unfolding computing small
unknown-as-none-breaks p =
    let x = (p parked 5).0 refl in
    none-finished 1024 [] (stored (awaiting_by unknown_as_none) parked Body 5) x.0 x.1 refl

-- all that the object has, whether it has arrived or not
abbrev lengths_in : Stage → Result (Option ℕ) Reason → Result (Option ℕ) Reason
lengths_in Stage.Free said = said
lengths_in Stage.Gathering said = said
lengths_in (Stage.Finished header body) said = Ok (Some (header + body))

abbrev pub arrived_uncounted : ℕ → State → Result (Option ℕ) Reason
arrived_uncounted number s = lengths_in (stage_for number s) (missing number s)

pub arrived-uncounted-breaks : ¬ (AwaitedExactly (awaiting_by arrived_uncounted))
unfolding computing small
arrived-uncounted-breaks p =
    let e : ◌≡◌ {A = ℕ} 107 100 =
    ap awaited_number (p one 5 λ n. let z : ◌≡◌ {A = ℕ} 0 1 = cc in absurd (omega arith)) in
    absurd (omega arith)

-- a repeat is counted as if its bytes were new
abbrev less_by : ℕ → Result (Option ℕ) Reason → Result (Option ℕ) Reason
less_by count (Ok None) = Ok None
less_by count (Ok (Some bytes)) = Ok (Some (bytes - count * 7))
less_by count (Err why) = Err why

abbrev pub repeats_arrive : ℕ → State → Result (Option ℕ) Reason
repeats_arrive number s = less_by s.counts.repeated (missing number s)

-- a header of 7 bytes, twice; its body of 20 is still to come
abbrev repeating : Run
repeating = record {
  start = small;
  allowed = allowed;
  calls = hand (group header) ∷ hand (group header) ∷ [];
  bytes = (omega arith, (omega arith, tt));
}

pub repeats-arrive-breaks : ¬ (OutsideExactly (awaiting_by repeats_arrive))
unfolding computing small object
repeats-arrive-breaks p =
    let e : ◌≡◌ {A = ℕ} 20 13 = p repeating 5 13 refl (fits-sent object _ [] (sent-one.0, tt) tt) in
    absurd (omega arith)

-- as many as segments were taken
abbrev pub counts_up : ℕ → State → Result (Option ℕ) Reason
counts_up number s = Ok (Some s.counts.taken)

pub counts-up-breaks : ¬ (NeverRises (awaiting_by counts_up))
unfolding computing small
counts-up-breaks p =
    let x = p one 5 1 (hand (group empty_five) ∷ []) (omega arith, tt) (tt, tt) refl in
    let e : ◌≡◌ {A = ℕ} 102 (100 + x.0) = ap awaited_number x.1 in
    absurd (omega (arith, x.2))

-- a question is answered in any state
abbrev pub awaits_damaged : ℕ → State → Result (Option ℕ) Reason
awaits_damaged number s = awaited_in (find number s) s

pub awaits-damaged-breaks : ¬ (StateAskExactly (awaiting_by awaits_damaged))
unfolding computing small
awaits-damaged-breaks p =
    let e : ◌≡◌ {A = ℕ} 100 26 = ap awaited_number (((p damaged (recounted-bytes one)).4 5).1 is-damaged) in
    absurd (omega arith)

-- of a number that holds no slot, that it is not known
abbrev unheld_as : Option ℕ → Result (Option ℕ) Reason → Result (Option ℕ) Reason
unheld_as None said = Ok None
unheld_as (Some i) said = said

abbrev pub unheld_unknown : ℕ → State → Result (Option ℕ) Reason
unheld_unknown number s = unheld_as (find number s) (missing number s)

pub unheld-unknown-breaks : ¬ (NotHeldExactly (awaiting_by unheld_unknown))
unfolding computing small
unheld-unknown-breaks p =
    let e : ◌≡◌ {A = ℕ} 99 19 = ap awaited_number ((p none 5).2.1 refl) in
    absurd (omega arith)
