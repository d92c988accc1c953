-- WRONG OPENINGS, and groups and drops that go wrong in what they leave, in a damaged state, or in a state that no run
-- reaches. Each is the collector's own definitions with one piece that is wrong, and is proved to break the promise
-- that shuts it out.
use Rattle.std.specs.Prelude.{◌≡◌, refl, ◌≢◌, Result, Ok, Err, Option, None, Some, List, [], ◌∷◌, ℕ, suc, ◌+◌, ◌*◌, eqb, leb, ltb, length, get_or, replicate}
use Rattle.std.proofs.Common.{ap, arith}
use Rattle.std.proofs.lemmas.List.{length-replicate}
use Rattle.octets.specs.Octets.{over, zeros, largest_of}
use Rattle.answer.specs.declared.Answer.TheVariants as Answer
use Rattle.answer.specs.declared.Reason.{Reason}
use Rattle.answer.specs.declared.Refusal.{Refusal}
use Rattle.answer.specs.Table.{number_of}
use Rattle.counts.specs.Counted.{ceiling, none_yet, one_taken, one_refused}
use Rattle.wire.specs.declared.Carried.{Carried}
use Rattle.wire.specs.Reading.{reading_of}
use Rattle.cut.specs.laws.Lists.{bytes-zeros}
use Rattle.cut.specs.Requirement.{header_most, limit_least}
use Rattle.cut.specs.Lists.{both, pick}
use Rattle.slots.specs.Stores.{slots_most, Stores}
use Rattle.slots.specs.State.{sound_slots}
use Rattle.collector.specs.State.{Start, Opened, Reply, State, all_free, find, free}
use Rattle.collector.specs.Calls.{drop_found, drop_number, in_limits, open_with, into_held, take_group, answering, sound}
use Rattle.collector.specs.Arrival.{segment_in, arrival_in}
use Rattle.queries.specs.Questions as queries
use Rattle.history.specs.Handed.{group}
use Rattle.history.specs.Held.{limit_of}
use Rattle.history.specs.laws.State.{in-order-exactly}
use Rattle.history.specs.History.{Collecting, Within}
use Rattle.history.specs.laws.Demands.{marked-answered}
use Rattle.history.specs.Promise.{reached_by, heard_of, repetition_of, by_marks, AnsweredBy, UnansweredLeaves, RepeatLeaves, StateExactly, MarkedExactly, LimitsExactly, OpenedLeaves, UnopenedLeaves, UndroppedLeaves, StateDropExactly, DropKeepsStores}
use Rattle.history.specs.laws.Samples.{computing, small, body_last}
use Rattle.history.specs.laws.Trials.{fits, five, other_kind, group_five, group_six, group_last, none, one, many, named, worn_one, worn, worn-allowed, with_counts, with_stores, with_header, with_body, with_marks, recounted-bytes, recounted, damaged, is-damaged, uneven, doubted, found_slot, opening_number, opening_by, taking_by, dropping_by, finding_by}
use Rattle.history.specs.laws.Worthless.{choosing, kind_first}
use Rattle.history.specs.State.{OfBytes}
use Rattle.history.specs.laws.Call.{defined}

-- ---- an opening is LIMITS

-- open, whatever was asked for
abbrev open_for : Start → Opened
open_for start = record {
  opening = Ok tt;
  left = record {
    collector = all_free start.limit start.count;
    counts = none_yet;
    stores = with_marks (zeros (length start.stores.marks)) start.stores;
  };
}

-- refused, with a collector of limit 0 and no slots
abbrev refused_for : Start → Opened
refused_for start = record {
  opening = Err Reason.Limits;
  left = record { collector = all_free 0 0; counts = start.counts; stores = start.stores };
}

-- another limit, and other stores lent
abbrev start_with : ℕ → Stores → Start → Start
start_with limit stores start = record { limit = limit; count = start.count; counts = start.counts; stores = stores }

-- every limit is good, if a body store of that size is lent
abbrev pub any_limit : Start → Opened
any_limit start =
    pick (in_limits (start_with limit_least (with_body (zeros (start.count * limit_least)) start.stores) start))
    (pick (eqb (length start.stores.body) (start.count * start.limit)) (open_for start) (refused_for start))
    (refused_for start)

-- limit 0, and nothing lent for bodies
abbrev limitless : Start
limitless = record {
  limit = 0;
  count = 1;
  counts = none_yet;
  stores = record { header = replicate 1024 0; body = []; marks = replicate 1088 7 };
}

without-limit : ¬ (Within limitless)
without-limit w = absurd (omega (arith, w.least))

pub any-limit-breaks : ¬ (LimitsExactly (opening_by any_limit))
unfolding computing
any-limit-breaks p =
    let e : ◌≡◌ {A = ℕ} 0 25 = ap opening_number ((p limitless).0.1 without-limit) in
    absurd (omega arith)

-- LIMITS for 16 slots, the most there may be
abbrev pub fewer_than_sixteen : Start → Opened
fewer_than_sixteen start = pick (ltb start.count slots_most) (open_with start) (refused_for start)

abbrev sixteen : Start
sixteen = record {
  limit = 1024;
  count = 16;
  counts = none_yet;
  stores = record { header = replicate 16384 0; body = replicate 16384 0; marks = replicate 17408 0 };
}

within-sixteen : Within sixteen
within-sixteen = record {
  header = length-replicate {A = ℕ} 16384 0;
  body = length-replicate {A = ℕ} 16384 0;
  marks = length-replicate {A = ℕ} 17408 0;
  least = omega arith;
  most = omega arith;
  some = omega arith;
  slots = omega arith;
}

pub fewer-than-sixteen-breaks : ¬ (LimitsExactly (opening_by fewer_than_sixteen))
fewer-than-sixteen-breaks p = (p sixteen).0.0 refl within-sixteen

-- open where more is lent for headers than is needed
abbrev pub more_lent : Start → Opened
more_lent start =
    pick (in_limits (start_with start.limit (with_header (zeros (start.count * header_most)) start.stores) start))
    (pick (leb (start.count * header_most) (length start.stores.header)) (open_for start) (refused_for start))
    (refused_for start)

-- one slot, and headers lent for two
abbrev generous : Start
generous = record {
  limit = 1024;
  count = 1;
  counts = none_yet;
  stores = record { header = replicate 2048 0; body = replicate 1024 0; marks = replicate 1088 0 };
}

pub more-lent-breaks : ¬ (LimitsExactly (opening_by more_lent))
unfolding computing
more-lent-breaks p =
    let e : ◌≡◌ {A = ℕ} 0 25 = ap opening_number ((p generous).0.1 (λ w. absurd (omega (arith, w.header)))) in
    absurd (omega arith)

-- ---- what an opening leaves

-- an opening clears the header store
abbrev pub clears_store : Start → Opened
clears_store start = record {
  opening = (open_with start).opening;
  left = with_stores (with_header (zeros (length start.stores.header)) (open_with start).left.stores)
      (open_with start).left;
}

-- it touches no store
pub clears-store-breaks : ¬ (OpenedLeaves (opening_by clears_store))
unfolding computing worn
clears-store-breaks p =
    let e : ◌≡◌ {A = ℕ} 0 7 = ap (λ (s : State). get_or s.stores.header 0 0) (p worn worn-allowed.limits) in
    absurd (omega arith)

-- an opening leaves the marks as they were
abbrev pub leaves_marks : Start → Opened
leaves_marks start = record {
  opening = (open_with start).opening;
  left =
      with_stores start.stores (open_with start).left;
}

-- it sets them to 0
pub leaves-marks-breaks : ¬ (OpenedLeaves (opening_by leaves_marks))
unfolding computing worn
leaves-marks-breaks p =
    let e : ◌≡◌ {A = ℕ} 7 0 = ap (λ (s : State). get_or s.stores.marks 0 0) (p worn worn-allowed.limits) in
    absurd (omega arith)

-- the marks are cleared before the limits are asked for
abbrev pub clears_first : Start → Opened
clears_first start = record {
  opening = (open_with start).opening;
  left = with_stores (with_marks (zeros (length start.stores.marks)) start.stores) (open_with start).left;
}

-- an opening that is refused leaves all that is lent
pub clears-first-breaks : ¬ (UnopenedLeaves (opening_by clears_first))
unfolding computing
clears-first-breaks p =
    let e : ◌≡◌ {A = ℕ} 0 7 = ap (λ (stores : Stores). get_or stores.marks 0 0) (p limitless without-limit).1 in
    absurd (omega arith)

-- LIMITS, and a collector whose limit has been raised to the least
abbrev pub raises_limit : Start → Opened
raises_limit start =
    pick (leb limit_least start.limit)
    (open_with start)
    (record {
      opening = Err Reason.Limits;
      left = record { collector = all_free limit_least start.count; counts = start.counts; stores = start.stores };
    })

-- limit 0, with all that a limit of 1,024 needs
abbrev low : Start
low = record {
  limit = 0;
  count = 1;
  counts = none_yet;
  stores = record { header = replicate 1024 0; body = replicate 1024 0; marks = replicate 1088 0 };
}

-- what it hands back is STATE to every call
pub raises-limit-breaks : ¬ (UnopenedLeaves (opening_by raises_limit))
unfolding computing
raises-limit-breaks p =
    let bytes : OfBytes low.stores = record { header = bytes-zeros 1024; body = bytes-zeros 1024 } in
    (p low (λ w. absurd (omega (arith, w.least)))).2 ((in-order-exactly (raises_limit low).left bytes).0 refl)

-- ---- what a drop leaves

-- a drop clears the header of the object that it drops
abbrev cleared_in : Option ℕ → Stores → Stores
cleared_in None stores = stores
cleared_in (Some i) stores = with_header (over stores.header (i * header_most) (zeros header_most)) stores

abbrev pub clears_header : ℕ → State → Reply
clears_header number s = record {
  answer = (drop_number number s).answer;
  left = with_stores (cleared_in (find number s) (drop_number number s).left.stores) (drop_number number s).left;
}

pub clears-header-breaks : ¬ (DropKeepsStores (dropping_by clears_header))
unfolding computing small
clears-header-breaks p =
    let e : ◌≡◌ {A = ℕ} 0 3 = ap (λ (l : List ℕ). get_or l 4 0) (p 5 (reached_by defined one)).0 in
    absurd (omega arith)

-- the drop of the last object clears the body store
abbrev emptied : Stores → Stores
emptied stores = pick (eqb (largest_of stores.marks) 0) (with_body (zeros (length stores.body)) stores) stores

abbrev pub clears_empty : ℕ → State → Reply
clears_empty number s = record {
  answer = (drop_number number s).answer;
  left = with_stores (emptied (drop_number number s).left.stores) (drop_number number s).left;
}

pub clears-empty-breaks : ¬ (DropKeepsStores (dropping_by clears_empty))
unfolding computing worn
clears-empty-breaks p =
    let e : ◌≡◌ {A = ℕ} 0 7 = ap (λ (l : List ℕ). get_or l 0 0) (p 5 (reached_by defined worn_one)).1 in
    absurd (omega arith)

-- a number that is not held is counted as refused
abbrev pub counts_undropped : ℕ → State → Reply
counts_undropped number s =
    pick (eqb (number_of (drop_number number s).answer) 19)
    (record { answer = Answer.Denied Reason.NotHeld; left = with_counts (one_refused s.counts) s })
    (drop_number number s)

pub counts-undropped-breaks : ¬ (UndroppedLeaves (dropping_by counts_undropped))
unfolding computing small
counts-undropped-breaks p =
    let s : State = reached_by defined none in
    let e : ◌≡◌ {A = ℕ} 1 0 = ap (λ (t : State). t.counts.refused) (p 5 s (omega arith)) in
    absurd (omega arith)

-- ---- what a repeat leaves

-- it is counted as taken too
abbrev pub repeat_taken : List ℕ → State → Reply
repeat_taken bytes s =
    pick (eqb (number_of (take_group bytes s).answer) 2)
    (record { answer = (take_group bytes s).answer; left = with_counts (one_taken (take_group bytes s).left.counts) s })
    (take_group bytes s)

pub repeat-taken-breaks : ¬ (RepeatLeaves (taking_by repeat_taken))
unfolding computing small group_five
repeat-taken-breaks p =
    let s : State = reached_by defined one in
    let e : ◌≡◌ {A = ℕ} 2 1 = ap (λ (t : State). t.counts.taken)
    (p (group five) s (heard_of group_five) (repetition_of group_five) refl) in
    absurd (omega arith)

-- its bytes are written once more, at its number times its own length
abbrev place_in : ℕ → Carried → State → ℕ
place_in i carried s = i * limit_of s + carried.heard.segment * carried.bytes.length

abbrev written_in : Option ℕ → Carried → List ℕ → State → State
written_in None carried bytes s = s
written_in (Some i) carried bytes s =
    with_stores (with_body (over s.stores.body (place_in i carried s) (segment_in bytes carried).bytes) s.stores) s

abbrev written_as : Result Carried Refusal → List ℕ → State → State
written_as (Ok carried) bytes s = written_in (find carried.heard.number s) carried bytes s
written_as (Err why) bytes s = s

abbrev pub repeat_written : List ℕ → State → Reply
repeat_written bytes s =
    pick (eqb (number_of (take_group bytes s).answer) 2)
    (record { answer = (take_group bytes s).answer; left = written_as (reading_of bytes) bytes (take_group bytes s).left })
    (take_group bytes s)

pub repeat-written-breaks : ¬ (RepeatLeaves (taking_by repeat_written))
unfolding computing small group_last
repeat-written-breaks p =
    let s : State = reached_by defined many in
    let e : ◌≡◌ {A = ℕ} 0x74 0x65 =
    ap (λ (t : State). get_or t.stores.body 4 0)
    (p (group body_last) s (heard_of group_last) (repetition_of group_last) refl) in
    absurd (omega arith)

-- ---- in a damaged state

-- a group does not look at the counts
abbrev read_uncounted : Result Carried Refusal → List ℕ → State → Reply
read_uncounted (Err why) bytes s = answering (Answer.Refused why) s
read_uncounted (Ok carried) bytes s = into_held (find carried.heard.number s) (arrival_in bytes carried) s

abbrev pub takes_uncounted : List ℕ → State → Reply
takes_uncounted bytes s =
    pick (sound_slots (limit_of s) s.collector.count s.collector.slots s.stores)
    (read_uncounted (reading_of bytes) bytes s)
    (answering (Answer.Denied Reason.State) s)

pub takes-uncounted-breaks : ¬ (StateExactly (taking_by takes_uncounted))
unfolding computing small
takes-uncounted-breaks p =
    let e : ◌≡◌ {A = ℕ} 2 26 = ap number_of ((p (group five) damaged (recounted-bytes one)).1 is-damaged) in
    absurd (omega arith)

-- STATE where more objects were completed than segments taken
abbrev pub takes_doubting : List ℕ → State → Reply
takes_doubting bytes s =
    pick (ltb s.counts.taken s.counts.completed) (answering (Answer.Denied Reason.State) s) (take_group bytes s)

pub takes-doubting-breaks : ¬ (StateExactly (taking_by takes_doubting))
unfolding computing small
takes-doubting-breaks p = (p (group five) doubted (recounted-bytes one)).0 refl (recounted one uneven refl)

-- a drop is carried out in any state
abbrev pub drops_damaged : ℕ → State → Reply
drops_damaged number s = drop_found (find number s) number s

pub drops-damaged-breaks : ¬ (StateDropExactly (dropping_by drops_damaged))
unfolding computing small
drops-damaged-breaks p =
    let e : ◌≡◌ {A = ℕ} 3 26 = ap number_of ((p 5 damaged (recounted-bytes one)).1 is-damaged) in
    absurd (omega arith)

-- STATE where more objects were dropped than segments taken
abbrev pub drops_doubting : ℕ → State → Reply
drops_doubting number s =
    pick (ltb s.counts.taken s.counts.dropped) (answering (Answer.Denied Reason.State) s) (drop_number number s)

pub drops-doubting-breaks : ¬ (StateDropExactly (dropping_by drops_doubting))
unfolding computing small
drops-doubting-breaks p = (p 5 doubted (recounted-bytes one)).0 refl (recounted one uneven refl)

-- STATE is counted as refused
abbrev pub counts_state : List ℕ → State → Reply
counts_state bytes s =
    pick (sound s) (take_group bytes s)
    (record { answer = Answer.Denied Reason.State; left = with_counts (one_refused s.counts) s })

pub counts-state-breaks : ¬ (UnansweredLeaves (taking_by counts_state))
unfolding computing small
counts-state-breaks p =
    let e : ◌≡◌ {A = ℕ} 1 0 = ap (λ (t : State). t.counts.refused) (p (group five) damaged (omega arith)) in
    absurd (omega arith)

-- STATE, and the collector is as after an opening
abbrev anew : State → State
anew s = record {
  collector = all_free (limit_of s) s.collector.count;
  counts = none_yet;
  stores = with_marks (zeros (length s.stores.marks)) s.stores;
}

abbrev pub starts_anew : List ℕ → State → Reply
starts_anew bytes s = pick (sound s) (take_group bytes s) (record { answer = Answer.Denied Reason.State; left = anew s })

pub starts-anew-breaks : ¬ (UnansweredLeaves (taking_by starts_anew))
unfolding computing small
starts-anew-breaks p =
    let e : ◌≡◌ {A = ℕ} 0 (suc ceiling) = ap (λ (t : State). t.counts.taken) (p (group five) damaged (omega arith)) in
    absurd (omega arith)

-- so to a drop
abbrev pub drops_anew : ℕ → State → Reply
drops_anew number s = pick (sound s) (drop_number number s)
    (record { answer = Answer.Denied Reason.State; left = anew s })

pub drops-anew-breaks : ¬ (UndroppedLeaves (dropping_by drops_anew))
unfolding computing small
drops-anew-breaks p =
    let e : ◌≡◌ {A = ℕ} 0 (suc ceiling) = ap (λ (t : State). t.counts.taken) (p 5 damaged (omega arith)) in
    absurd (omega arith)

-- ---- in a state that no run reaches: an object is held, and the counts are 0

abbrev uncounted : State
uncounted = with_counts none_yet (reached_by defined one)

by-marks : (k : Collecting) → MarkedExactly k → AnsweredBy k (by_marks uncounted)
unfolding computing
by-marks k p = p uncounted (recounted-bytes one) (recounted one none_yet refl)

-- where nothing was taken yet the first slot is free: a group meets the marks of the object there, and is CONFLICT
abbrev pub first_slot_free : List ℕ → State → Reply
first_slot_free bytes s =
    choosing (λ carried t. pick (eqb t.counts.taken 0) (Some 0) (free t)) (reading_of bytes) bytes s

-- it is FULL
pub first-slot-free-breaks : ¬ (MarkedExactly (taking_by first_slot_free))
unfolding computing small group_six
first-slot-free-breaks p =
    let e : ◌≡◌ {A = ℕ} 17 18 = ap number_of
    (((by-marks (taking_by first_slot_free) p).full group_six).1 (fits, refl, refl)) in
    absurd (omega arith)

-- a group that is not read
pub kind-first-unmarked : ¬ (MarkedExactly (taking_by kind_first))
unfolding computing small
kind-first-unmarked p =
    let e : ◌≡◌ {A = ℕ} 13 12 = ap number_of ((by-marks (taking_by kind_first) p).unread other_kind Refusal.BadCheck refl) in
    absurd (omega arith)

-- where nothing was taken yet no number is held
abbrev pub none_taken : ℕ → State → Reply
none_taken number s =
    pick (both (sound s) (eqb s.counts.taken 0)) (answering (Answer.Denied Reason.NotHeld) s) (drop_number number s)

-- a drop of it is DROPPED
pub none-taken-breaks : ¬ (MarkedExactly (dropping_by none_taken))
unfolding computing small
none-taken-breaks p =
    let e : ◌≡◌ {A = ℕ} 19 3 = ap number_of (((by-marks (dropping_by none_taken) p).dropping 5).0.1 held) in
    absurd (omega arith)
  where
    held : find 5 uncounted ≢ None
    held e = let z : ◌≡◌ {A = ℕ} 0 16 = ap found_slot e in absurd (omega arith)

-- where nothing was completed yet no object has a name
abbrev pub none_completed : List ℕ → State → Result ℕ Reason
none_completed sought s =
    pick (both (sound s) (eqb s.counts.completed 0)) (Err Reason.NotFound) (queries.find sought s)

abbrev named_uncounted : State
named_uncounted = with_counts none_yet (reached_by defined named)

-- a question: it is found
pub none-completed-breaks : ¬ (MarkedExactly (finding_by none_completed))
unfolding computing small
none-completed-breaks p =
    let whole = recounted named none_yet refl in
    let m = ((marked-answered named_uncounted (recounted-bytes named) whole).found (0x61 ∷ []) 5).0 refl in
    ((p named_uncounted (recounted-bytes named) whole).not_found (0x61 ∷ [])).0 refl 5 m.object m.finished m.named
