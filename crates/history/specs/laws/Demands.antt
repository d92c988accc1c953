-- What is answered in a state whose slots hold just what is stored, call by call; then so after any run, and so by
-- the marks of any state that is not damaged.
use Rattle.std.specs.Prelude.{◌≡◌, refl, ◌≢◌, ◌⊎◌, ◌↔◌, Result, Option, None, List, [], ◌∷◌, ℕ, ◌≤◌, length, Ok, Some}
use Rattle.std.proofs.Common.{ap, subst, inl, inr, arith}
use Rattle.answer.specs.declared.Answer.TheVariants as Answer
use Rattle.answer.specs.declared.Reason.TheVariants as Reason
use Rattle.answer.specs.declared.Part.{Part}
use Rattle.answer.specs.declared.Part.TheVariants.{Header, Body}
use Rattle.answer.specs.declared.Refusal.{Refusal}
use Rattle.cut.specs.Requirement.{Segment, empty, Fits, Finished}
use Rattle.cut.specs.Parts.{those}
use Rattle.cut.specs.Lists.{Each, Among}
use Rattle.object.specs.declared.Stage.TheVariants as Stage
use Rattle.object.specs.declared.Outcome.{Outcome}
use Rattle.object.specs.declared.Outcome.TheVariants.{Stored, Complete, Repeat, Conflict}
use Rattle.object.specs.laws.Step.{late}
use Rattle.collector.specs.State.{Start, Reply, State, find}
use Rattle.collector.specs.Calls.{answer_for, show}
use Rattle.queries.specs.Missing.{missing}
use Rattle.queries.specs.laws.Theorems.{core-shown}
use Rattle.history.specs.Held.{SlotFor, Same, limit_of, stage_for, marked_under}
use Rattle.history.specs.laws.Call.{drop_answer, unread, came, none_dropped, found-dropped, defined}
use Rattle.history.specs.laws.Ready.{used-inside, found-used}
use Rattle.history.specs.laws.Sound.{Intact, brought-bytes, handed-intact}
use Rattle.history.specs.laws.State.{in-order-exactly, drop-never, located-never, told-never, found-never, awaited-never, handed-never}
use Rattle.wire.specs.declared.Carried.{Carried}
use Rattle.wire.specs.laws.Theorems.{ignored, read-repetition}
use Rattle.collector.specs.Arrival.{segment_in, heard_in, arrival_in}
use Rattle.history.specs.laws.Numbers.{byte_low}
use Rattle.history.specs.Handed.{brought_in, group}
use Rattle.history.specs.State.{OfBytes, InOrder}
use Rattle.history.specs.laws.Others.{same-shown}
use Rattle.history.specs.History.{Question, Call, hand, drop, ask, CallBytes, Keeps, Elsewhere, event, after, Allowed, reached, told}
use Rattle.history.specs.laws.Stands.{StandsFor, came-lowest}
use Rattle.history.specs.laws.Reached.{reached-intact, reached-stands, reached-limit, others_same}
use Rattle.history.specs.laws.Answers.{Meets, Room, came-exactly, came-full, marked-stands}
use Rattle.history.specs.laws.Stage.{none-finished, all_finished, finished-all, finished-shown, unfinished-shown}
use Rattle.history.specs.laws.Told.{not-held, unfinished, located-exactly, read-exactly, name-finished, name-missing, found-exactly, nobody-exactly}
use Rattle.history.specs.laws.Awaited.{awaited-exactly, awaited-not-held, none-awaited, outside-exactly, never-rises}
use Rattle.history.specs.laws.Room.{unheld-exactly}
use Rattle.history.specs.Promise.{Run, reached_by, stored, Passing, segment_of, heard_of, repetition_of, View, since, by_marks, answer_to, FitsStored, NotState, ConflictBy, FullBy, RepeatBy, ResentBy, CompleteBy, StoredBy, LateBy, LowestFreeBy, UnreadBy, DropBy, UnheldBy, NotHeldBy, AwaitedBy, NoneAwaitedBy, OutsideBy, UnfinishedBy, LocatedBy, ShownBy, CoreBy, UnshownBy, ReadBy, NamedBy, FoundBy, NotFoundBy, AnsweredBy}
use Rattle.history.specs.Taking.{take}

-- ---- by what is stored

-- a state, with what is stored
abbrev holding : State → (Part → ℕ → List Segment) → View
holding s kept = record { state = s; limit = limit_of s; kept = kept }

module _ (s : State) (kept : Part → ℕ → List Segment) (whole : Intact s)
    (stands : (number : ℕ) → StandsFor number s (kept Header number) (kept Body number)) where
  these : (part : Part) (number : ℕ) → those part (kept Header number) (kept Body number) ≡ kept part number
  these Header number = refl
  these Body number = refl

  -- ---- a group that passes the reading checks

  exactly : (g : Passing) (o : Outcome) → (answer_to defined (holding s kept) g ≡ answer_for o g.arrived)
      ↔ (Meets o g.arrived.part (limit_of s) (segment_of g) (kept Header g.arrived.number)
      (kept Body g.arrived.number) × Room o g.arrived.number s)
  exactly g o = came-exactly g.arrived s (kept Header g.arrived.number) (kept Body g.arrived.number)
      (brought-bytes g.given g.arrived g.are_bytes g.brought) whole (stands g.arrived.number)
      (take g.given s)
      (came g.given s whole.undamaged g.arrived g.brought) o

  conflict-by : ConflictBy defined (holding s kept)
  conflict-by g = (λ e. ((exactly g Conflict).0 e).0, λ n. (exactly g Conflict).1 (n, tt))

  full_by : FullBy defined (holding s kept)
  full_by g = came-full g.arrived s (kept Header g.arrived.number) (kept Body g.arrived.number)
      (brought-bytes g.given g.arrived g.are_bytes g.brought) whole (stands g.arrived.number)
      (take g.given s)
      (came g.given s whole.undamaged g.arrived g.brought)

  repeat-by : RepeatBy defined (holding s kept)
  repeat-by g = (λ e. rw these at ((exactly g Repeat).0 e).0, λ i. (exactly g Repeat).1 (rw these i, tt))

  resent-by : ResentBy defined (holding s kept)
  resent-by bytes again carried y e i same holds =
      let x = ignored bytes again carried same (byte_low again 0 y) holds e in
      let there : Among (segment_in again x.0) (kept x.0.heard.part x.0.heard.number) =
      rw (x.2.heard, x.2.last, x.2.bytes) i in
      let repeats : (take (group again) s).answer ≡ Answer.Repeat (heard_in x.0) x.0.repetition =
      (repeat-by (record {
        given = group again;
        are_bytes = y;
        arrived = arrival_in again x.0;
        brought = ap (λ (r : Result Carried Refusal). brought_in r again) x.1;
      })).1 there in
      rw (x.2.heard, read-repetition again x.0 x.1) at repeats

  complete-by : CompleteBy defined (holding s kept)
  complete-by g = (
    λ e. let m = (exactly g Complete).0 e in
        (m.0.0, m.0.1, m.1),
    λ m. (exactly g Complete).1 ((m.0, m.1), m.2),
  )

  stored-by : StoredBy defined (holding s kept)
  stored-by g = (
    λ e. let m = (exactly g Stored).0 e in (m.0.0, (λ i. m.0.1 (rw these i)), m.1),
    λ m. (exactly g Stored).1 ((m.0, (λ i. m.1 (rw these at i))), m.2),
  )

  late_by : LateBy defined (holding s kept)
  late_by g f d w = go (late g.arrived.part (limit_of s) (segment_of g) (kept Header g.arrived.number)
      (kept Body g.arrived.number) w f d)
    where
      slot : SlotFor g.arrived.number s
      slot r = none-finished (limit_of s) (kept Header g.arrived.number) (kept Body g.arrived.number) f d
          ((unheld-exactly g.arrived.number s (kept Header g.arrived.number) (kept Body g.arrived.number)
          whole.undamaged (stands g.arrived.number)).0 r.0).0

      stored : (part : Part) → part ≡ Body → kept Body g.arrived.number ≡ []
          → ¬ (Among (segment_of g) (kept part g.arrived.number))
      stored Header e n = let z : ◌≡◌ {A = ℕ} 0 1 = cc in absurd (omega arith)
      stored Body e n = rw n (λ i. i)

      go : Among (segment_of g) (those g.arrived.part (kept Header g.arrived.number)
          (kept Body g.arrived.number))
          ⊎ ((g.arrived.part ≡ Body) × (segment_of g ≡ empty) × (kept Body g.arrived.number ≡ []))
          → (answer_to defined (holding s kept) g ≡ Answer.Repeat (heard_of g) (repetition_of g))
          ⊎ ((answer_to defined (holding s kept) g ≡ Answer.Stored (heard_of g) (repetition_of g))
          × (g.arrived.part ≡ Body) × (segment_of g ≡ empty))
      go (inl i) = inl ((repeat-by g).1 (rw these at i))
      go (inr e) = inr (
        (stored-by g).1 ((w, inr (f, d)), stored g.arrived.part e.0 e.2, slot),
        e.0,
        e.1,
      )

  lowest_by : LowestFreeBy defined (holding s kept)
  lowest_by g none h = came-lowest g.arrived s (take g.given s)
      (brought-bytes g.given g.arrived g.are_bytes g.brought) whole
      (handed-intact g.given s g.are_bytes whole)
      (came g.given s whole.undamaged g.arrived g.brought) none h

  -- ---- one that does not, and a drop

  unread-by : UnreadBy defined (holding s kept)
  unread-by bytes why e =
      ap (λ (t : Reply). t.answer)
      (unread (group bytes) s whole.undamaged why (ap (λ (r : Result Carried Refusal). brought_in r bytes) e))

  drop-by : DropBy defined (holding s kept)
  drop-by number = go (find number s) refl
    where
      go : (found : Option ℕ) → find number s ≡ found
          → ((drop_answer number s ≡ Answer.Dropped number) ↔ (find number s ≢ None))
          × ((drop_answer number s ≡ Answer.Denied Reason.NotHeld) ↔ (find number s ≡ None))
      go None e =
          let a : drop_answer number s ≡ Answer.Denied Reason.NotHeld =
          ap (λ (t : Reply). t.answer) (none_dropped number s whole.undamaged e) in
          (((λ d. let z : ◌≡◌ {A = ℕ} 0 1 = cc in absurd (omega arith)), (λ n. absurd (n e))), ((λ d. e), (λ n. a)))
      go (Some i) e =
          let a : drop_answer number s ≡ Answer.Dropped number =
          ap (λ (t : Reply). t.answer) (found-dropped number s whole.undamaged i
          (used-inside s whole.undamaged i (found-used s whole.undamaged number i e)) e) in (
            ((λ d n. let z : ◌≡◌ {A = ℕ} 0 1 = cc in absurd (omega arith)), (λ n. a)),
            (
              (λ d. let z : ◌≡◌ {A = ℕ} 0 1 = cc in absurd (omega arith)),
              (λ n. let z : ◌≡◌ {A = ℕ} 0 1 = cc in absurd (omega arith)),
            ),
          )

  unheld-by : UnheldBy defined (holding s kept)
  unheld-by number = unheld-exactly number s (kept Header number) (kept Body number) whole.undamaged (stands number)

  -- ---- the questions

  not-held-by : NotHeldBy defined (holding s kept)
  not-held-by number =
      let x = not-held number s (kept Header number) (kept Body number) whole.undamaged (stands number) in
      (x.0, x.1, awaited-not-held number s (kept Header number) (kept Body number) whole.undamaged (stands number))

  awaited-by : AwaitedBy defined (holding s kept)
  awaited-by number = awaited-exactly number s (kept Header number) (kept Body number) whole.undamaged
      (stands number)

  none-awaited-by : NoneAwaitedBy defined (holding s kept)
  none-awaited-by number = none-awaited number s (kept Header number) (kept Body number) whole.undamaged
      (stands number)

  outside-by : OutsideBy defined (holding s kept)
  outside-by number = outside-exactly number s (kept Header number) (kept Body number) whole.undamaged
      (stands number)

  unfinished-by : UnfinishedBy defined (holding s kept)
  unfinished-by number = unfinished number s (kept Header number) (kept Body number) whole.undamaged (stands number)

  located-by : LocatedBy defined (holding s kept)
  located-by number i = located-exactly number s (kept Header number) (kept Body number) whole.undamaged
      (stands number) i

  shown_by : ShownBy defined (holding s kept)
  shown_by number f d = finished-shown number s (kept Header number) (kept Body number) (stands number)
      whole.undamaged f d

  core-by : CoreBy defined (holding s kept)
  core-by number i e = core-shown number i s e

  unshown-by : UnshownBy defined (holding s kept)
  unshown-by number none part = unfinished-shown number s (kept Header number) (kept Body number) (stands number)
      whole.undamaged none part

  read_by : ReadBy defined (holding s kept)
  read_by number reading = read-exactly number s (kept Header number) (kept Body number) whole.undamaged
      (stands number) reading

  named_by : NamedBy defined (holding s kept)
  named_by number = (
    name-finished number s (kept Header number) (kept Body number) whole.undamaged (stands number),
    name-missing number s (kept Header number) (kept Body number) whole.undamaged (stands number),
  )

  found-by : FoundBy defined (holding s kept)
  found-by sought number = (
    λ e. let h = (found-exactly s kept whole.undamaged stands sought number).0 e in
        record { object = h.0.0; finished = h.0.1; named = h.0.2; lowest = λ other f d n. h.1 other (f, d, n) },
    λ l. (found-exactly s kept whole.undamaged stands sought number).1
        ((l.object, l.finished, l.named), λ other h. l.lowest other h.0 h.1 h.2),
  )

  not-found-by : NotFoundBy defined (holding s kept)
  not-found-by sought = (
    λ e number f d n. (nobody-exactly s kept whole.undamaged stands sought).0 e number (f, d, n),
    λ none. (nobody-exactly s kept whole.undamaged stands sought).1 (λ number h. none number h.0 h.1 h.2),
  )

  answered : AnsweredBy defined (holding s kept)
  answered = record {
    conflict = conflict-by;
    full = full_by;
    repeated = repeat-by;
    resent = resent-by;
    complete = complete-by;
    storing = stored-by;
    late = late_by;
    lowest = lowest_by;
    unread = unread-by;
    dropping = drop-by;
    unheld = unheld-by;
    not_held = not-held-by;
    awaited = awaited-by;
    none_awaited = none-awaited-by;
    outside = outside-by;
    unfinished = unfinished-by;
    located = located-by;
    shown = shown_by;
    core = core-by;
    unshown = unshown-by;
    reading = read_by;
    named = named_by;
    found = found-by;
    not_found = not-found-by;
  }

-- a state that is not damaged, however it came about, is answered by its marks
pub marked-answered : (s : State) → OfBytes s.stores → InOrder s → AnsweredBy defined (by_marks s)
marked-answered s y w =
    let whole : Intact s = record { undamaged = (in-order-exactly s y).1 w; bytes = y } in
    answered s (λ part number. marked_under part number s) whole (λ number. marked-stands number s whole)

-- ---- no state so reached meets STATE

event-not-state : (call : Call) (s : State) → Intact s → NotState (event defined call s)
event-not-state (hand given) s whole = handed-never given s whole.undamaged
event-not-state (drop number) s whole = drop-never number s whole.undamaged
event-not-state (ask (Question.show number part)) s whole = located-never number s whole.undamaged
event-not-state (ask (Question.parameters number)) s whole = told-never number s whole.undamaged
event-not-state (ask (Question.name number)) s whole = told-never number s whole.undamaged
event-not-state (ask (Question.find sought)) s whole = found-never sought s whole.undamaged
event-not-state (ask (Question.missing number)) s whole = awaited-never number s whole.undamaged
event-not-state (ask (Question.address bytes)) s whole = tt

pub never-state : (start : Start) → Allowed start → (calls : List Call) → Each CallBytes calls
    → Each NotState (told defined start calls)
never-state start a [] y = tt
never-state start a (call ∷ calls) y = (
  event-not-state call (reached defined start calls) (reached-intact start a calls y.1),
  never-state start a calls y.1,
)

-- ---- after any run

module _ (r : Run) where
  whole : Intact (reached_by defined r)
  whole = reached-intact r.start r.allowed r.calls r.bytes

  stands : (number : ℕ) → StandsFor number (reached_by defined r) (stored defined r Header number)
      (stored defined r Body number)
  stands number = reached-stands r.start r.allowed r.calls r.bytes number

  limit_is : limit_of (reached_by defined r) ≡ r.start.limit
  limit_is = reached-limit r.start r.allowed r.calls r.bytes

  pub run-answered : AnsweredBy defined (since defined r)
  run-answered = subst (λ (limit : ℕ). AnsweredBy defined
      (record { state = reached_by defined r; limit = limit; kept = stored defined r })) limit_is
      (answered (reached_by defined r) (stored defined r) whole stands)

  -- calls under other numbers
  pub others-held : (number : ℕ) (more : List Call) → Each CallBytes more → Each (Elsewhere number) more
      → Same number (reached_by defined r) (after defined more (reached_by defined r))
      × ((part : Part) → show number part (after defined more (reached_by defined r))
      ≡ show number part (reached_by defined r))
  others-held number more y d =
      let same = others_same number more (reached_by defined r) y d whole in (
        same.0,
        λ part. same-shown number part (reached_by defined r) (after defined more (reached_by defined r))
            whole.undamaged same.1.undamaged same.0,
      )

  -- calls that do not drop a number
  pub never-more : (number bytes : ℕ) (more : List Call) → Each CallBytes more → Each (Keeps number) more
      → missing number (reached_by defined r) ≡ Ok (Some bytes) → (fewer : ℕ)
      × (missing number (after defined more (reached_by defined r)) ≡ Ok (Some fewer)) × (fewer ≤ bytes)
  never-more number bytes more y d e =
      never-rises number bytes more (reached_by defined r) (told defined r.start r.calls) y d whole stands e

  -- the stage of a number's slot
  module _ (number : ℕ) where
    pub finished-exactly : ((header : ℕ) × (body : ℕ)
        × (stage_for number (reached_by defined r) ≡ Stage.Finished header body))
        ↔ ((f : FitsStored (since defined r) number) × Finished f)
    finished-exactly = rw limit_is at finished-now
      where
        finished-now : ((header : ℕ) × (body : ℕ)
            × (stage_for number (reached_by defined r) ≡ Stage.Finished header body))
            ↔ ((f : Fits (limit_of (reached_by defined r)) (stored defined r Header number)
            (stored defined r Body number)) × Finished f)
        finished-now = (
          (λ e. finished-all number (reached_by defined r) (stored defined r Header number)
              (stored defined r Body number) (stands number) e.0 e.1 e.2),
          (λ w. (
            length w.0.header,
            length w.0.body,
            all_finished number (reached_by defined r) (stored defined r Header number) (stored defined r Body number)
                (stands number) w.0 w.1,
          )),
        )

    pub finished-lengths : (f : FitsStored (since defined r) number) → Finished f
        → stage_for number (reached_by defined r) ≡ Stage.Finished (length f.header) (length f.body)
    finished-lengths = rw limit_is at
        (all_finished number (reached_by defined r) (stored defined r Header number) (stored defined r Body number)
        (stands number))
