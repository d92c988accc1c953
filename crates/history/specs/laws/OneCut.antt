-- Where all that is stored under a number since it took its slot comes from one cut of one object, groups of that cut
-- never conflict, in any order, repeated, mixed with any other calls; and once all its segments have come, each with
-- a slot there, it is finished and shown with that header and that body.
use Rattle.std.specs.Prelude.{◌≡◌, ◌≢◌, ◌⊎◌, Bool, ℕ, eqb, length}
use Rattle.std.proofs.Math.Path.{refl}
use Rattle.std.proofs.Common.{sym, subst, inl, inr, eqb-true}
use Rattle.std.proofs.Math.Bool.{true, false}
use mathlib.Core.List.{List, [], ◌∷◌}
use Rattle.answer.specs.declared.Answer.{Answer}
use Rattle.answer.specs.declared.Part.{Part}
use Rattle.answer.specs.declared.Part.TheVariants.{Header, Body}
use Rattle.cut.specs.Lists.{pick, Each, Among}
use Rattle.cut.specs.Requirement.{Segment, Fits, Finished}
use Rattle.cut.specs.Parts.{headers_with, bodies_with}
use Rattle.cut.specs.laws.Theorem.{fits-sent}
use Rattle.object.specs.declared.Stage.TheVariants as Stage
use Rattle.object.specs.declared.Outcome.{Outcome}
use Rattle.object.specs.declared.Outcome.TheVariants.{Stored, Complete, Repeat, Conflict}
use Rattle.object.specs.Source.{Source, SegmentOf, SentBy}
use Rattle.collector.specs.Calls.{answer_for, show}
use Rattle.collector.specs.State.{Start}
use Rattle.collector.specs.Arrival.{heard_as, Arrival}
use Rattle.history.specs.Held.{stage_for}
use Rattle.history.specs.laws.Call.{drop_answer, came, defined, handed_answer}
use Rattle.history.specs.History.{Call, hand, drop, ask, CallBytes, Allowed, reached, told, is_stored, is_dropped, with, under, stored_under, after_handed}
use Rattle.history.specs.Handed.{Handed, HandedBytes, Brought, arrives, refused, brought_by}
use Rattle.history.specs.laws.Reached.{reached-intact}
use Rattle.history.specs.laws.Answers.{came-named}
use Rattle.history.specs.Promise.{Run, reached_by, told_by, stored, Passing, segment_of, heard_of, since, answer_to, FitsStored, StoredFrom, had_slot, came_under}
use Rattle.history.specs.laws.Demands.{run-answered, finished-lengths}
use Rattle.history.specs.Taking.{take}

-- what is stored fits the object, with one more segment that it sends
more-fits : (limit : ℕ) (object : Source limit) (part : Part) (segment : Segment) (hs bs : List Segment)
    → SentBy object part segment → Each (SentBy object Header) hs → Each (SentBy object Body) bs
    → Fits limit (headers_with part segment hs) (bodies_with part segment bs)
more-fits limit object Header segment hs bs u h b = fits-sent object (segment ∷ hs) bs (u, h) b
more-fits limit object Body segment hs bs u h b = fits-sent object hs (segment ∷ bs) h (u, b)

-- where all that is stored under a number comes from one cut of one object, a group of that cut does not conflict
pub one-cut-agrees : (r : Run) (object : Source r.start.limit) (number : ℕ)
    → StoredFrom object number (since defined r)
    → (g : Passing) → g.arrived.number ≡ number → SentBy object g.arrived.part (segment_of g)
    → answer_to defined (since defined r) g ≢ Answer.Conflict (heard_of g)
one-cut-agrees r object number f g n u e =
    ((run-answered r).conflict g).0 e
    (more-fits r.start.limit object g.arrived.part (segment_of g) (stored defined r Header g.arrived.number)
    (stored defined r Body g.arrived.number) u (rw n (f Header)) (rw n (f Body)))

-- ---- all of it that came is stored

module _ {limit : ℕ} (object : Source limit) (part : Part) where
  -- each segment of the object that is among those that came is among those that are stored
  abbrev Into : List Segment → List Segment → Type 0
  Into came kept = (s : Segment) → SentBy object part s → Among s came → Among s kept

  -- one more of each
  both-more : (p : Part) (segment : Segment) (came kept : List Segment) → Into came kept
      → Into (with part p segment came) (with part p segment kept)
  both-more = go part
    where
      go : (q p : Part) (segment : Segment) (came kept : List Segment) → Into came kept
          → Into (with q p segment came) (with q p segment kept)
      go Header Header segment came kept into s u (inl e) = inl e
      go Header Header segment came kept into s u (inr i) = inr (into s u i)
      go Header Body segment came kept into s u i = into s u i
      go Body Header segment came kept into s u i = into s u i
      go Body Body segment came kept into s u (inl e) = inl e
      go Body Body segment came kept into s u (inr i) = inr (into s u i)

  -- one more came, which is stored already if the object sends it
  once_more : (p : Part) (segment : Segment) (came kept : List Segment) → Into came kept
      → (part ≡ p → SentBy object part segment → Among segment kept) → Into (with part p segment came) kept
  once_more p segment came kept into stays = go part p (λ e. stays e)
    where
      here : (s : Segment) → segment ≡ s → (SentBy object part segment → Among segment kept) → SentBy object part s
          → Among s kept
      here s e i u = subst (λ (x : Segment). Among x kept) e
          (i (subst (λ (x : Segment). SentBy object part x) (sym e) u))

      go : (q p : Part) → (q ≡ p → SentBy object part segment → Among segment kept) → Into (with q p segment came) kept
      go Header Header i s u (inl e) = here s e (i refl) u
      go Header Header i s u (inr j) = into s u j
      go Header Body i s u j = into s u j
      go Body Header i s u j = into s u j
      go Body Body i s u (inl e) = here s e (i refl) u
      go Body Body i s u (inr j) = into s u j

  -- the segment of a group under the number
  answered-into : (p : Part) (segment : Segment) (came kept : List Segment) (answer : Answer) (arrived : Arrival)
      → Into came kept → (answer ≡ Answer.Full (heard_as arrived)) ⊎ ((o : Outcome) × (answer ≡ answer_for o arrived))
      → (part ≡ p → SentBy object part segment → answer ≢ Answer.Conflict (heard_as arrived))
      → (answer ≡ Answer.Repeat (heard_as arrived) arrived.repetition → part ≡ p → Among segment kept)
      → Into (pick (had_slot answer) (with part p segment came) came)
      (pick (is_stored answer) (with part p segment kept) kept)
  answered-into p segment came kept answer arrived into (inl e) n r = rw e into
  answered-into p segment came kept answer arrived into (inr (Stored, e)) n r =
      rw e (both-more p segment came kept into)
  answered-into p segment came kept answer arrived into (inr (Complete, e)) n r =
      rw e (both-more p segment came kept into)
  answered-into p segment came kept answer arrived into (inr (Repeat, e)) n r =
      rw e (once_more p segment came kept into (λ q u. r e q))
  answered-into p segment came kept answer arrived into (inr (Conflict, e)) n r =
      rw e (once_more p segment came kept into (λ q u. absurd (n q u e)))

-- ---- what is stored before a call is stored after it, unless it is dropped

with_rest : (P : Segment → Type 0) (part p : Part) (segment : Segment) (segments : List Segment)
    → Each P (with part p segment segments) → Each P segments
with_rest P Header Header segment segments e = e.1
with_rest P Header Body segment segments e = e
with_rest P Body Header segment segments e = e
with_rest P Body Body segment segments e = e.1

handed-rest : (P : Segment → Type 0) (part : Part) (number : ℕ) (answer : Answer) (brought : Brought)
    (segments : List Segment) → Each P (after_handed is_stored part number brought answer segments) → Each P segments
handed-rest P part number answer (refused why) segments e = e
handed-rest P part number answer (arrives arrived) segments e = go (eqb arrived.number number) (is_stored answer) e
  where
    go : (b d : Bool) → Each P (pick b
        (pick d (with part arrived.part arrived.segment segments) segments) segments) → Each P segments
    go true true e = with_rest P part arrived.part arrived.segment segments e
    go true false e = e
    go false d e = e

-- what was stored of a part under a number
abbrev kept : Start → List Call → Part → ℕ → List Segment
kept start calls part number = stored_under part number (told defined start calls)

module _ (start : Start) (allowed : Allowed start) (object : Source start.limit) (number : ℕ) (part : Part) where
  -- all that is stored comes from the object
  abbrev From : List Call → Type 0
  From calls = (q : Part) → Each (SentBy object q) (kept start calls q number)

  handed-into : (given : Handed) (calls : List Call) → HandedBytes given → Each CallBytes calls → From calls
      → Into object part (came_under part number (told defined start calls)) (kept start calls part number)
      → Into object part (came_under part number (told defined start (hand given ∷ calls)))
      (kept start (hand given ∷ calls) part number)
  unfolding under
  handed-into given calls b y f into = go (brought_by given) refl
    where
      run : Run
      run = record { start = start; allowed = allowed; calls = calls; bytes = y }

      arrivals : List Segment
      arrivals = came_under part number (told defined start calls)

      held : List Segment
      held = kept start calls part number

      answer : Answer
      answer = handed_answer given (reached defined start calls)

      mine : (arrived : Arrival) → brought_by given ≡ arrives arrived → arrived.number ≡ number
          → Into object part (pick (had_slot answer)
          (with part arrived.part arrived.segment arrivals) arrivals)
          (pick (is_stored answer) (with part arrived.part arrived.segment held) held)
      mine arrived r n =
          let g : Passing = record { given = given; are_bytes = b; arrived = arrived; brought = r } in
          answered-into object part arrived.part arrived.segment arrivals held answer arrived into
          (came-named arrived (reached defined start calls)
          (take given (reached defined start calls))
          (came given (reached defined start calls) (reached-intact start allowed calls y).undamaged arrived r))
          (λ q u. one-cut-agrees run object number f g n (rw q at u))
          (λ e q. rw (q, ← n) (((run-answered run).repeated g).0 e))

      under-it : (arrived : Arrival) → brought_by given ≡ arrives arrived → (t : Bool) → eqb arrived.number number ≡ t
          → Into object part (pick t (pick (had_slot answer)
          (with part arrived.part arrived.segment arrivals) arrivals) arrivals)
          (pick t (pick (is_stored answer) (with part arrived.part arrived.segment held) held) held)
      under-it arrived r true e = mine arrived r (eqb-true arrived.number number e)
      under-it arrived r false e = into

      go : (brought : Brought) → brought_by given ≡ brought
          → Into object part (after_handed had_slot part number (brought_by given) answer arrivals)
          (after_handed is_stored part number (brought_by given) answer held)
      go (refused why) r = rw r into
      go (arrives arrived) r = rw r (under-it arrived r (eqb arrived.number number) refl)

  came-stored : (calls : List Call) → Each CallBytes calls → From calls
      → Into object part (came_under part number (told defined start calls)) (kept start calls part number)
  unfolding under
  came-stored [] y f = λ s u i. i
  came-stored (hand given ∷ calls) y f =
      let before : From calls = λ q. handed-rest (SentBy object q) q number
      (handed_answer given (reached defined start calls)) (brought_by given) (kept start calls q number) (f q) in
      handed-into given calls y.0 y.1 before (came-stored calls y.1 before)
  came-stored (drop other ∷ calls) y f =
      go (eqb other number) (is_dropped (drop_answer other (reached defined start calls))) (came-stored calls y.1) f
    where
      -- a drop of the number leaves none of either
      go : (b d : Bool) → (From calls
          → Into object part (came_under part number (told defined start calls)) (kept start calls part number))
          → ((q : Part) → Each (SentBy object q)
          (pick b (pick d [] (kept start calls q number)) (kept start calls q number)))
          → Into object part (pick b (pick d [] (came_under part number (told defined start calls)))
          (came_under part number (told defined start calls)))
          (pick b (pick d [] (kept start calls part number)) (kept start calls part number))
      go true true before f = λ s u i. i
      go true false before f = before f
      go false d before f = before f
  came-stored (ask question ∷ calls) y f = came-stored calls y.1 f

-- once every segment that it has has come under the number, each with a slot there, it is finished and shown
pub one-cut-finishes : (r : Run) (object : Source r.start.limit) (number : ℕ)
    → StoredFrom object number (since defined r)
    → ((part : Part) (s : Segment) → SegmentOf object part s → Among s (came_under part number (told_by defined r)))
    → (stage_for number (reached_by defined r) ≡ Stage.Finished (length object.header) (length object.body))
    × (show number Header (reached_by defined r) ≡ object.header)
    × (show number Body (reached_by defined r) ≡ object.body)
one-cut-finishes r object number f all =
    let shows = (run-answered r).shown number fit done in
    (finished-lengths r number fit done, shows.0, shows.1)
  where
    fit : FitsStored (since defined r) number
    fit = fits-sent object (stored defined r Header number) (stored defined r Body number)
        (f Header) (f Body)

    done : Finished fit
    done = record {
      header = λ s u. came-stored r.start r.allowed object number Header r.calls r.bytes f s (inl u)
          (all Header s u);
      body = λ s u. came-stored r.start r.allowed object number Body r.calls r.bytes f s (inl u)
          (all Body s u);
    }
