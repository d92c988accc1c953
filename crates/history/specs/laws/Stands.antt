-- Each slot holds just what was stored under its number, and nothing was stored under any other number: kept by every
-- call.
use Rattle.std.proofs.Math.Path.{◌≡◌}
use Rattle.std.specs.Prelude.{refl, ◌≢◌, Option, None, Some, Bool, true, false, List, [], ◌∷◌, ℕ, ◌≤◌, ◌<◌, eqb, set}
use Rattle.std.proofs.Common.{sym, ◌∙◌, subst, arith, eq-eqb, ne_eqb}
use Rattle.std.proofs.Math.Decide.{ℕ_discrete}
use Rattle.octets.specs.Octets.{sum_of}
use Rattle.answer.specs.declared.Answer.{Answer}
use Rattle.answer.specs.declared.Part.{Part}
use Rattle.answer.specs.declared.Part.TheVariants.{Header, Body}
use Rattle.answer.specs.Table.{number_of}
use Rattle.cut.specs.Lists.{pick, Bytes}
use Rattle.cut.specs.Requirement.{Segment}
use Rattle.cut.specs.Parts.{headers_with, bodies_with}
use Rattle.object.specs.declared.Slot.{Slot}
use Rattle.object.specs.declared.Outcome.{Outcome}
use Rattle.object.specs.declared.Outcome.TheVariants.{Stored, Complete, Repeat, Conflict}
use Rattle.object.specs.Take.{Taken, take_into}
use Rattle.object.specs.laws.Shape.{IsLent}
use Rattle.object.specs.laws.Held.{Holds, Added}
use Rattle.object.specs.laws.Step.{Tells, outcome-tells}
use Rattle.object.specs.Parts.{Lent}
use Rattle.slots.specs.Stores.{free_slot, fresh_slot, slot_at}
use Rattle.slots.specs.Find.{is_free, holds, find_in, free_in}
use Rattle.slots.specs.Alone.{fits_alone}
use Rattle.slots.specs.laws.Shares.{lent_back}
use Rattle.collector.specs.State.{Reply, State, find, free}
use Rattle.collector.specs.Calls.{answer_for, drop_number, answering, sound}
use Rattle.collector.specs.Arrival.{Arrival, heard_as}
use Rattle.history.specs.Handed.{Handed, HandedBytes, Brought, arrives, refused, brought_by}
use Rattle.history.specs.laws.Slots.{held-is, is_held, free-holds, found_first, none_found, only-found, slot-here, slot-there, used-before, used-after}
use Rattle.history.specs.Held.{Same, lent_of, limit_of, slot_of}
use Rattle.history.specs.laws.Call.{replacing, offering, Came, alone, full, first, more, unread, came, none_dropped, found-dropped, cleared}
use Rattle.history.specs.laws.Ready.{slots-right, limit-low, used-inside, used-lent, found-used, found-holds, free-used, free-free, free-marks}
use Rattle.history.specs.laws.Taken.{holds-held, taken-number, fresh-gathers, fresh_added}
use Rattle.history.specs.laws.Sound.{Intact, lent-is-wide, more-lent, first-lent, brought-bytes, handed-intact}
use Rattle.history.specs.laws.Others.{came_same, drop-others}
use Rattle.history.specs.History.{Event, handed, dropped, is_stored, is_dropped, with, after_drop, under, stored_under, after_handed}
use Rattle.history.specs.State.{InUse}
use Rattle.history.specs.Taking.{take}

-- the slot that holds a number holds just these segments; if none holds it, there are none
pub record StandsFor (number : ℕ) (s : State) (hs bs : List Segment) : Type 0 where
  pub held : (i : ℕ) → find number s ≡ Some i → Holds (limit_of s) (slot_of i s) (lent_of i s) hs bs
  pub rest : find number s ≡ None → (hs ≡ []) × (bs ≡ [])

-- ... for every number, and the segments that were stored under it
abbrev pub Stands : State → List Event → Type 0
Stands s events = (number : ℕ) → StandsFor number s (stored_under Header number events) (stored_under Body number events)

same-stands : (number : ℕ) (s t : State) (hs bs : List Segment) → Same number s t → StandsFor number s hs bs
    → StandsFor number t hs bs
same-stands number s t hs bs same w = record {
  held = λ i e. let f : find number s ≡ Some i = sym same.found ∙ e in
      rw (same.slot i f, same.lent i f, same.limit) (w.held i f);
  rest = λ e. w.rest (sym same.found ∙ e);
}

-- ---- a slot is replaced by one that holds the number

module _ (number : ℕ) (answer : Answer) (i : ℕ) (slot : Slot) (lent : Lent) (s : State) (good : sound s ≡ true)
    (u : InUse i s) (l : IsLent (limit_of s) lent) (whole : Intact (replacing answer i slot lent s).left) where
  t : State
  t = (replacing answer i slot lent s).left

  here : slot_of i t ≡ slot
  unfolding t
  here = slot-here i slot s.collector.slots u.there

  lends : lent_of i t ≡ lent
  unfolding t
  lends = lent_back (limit_of s) i lent s.stores (lent-is-wide (limit_of s) lent l) (used-inside s good i u)

  replaced-found : holds number slot ≡ true → find number (replacing answer i slot lent s).left ≡ Some i
  unfolding t find_in
  replaced-found h = only-found (holds number) s.collector.count t.collector.slots i v own
      (λ j x g. (slots-right t whole.undamaged).once number j i x v g own)
    where
      v : InUse i t
      v = used-after i slot s.collector.slots s.collector.count i u

      own : holds number (slot_of i t) ≡ true
      own = rw here h

  replaced-stands : (hs bs : List Segment) → slot.number ≡ number → Holds (limit_of s) slot lent hs bs
      → StandsFor number (replacing answer i slot lent s).left hs bs
  unfolding t
  replaced-stands hs bs e h = record {
    held = held;
    rest = λ f. let z : ◌≡◌ {A = ℕ} 0 1 = cc found in
        absurd (omega arith);
  }
    where
      found : find number t ≡ Some i
      found = replaced-found (is_held number slot (holds-held (limit_of s) slot lent hs bs h) e)

      held : (j : ℕ) → find number t ≡ Some j → Holds (limit_of s) (slot_of j t) (lent_of j t) hs bs
      held j f =
          let d : i ≡ j = cc found in
          subst (λ (k : ℕ). Holds (limit_of s) (slot_of k t) (lent_of k t) hs bs) d (rw (here, lends) h)

-- ---- a group

-- what the slot holds after a segment was offered to it
told-holds : (o : Outcome) (arrived : Arrival) (part : Part) (limit : ℕ) (segment : Segment) (slot : Slot) (lent : Lent)
    (hs bs : List Segment) (t : Taken) → Holds limit slot lent hs bs → Tells o part limit segment slot lent hs bs t
    → Holds limit t.slot t.lent (pick (is_stored (answer_for o arrived)) (headers_with part segment hs) hs)
    (pick (is_stored (answer_for o arrived)) (bodies_with part segment bs) bs)
told-holds Stored arrived part limit segment slot lent hs bs t h w = w.0.holds
told-holds Complete arrived part limit segment slot lent hs bs t h w = w.0.holds
told-holds Repeat arrived part limit segment slot lent hs bs t h w = rw w.1 h
told-holds Conflict arrived part limit segment slot lent hs bs t h w = rw w.1 h

-- where it is added, the outcome is STORED or COMPLETE
added-stored : (o : Outcome) (arrived : Arrival) (part : Part) (limit : ℕ) (segment : Segment) (slot : Slot)
    (lent : Lent) (t : Taken) → Added part limit segment slot [] [] t → Tells o part limit segment slot lent [] [] t
    → is_stored (answer_for o arrived) ≡ true
added-stored Stored arrived part limit segment slot lent t a w = refl
added-stored Complete arrived part limit segment slot lent t a w = refl
added-stored Repeat arrived Header limit segment slot lent t a w = absurd w.0
added-stored Repeat arrived Body limit segment slot lent t a w = absurd w.0
added-stored Conflict arrived part limit segment slot lent t a w = absurd (w.0 a.holds.gathers.object)

-- what is stored under a number after a group that was read
abbrev next : Part → ℕ → Arrival → Answer → List Segment → List Segment
next part number arrived answer segments =
    pick (eqb arrived.number number)
    (pick (is_stored answer) (with part arrived.part arrived.segment segments) segments) segments

next-other : (part : Part) (number : ℕ) (arrived : Arrival) (answer : Answer) (segments : List Segment)
    → number ≢ arrived.number → next part number arrived answer segments ≡ segments
next-other part number arrived answer segments d = rw (ne_eqb arrived.number number (λ e. d (sym e))) refl

next-own : (part : Part) (arrived : Arrival) (answer : Answer) (segments : List Segment)
    → next part arrived.number arrived answer segments
    ≡ pick (is_stored answer) (with part arrived.part arrived.segment segments) segments
next-own part arrived answer segments = rw (eq-eqb arrived.number arrived.number refl) refl

-- nothing is stored: all stands as it did
not-stands : (arrived : Arrival) (answer : Answer) (s : State) (hs bs : List Segment) → is_stored answer ≡ false
    → StandsFor arrived.number s hs bs
    → StandsFor arrived.number (answering answer s).left
    (pick (is_stored answer) (headers_with arrived.part arrived.segment hs) hs)
    (pick (is_stored answer) (bodies_with arrived.part arrived.segment bs) bs)
not-stands arrived answer s hs bs e w = rw e (record { held = w.held; rest = w.rest })

-- the segment is offered to the slot that holds its number
more-stands : (arrived : Arrival) (s : State) (i : ℕ) (hs bs : List Segment) (taken : Taken)
    → taken ≡ take_into arrived.part (limit_of s) arrived.segment (slot_of i s) (lent_of i s)
    → Bytes arrived.segment.bytes → Intact s → Intact (offering arrived i s taken).left
    → StandsFor arrived.number s hs bs → find arrived.number s ≡ Some i
    → StandsFor arrived.number (offering arrived i s taken).left
    (pick (is_stored (answer_for taken.outcome arrived))
    (headers_with arrived.part arrived.segment hs) hs)
    (pick (is_stored (answer_for taken.outcome arrived))
    (bodies_with arrived.part arrived.segment bs) bs)
more-stands arrived s i hs bs taken same y whole whole' w n =
    replaced-stands arrived.number (answer_for taken.outcome arrived) i taken.slot taken.lent s
    whole.undamaged (found-used s whole.undamaged arrived.number i n)
    (rw same (more-lent s whole arrived.number i arrived.part arrived.segment y n))
    whole'
    (pick (is_stored (answer_for taken.outcome arrived))
    (headers_with arrived.part arrived.segment hs) hs)
    (pick (is_stored (answer_for taken.outcome arrived))
    (bodies_with arrived.part arrived.segment bs) bs)
    number
    (told-holds taken.outcome arrived arrived.part (limit_of s) arrived.segment (slot_of i s)
    (lent_of i s) hs bs taken (w.held i n) told)
  where
    number : taken.slot.number ≡ arrived.number
    number = rw same (taken-number arrived.part (limit_of s) arrived.segment (slot_of i s) (lent_of i s)) ∙ (held-is
        arrived.number (slot_of i s) (found-holds s whole.undamaged arrived.number i n)).1

    told : Tells taken.outcome arrived.part (limit_of s) arrived.segment (slot_of i s) (lent_of i s) hs bs taken
    told = rw same (outcome-tells arrived.part (limit_of s) arrived.segment (slot_of i s) (lent_of i s) hs bs
        (limit-low s whole.undamaged) y (w.held i n).gathers
        (take_into arrived.part (limit_of s) arrived.segment (slot_of i s) (lent_of i s)).outcome refl)

-- the first segment of its number takes a free slot
first-stands : (arrived : Arrival) (s : State) (i : ℕ) (taken : Taken)
    → taken ≡ take_into arrived.part (limit_of s) arrived.segment (fresh_slot arrived.number) (lent_of i s)
    → Bytes arrived.segment.bytes → Intact s → Intact (offering arrived i s taken).left
    → fits_alone arrived.part (limit_of s) arrived.segment ≡ true → free s ≡ Some i
    → (is_stored (answer_for taken.outcome arrived) ≡ true)
    × StandsFor arrived.number (offering arrived i s taken).left (headers_with arrived.part arrived.segment [])
    (bodies_with arrived.part arrived.segment [])
unfolding fresh_slot
first-stands arrived s i taken same y whole whole' a f = (
  added-stored taken.outcome arrived arrived.part (limit_of s) arrived.segment
      (fresh_slot arrived.number) (lent_of i s) taken added told,
  replaced-stands arrived.number (answer_for taken.outcome arrived) i taken.slot taken.lent s
      whole.undamaged (free-used s whole.undamaged i f)
      (rw same (first-lent s whole arrived.number i arrived.part arrived.segment y f))
      whole'
      (headers_with arrived.part arrived.segment [])
      (bodies_with arrived.part arrived.segment [])
      (rw same (taken-number arrived.part (limit_of s) arrived.segment (fresh_slot arrived.number) (lent_of i s)))
      added.holds,
)
  where
    lends : IsLent (limit_of s) (lent_of i s)
    lends = used-lent s whole.undamaged i (free-used s whole.undamaged i f) whole.bytes

    none : sum_of (lent_of i s).marks ≡ 0
    none = free-marks s whole.undamaged i f

    added : Added arrived.part (limit_of s) arrived.segment (fresh_slot arrived.number) [] [] taken
    added = rw same (fresh_added arrived.part (limit_of s) arrived.number arrived.segment (lent_of i s)
        (limit-low s whole.undamaged) y lends none a)

    told : Tells taken.outcome arrived.part (limit_of s) arrived.segment (fresh_slot arrived.number)
        (lent_of i s) [] [] taken
    told = rw same (outcome-tells arrived.part (limit_of s) arrived.segment (fresh_slot arrived.number)
        (lent_of i s) [] [] (limit-low s whole.undamaged) y
        (fresh-gathers arrived.part (limit_of s) arrived.number arrived.segment (lent_of i s)
        (limit-low s whole.undamaged) y lends none)
        (take_into arrived.part (limit_of s) arrived.segment (fresh_slot arrived.number) (lent_of i s)).outcome
        refl)

came-own : (arrived : Arrival) (s : State) (t : Reply) (hs bs : List Segment) → Bytes arrived.segment.bytes
    → Intact s → Intact t.left → StandsFor arrived.number s hs bs → Came arrived s t
    → StandsFor arrived.number t.left
    (pick (is_stored t.answer) (headers_with arrived.part arrived.segment hs) hs)
    (pick (is_stored t.answer) (bodies_with arrived.part arrived.segment bs) bs)
came-own arrived s t hs bs y whole whole' w (alone n a e) =
    rw e (not-stands arrived (Answer.Conflict (heard_as arrived)) s hs bs refl w)
came-own arrived s t hs bs y whole whole' w (full n a f e) =
    rw e (not-stands arrived (Answer.Full (heard_as arrived)) s hs bs refl w)
came-own arrived s t hs bs y whole whole' w (first i n a f e) =
    let x : Taken = take_into arrived.part (limit_of s) arrived.segment (fresh_slot arrived.number)
    (lent_of i s) in
    let r = first-stands arrived s i x refl y whole (rw e at whole') a f in
    let none = w.rest n in
    rw (none.0, none.1, e, r.0) r.1
came-own arrived s t hs bs y whole whole' w (more i n e) =
    rw e (more-stands arrived s i hs bs
    (take_into arrived.part (limit_of s) arrived.segment (slot_of i s) (lent_of i s)) refl y whole
    (rw e at whole') w n)

-- a number that held no slot takes the lowest free one
pub came-lowest : (arrived : Arrival) (s : State) (t : Reply) → Bytes arrived.segment.bytes → Intact s
    → Intact t.left → Came arrived s t → find arrived.number s ≡ None → number_of t.answer ≤ 1
    → (i : ℕ) × (find arrived.number t.left ≡ Some i) × (is_free (slot_of i s) ≡ true)
    × ((j : ℕ) → j < i → is_free (slot_of j s) ≡ false)
unfolding free_in fresh_slot
came-lowest arrived s t y whole whole' (alone n a e) none h = absurd (omega (arith, rw e at h))
came-lowest arrived s t y whole whole' (full n a f e) none h = absurd (omega (arith, rw e at h))
came-lowest arrived s t y whole whole' (more i n e) none h = let z : ◌≡◌ {A = ℕ} 0 1 = cc in absurd (omega arith)
came-lowest arrived s t y whole whole' (first i n a f e) none h =
    let x : Taken = take_into arrived.part (limit_of s) arrived.segment (fresh_slot arrived.number)
    (lent_of i s) in
    let u = free-used s whole.undamaged i f in
    let lends = used-lent s whole.undamaged i u whole.bytes in
    let added = fresh_added arrived.part (limit_of s) arrived.number arrived.segment (lent_of i s)
    (limit-low s whole.undamaged) y lends (free-marks s whole.undamaged i f) a in
    let own : holds arrived.number x.slot ≡ true =
    is_held arrived.number x.slot
    (holds-held (limit_of s) x.slot x.lent (headers_with arrived.part arrived.segment [])
    (bodies_with arrived.part arrived.segment []) added.holds)
    (taken-number arrived.part (limit_of s) arrived.segment (fresh_slot arrived.number) (lent_of i s)) in (
      i,
      rw e (replaced-found arrived.number (answer_for x.outcome arrived) i x.slot x.lent s
          whole.undamaged u (first-lent s whole arrived.number i arrived.part arrived.segment y f)
          (rw e at whole') own),
      free-free s whole.undamaged i f,
      found_first is_free s.collector.count s.collector.slots i f,
    )

-- A GROUP: each slot holds just what was stored, this group counted
pub handed-stands : (given : Handed) (s : State) (events : List Event) → HandedBytes given → Intact s → Stands s events
    → Stands (take given s).left (handed given (take given s).answer ∷ events)
unfolding under
handed-stands given s events y whole w number = go (brought_by given) refl
  where
    t : Reply
    t = take given s

    hs : ℕ → List Segment
    hs n = stored_under Header n events

    bs : ℕ → List Segment
    bs n = stored_under Body n events

    whole' : Intact t.left
    whole' = handed-intact given s y whole

    read : (arrived : Arrival) → brought_by given ≡ arrives arrived → (n : ℕ) → Dec (n ≡ arrived.number)
        → StandsFor n t.left (next Header n arrived t.answer (hs n))
        (next Body n arrived t.answer (bs n))
    read arrived e n (no d) =
        rw (
          next-other Header n arrived t.answer (hs n) d,
          next-other Body n arrived t.answer (bs n) d,
        )
        (same-stands n s t.left (hs n) (bs n)
        (came_same n arrived s t d (brought-bytes given arrived y e) whole
        (came given s whole.undamaged arrived e)) (w n))
    read arrived e n (yes d) =
        subst (λ (m : ℕ). StandsFor m t.left (next Header m arrived t.answer (hs m))
        (next Body m arrived t.answer (bs m))) (sym d)
        (rw (
          next-own Header arrived t.answer (hs arrived.number),
          next-own Body arrived t.answer (bs arrived.number),
        )
        (came-own arrived s t (hs arrived.number) (bs arrived.number)
        (brought-bytes given arrived y e) whole whole' (w arrived.number)
        (came given s whole.undamaged arrived e)))

    go : (brought : Brought) → brought_by given ≡ brought
        → StandsFor number t.left (after_handed is_stored Header number (brought_by given) t.answer (hs number))
        (after_handed is_stored Body number (brought_by given) t.answer (bs number))
    go (refused why) e = rw (e, unread given s whole.undamaged why e)
        (record { held = (w number).held; rest = (w number).rest })
    go (arrives arrived) e = rw e (read arrived e number (ℕ_discrete number arrived.number))

-- ---- a drop

-- the slot that held the number is free, and no other holds it
dropped-none : (number i : ℕ) (answer : Answer) (lent : Lent) (s : State) → sound s ≡ true → find number s ≡ Some i
    → find number (replacing answer i free_slot lent s).left ≡ None
unfolding find_in free_slot is_free
dropped-none number i answer lent s good e =
    none_found (holds number) s.collector.count (set s.collector.slots i free_slot)
    (λ j u. go j (used-before i free_slot s.collector.slots s.collector.count j u) (ℕ_discrete j i))
  where
    v : InUse i s
    v = found-used s good number i e

    here : holds number (slot_at i (set s.collector.slots i free_slot)) ≡ false
    here = rw (slot-here i free_slot s.collector.slots v.there) (free-holds number free_slot refl)

    other : (j : ℕ) → InUse j s → j ≢ i → (b : Bool) → holds number (slot_of j s) ≡ b → holds number (slot_of j s) ≡ false
    other j u d false h = h
    other j u d true h = absurd (d ((slots-right s good).once number j i u v h (found-holds s good number i e)))

    go : (j : ℕ) → InUse j s → Dec (j ≡ i) → holds number (slot_at j (set s.collector.slots i free_slot)) ≡ false
    go j u (yes d) = subst (λ (k : ℕ). holds number (slot_at k (set s.collector.slots i free_slot)) ≡ false)
        (sym d) here
    go j u (no d) = rw (slot-there i free_slot s.collector.slots j d) (other j u d (holds number (slot_of j s)) refl)

after-other : (number other : ℕ) (answer : Answer) (segments : List Segment) → number ≢ other
    → after_drop number other answer segments ≡ segments
after-other number other answer segments d = rw (ne_eqb other number (λ e. d (sym e))) refl

after-own : (number : ℕ) (answer : Answer) (segments : List Segment)
    → after_drop number number answer segments ≡ pick (is_dropped answer) [] segments
after-own number answer segments = rw (eq-eqb number number refl) refl

drop_own : (number : ℕ) (s : State) (hs bs : List Segment) → Intact s → StandsFor number s hs bs
    → StandsFor number (drop_number number s).left (pick (is_dropped (drop_number number s).answer) [] hs)
    (pick (is_dropped (drop_number number s).answer) [] bs)
drop_own number s hs bs whole w = go (find number s) refl
  where
    go : (found : Option ℕ) → find number s ≡ found
        → StandsFor number (drop_number number s).left (pick (is_dropped (drop_number number s).answer) [] hs)
        (pick (is_dropped (drop_number number s).answer) [] bs)
    go None e = rw (none_dropped number s whole.undamaged e) (record { held = w.held; rest = w.rest })
    go (Some i) e =
        let gone = dropped-none number i (Answer.Dropped number) (cleared (lent_of i s)) s whole.undamaged e in
        rw (found-dropped number s whole.undamaged i
        (used-inside s whole.undamaged i (found-used s whole.undamaged number i e)) e)
        (record { held = λ j f. let z : ◌≡◌ {A = ℕ} 0 1 = cc gone in absurd (omega arith); rest = λ f. (refl, refl) })

-- A DROP: under its number nothing is stored any more
pub drop-stands : (other : ℕ) (s : State) (events : List Event) → Intact s → Stands s events
    → Stands (drop_number other s).left (dropped other (drop_number other s).answer ∷ events)
unfolding under
drop-stands other s events whole w number = go number (ℕ_discrete number other)
  where
    t : Reply
    t = drop_number other s

    hs : ℕ → List Segment
    hs n = stored_under Header n events

    bs : ℕ → List Segment
    bs n = stored_under Body n events

    go : (n : ℕ) → Dec (n ≡ other) → StandsFor n t.left (after_drop n other t.answer (hs n))
        (after_drop n other t.answer (bs n))
    go n (no d) = rw (after-other n other t.answer (hs n) d, after-other n other t.answer (bs n) d)
        (same-stands n s t.left (hs n) (bs n) (drop-others n other s d whole) (w n))
    go n (yes d) =
        subst (λ (m : ℕ). StandsFor m t.left (after_drop m other t.answer (hs m))
        (after_drop m other t.answer (bs m))) (sym d)
        (rw (after-own other t.answer (hs other), after-own other t.answer (bs other))
        (drop_own other s (hs other) (bs other) whole (w other)))
