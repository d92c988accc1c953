-- Demand 3: what a group that passes the reading checks is answered, in a state whose slots hold just what was stored.
use Rattle.std.specs.Prelude.{◌≡◌, refl, ◌⊎◌, ◌↔◌, Option, None, Some, List, [], ℕ, ◌≤◌}
use Rattle.std.proofs.Common.{sym, ap, inl, inr, arith}
use Rattle.answer.specs.declared.Answer.{Answer}
use Rattle.answer.specs.declared.Part.{Part}
use Rattle.answer.specs.declared.Part.TheVariants.{Header, Body}
use Rattle.cut.specs.Requirement.{limit_most, Segment, Fits, Finished}
use Rattle.cut.specs.Parts.{headers_with, bodies_with, those}
use Rattle.cut.specs.laws.Decision.{false-true}
use Rattle.cut.specs.Lists.{Among, Bytes}
use Rattle.object.specs.declared.Slot.{Slot}
use Rattle.object.specs.declared.Outcome.{Outcome}
use Rattle.object.specs.declared.Outcome.TheVariants.{Stored, Complete, Repeat, Conflict}
use Rattle.object.specs.Take.{take_into}
use Rattle.object.specs.laws.Held.{Gathers}
use Rattle.object.specs.laws.StateExact.{sound-holds}
use Rattle.object.specs.laws.Step.{conflict-exactly, repeat-exactly, complete-exactly, stored-exactly}
use Rattle.object.specs.Parts.{Lent, parts_of}
use Rattle.slots.specs.Stores.{fresh_slot}
use Rattle.collector.specs.State.{Reply, State, find, free}
use Rattle.collector.specs.Calls.{answer_for}
use Rattle.collector.specs.Arrival.{Arrival, heard_as}
use Rattle.history.specs.Held.{SlotFor, lent_of, limit_of, slot_of, marked_under}
use Rattle.history.specs.laws.Call.{Came, alone, full, first, more}
use Rattle.history.specs.laws.Ready.{limit-low, used-lent, found-used, found-sound, free-used, free-marks}
use Rattle.history.specs.laws.Taken.{fresh-gathers, alone-fits}
use Rattle.history.specs.laws.Sound.{Intact}
use Rattle.history.specs.laws.Stands.{StandsFor}

-- when a segment of a part is answered so, with hs and bs stored under its number
abbrev pub Meets : Outcome → Part → ℕ → Segment → List Segment → List Segment → Type 0
-- no object and cut send it and all that is stored
Meets Conflict part limit s hs bs = ¬ (Fits limit (headers_with part s hs) (bodies_with part s bs))
-- the same segment is stored
Meets Repeat part limit s hs bs = Among s (those part hs bs)
-- with it every segment is in, and before it not
Meets Complete part limit s hs bs =
    ((f : Fits limit (headers_with part s hs) (bodies_with part s bs)) × Finished f)
    × ((f : Fits limit hs bs) → ¬ (Finished f))
-- it is new and fits, and with it some segment is still missing, or before it none was
Meets Stored part limit s hs bs =
    ((f : Fits limit (headers_with part s hs) (bodies_with part s bs))
    × ((¬ (Finished f)) ⊎ ((g : Fits limit hs bs) × Finished g)))
    × (¬ (Among s (those part hs bs)))

-- what is stored needs a slot
abbrev pub Room : Outcome → ℕ → State → Type 0
Room Conflict number s = Unit {0}
Room Repeat number s = Unit {0}
Room Complete number s = SlotFor number s
Room Stored number s = SlotFor number s

-- ---- a segment that is offered to a slot

exactly : (o : Outcome) (part : Part) (limit : ℕ) (segment : Segment) (slot : Slot) (lent : Lent) (hs bs : List Segment)
    → limit ≤ limit_most → Bytes segment.bytes → Gathers limit (parts_of slot lent) hs bs
    → ((take_into part limit segment slot lent).outcome ≡ o) ↔ Meets o part limit segment hs bs
exactly Stored part limit segment slot lent hs bs z y g = stored-exactly part limit segment slot lent hs bs z y g
exactly Complete part limit segment slot lent hs bs z y g = complete-exactly part limit segment slot lent hs bs z y g
exactly Repeat part limit segment slot lent hs bs z y g = repeat-exactly part limit segment slot lent hs bs z y g
exactly Conflict part limit segment slot lent hs bs z y g = conflict-exactly part limit segment slot lent hs bs z y g

-- different outcomes are answered differently
named-once : (o p : Outcome) (arrived : Arrival) → answer_for o arrived ≡ answer_for p arrived → o ≡ p
named-once Stored Stored arrived e = refl
named-once Stored Complete arrived e = cc
named-once Stored Repeat arrived e = cc
named-once Stored Conflict arrived e = cc
named-once Complete Stored arrived e = cc
named-once Complete Complete arrived e = refl
named-once Complete Repeat arrived e = cc
named-once Complete Conflict arrived e = cc
named-once Repeat Stored arrived e = cc
named-once Repeat Complete arrived e = cc
named-once Repeat Repeat arrived e = refl
named-once Repeat Conflict arrived e = cc
named-once Conflict Stored arrived e = cc
named-once Conflict Complete arrived e = cc
named-once Conflict Repeat arrived e = cc
named-once Conflict Conflict arrived e = refl

never-full : (o : Outcome) (arrived : Arrival) → Answer.Full (heard_as arrived) ≡ answer_for o arrived → ⊥
never-full Stored arrived e = let z : ◌≡◌ {A = ℕ} 0 1 = cc in absurd (omega arith)
never-full Complete arrived e = let z : ◌≡◌ {A = ℕ} 0 1 = cc in absurd (omega arith)
never-full Repeat arrived e = let z : ◌≡◌ {A = ℕ} 0 1 = cc in absurd (omega arith)
never-full Conflict arrived e = let z : ◌≡◌ {A = ℕ} 0 1 = cc in absurd (omega arith)

unlike : {found : Option ℕ} (i : ℕ) → found ≡ Some i → found ≡ None → ⊥
unlike i e f = let z : ◌≡◌ {A = ℕ} 0 1 = cc in absurd (omega arith)

-- a slot is there for what is offered to one
roomy : (o : Outcome) (number : ℕ) (s : State) → SlotFor number s → Room o number s
roomy Stored number s r = r
roomy Complete number s r = r
roomy Repeat number s r = tt
roomy Conflict number s r = tt

offered-exactly : (o p : Outcome) (arrived : Arrival) (number : ℕ) (s : State) (M : Type 0) → (p ≡ o) ↔ M
    → SlotFor number s
    → (answer_for p arrived ≡ answer_for o arrived) ↔ (M × Room o number s)
offered-exactly o p arrived number s M x r = (
  (λ e. (x.0 (named-once p o arrived e), roomy o number s r)),
  (λ m. ap (λ (q : Outcome). answer_for q arrived) (x.1 m.0)),
)

among_none : (part : Part) (segment : Segment) → Among segment (those part [] []) → ⊥
among_none Header segment i = i
among_none Body segment i = i

-- nothing is stored, and the segment conflicts alone
alone-exactly : (o : Outcome) (arrived : Arrival) (s : State) (limit : ℕ)
    → ¬ (Fits limit (headers_with arrived.part arrived.segment [])
    (bodies_with arrived.part arrived.segment []))
    → (Answer.Conflict (heard_as arrived) ≡ answer_for o arrived)
    ↔ (Meets o arrived.part limit arrived.segment [] [] × Room o arrived.number s)
alone-exactly Stored arrived s limit n =
    ((λ e. let z : ◌≡◌ {A = ℕ} 0 1 = cc in absurd (omega arith)), (λ m. absurd (n m.0.0.0)))
alone-exactly Complete arrived s limit n =
    ((λ e. let z : ◌≡◌ {A = ℕ} 0 1 = cc in absurd (omega arith)), (λ m. absurd (n m.0.0.0)))
alone-exactly Repeat arrived s limit n = (
  (λ e. let z : ◌≡◌ {A = ℕ} 0 1 = cc in absurd (omega arith)),
  (λ m. absurd (among_none arrived.part arrived.segment m.0)),
)
alone-exactly Conflict arrived s limit n = ((λ e. (n, tt)), (λ m. refl))

-- nothing is stored, the segment fits, and no slot is there
full-never : (o : Outcome) (arrived : Arrival) (s : State) (limit : ℕ)
    → Fits limit (headers_with arrived.part arrived.segment []) (bodies_with arrived.part arrived.segment [])
    → find arrived.number s ≡ None → free s ≡ None
    → (Answer.Full (heard_as arrived) ≡ answer_for o arrived)
    ↔ (Meets o arrived.part limit arrived.segment [] [] × Room o arrived.number s)
full-never Stored arrived s limit f n g =
    ((λ e. absurd (never-full Stored arrived e)), (λ m. absurd (m.1 (n, g))))
full-never Complete arrived s limit f n g =
    ((λ e. absurd (never-full Complete arrived e)), (λ m. absurd (m.1 (n, g))))
full-never Repeat arrived s limit f n g = (
  (λ e. absurd (never-full Repeat arrived e)),
  (λ m. absurd (among_none arrived.part arrived.segment m.0)),
)
full-never Conflict arrived s limit f n g =
    ((λ e. absurd (never-full Conflict arrived e)), (λ m. absurd (m.0 f)))

-- ---- the answer to a group that was read

module _ (arrived : Arrival) (s : State) (hs bs : List Segment) (y : Bytes arrived.segment.bytes) (whole : Intact s)
    (w : StandsFor arrived.number s hs bs) where
  -- STORED, COMPLETE, REPEAT and CONFLICT, each exactly when demand 3 says
  pub came-exactly : (t : Reply) → Came arrived s t → (o : Outcome) → (t.answer ≡ answer_for o arrived)
      ↔ (Meets o arrived.part (limit_of s) arrived.segment hs bs × Room o arrived.number s)
  came-exactly t (alone n a e) o =
      let none = w.rest n in
      rw (e, none.0, none.1) (alone-exactly o arrived s (limit_of s)
      (λ f. false-true a ((alone-fits arrived.part (limit_of s) arrived.segment
      (limit-low s whole.undamaged) y).1 f)))
  came-exactly t (full n a f e) o =
      let none = w.rest n in
      rw (e, none.0, none.1) (full-never o arrived s (limit_of s)
      ((alone-fits arrived.part (limit_of s) arrived.segment (limit-low s whole.undamaged) y).0 a) n f)
  came-exactly t (first i n a f e) o =
      let none = w.rest n in
      let z = limit-low s whole.undamaged in
      let lends = used-lent s whole.undamaged i (free-used s whole.undamaged i f) whole.bytes in
      let g = fresh-gathers arrived.part (limit_of s) arrived.number arrived.segment (lent_of i s) z y lends
      (free-marks s whole.undamaged i f) in
      rw (e, none.0, none.1) (offered-exactly o
      (take_into arrived.part (limit_of s) arrived.segment (fresh_slot arrived.number) (lent_of i s)).outcome
      arrived arrived.number s (Meets o arrived.part (limit_of s) arrived.segment [] [])
      (exactly o arrived.part (limit_of s) arrived.segment (fresh_slot arrived.number) (lent_of i s) [] [] z y g)
      (λ x. unlike i f x.1))
  came-exactly t (more i n e) o =
      rw e (offered-exactly o (take_into arrived.part (limit_of s) arrived.segment (slot_of i s)
      (lent_of i s)).outcome arrived arrived.number s
      (Meets o arrived.part (limit_of s) arrived.segment hs bs)
      (exactly o arrived.part (limit_of s) arrived.segment (slot_of i s) (lent_of i s) hs bs
      (limit-low s whole.undamaged) y (w.held i n).gathers) (λ x. unlike i n x.0))

  -- FULL: it fits, its number holds no slot, and none is free
  pub came-full : (t : Reply) → Came arrived s t → (t.answer ≡ Answer.Full (heard_as arrived))
      ↔ (Fits (limit_of s) (headers_with arrived.part arrived.segment hs)
      (bodies_with arrived.part arrived.segment bs) × (find arrived.number s ≡ None) × (free s ≡ None))
  came-full t (alone n a e) =
      let none = w.rest n in
      rw (e, none.0, none.1) (
        (λ d. let z : ◌≡◌ {A = ℕ} 0 1 = cc in absurd (omega arith)),
        (λ m. absurd (false-true a ((alone-fits arrived.part (limit_of s) arrived.segment
            (limit-low s whole.undamaged) y).1 m.0))),
      )
  came-full t (full n a f e) =
      let none = w.rest n in
      rw (e, none.0, none.1) (
        (λ d.
            ((alone-fits arrived.part (limit_of s) arrived.segment (limit-low s whole.undamaged) y).0 a, n, f)),
        (λ m. refl),
      )
  came-full t (first i n a f e) =
      rw e (
        (λ d. absurd (never-full (take_into arrived.part (limit_of s) arrived.segment
            (fresh_slot arrived.number) (lent_of i s)).outcome arrived (sym d))),
        (λ m. absurd (unlike i f m.2)),
      )
  came-full t (more i n e) = rw e (
    (λ d. absurd (never-full (take_into arrived.part (limit_of s) arrived.segment (slot_of i s)
        (lent_of i s)).outcome arrived (sym d))),
    (λ m. absurd (unlike i n m.1)),
  )

-- one of the five comes back
pub came-named : (arrived : Arrival) (s : State) (t : Reply) → Came arrived s t
    → (t.answer ≡ Answer.Full (heard_as arrived)) ⊎ ((o : Outcome) × (t.answer ≡ answer_for o arrived))
came-named arrived s t (alone n a e) = inr (Conflict, ap (λ (x : Reply). x.answer) e)
came-named arrived s t (full n a f e) = inl (ap (λ (x : Reply). x.answer) e)
came-named arrived s t (first i n a f e) =
    inr (
      (take_into arrived.part (limit_of s) arrived.segment (fresh_slot arrived.number) (lent_of i s)).outcome,
      ap (λ (x : Reply). x.answer) e,
    )
came-named arrived s t (more i n e) =
    inr (
      (take_into arrived.part (limit_of s) arrived.segment (slot_of i s) (lent_of i s)).outcome,
      ap (λ (x : Reply). x.answer) e,
    )

-- ---- any state that is not damaged, however it came about

pub marked-stands : (number : ℕ) (s : State) → Intact s
    → StandsFor number s (marked_under Header number s) (marked_under Body number s)
marked-stands number s whole = record {
  held = λ i e. rw e (sound-holds (limit_of s) (slot_of i s) (lent_of i s) (limit-low s whole.undamaged)
      (used-lent s whole.undamaged i (found-used s whole.undamaged number i e) whole.bytes)
      (found-sound s whole.undamaged number i e));
  rest = λ e. rw e (refl, refl);
}
