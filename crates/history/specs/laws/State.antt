-- STATE, exactly: document 01's list, in its words and order, of any state whatever.
use Rattle.std.specs.Prelude.{◌≡◌, refl, ◌≢◌, ◌↔◌, Bool, true, false, List, [], Option, Some, None, Result, Ok, Err, ℕ, ◌≤◌, get_or}
use Rattle.std.proofs.Common.{ap}
use native.Mathlib.Omega.{arith}
use borrow.Author.Tests.{eqb-true, eq-eqb}
use Rattle.octets.specs.Octets.{largest_of}
use Rattle.octets.specs.laws.Marks.{largest-each}
use Rattle.answer.specs.declared.Answer.TheVariants as Answer
use Rattle.answer.specs.declared.Reason.{Reason}
use Rattle.answer.specs.declared.Part.{Part}
use Rattle.answer.specs.declared.Part.TheVariants.{Header}
use Rattle.counts.specs.Counted.{within}
use Rattle.cut.specs.Requirement.{limit_most}
use Rattle.cut.specs.laws.Decision.{true-both}
use Rattle.header.specs.declared.Fields.{Fields}
use Rattle.header.specs.declared.Refusal.{Refusal as HeaderRefusal}
use Rattle.header.specs.Parameters.{read_header}
use Rattle.object.specs.declared.Slot.{Slot}
use Rattle.object.specs.declared.Stage.{Stage}
use Rattle.object.specs.declared.Outcome.{Outcome}
use Rattle.object.specs.declared.Outcome.TheVariants.{Stored, Complete, Repeat, Conflict}
use Rattle.object.specs.Take.{take_into}
use Rattle.object.specs.laws.Shape.{IsLent}
use Rattle.object.specs.State.{Sound}
use Rattle.object.specs.laws.StateExact.{sound-exactly}
use Rattle.object.specs.Parts.{Lent}
use Rattle.slots.specs.Stores.{fresh_slot}
use Rattle.slots.specs.Find.{is_free}
use Rattle.slots.specs.State.{right_slot, sound_slots}
use Rattle.name_search.specs.Finding.{found_by_name}
use Rattle.collector.specs.State.{Reply, State, find}
use Rattle.collector.specs.Calls.{answer_for, drop_number, locate, located_as, located_in, show, sound}
use Rattle.collector.specs.Arrival.{Arrival}
use Rattle.queries.specs.Questions as queries
use Rattle.queries.specs.Questions.{asked_of, parameters, name, sought_as, find as find_by_name}
use Rattle.queries.specs.Missing.{awaited_in, missing}
use Rattle.queries.specs.Said.{asked_as}
use Rattle.history.specs.laws.Slots.{undamaged-sound}
use Rattle.history.specs.Held.{lent_of, limit_of, slot_of}
use Rattle.history.specs.laws.Call.{drop_answer, Came, alone, full, first, more, unread, came, drop-damaged, none_dropped, found-dropped, handed_answer, handed-damaged}
use Rattle.history.specs.laws.Counts.{low-within}
use Rattle.history.specs.laws.Ready.{counts-low, slots-right, limit-low, limits-lent, used-inside, used-lent, found-used}
use Rattle.history.specs.State.{InUse, OfBytes, InOrder}
use Rattle.history.specs.Handed.{Handed, Brought, arrives, refused, brought_by}
use Rattle.history.specs.Taking.{take}

-- ---- the test of a state is this list

module _ (limit : ℕ) (slot : Slot) (lent : Lent) (z : limit ≤ limit_most) (l : IsLent limit lent) where
  right-free : is_free slot ≡ true → (right_slot limit slot lent ≡ true) ↔ ((n : ℕ) → get_or lent.marks n 0 ≡ 0)
  unfolding right_slot
  right-free f = rw f (
    (λ e n. none (get_or lent.marks n 0)
        ((largest-each lent.marks 0).0 (omega (arith, eqb-true (largest_of lent.marks) 0 e)) n)),
    (λ u. eq-eqb (largest_of lent.marks) 0
        (none (largest_of lent.marks) ((largest-each lent.marks 0).1 (λ n. omega (arith, u n))))),
  )
    where
      none : (x : ℕ) → x ≤ 0 → x ≡ 0
      none x h = omega arith

  right-held : is_free slot ≡ false → (right_slot limit slot lent ≡ true) ↔ Sound limit slot lent
  unfolding right_slot
  right-held f = rw f (sound-exactly limit slot lent z l)

pub in-order-exactly : (s : State) → OfBytes s.stores → (sound s ≡ true) ↔ InOrder s
unfolding sound
in-order-exactly s b = (there, back)
  where
    there : sound s ≡ true → InOrder s
    there good = record {
      limits = (slots-right s good).limits;
      once = (slots-right s good).once;
      unmarked = λ i u f. (right-free (limit_of s) (slot_of i s) (lent_of i s) (limit-low s good)
          (used-lent s good i u b) f).0 ((slots-right s good).right i u);
      held = λ i u f. (right-held (limit_of s) (slot_of i s) (lent_of i s) (limit-low s good) (used-lent s good i u b) f).0
          ((slots-right s good).right i u);
      counts = counts-low s good;
    }

    back : InOrder s → sound s ≡ true
    back w =
        true-both (sound_slots (limit_of s) s.collector.count s.collector.slots s.stores) (within s.counts)
        (undamaged-sound (limit_of s) s.collector.count s.collector.slots s.stores
        (record { limits = w.limits; once = w.once; right = λ i u. right i u (is_free (slot_of i s)) refl }))
        (low-within s.counts w.counts)
      where
        right : (i : ℕ) → InUse i s → (b : Bool) → is_free (slot_of i s) ≡ b
            → right_slot (limit_of s) (slot_of i s) (lent_of i s) ≡ true
        right i u true f = (right-free (limit_of s) (slot_of i s) (lent_of i s) w.limits.most
            (limits-lent s i w.limits u b) f).1 (w.unmarked i u f)
        right i u false f = (right-held (limit_of s) (slot_of i s) (lent_of i s) w.limits.most
            (limits-lent s i w.limits u b) f).1 (w.held i u f)

-- ---- a state that passes the test is not answered with STATE

named-never : (o : Outcome) (arrived : Arrival) → answer_for o arrived ≢ Answer.Denied Reason.State
named-never Stored arrived e = let z : ◌≡◌ {A = ℕ} 0 1 = cc in absurd (omega arith)
named-never Complete arrived e = let z : ◌≡◌ {A = ℕ} 0 1 = cc in absurd (omega arith)
named-never Repeat arrived e = let z : ◌≡◌ {A = ℕ} 0 1 = cc in absurd (omega arith)
named-never Conflict arrived e = let z : ◌≡◌ {A = ℕ} 0 1 = cc in absurd (omega arith)

came-never : (arrived : Arrival) (s : State) (t : Reply) → Came arrived s t → t.answer ≢ Answer.Denied Reason.State
came-never arrived s t (alone n a e) d = let z : ◌≡◌ {A = ℕ} 0 1 = cc in absurd (omega arith)
came-never arrived s t (full n a f e) d = let z : ◌≡◌ {A = ℕ} 0 1 = cc in absurd (omega arith)
came-never arrived s t (first i n a f e) d =
    named-never (take_into arrived.part (limit_of s) arrived.segment (fresh_slot arrived.number)
    (lent_of i s)).outcome arrived (rw e at d)
came-never arrived s t (more i n e) d =
    named-never (take_into arrived.part (limit_of s) arrived.segment (slot_of i s) (lent_of i s)).outcome
    arrived (rw e at d)

pub handed-never : (given : Handed) (s : State) → sound s ≡ true → handed_answer given s ≢ Answer.Denied Reason.State
handed-never given s good = go (brought_by given) refl
  where
    go : (brought : Brought) → brought_by given ≡ brought → (take given s).answer ≢ Answer.Denied Reason.State
    go (refused why) e d = let f = unread given s good why e in let z : ◌≡◌ {A = ℕ} 0 1 = cc in absurd (omega arith)
    go (arrives arrived) e d = came-never arrived s (take given s) (came given s good arrived e) d

pub drop-never : (number : ℕ) (s : State) → sound s ≡ true → drop_answer number s ≢ Answer.Denied Reason.State
drop-never number s good = go (find number s) refl
  where
    go : (found : Option ℕ) → find number s ≡ found → (drop_number number s).answer ≢ Answer.Denied Reason.State
    go None e d = let f = none_dropped number s good e in let z : ◌≡◌ {A = ℕ} 0 1 = cc in absurd (omega arith)
    go (Some i) e d = let f = found-dropped number s good i (used-inside s good i (found-used s good number i e)) e in
        let z : ◌≡◌ {A = ℕ} 0 1 = cc in absurd (omega arith)

staged-never : (stage : Stage) (i : ℕ) → located_as stage i ≢ Err Reason.State
staged-never Stage.Free i e = let z : ◌≡◌ {A = ℕ} 0 1 = cc in absurd (omega arith)
staged-never Stage.Gathering i e = let z : ◌≡◌ {A = ℕ} 0 1 = cc in absurd (omega arith)
staged-never (Stage.Finished header body) i e = let z : ◌≡◌ {A = ℕ} 0 1 = cc in absurd (omega arith)

pub located-never : (number : ℕ) (s : State) → sound s ≡ true → locate number s ≢ Err Reason.State
unfolding locate
located-never number s good d = go (find number s) (rw good at d)
  where
    go : (found : Option ℕ) → located_in found s.collector ≢ Err Reason.State
    go None e = let z : ◌≡◌ {A = ℕ} 0 1 = cc in absurd (omega arith)
    go (Some i) e = staged-never (slot_of i s).stage i e

read-never : (reading : Result Fields HeaderRefusal) → asked_as reading ≢ Err Reason.State
read-never (Ok fields) e = let z : ◌≡◌ {A = ℕ} 0 1 = cc in absurd (omega arith)
read-never (Err HeaderRefusal.Header) e = let z : ◌≡◌ {A = ℕ} 0 1 = cc in absurd (omega arith)
read-never (Err HeaderRefusal.Duplicate) e = let z : ◌≡◌ {A = ℕ} 0 1 = cc in absurd (omega arith)

asked-never : (l : Result ℕ Reason) (header : List ℕ) → l ≢ Err Reason.State
    → asked_of l header ≢ Err Reason.State
asked-never (Err why) header n e = let same : why ≡ Reason.State = cc in n (ap Err same)
asked-never (Ok i) header n e = read-never (read_header header) e

pub told-never : (number : ℕ) (s : State) → sound s ≡ true → queries.parameters number s ≢ Err Reason.State
unfolding parameters
told-never number s good = asked-never (locate number s) (show number Header s) (located-never number s good)

sought-never : (holder : Option ℕ) → sought_as holder ≢ Err Reason.State
sought-never (Some number) e = let z : ◌≡◌ {A = ℕ} 0 1 = cc in absurd (omega arith)
sought-never None e = let z : ◌≡◌ {A = ℕ} 0 1 = cc in absurd (omega arith)

pub found-never : (sought : List ℕ) (s : State) → sound s ≡ true → queries.find sought s ≢ Err Reason.State
unfolding find_by_name
found-never sought s good d = sought-never
    (found_by_name sought s.collector.count s.collector.slots s.stores.header) (rw good at d)

awaited-in : (found : Option ℕ) (s : State) → awaited_in found s ≢ Err Reason.State
awaited-in None s e = let z : ◌≡◌ {A = ℕ} 0 1 = cc in absurd (omega arith)
awaited-in (Some i) s e = let z : ◌≡◌ {A = ℕ} 0 1 = cc in absurd (omega arith)

pub awaited-never : (number : ℕ) (s : State) → sound s ≡ true → missing number s ≢ Err Reason.State
unfolding missing
awaited-never number s good d = awaited-in (find number s) s (rw good at d)

-- ---- STATE exactly when the state is damaged

tested : (s : State) (b : Bool) → sound s ≡ b → OfBytes s.stores → ¬ (InOrder s) → sound s ≡ false
tested s false e y n = e
tested s true e y n = absurd (n ((in-order-exactly s y).0 e))

pub handed-state : (given : Handed) (s : State) → OfBytes s.stores
    → (handed_answer given s ≡ Answer.Denied Reason.State) ↔ (¬ (InOrder s))
handed-state given s y = (
  (λ e w. handed-never given s ((in-order-exactly s y).1 w) e),
  (λ n. ap (λ (t : Reply). t.answer) (handed-damaged given s (tested s (sound s) refl y n))),
)

pub drop-state : (number : ℕ) (s : State) → OfBytes s.stores → (drop_answer number s ≡ Answer.Denied Reason.State)
    ↔ (¬ (InOrder s))
drop-state number s y = (
  (λ e w. drop-never number s ((in-order-exactly s y).1 w) e),
  (λ n. ap (λ (t : Reply). t.answer) (drop-damaged number s (tested s (sound s) refl y n))),
)

-- and a question
located-damaged : (number : ℕ) (s : State) → sound s ≡ false → locate number s ≡ Err Reason.State
unfolding locate
located-damaged number s d = rw d refl

shown-damaged : (number : ℕ) (part : Part) (s : State) → sound s ≡ false → show number part s ≡ []
unfolding show
shown-damaged number part s d = rw (located-damaged number s d) refl

told-damaged : (number : ℕ) (s : State) → sound s ≡ false → queries.parameters number s ≡ Err Reason.State
unfolding parameters
told-damaged number s d = rw (located-damaged number s d) refl

named-damaged : (number : ℕ) (s : State) → sound s ≡ false → queries.name number s ≡ []
unfolding name
named-damaged number s d = rw (located-damaged number s d) refl

found-damaged : (sought : List ℕ) (s : State) → sound s ≡ false → queries.find sought s ≡ Err Reason.State
unfolding find_by_name
found-damaged sought s d = rw d refl

awaited-damaged : (number : ℕ) (s : State) → sound s ≡ false → missing number s ≡ Err Reason.State
unfolding missing
awaited-damaged number s d = rw d refl

pub ask-state : (s : State) → OfBytes s.stores
    → ((number : ℕ) → (locate number s ≡ Err Reason.State) ↔ (¬ (InOrder s)))
    × ((number : ℕ) → (queries.parameters number s ≡ Err Reason.State) ↔ (¬ (InOrder s)))
    × ((sought : List ℕ) → (queries.find sought s ≡ Err Reason.State) ↔ (¬ (InOrder s)))
    × (¬ (InOrder s) → (number : ℕ) → ((part : Part) → show number part s ≡ []) × (queries.name number s ≡ []))
    × ((number : ℕ) → (missing number s ≡ Err Reason.State) ↔ (¬ (InOrder s)))
ask-state s y = (
  (λ number. (
    (λ e w. located-never number s ((in-order-exactly s y).1 w) e),
    (λ n. located-damaged number s (tested s (sound s) refl y n)),
  )),
  (λ number. (
    (λ e w. told-never number s ((in-order-exactly s y).1 w) e),
    (λ n. told-damaged number s (tested s (sound s) refl y n)),
  )),
  (λ sought. (
    (λ e w. found-never sought s ((in-order-exactly s y).1 w) e),
    (λ n. found-damaged sought s (tested s (sound s) refl y n)),
  )),
  (λ n number. let d = tested s (sound s) refl y n in
      ((λ part. shown-damaged number part s d), named-damaged number s d)),
  (λ number. (
    (λ e w. awaited-never number s ((in-order-exactly s y).1 w) e),
    (λ n. awaited-damaged number s (tested s (sound s) refl y n)),
  )),
)
