-- A sound state offers each of its slots: what the code that takes a segment asks follows from the test of the state.
use Rattle.std.specs.Prelude.{◌≡◌, refl, Some, Bool, false, List, [], ◌∷◌, ℕ, zero, suc, ◌+◌, ◌*◌, ◌≤◌, ◌<◌, eqb, take}
use Rattle.std.proofs.Math.Bool.{true}
use Rattle.std.proofs.Common.{add-zero, suc-mul, mul-le-mul_right, arith, eqb-true}
use Rattle.std.proofs.Math.Nat.{zero-add}
use Rattle.std.proofs.Math.ListN.{length, get_or, length-take}
use Rattle.std.proofs.Math.Seq.{get_or-take}
use Rattle.octets.specs.Octets.{sum_of, largest_of}
use Rattle.octets.specs.laws.Marks.{sum-none, largest-each}
use Rattle.cut.specs.Requirement.{header_most}
use Rattle.cut.specs.laws.Decision.{both_true, all_true}
use Rattle.cut.specs.Lists.{pick}
use Rattle.object.specs.declared.Slot.{Slot}
use Rattle.object.specs.Sound.{sound_slot}
use Rattle.object.specs.laws.Inside.{sound-slot}
use Rattle.object.specs.Parts.{Lent}
use Rattle.slots.specs.Stores.{slot_marks, Stores, lent_at, free_slot, slot_at, Limits}
use Rattle.slots.specs.Find.{free_stage, is_free, holds, first_from, find_in, free_in}
use Rattle.slots.specs.State.{within_limits, distinct, right_slot, right_from, sound_slots}
use Rattle.slots.specs.laws.StateTests.{limits-hold}
use Rattle.slots.specs.Take.{Inside, OfferedAt, OpenAt}
use Rattle.slots.specs.laws.Shares.{lent-wide}

-- ---- what the test of a state says

abbrev sound_tests : ℕ → ℕ → List Slot → Stores → List Bool
sound_tests limit count slots stores =
    within_limits limit count (length stores.header) (length stores.body) (length stores.marks)
    ∷ distinct (take count slots) ∷ right_from limit 0 (take count slots) stores ∷ []

pub sound-limits : (limit count : ℕ) (slots : List Slot) (stores : Stores) → sound_slots limit count slots stores ≡ true
    → Limits limit count (length stores.header) (length stores.body) (length stores.marks)
unfolding sound_slots
sound-limits limit count slots stores e = limits-hold limit count (length stores.header) (length stores.body)
    (length stores.marks) (all_true (sound_tests limit count slots stores) e).0

-- each slot is right
pub right-at : (limit first i : ℕ) (slots : List Slot) (stores : Stores) → right_from limit first slots stores ≡ true
    → i < length slots → right_slot limit (get_or slots i free_slot) (lent_at limit (first + i) stores) ≡ true
unfolding right_from
right-at limit first i [] stores e h = absurd (omega arith)
right-at limit first zero (slot ∷ slots) stores e h =
    let t = both_true (right_slot limit slot (lent_at limit first stores)) (right_from limit (suc first) slots stores) e in
    rw (add-zero first) t.0
right-at limit first (suc i) (slot ∷ slots) stores e h =
    let t = both_true (right_slot limit slot (lent_at limit first stores)) (right_from limit (suc first) slots stores) e in
    let g : first + suc i ≡ suc first + i = omega arith in
    rw g (right-at limit (suc first) i slots stores t.1 (omega arith))

-- the first slot that passes a test is one of them, and passes
pub found-passes : (test : Slot → Bool) (first i : ℕ) (slots : List Slot)
    → first_from test first slots ≡ Some i → (j : ℕ)
    × (i ≡ first + j) × (j < length slots) × (test (get_or slots j free_slot) ≡ true)
unfolding first_from
found-passes test first i [] e = let z : ◌≡◌ {A = ℕ} 0 1 = cc in absurd (omega arith)
found-passes test first i (slot ∷ slots) e = go (test slot) refl e (λ g. found-passes test (suc first) i slots g)
  where
    go : (b : Bool) → test slot ≡ b → pick b (Some first) (first_from test (suc first) slots) ≡ Some i
        → (first_from test (suc first) slots ≡ Some i → (j : ℕ) × (i ≡ suc first + j) × (j < length slots)
        × (test (get_or slots j free_slot) ≡ true))
        → (j : ℕ) × (i ≡ first + j) × (j < suc (length slots)) × (test (get_or (slot ∷ slots) j free_slot) ≡ true)
    go true f g later = let h : first ≡ i = cc in (0, omega arith, omega arith, f)
    go false f g later =
        let r = later g in
        (suc r.0, omega (arith, r.1), omega (arith, r.2), r.3)

-- ---- of the slots of a sound state

-- share i lies inside a store of count shares
pub inside-store : (width count i : ℕ) → i < count → i * width + width ≤ count * width
inside-store width count i h = let g : suc i * width ≤ count * width = mul-le-mul_right width h in
    omega (arith, suc-mul i width)

-- a slot that holds a number is sound, where it is right; a free one has no mark set
pub held-sound : (limit number : ℕ) (slot : Slot) (lent : Lent) → holds number slot ≡ true → right_slot limit slot lent
    ≡ true → sound_slot limit slot lent ≡ true
unfolding holds is_free right_slot
held-sound limit number slot lent h r = go (free_stage slot.stage) h r
  where
    go : (free : Bool) → pick free false (eqb slot.number number) ≡ true
        → pick free (eqb (largest_of lent.marks) 0) (sound_slot limit slot lent) ≡ true → sound_slot limit slot lent
        ≡ true
    go true h r = let z : ◌≡◌ {A = ℕ} 0 1 = cc in absurd (omega arith)
    go false h r = r

pub free-unmarked : (limit : ℕ) (slot : Slot) (lent : Lent) → is_free slot ≡ true → right_slot limit slot lent ≡ true
    → sum_of lent.marks ≡ 0
unfolding right_slot
free-unmarked limit slot lent h r =
    let none : largest_of lent.marks ≡ 0 = eqb-true (largest_of lent.marks) 0 (rw h at r) in
    (sum-none lent.marks).1 (λ i. zero_of (get_or lent.marks i 0) ((largest-each lent.marks 0).0 (omega arith) i))
  where
    zero_of : (x : ℕ) → x ≤ 0 → x ≡ 0
    zero_of x h = omega arith

module _ (limit count : ℕ) (slots : List Slot) (stores : Stores) (sound : sound_slots limit count slots stores ≡ true)
  where
    w : Limits limit count (length stores.header) (length stores.body) (length stores.marks)
    w = sound-limits limit count slots stores sound

    pub sound-inside : (i : ℕ) → i < count → Inside limit i stores
    sound-inside i h = record {
      slot = omega (arith, w.slots);
      header = omega (arith, w.header, inside-store header_most count i h);
      body = omega (arith, w.body, inside-store limit count i h);
      marks = omega (arith, w.marks, inside-store slot_marks count i h);
    }

    -- each of them is right
    pub sound-right : (i : ℕ) → i < length (take count slots)
        → right_slot limit (slot_at i slots) (lent_at limit i stores) ≡ true
    unfolding sound_slots slot_at
    sound-right i h =
        let short : i < count = omega (arith, rw length-take at h) in
        let right = right-at limit 0 i (take count slots) stores
        (all_true (sound_tests limit count slots stores) sound).1.1.0 h in
        rw (get_or-take count slots i free_slot short, zero-add i) at right

    -- the slot that is found is one of them, right, and passes the test
    pub found_right : (test : Slot → Bool) (i : ℕ) → first_from test 0 (take count slots) ≡ Some i → (i < count)
        × (test (slot_at i slots) ≡ true) × (right_slot limit (slot_at i slots) (lent_at limit i stores) ≡ true)
    unfolding slot_at
    found_right test i e =
        let r = found-passes test 0 i (take count slots) e in
        let same : i ≡ r.0 = omega (arith, r.1) in
        let h : i < length (take count slots) = omega (arith, r.2) in
        let short : i < count = omega (arith, rw length-take at h) in
        let at : get_or (take count slots) i free_slot ≡ get_or slots i free_slot = get_or-take count slots i free_slot short in
        let passes : test (get_or (take count slots) i free_slot) ≡ true = rw same r.3 in
        (short, rw at at passes, sound-right i h)

    -- a slot that holds a number can be offered a segment
    pub sound-offered : (number i : ℕ) → find_in number count slots ≡ Some i → OfferedAt limit i slots stores
    unfolding find_in
    sound-offered number i e =
        let f = found_right (holds number) i e in
        let within = sound-inside i f.0 in
        let wide = lent-wide limit i stores within in
        let passed = sound-slot limit (slot_at i slots) (lent_at limit i stores)
        (held-sound limit number (slot_at i slots) (lent_at limit i stores) f.1 f.2) in
        record {
          inside = within;
          offered =
              record {
                header = wide.header;
                body = wide.body;
                marks = wide.marks;
                bits = passed.0;
                sound =
                    passed.2;
              };
        }

    -- a free slot can be taken
    pub sound-open : (i : ℕ) → free_in count slots ≡ Some i → OpenAt limit i stores
    unfolding free_in
    sound-open i e =
        let f = found_right is_free i e in
        record {
          inside = sound-inside i f.0;
          enough = w.least;
          unmarked =
              free-unmarked limit (slot_at i slots) (lent_at limit i stores) f.1 f.2;
        }

    -- a slot that holds a number is one of those lent for
    pub found_inside : (number i : ℕ) → find_in number count slots ≡ Some i → Inside limit i stores
    found_inside number i e = (sound-offered number i e).inside
