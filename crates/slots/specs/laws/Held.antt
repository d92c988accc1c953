-- In a state that is not damaged a number is held by one slot at most: the slot that holds it is the one that is found.
use Rattle.std.specs.Prelude.{◌≡◌, refl, Some, Bool, true, false, List, [], ◌∷◌, ℕ, zero, suc, ◌+◌, ◌<◌, eqb, length, take, get_or}
use Rattle.std.proofs.Common.{add-zero, zero-add, arith, length-take, get_or-take, eqb-true}
use Rattle.cut.specs.laws.Decision.{both_true, all_true}
use Rattle.cut.specs.Lists.{pick}
use Rattle.object.specs.declared.Slot.{Slot}
use Rattle.slots.specs.Stores.{Stores, free_slot, slot_at}
use Rattle.slots.specs.Find.{free_stage, is_free, holds, first_from, find_in}
use Rattle.slots.specs.State.{within_limits, held_among, unlike, distinct, right_from, sound_slots}

-- one of the slots holds it
among-held : (number j : ℕ) (slots : List Slot) → j < length slots → holds number (get_or slots j free_slot) ≡ true
    → held_among number slots ≡ true
unfolding held_among
among-held number j [] h e = absurd (omega arith)
among-held number zero (slot ∷ slots) h e = rw e refl
among-held number (suc j) (slot ∷ slots) h e = go (holds number slot) (among-held number j slots (omega arith) e)
  where
    go : (b : Bool) → held_among number slots ≡ true → pick b true (held_among number slots) ≡ true
    go true f = refl
    go false f = f

-- a slot that holds it is unlike the others, so none of them does
alone : (number : ℕ) (slot : Slot) (others : List Slot) → unlike slot others ≡ true → holds number slot ≡ true
    → held_among number others ≡ true → ⊥
unfolding unlike is_free holds
alone number slot others u h e = go (free_stage slot.stage) u h
  where
    go : (free : Bool) → pick free true (pick (held_among slot.number others) false true) ≡ true
        → pick free false (eqb slot.number number) ≡ true → ⊥
    go true f g = let z : ◌≡◌ {A = ℕ} 0 1 = cc in omega arith
    go false f g =
        let same : slot.number ≡ number = eqb-true slot.number number g in
        let z : ◌≡◌ {A = ℕ} 0 1 = cc (rw (same, e) at f) in
        omega arith

first-held : (number first j : ℕ) (slots : List Slot) → distinct slots ≡ true → j < length slots
    → holds number (get_or slots j free_slot) ≡ true → first_from (holds number) first slots ≡ Some (first + j)
unfolding distinct first_from
first-held number first j [] d h e = absurd (omega arith)
first-held number first zero (slot ∷ slots) d h e = rw (e, add-zero first) refl
first-held number first (suc j) (slot ∷ slots) d h e =
    go (holds number slot) refl (λ k. first-held number (suc first) j slots k (omega arith) e)
  where
    apart : (unlike slot slots ≡ true) × (distinct slots ≡ true)
    apart = both_true (unlike slot slots) (distinct slots) d

    go : (b : Bool) → holds number slot ≡ b
        → (distinct slots ≡ true → first_from (holds number) (suc first) slots ≡ Some (suc first + j))
        → pick b (Some first) (first_from (holds number) (suc first) slots) ≡ Some (first + suc j)
    go true f later = absurd (alone number slot slots apart.0 f (among-held number j slots (omega arith) e))
    go false f later = let g : first + suc j ≡ suc first + j = omega arith in rw g (later apart.1)

pub sound-held : (limit count : ℕ) (slots : List Slot) (stores : Stores) → sound_slots limit count slots stores ≡ true
    → (number j : ℕ) → j < count → j < length slots → holds number (slot_at j slots) ≡ true → find_in number count slots
    ≡ Some j
unfolding sound_slots find_in slot_at
sound-held limit count slots stores sound number j h g e =
    let t = all_true
    (within_limits limit count (length stores.header) (length stores.body) (length stores.marks)
    ∷ distinct (take count slots) ∷ right_from limit 0 (take count slots) stores ∷ []) sound in
    let at : get_or (take count slots) j free_slot ≡ get_or slots j free_slot = get_or-take count slots j free_slot h in
    rw (zero-add j) at (first-held number 0 j (take count slots) t.1.0 (rw length-take (omega arith)) (rw at e))
