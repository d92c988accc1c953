-- The lower of two holders, and the lowest of all slots, slot by slot.
use Rattle.std.specs.Prelude.{◌≡◌, true, false, List, Option, Some, None, ℕ, ◌+◌, ◌≤◌, ◌<◌, length, get_or, drop}
use Rattle.std.proofs.Math.Path.{refl, sym, ap}
use Rattle.std.proofs.Common.{◌∙◌, add-one, arith, drop-cons}
use Rattle.std.proofs.lemmas.List.{drop_all}
use Rattle.object.specs.declared.Slot.{Slot}
use Rattle.slots.specs.Stores.{free_slot}
use Rattle.name_search.specs.Finding.{lower, holds_name, holder_in, lowest_from}

-- ---- the lower of two

pub lower-nobody : (a : Option ℕ) → lower a None ≡ a
lower-nobody None = refl
lower-nobody (Some n) = refl

pub lower-assoc : (a b c : Option ℕ) → lower (lower a b) c ≡ lower a (lower b c)
lower-assoc None b c = refl
lower-assoc (Some n) None c = refl
lower-assoc (Some n) (Some m) None = refl
lower-assoc (Some n) (Some m) (Some k) = ap Some (omega arith)

-- no number is lower than 0
pub lower-zero : (a b : Option ℕ) → lower (lower a (Some 0)) b ≡ lower a (Some 0)
lower-zero None None = refl
lower-zero None (Some m) = ap Some (omega arith)
lower-zero (Some n) None = refl
lower-zero (Some n) (Some m) = ap Some (omega arith)

-- ---- slot by slot

module _ (asked : List ℕ) (i : ℕ) (slot : Slot) (store : List ℕ) where
  pub holder-not : holds_name asked i slot store ≡ false → holder_in asked i slot store ≡ None
  unfolding holder_in
  holder-not e = rw e refl

  pub holder-is : holds_name asked i slot store ≡ true → holder_in asked i slot store ≡ Some slot.number
  unfolding holder_in
  holder-is e = rw e refl

module _ (asked : List ℕ) (slots : List Slot) (store : List ℕ) (i : ℕ) where
  -- none is left
  pub lowest-none : length slots ≤ i → lowest_from asked i (drop i slots) store ≡ None
  unfolding lowest_from
  lowest-none h = rw (drop_all i slots h) refl

  -- the answer, after one more: what was held, this one, and what is left
  pub lowest-on : i < length slots → (held : Option ℕ) {answer : Option ℕ}
      → answer ≡ lower held (lowest_from asked i (drop i slots) store)
      → answer ≡ lower (lower held (holder_in asked i (get_or slots i free_slot) store))
      (lowest_from asked (i + 1) (drop (i + 1) slots) store)
  unfolding lowest_from
  lowest-on h held e =
      let rest : Option ℕ = lowest_from asked (i + 1) (drop (i + 1) slots) store in
      let step : lowest_from asked i (drop i slots) store
      ≡ lower (holder_in asked i (get_or slots i free_slot) store) rest =
      rw (drop-cons slots i free_slot h, add-one) refl in
      e ∙ ap (lower held) step ∙ sym (lower-assoc held (holder_in asked i (get_or slots i free_slot) store) rest)
