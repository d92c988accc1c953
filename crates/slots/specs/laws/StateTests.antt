-- STATE as code asks it: the bounds before the lengths, and slot by slot.
use Rattle.std.specs.Prelude.{◌≡◌, Bool, true, false, List, [], ◌∷◌, ℕ, ◌+◌, ◌*◌, ◌≤◌, ◌<◌, length, get_or, take, drop}
use Rattle.std.proofs.Math.Path.{refl}
use Rattle.std.proofs.Common.{sym, ◌∙◌, arith, length-take, length-drop, drop-cons, get_or-take}
use Rattle.std.proofs.Math.Numerals.{add-one}
use Rattle.std.proofs.Math.Dec.{eqb, leb}
use borrow.Author.Tests.{eqb-true, leb-true}
use Rattle.cut.specs.Requirement.{header_most, limit_least, limit_most}
use Rattle.cut.specs.Lists.{both, all}
use Rattle.cut.specs.laws.Decision.{all_true}
use Rattle.object.specs.declared.Slot.{Slot}
use Rattle.object.specs.Sound.{sound_parts, sound_slot}
use Rattle.object.specs.Parts.{parts_of}
use Rattle.object.specs.Stage.{core_in, stage_of, missing_in}
use Rattle.slots.specs.Stores.{slots_most, slot_marks, Stores, lent_at, free_slot, Limits}
use Rattle.slots.specs.State.{within_limits, right_slot, right_by, right_from}

-- ---- the limits

both-none : (a : Bool) → both a false ≡ false
both-none true = refl
both-none false = refl

turned : (a b c d : Bool) → both a (both b (both c d)) ≡ both d (both a (both b c))
turned false b c d = sym (both-none d)
turned true false c d = sym (both-none d)
turned true true false d = sym (both-none d)
turned true true true true = refl
turned true true true false = refl

module _ (limit count header body marks : ℕ) where
  pub limits-tests : within_limits limit count header body marks
      ≡ both (all (leb limit_least limit ∷ leb limit limit_most ∷ leb 1 count ∷ leb count slots_most ∷ []))
      (both (eqb header (count * header_most)) (both (eqb body (count * limit)) (eqb marks (count * slot_marks))))
  unfolding within_limits
  limits-tests = turned (eqb header (count * header_most)) (eqb body (count * limit)) (eqb marks (count * slot_marks))
      (all (leb limit_least limit ∷ leb limit limit_most ∷ leb 1 count ∷ leb count slots_most ∷ []))

  pub limits-hold : within_limits limit count header body marks ≡ true → Limits limit count header body marks
  unfolding within_limits
  limits-hold e =
      let t = all_true (eqb header (count * header_most) ∷ eqb body (count * limit) ∷ eqb marks (count * slot_marks)
      ∷ leb limit_least limit ∷ leb limit limit_most ∷ leb 1 count ∷ leb count slots_most ∷ []) e in
      record {
        header = eqb-true header (count * header_most) t.0;
        body = eqb-true body (count * limit) t.1.0;
        marks = eqb-true marks (count * slot_marks) t.1.1.0;
        least = leb-true limit_least limit t.1.1.1.0;
        most = leb-true limit limit_most t.1.1.1.1.0;
        some = leb-true 1 count t.1.1.1.1.1.0;
        slots = leb-true count slots_most t.1.1.1.1.1.1.0;
      }

-- ---- slot by slot

-- nothing is left
pub spent : {A : Type 0} (l : List A) (i : ℕ) → length l ≤ i → drop i l ≡ []
spent l i h = empty (drop i l) (rw length-drop (omega arith))
  where
    empty : {A : Type 0} (l : List A) → length l ≡ 0 → l ≡ []
    empty [] e = refl
    empty (x ∷ l) e = absurd (omega arith)

-- one more is left
pub one_more : {A : Type 0} (d : A) (l : List A) (count i : ℕ) → i < count → i < length l → drop i (take count l)
    ≡ get_or l i d ∷ drop (i + 1) (take count l)
one_more d l count i h g = drop-cons (take count l) i d (rw length-take (omega arith))
    ∙ rw (get_or-take count l i d h, add-one) refl

pub right-meets : (limit i : ℕ) (slot : Slot) (stores : Stores) → right_slot limit slot (lent_at limit i stores)
    ≡ right_by limit i slot stores.header stores.marks
unfolding right_slot right_by lent_at sound_slot sound_parts parts_of core_in stage_of missing_in
right-meets limit i slot stores = refl

module _ (slots : List Slot) (count i : ℕ) where
  pub right-none : (limit : ℕ) (stores : Stores) → length (take count slots) ≤ i
      → right_from limit i (drop i (take count slots)) stores ≡ true
  unfolding right_from
  right-none limit stores h = rw (spent (take count slots) i h) refl

  module _ (h : i < count) (g : i < length slots) where
    pub right-on : (limit : ℕ) (stores : Stores) → right_from limit i (drop i (take count slots)) stores
        ≡ both (right_by limit i (get_or slots i free_slot) stores.header stores.marks)
        (right_from limit (i + 1) (drop (i + 1) (take count slots)) stores)
    unfolding right_from
    right-on limit stores = rw (
      one_more free_slot slots count i h g,
      right-meets limit i (get_or slots i free_slot) stores,
      add-one,
    ) refl
