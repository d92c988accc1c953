-- No two slots hold one number exactly where no two keys but 0 are one.
use Rattle.std.specs.Prelude.{◌≡◌, Bool, true, false, List, [], ◌∷◌, ℕ, zero, suc, ◌+◌, ◌≤◌, ◌<◌, eqb, length, get_or, take, drop}
use Rattle.std.proofs.Math.Path.{refl}
use Rattle.std.proofs.Common.{sym, ◌∙◌, arith, eq-eqb, ne_eqb}
use Rattle.std.proofs.Math.Decide.{ℕ_discrete}
use Rattle.cut.specs.Lists.{both, pick}
use Rattle.object.specs.declared.Slot.{Slot}
use Rattle.slots.specs.Find.{free_stage, is_free, holds}
use Rattle.slots.specs.State.{held_among, unlike, distinct}
use Rattle.slots.specs.Keys.{key_of, keys_of, absent_key, unlike_key, distinct_keys}
use Rattle.slots.specs.laws.StateTests.{spent, one_more}

-- ---- keys for slots

one_number : (m n : ℕ) → eqb (m + 1) (n + 1) ≡ eqb m n
one_number m n = go (ℕ_discrete m n)
  where
    go : Dec (m ≡ n) → eqb (m + 1) (n + 1) ≡ eqb m n
    go (yes p) = eq-eqb (m + 1) (n + 1) (omega arith) ∙ sym (eq-eqb m n p)
    go (no p) = ne_eqb (m + 1) (n + 1) (λ e. p (omega arith)) ∙ sym (ne_eqb m n p)

absent-held : (number : ℕ) (slots : List Slot) → absent_key (number + 1) (keys_of slots)
    ≡ pick (held_among number slots) false true
unfolding absent_key keys_of key_of held_among holds is_free
absent-held number [] = refl
absent-held number (slot ∷ slots) = go (free_stage slot.stage) (absent-held number slots)
  where
    picked : (t : Bool) → absent_key (number + 1) (keys_of slots) ≡ pick (held_among number slots) false true
        → pick t false (absent_key (number + 1) (keys_of slots)) ≡ pick (pick t true (held_among number slots)) false true
    picked true e = refl
    picked false e = e

    go : (free : Bool) → absent_key (number + 1) (keys_of slots) ≡ pick (held_among number slots) false true
        → pick (eqb (pick free 0 (slot.number + 1)) (number + 1)) false (absent_key (number + 1) (keys_of slots))
        ≡ pick (pick (pick free false (eqb slot.number number)) true (held_among number slots)) false true
    go true e = rw (ne_eqb 0 (number + 1) (λ z. absurd (omega arith))) e
    go false e = rw (one_number slot.number number) (picked (eqb slot.number number) e)

unlike-keys : (slot : Slot) (slots : List Slot) → unlike_key (key_of slot) (keys_of slots) ≡ unlike slot slots
unfolding unlike_key key_of unlike is_free
unlike-keys slot slots = go (free_stage slot.stage)
  where
    go : (free : Bool) → pick (eqb (pick free 0 (slot.number + 1)) 0) true
        (absent_key (pick free 0 (slot.number + 1)) (keys_of slots))
        ≡ pick free true (pick (held_among slot.number slots) false true)
    go true = refl
    go false = rw (ne_eqb (slot.number + 1) 0 (λ z. absurd (omega arith))) (absent-held slot.number slots)

distinct-all : (slots : List Slot) → distinct_keys (keys_of slots) ≡ distinct slots
unfolding distinct_keys keys_of distinct
distinct-all [] = refl
distinct-all (slot ∷ slots) = rw (unlike-keys slot slots, distinct-all slots) refl

keys-taken : (count : ℕ) (slots : List Slot) → take count (keys_of slots) ≡ keys_of (take count slots)
unfolding keys_of
keys-taken zero slots = refl
keys-taken (suc count) [] = refl
keys-taken (suc count) (slot ∷ slots) = rw (keys-taken count slots) refl

pub distinct-keys : (count : ℕ) (slots : List Slot) → distinct_keys (take count (keys_of slots))
    ≡ distinct (take count slots)
distinct-keys count slots = rw (keys-taken count slots) (distinct-all (take count slots))

-- ---- key by key

module _ (keys : List ℕ) (count i : ℕ) where
  pub absent_none : (key : ℕ) → length (take count keys) ≤ i → absent_key key (drop i (take count keys)) ≡ true
  unfolding absent_key
  absent_none key h = rw (spent (take count keys) i h) refl

  pub distinct_none : length (take count keys) ≤ i → distinct_keys (drop i (take count keys)) ≡ true
  unfolding distinct_keys
  distinct_none h = rw (spent (take count keys) i h) refl

  module _ (h : i < count) (g : i < length keys) where
    pub absent-on : (key : ℕ) → absent_key key (drop i (take count keys))
        ≡ pick (eqb (get_or keys i 0) key) false (absent_key key (drop (i + 1) (take count keys)))
    unfolding absent_key
    absent-on key = rw (one_more 0 keys count i h g) refl

    pub distinct-on : distinct_keys (drop i (take count keys))
        ≡ both (unlike_key (get_or keys i 0) (drop (i + 1) (take count keys)))
        (distinct_keys (drop (i + 1) (take count keys)))
    unfolding distinct_keys
    distinct-on = rw (one_more 0 keys count i h g) refl
