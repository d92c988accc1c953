-- Laws of the layout: words that are put, and the slots one after another.
use Rattle.std.specs.Prelude.{◌≡◌, refl, Bool, true, false, ◌&&◌, List, [], ◌∷◌, ◌++◌, ℕ, zero, suc, ◌+◌, ◌-◌, ◌*◌, ◌≤◌, ◌<◌, length, get_or, set, take, drop, map}
use Rattle.std.specs.List.{list_all, range_with_len}
use Rattle.std.specs.Simd.{first_chunks}
use Rattle.std.proofs.Common.{sym, ◌∙◌, append_assoc, append-nil, add-zero, add-one, arith, drop_of_length-le, drop-cons, drop-drop, get_or-take, get_or-drop}
use Rattle.std.proofs.Math.Nat.{add_assoc}
use borrow.Rule.Slice.PartMut.{put_mid}
use Rattle.std.proofs.lemmas.Slice.{take-put_mid}
use Rattle.cut.specs.Lists.{both}
use Rattle.object.specs.declared.Slot.{Slot}
use Rattle.layout.specs.Layout.{word, slot_words, slots_words, stage_at, record_at, slot_in, slots_from, slot_readable, readable_from}

-- ---- words that are put

pub two-put : (l : List ℕ) (a b : ℕ) → length l ≡ 178 → take 2 (set (set l 0 a) 1 b) ≡ a ∷ b ∷ []
two-put [] a b h = absurd (omega (arith, h))
two-put (x ∷ []) a b h = absurd (omega (arith, h))
two-put (x ∷ y ∷ l) a b h = refl

-- ---- slot after slot

-- the words of a slot are eleven from its place on
pub word-in : (words : List ℕ) (at j : ℕ) → j < 11 → word (take 11 (drop at words)) j ≡ word words (at + j)
word-in words at j h = get_or-take 11 (drop at words) j 0 h ∙ get_or-drop at words j 0

pub slot-alone : (words : List ℕ) (at : ℕ) → slot_in (take 11 (drop at words)) 0 ≡ slot_in words at
unfolding slot_in stage_at record_at
slot-alone words at =
    let here : (j : ℕ) → j < 11 → word (take 11 (drop at words)) j ≡ word words (at + j) = word-in words at in
    simp (
      add_assoc,
      here 0 (omega arith),
      here 1 (omega arith),
      here 2 (omega arith),
      here 3 (omega arith),
      here 4 (omega arith),
      here 5 (omega arith),
      here 6 (omega arith),
      here 7 (omega arith),
      here 8 (omega arith),
      here 9 (omega arith),
      here 10 (omega arith),
      add-zero,
    ) refl

pub readable-alone : (words : List ℕ) (at : ℕ) → slot_readable (take 11 (drop at words)) 0 ≡ slot_readable words at
unfolding slot_readable
readable-alone words at =
    let here : (j : ℕ) → j < 11 → word (take 11 (drop at words)) j ≡ word words (at + j) = word-in words at in
    rw (here 0 (omega arith), here 1 (omega arith), here 10 (omega arith), add-zero) refl

-- the words of each slot
pub chunks-each : (words : List ℕ) (n i : ℕ) → first_chunks 11 n (drop (2 + i * 11) words)
    ≡ map (λ (j : ℕ). take 11 (drop (2 + j * 11) words)) (range_with_len i n)
chunks-each words zero i = refl
chunks-each words (suc n) i =
    let next : 2 + i * 11 + 11 ≡ 2 + (i + 1) * 11 = omega arith in
    rw (drop-drop 11 (2 + i * 11) words, next, chunks-each words n (i + 1)) refl

-- one is read at each eleventh word
pub from-each : (words : List ℕ) (n i : ℕ)
    → map (λ (j : ℕ). slot_in words (2 + j * 11)) (range_with_len i n) ≡ slots_from words n (2 + i * 11)
unfolding slots_from
from-each words zero i = refl
from-each words (suc n) i =
    let next : 2 + (i + 1) * 11 ≡ 2 + i * 11 + 11 = omega arith in
    rw (from-each words n (i + 1), next)

-- one is put
pub put-turn : (l : List ℕ) (slots : List Slot) (i at : ℕ) (d : Slot) → i < length slots → at + 11 ≤ length l
    → take at l ++ slots_words (drop i slots)
    ≡ take (at + 11) (put_mid at (at + 11 - at) l (slot_words (get_or slots i d))) ++ slots_words (drop (i + 1) slots)
unfolding slots_words
put-turn l slots i at d h g =
    let run = slot_words (get_or slots i d) in
    rw (drop-cons slots i d h, add-one, take-put_mid at (at + 11 - at) l run (at + 11) refl (omega arith))
    (sym (append_assoc (take at l) run (slots_words (drop (suc i) slots))))

-- all are put
pub put-end : (l : List ℕ) (slots : List Slot) → length slots ≡ 16 → l ++ slots_words (drop 16 slots) ≡ l
unfolding slots_words
put-end l slots h = let few : length slots ≤ 16 = omega (arith, h) in rw (drop_of_length-le slots few) (append-nil l)

-- each is looked at
pub readable-each : (words : List ℕ) (n i : ℕ)
    → list_all (λ (j : ℕ). slot_readable words (2 + j * 11)) (range_with_len i n) ≡ readable_from words n (2 + i * 11)
unfolding readable_from
readable-each words zero i = refl
readable-each words (suc n) i =
    let next : 2 + (i + 1) * 11 ≡ 2 + i * 11 + 11 = omega arith in
    rw (readable-each words n (i + 1), next) (ands (slot_readable words (2 + i * 11)) _)
  where
    ands : (a b : Bool) → (a && b) ≡ both a b
    ands true b = refl
    ands false b = refl
