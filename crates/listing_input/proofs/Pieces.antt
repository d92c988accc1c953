-- Laws of a line's pieces: where a piece ends, and how much of it there is room for.
-- Assumes nothing.
use Rattle.std.proofs.Common.{◌≡◌, refl, sym, ap, ◌∙◌, Bool, true, false, cond, ℕ, ◌+◌, ◌-◌, ◌≤◌, ◌<◌, List, [], ◌∷◌, length, take, drop, length-take, length-drop, take_all, arith, ltb-true, ltb-false}
use Rattle.std.specs.Prelude.{Some, None, ◌==◌, min, nat_lt, position}
use Rattle.std.specs.List.{position_or_len}
use Rattle.std.proofs.lemmas.List.{take_min, drop_min}
use Rattle.std.proofs.lemmas.List.Recursion.{is_position_or_len}
use Rattle.listing_input.specs.Split.{newline}
use Rattle.listing_input.specs.Gather.{before, room_for}

-- a piece is the front of what follows
pub front_at : (input : List ℕ) → take (length (before input)) input ≡ before input
unfolding before
front_at [] = refl
front_at (character ∷ input) = front (character == newline) (front_at input)
  where
    front : (ends : Bool) → take (length (before input)) input ≡ before input
        → take (length (cond ends [] (character ∷ before input))) (character ∷ input)
        ≡ cond ends [] (character ∷ before input)
    front true e = refl
    front false e = ap (λ (rest : List ℕ). character ∷ rest) e

pub before-short : (input : List ℕ) → length (before input) ≤ length input
before-short input = rw (← front_at input) (rw length-take (omega arith))

-- it ends where the first newline is, or where the input ends
before-length : (input : List ℕ) → length (before input) ≡ position_or_len (λ character. character == newline) input
unfolding before
before-length = is_position_or_len (λ input. length (before input)) (λ character. character == newline) refl
    (λ character input. ends (character == newline) character input)
  where
    ends : (test : Bool) (character : ℕ) (input : List ℕ)
        → length (cond test [] (character ∷ before input)) ≡ cond test 0 (1 + length (before input))
    ends true character input = refl
    ends false character input = omega arith

pub newline-found : (input : List ℕ) (count : ℕ) → Some count ≡ position (λ character. character == newline) input
    → (count ≡ length (before input)) × (count < length input)
newline-found input count e = found _ refl (rw (← before-length input) at e)
  where
    found : (within : Bool) → within ≡ nat_lt (length (before input)) (length input)
        → Some count ≡ cond within (Some (length (before input))) None
        → (count ≡ length (before input)) × (count < length input)
    found true w s = let same : count ≡ length (before input) = cc in
        (same, rw same (ltb-true (length (before input)) (length input) (sym w)))
    found false w s = cc

pub no-newline : (input : List ℕ) → None ≡ position (λ character. character == newline) input → before input ≡ input
no-newline input e = none _ refl (rw (← before-length input) at e)
  where
    none : (within : Bool) → within ≡ nat_lt (length (before input)) (length input)
        → None ≡ cond within (Some (length (before input))) None → before input ≡ input
    none true w s = cc
    none false w s = sym (front_at input) ∙ take_all (length (before input)) input
        (ltb-false (length (before input)) (length input) (sym w))

-- what is left of a chunk, from a place in it on or from beyond its end
pub rest_is : (chunk : List ℕ) (from at : ℕ) → at ≡ min from (length chunk)
    → take (length chunk - at) (drop at chunk) ≡ drop from chunk
rest_is chunk from at e =
    take_all (length chunk - at) (drop at chunk) (rw length-drop (omega arith)) ∙ rw e (drop_min from chunk)

module _ (room kept : ℕ) (piece : List ℕ) where
  pub no_room : room ≤ kept → room_for room kept piece ≡ []
  unfolding room_for
  no_room h = let none : room - kept ≡ 0 = omega arith in rw none

  pub room-for-count : (count : ℕ) → count ≡ min (room - kept) (length piece)
      → room_for room kept piece ≡ take count piece
  unfolding room_for
  room-for-count count e = rw e (sym (take_min (room - kept) piece))
