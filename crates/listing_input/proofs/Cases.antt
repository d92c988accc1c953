-- What a line asks for, case by case.
-- Assumes nothing.
use mathlib.Core.Path.{◌≡◌, refl}
use mathlib.Core.Bool.{Bool, true, false, cond, ◌&&◌}
use mathlib.Core.List.{List, ◌++◌}
use Prim.Native.Nat.{ℕ, ◌≤◌, ◌<◌}
use native.Mathlib.Omega.{arith}
use lib.Dec.{leb}
use borrow.Author.Tests.{ne_eqb, le-leb}
use lib.ListN.{length, drop, get_or, get_or-eq_default}
use Rattle.listing_input.specs.Hex.{is_hex, bytes_of}
use Rattle.listing_input.specs.Line.{taking, dropping, neither, check_of, word_of, asked_by, asked_of}

module _ (letter : ℕ) (digits : List ℕ) where
  pub asks-whole : letter ≡ 0x47 → asked_by letter digits ≡ taking (bytes_of digits)
  unfolding asked_by
  asks-whole e = rw e

  pub asks-unchecked : letter ≡ 0x42 → asked_by letter digits ≡ taking (bytes_of digits ++ check_of (bytes_of digits))
  unfolding asked_by
  asks-unchecked e = rw e

  pub asks-drop : letter ≡ 0x44 → length digits ≡ 4 → asked_by letter digits ≡ dropping (word_of (bytes_of digits))
  unfolding asked_by
  asks-drop e four = rw (e, four)

  pub asks-other-count : letter ≡ 0x44 → (length digits ≡ 4 → ⊥) → asked_by letter digits ≡ neither
  unfolding asked_by
  asks-other-count e not-four = rw (e, ne_eqb (length digits) 4 not-four)

  pub asks-other-letter : (letter ≡ 0x47 → ⊥) → (letter ≡ 0x42 → ⊥) → (letter ≡ 0x44 → ⊥)
      → asked_by letter digits ≡ neither
  unfolding asked_by
  asks-other-letter g b d = rw (ne_eqb letter 0x47 g, ne_eqb letter 0x42 b, ne_eqb letter 0x44 d)

module _ (line : List ℕ) where
  pub untabbed : (get_or line 1 0 ≡ 0x09 → ⊥) → asked_of line ≡ neither
  unfolding asked_of
  untabbed t = rw (ne_eqb (get_or line 1 0) 0x09 t) (none (leb (length line) 16432))
    where
      none : (short : Bool) → cond (short && false && is_hex (drop 2 line)) (asked_by (get_or line 0 0) (drop 2 line))
          neither ≡ neither
      none true = refl
      none false = refl

  pub too_short : length line < 2 → asked_of line ≡ neither
  too_short h =
      untabbed (λ t. let none : get_or line 1 0 ≡ 0 = get_or-eq_default line 0 (omega arith) in omega arith)

  pub no-hex : length line ≤ 16432 → get_or line 1 0 ≡ 0x09 → is_hex (drop 2 line) ≡ false → asked_of line ≡ neither
  unfolding asked_of
  no-hex h t x = rw (le-leb (length line) 16432 h, t, x)

  pub well-formed : length line ≤ 16432 → get_or line 1 0 ≡ 0x09 → is_hex (drop 2 line) ≡ true
      → asked_of line ≡ asked_by (get_or line 0 0) (drop 2 line)
  unfolding asked_of
  well-formed h t x = rw (le-leb (length line) 16432 h, t, x)
