-- Laws of hex digits, one digit and one byte further on.
-- Assumes nothing.
use mathlib.Core.Path.{◌≡◌, refl, sym}
use mathlib.Core.List.{List, [], ◌∷◌, ◌++◌}
use Prim.Native.Nat.{ℕ, ◌+◌, ◌*◌, ◌≤◌, ◌<◌}
use Rattle.std.specs.Prelude.{unwrap_or}
use Rattle.std.proofs.lemmas.Bool.Decides.{nat_tests}
use native.Mathlib.Omega.{arith}
use lib.ListN.{length, get_or, set}
use Rattle.octets.specs.Octets.{over}
use Rattle.octets.specs.laws.Over.{over-one}
use Rattle.listing_input.specs.Line.{word_of}
use Rattle.listing_input.specs.laws.Run.{over_nothing, over-joined}
use Rattle.listing_input.specs.Hex.{digit_of, byte_of, bytes_of}

-- what a digit stands for fits four bits
pub digit_bound : (character : ℕ) → unwrap_or (digit_of character) 0 ≤ 15
unfolding digit_of
digit_bound character = grind (arith, nat_tests)

-- a pair of digits more is decoded
pub decoded : (pair rest group : List ℕ) (i : ℕ) → length pair ≡ 2 → i < length group
    → over (set group i (byte_of (get_or pair 0 0) (get_or pair 1 0))) (i + 1) (bytes_of rest)
    ≡ over group i (bytes_of (pair ++ rest))
unfolding bytes_of
decoded [] rest group i h k = absurd (omega arith)
decoded (alone ∷ []) rest group i h k = absurd (omega arith)
decoded (high ∷ low ∷ []) rest group i h k =
    rw (over-one group i (byte_of high low) k)
    (over-joined group i (byte_of high low ∷ []) (omega arith) (bytes_of rest))
decoded (high ∷ low ∷ next ∷ more) rest group i h k = absurd (omega arith)

pub none-decoded : (rest group : List ℕ) (i : ℕ) → length rest < 2 → over group i (bytes_of rest) ≡ group
unfolding bytes_of
none-decoded [] group i h = sym (over_nothing group i)
none-decoded (alone ∷ []) group i h = sym (over_nothing group i)
none-decoded (high ∷ low ∷ rest) group i h = absurd (omega arith)

pub word-decoded : (digits : List ℕ) → length digits ≡ 4
    → word_of (bytes_of digits)
    ≡ byte_of (get_or digits 0 0) (get_or digits 1 0) * 256 + byte_of (get_or digits 2 0) (get_or digits 3 0)
unfolding bytes_of
word-decoded [] h = absurd (omega arith)
word-decoded (a ∷ []) h = absurd (omega arith)
word-decoded (a ∷ b ∷ []) h = absurd (omega arith)
word-decoded (a ∷ b ∷ c ∷ []) h = absurd (omega arith)
word-decoded (a ∷ b ∷ c ∷ d ∷ []) h = refl
word-decoded (a ∷ b ∷ c ∷ d ∷ e ∷ more) h = absurd (omega arith)
