-- Numbers as the listing writes them, in ASCII.
use Rattle.std.specs.Prelude.{cond, List, [], ◌∷◌, ◌++◌, ℕ, zero, suc, ◌+◌, ◌/◌, ◌%◌, eqb, ltb}

-- a digit below 16: `0` to `9`, then `a` to `f`
unfoldable pub digit : ℕ → ℕ
digit value = cond (ltb value 10) (0x30 + value) (0x57 + value)

-- the decimal digits of a number in so many places; 0 has none
unfoldable pub digits_of : ℕ → ℕ → List ℕ
digits_of zero number = []
digits_of (suc places) number = cond (eqb number 0) [] (digits_of places (number / 10) ++ ((0x30 + number % 10) ∷ []))

-- a number in decimal, with no zeros in front; twenty places hold each number below 2^64
unfoldable pub decimal : ℕ → List ℕ
decimal number = digits_of 19 (number / 10) ++ ((0x30 + number % 10) ∷ [])

-- four hex digits
unfoldable pub four_digits : ℕ → List ℕ
four_digits number = digit (number / 0x1000) ∷ digit (number / 0x100 % 0x10) ∷ digit (number / 0x10 % 0x10) ∷ digit
    (number % 0x10) ∷ []
