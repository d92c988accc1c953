-- Bytes written in hex: two digits to a byte, the high one first, in lower case.
use Rattle.std.specs.Prelude.{Bool, Option, Some, None, is_some, unwrap_or, cond, ◌&&◌, List, [], ◌∷◌, ℕ, ◌+◌, ◌-◌, ◌*◌, ◌%◌, eqb, leb, length}
use Rattle.std.specs.List.{list_all}

-- what a digit stands for: `0` to `9`, then `a` to `f`; nothing for any other character
unfoldable pub digit_of : ℕ → Option ℕ
digit_of character =
    cond (leb 0x30 character && leb character 0x39) (Some (character - 0x30))
    (cond (leb 0x61 character && leb character 0x66) (Some (character - 0x57))
    None)

unfoldable pub all_digits : List ℕ → Bool
all_digits text = list_all (λ character. is_some (digit_of character)) text

-- digits and nothing else, an even count of them
unfoldable pub is_hex : List ℕ → Bool
is_hex text = eqb (length text % 2) 0 && all_digits text

-- the byte that two digits stand for
unfoldable pub byte_of : ℕ → ℕ → ℕ
byte_of high low = unwrap_or (digit_of high) 0 * 16 + unwrap_or (digit_of low) 0

-- the bytes that the digits stand for
unfoldable pub bytes_of : List ℕ → List ℕ
bytes_of [] = []
bytes_of (alone ∷ []) = []
bytes_of (high ∷ low ∷ text) = byte_of high low ∷ bytes_of text
