-- Document 01, "The listing program": the input, one record a line. A newline ends a line; the last line needs none,
-- and a newline at the very end starts no line.
use Rattle.std.specs.Prelude.{cond, List, [], ◌∷◌, ◌++◌, ℕ, eqb}

abbrev pub newline : ℕ
newline = 0x0A

-- the lines that newlines end, where the characters of the first one so far are `begun`
unfoldable pub ended : List ℕ → List ℕ → List (List ℕ)
ended begun [] = []
ended begun (character ∷ input) =
    cond (eqb character newline) (begun ∷ ended [] input) (ended (begun ++ (character ∷ [])) input)

-- the characters behind the last newline
unfoldable pub behind : List ℕ → List ℕ → List ℕ
behind begun [] = begun
behind begun (character ∷ input) =
    cond (eqb character newline) (behind [] input) (behind (begun ++ (character ∷ [])) input)

-- a line that no newline ends, where there are characters
abbrev pub unended : List ℕ → List (List ℕ)
unended [] = []
unended (character ∷ line) = (character ∷ line) ∷ []

unfoldable pub lines_of : List ℕ → List (List ℕ)
lines_of input = ended [] input ++ unended (behind [] input)
