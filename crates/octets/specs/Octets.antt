-- What the functions on bytes leave and answer.
use Rattle.std.specs.Prelude.{ℕ, ◌+◌, max, ◌*◌, Bool, true, false, List, [], ◌∷◌, ◌++◌, eqb, length, take, drop, replicate}

-- the run of bytes `run` laid over the list `l` from the index `at` on
unfoldable pub over : List ℕ → ℕ → List ℕ → List ℕ
over l at run = take at l ++ run ++ drop (at + length run) l

-- n bytes that are 0
unfoldable pub zeros : ℕ → List ℕ
zeros n = replicate n 0

abbrev pub both : Bool → Bool → Bool
both true b = b
both false b = false

-- the same bytes
unfoldable pub equal : List ℕ → List ℕ → Bool
equal [] [] = true
equal [] (b ∷ m) = false
equal (a ∷ l) [] = false
equal (a ∷ l) (b ∷ m) = both (eqb a b) (equal l m)

-- the largest byte, 0 where there is none
unfoldable pub largest_of : List ℕ → ℕ
largest_of [] = 0
largest_of (b ∷ l) = max b (largest_of l)

-- the sum of the bytes, and how many marks are set, where each is 0 or 1
abbrev pub sum_of : List ℕ → ℕ
sum_of [] = 0
sum_of (b ∷ l) = b + sum_of l

-- the `count` bytes from `from` on
abbrev pub part : List ℕ → ℕ → ℕ → List ℕ
part l from count = take count (drop from l)

-- share i of a list cut into shares of w bytes
abbrev pub share : ℕ → ℕ → List ℕ → List ℕ
share w i l = part l (i * w) w
