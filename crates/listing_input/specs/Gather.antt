-- How the input is gathered into lines, a chunk of it at a time. Of a line its first 16,433 characters are kept, one
-- more than a line may have, which is enough to know a line that is too long.
use Rattle.std.specs.Prelude.{cond, List, [], ◌∷◌, ℕ, ◌+◌, ◌-◌, eqb, ltb, length, take, drop}
use Rattle.octets.specs.Octets.{over}
use Rattle.listing_input.specs.declared.Gathered.{Gathered}
use Rattle.listing_input.specs.Split.{newline}

abbrev pub most : ℕ
most = 16433

-- the characters before the first newline
unfoldable pub before : List ℕ → List ℕ
before [] = []
before (character ∷ input) = cond (eqb character newline) [] (character ∷ before input)

-- of a piece of a line, what there is room for behind those that are kept
unfoldable pub room_for : ℕ → ℕ → List ℕ → List ℕ
room_for room kept piece = take (room - kept) piece

-- where a line ends that goes on from a place in a chunk: at the next newline, or at the chunk's end
unfoldable pub line_end : List ℕ → ℕ → ℕ
line_end chunk from = from + length (before (drop from chunk))

-- whether a newline ends it, and then the next line starts behind that
unfoldable pub gathered : List ℕ → ℕ → ℕ → Gathered
gathered chunk from kept = record {
  next = cond (ltb (line_end chunk from) (length chunk)) (line_end chunk from + 1) (line_end chunk from);
  kept = kept + length (room_for most kept (before (drop from chunk)));
  whole = ltb (line_end chunk from) (length chunk);
}

-- the memory that the line is kept in, afterwards
unfoldable pub line_after : List ℕ → ℕ → List ℕ → ℕ → List ℕ
line_after chunk from line kept = over line kept (room_for most kept (before (drop from chunk)))
