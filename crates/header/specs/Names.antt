-- Document 01, "Parameters and names": when a name that is asked for is a header's.
use Rattle.std.specs.Prelude.{Bool, false, List, [], ◌∷◌, Option, Some, None, ℕ, eqb, drop, take}
use Rattle.octets.specs.Octets.{equal}
use Rattle.header.specs.Parameters.{pick, read_header, name_in}
use Rattle.header.specs.declared.Place.{Place}

-- one leading slash dropped
unfoldable pub unslashed : List ℕ → List ℕ
unslashed [] = []
unslashed (b ∷ bs) = pick (eqb b 0x2F) bs (b ∷ bs)

-- the data's first byte is the character set and plays no part; one leading slash is dropped on each side, then bytes
-- must be equal
unfoldable pub name_matches : List ℕ → List ℕ → Bool
name_matches data_bytes asked = equal (unslashed (drop 1 data_bytes)) (unslashed asked)

-- the header's name is
abbrev pub named_as : List ℕ → List ℕ → Option Place → Bool
named_as h asked None = false
named_as h asked (Some place) = name_matches (take place.size (drop place.start h)) asked

-- ContentName's data as a part of the header, or nothing where the header has none; a refused header has none
abbrev pub data_as : List ℕ → Option Place → List ℕ
data_as header None = []
data_as header (Some place) = take place.size (drop place.start header)

unfoldable pub name_data : List ℕ → List ℕ
name_data header = data_as header (name_in (read_header header))

-- a header that reads has the name that is asked for; a refused one has no name
unfoldable pub has_name : List ℕ → List ℕ → Bool
has_name asked header = named_as header asked (name_in (read_header header))
