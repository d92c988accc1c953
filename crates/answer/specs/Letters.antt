-- A name, spelt in ASCII.
use Rattle.std.specs.Prelude.{◌≡◌, List, ℕ, codes}
use Prim.Native.String.{String}

-- the letters of a text, as their codes
abbrev pub letters : String → List ℕ
letters text = codes text

-- the name: all its letters, and no other
abbrev pub Spells : List ℕ → String → Type 0
Spells bytes name = bytes ≡ letters name
