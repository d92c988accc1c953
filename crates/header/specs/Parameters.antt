-- Document 01, "Parameters and names": the parameters of a header, and what reading it gives.
use Rattle.std.specs.Prelude.{Bool, true, false, List, [], ◌∷◌, Option, Some, None, Result, Ok, Err, ℕ, zero, suc, ◌+◌, ◌*◌, ◌/◌, ◌%◌, leb, ltb, eqb, length, get_or}
use Rattle.cut.specs.Requirement.{body_size, header_size, content_type, content_sub_type}
use Rattle.header.specs.declared.Parameter.{Parameter}
use Rattle.header.specs.declared.Place.{Place}
use Rattle.header.specs.declared.Fields.{Fields}
use Rattle.header.specs.declared.Refusal.{Refusal}
use Rattle.header.specs.declared.Refusal.TheVariants.{Header, Duplicate}

abbrev pub pick : {A : Type 0} → Bool → A → A → A
pick true a b = a
pick false a b = b

-- ---- one parameter

-- code 3: a length follows at `at`, one byte 0 to 127, or, when its top bit is 1, two bytes with 15 bits of length
unfoldable pub length_at : List ℕ → ℕ → ℕ → Parameter
length_at h i at =
    pick (ltb (get_or h at 0) 128)
    (record { identifier = i; start = at + 1; size = get_or h at 0 })
    (record { identifier = i; start = at + 2; size = get_or h at 0 % 128 * 256 + get_or h (at + 1) 0 })

-- code 0: no data, code 1: 1 byte, code 2: 4 bytes
abbrev pub by_code : List ℕ → ℕ → ℕ → ℕ → Parameter
by_code h at zero i = record { identifier = i; start = at + 1; size = 0 }
by_code h at (suc zero) i = record { identifier = i; start = at + 1; size = 1 }
by_code h at (suc (suc zero)) i = record { identifier = i; start = at + 1; size = 4 }
by_code h at (suc (suc (suc c))) i = length_at h i (at + 1)

-- the parameter that begins at `at`: a byte of 2 bits length code and 6 bits identifier
unfoldable pub parameter_at : List ℕ → ℕ → Parameter
parameter_at h at = by_code h at (get_or h at 0 / 64) (get_or h at 0 % 64)

-- it must not run past the header's end
unfoldable pub within : ℕ → Parameter → Option Parameter
within end p = pick (leb (p.start + p.size) end) (Some p) None

unfoldable pub found_at : List ℕ → ℕ → Option Parameter
found_at h at = within (length h) (parameter_at h at)

-- ---- the list

pub data Listed : Type 0 where
  broken : Listed
  listed : List Parameter → Listed

abbrev pub put : Parameter → Listed → Listed
put p broken = broken
put p (listed ps) = listed (p ∷ ps)

abbrev pub follow : Option Parameter → (Parameter → Listed) → Listed
follow None rest = broken
follow (Some p) rest = put p (rest p)

-- the parameters from `at` on, or that one runs past the end. Each takes a byte at least, so that as many turns as the
-- header has bytes reach its end
unfoldable pub turns : ℕ → List ℕ → ℕ → Listed
turns zero h at = listed []
turns (suc n) h at = pick (ltb at (length h)) (follow (found_at h at) (λ p. turns n h (p.start + p.size))) (listed [])

unfoldable pub parameters_from : List ℕ → ℕ → Listed
parameters_from h at = turns (length h) h at

-- the list of parameters of a header, after its core of 7 bytes
abbrev pub parameters : List ℕ → Listed
parameters h = parameters_from h 7

-- ---- what the list must be

-- identifier 0x0A (Priority) has exactly 1 byte, 0x0C (ContentName) has some
unfoldable pub width_fits : ℕ → ℕ → Bool
width_fits i n = pick (eqb i 0x0A) (eqb n 1) (pick (eqb i 0x0C) (ltb 0 n) true)

unfoldable pub all_fit : List Parameter → Bool
all_fit [] = true
all_fit (p ∷ ps) = pick (width_fits p.identifier p.size) (all_fit ps) false

-- the single parameters
abbrev pub singles : List ℕ
singles = 0x07 ∷ 0x0A ∷ 0x0C ∷ 0x10 ∷ 0x11 ∷ 0x21 ∷ 0x23 ∷ []

abbrev pub among : ℕ → List ℕ → Bool
among i [] = false
among i (k ∷ ks) = pick (eqb i k) true (among i ks)

unfoldable pub single : ℕ → Bool
single i = among i singles

-- how many parameters have the identifier
unfoldable pub count : ℕ → List Parameter → ℕ
count i [] = 0
count i (p ∷ ps) = pick (eqb p.identifier i) (suc (count i ps)) (count i ps)

-- one of these identifiers comes twice
unfoldable pub twice : List ℕ → List Parameter → Bool
twice [] ps = false
twice (i ∷ is) ps = pick (ltb 1 (count i ps)) true (twice is ps)

-- ---- what is read

abbrev pub or_else : Option Parameter → Option Parameter → Option Parameter
or_else None g = g
or_else (Some q) g = Some q

-- the last parameter with the identifier; where none comes twice it is the only one
unfoldable pub find : ℕ → List Parameter → Option Parameter
find i [] = None
find i (p ∷ ps) = or_else (find i ps) (pick (eqb p.identifier i) (Some p) None)

-- Priority's byte, or that it is absent
abbrev pub priority_of : List ℕ → Option Parameter → Option ℕ
priority_of h None = None
priority_of h (Some p) = Some (get_or h p.start 0)

-- where ContentName's data stands, or that it is absent
abbrev pub name_of : Option Parameter → Option Place
name_of None = None
name_of (Some p) = Some (record { start = p.start; size = p.size })

unfoldable pub fields_of : List ℕ → Option Parameter → Option Parameter → Fields
fields_of h priority name =
    record {
      body_size = body_size h;
      header_size = header_size h;
      content_type = content_type h;
      content_sub_type = content_sub_type h;
      priority = priority_of h priority;
      name = name_of name;
    }

-- HEADER over the whole list, and only then DUPLICATE
unfoldable pub judged : List ℕ → Listed → Result Fields Refusal
judged h broken = Err Header
judged h (listed ps) =
    pick (all_fit ps) (pick (twice singles ps) (Err Duplicate) (Ok (fields_of h (find 0x0A ps) (find 0x0C ps))))
    (Err Header)

-- what a finished header, which has its core, reads as
unfoldable pub read_header : List ℕ → Result Fields Refusal
read_header h = judged h (parameters h)

-- the name's data of a header that reads; a refused one has none
abbrev pub name_in : Result Fields Refusal → Option Place
name_in (Err why) = None
name_in (Ok f) = f.name
