-- What is kept of the segments of a part, numbers only: its record (size, end, tail) and top, 1 + the highest number of
-- a full segment or 0; of the header also the two sizes that segment 0 says. No bytes play a part but those two sizes.
use Rattle.std.specs.Prelude.{Bool, true, false, Option, Some, None, List, [], ◌∷◌, ℕ, zero, suc, ◌-◌, ◌/◌, max, length, eqb, leb}
use Rattle.cut.specs.Requirement.{header_least, header_most, header_numbers, body_numbers, body_size, header_size, Segment}
use Rattle.answer.specs.declared.Part.{Part}
use Rattle.answer.specs.declared.Part.TheVariants.{Header, Body}
use Rattle.cut.specs.declared.Sizes.{Sizes}
use Rattle.cut.specs.declared.Bounds.{Bounds}
use Rattle.cut.specs.declared.Record.{Record}
use Rattle.cut.specs.Lists.{pick}

-- ---- the bounds of a part

unfoldable pub bounds_of : Part → ℕ → Option Sizes → Bounds
bounds_of Header limit None = record { least = header_least; most = header_most; numbers = header_numbers }
bounds_of Header limit (Some sizes) = record { least = sizes.header; most = sizes.header; numbers = header_numbers }
bounds_of Body limit None = record { least = 0; most = limit; numbers = body_numbers }
bounds_of Body limit (Some sizes) = record { least = sizes.body; most = sizes.body; numbers = body_numbers }

-- ---- the segments of a part, whatever their order

pub record Summary : Type 0 where
  pub top : ℕ
  pub part : Record

-- one more: the last one gives end and tail, a full one the size
abbrev pub add_part : Bool → ℕ → ℕ → Record → Record
add_part true n k p = record { size = p.size; end = suc n; tail = k }
add_part false n k p = record { size = k; end = p.end; tail = p.tail }

abbrev pub add_top : Bool → ℕ → ℕ → ℕ
add_top true n t = t
add_top false n t = max (suc n) t

abbrev pub add_to : Segment → Summary → Summary
add_to s σ = record {
  top = add_top s.last s.number σ.top;
  part =
      add_part s.last s.number (length s.bytes) σ.part;
}

abbrev pub summary : List Segment → Summary
summary [] = record { top = 0; part = record { size = 0; end = 0; tail = 0 } }
summary (s ∷ ss) = add_to s (summary ss)

abbrev pub some_full : Summary → Bool
some_full σ = leb 1 σ.top

-- the record: S from a full segment, else from the part's length and the last one; the bounds alone never give it
abbrev pub divided : Bounds → ℕ → ℕ → ℕ
divided b n tail = pick (eqb b.least b.most) ((b.most - tail) / n) 0

abbrev pub derived : Bounds → ℕ → ℕ → ℕ
derived b zero tail = 0
derived b (suc zero) tail = 0
derived b (suc (suc n)) tail = divided b (suc n) tail

unfoldable pub settle : Bounds → Bool → Record → Record
settle b full p = record { size = pick full p.size (derived b p.end p.tail); end = p.end; tail = p.tail }

-- the record that segments give, within the bounds of their part
abbrev pub record_of : Bounds → Summary → Record
record_of b σ = settle b (some_full σ) σ.part

-- ---- what header segment 0 says

-- the two sizes in these bytes
abbrev pub sizes_of : List ℕ → Sizes
sizes_of bytes = record { body = body_size bytes; header = header_size bytes }

-- with a header segment
abbrev pub core_after : Segment → Option Sizes → Option Sizes
core_after s c = pick (eqb s.number 0) (Some (sizes_of s.bytes)) c

-- with a segment of a part
abbrev pub core_with : Part → Segment → Option Sizes → Option Sizes
core_with Header s c = core_after s c
core_with Body s c = c

abbrev pub core_of : List Segment → Option Sizes
core_of [] = None
core_of (s ∷ ss) = core_after s (core_of ss)
