-- How much is still missing: document 02, Item 4. Unknown until both lengths are known, from the core, or from a part's
-- last segment when that is number 0 or S is known; otherwise the bytes of header and body that have not arrived.
use Rattle.std.specs.Prelude.{Bool, true, false, Option, Some, None, List, [], ◌∷◌, ℕ, zero, suc, ◌+◌, ◌-◌, ◌*◌, ◌/◌, eqb, length}
use Rattle.answer.specs.declared.Part.{Part}
use Rattle.answer.specs.declared.Part.TheVariants.{Header, Body}
use Rattle.cut.specs.declared.Sizes.{Sizes}
use Rattle.cut.specs.Lists.{pick}
use Rattle.cut.specs.Requirement.{header_numbers, body_numbers, Segment, Fits, joined}
use Rattle.cut.specs.Kept.{core_of}

-- ---- of the segments that are stored

-- S as a full segment shows it, 0 while none is in; while the core is not in either, nothing else shows it
abbrev pub size_shown : List Segment → ℕ
size_shown [] = 0
size_shown (s ∷ segments) = pick s.last (size_shown segments) (length s.bytes)

-- the length of a part whose last segment is number n of k bytes: known when that is number 0, or S is
abbrev pub length_by : ℕ → ℕ → ℕ → Option ℕ
length_by size zero k = Some k
length_by zero (suc n) k = None
length_by (suc size) (suc n) k = Some (suc n * suc size + k)

-- the length that the last one of these segments gives, once it is in
abbrev pub length_from : ℕ → List Segment → Option ℕ
length_from size [] = None
length_from size (s ∷ segments) =
    pick s.last (length_by size s.number (length s.bytes)) (length_from size segments)

-- a part's length: from the core, or from its last segment
abbrev pub length_known : Part → Option Sizes → List Segment → Option ℕ
length_known part None segments = length_from (size_shown segments) segments
length_known Header (Some sizes) segments = Some sizes.header
length_known Body (Some sizes) segments = Some sizes.body

-- a part's bytes that have arrived: those of its segments, each number once
abbrev pub arrived : ℕ → List Segment → ℕ
arrived numbers segments = length (joined numbers segments)

-- what is left of both lengths, once so many bytes have arrived
abbrev pub lacking : Option ℕ → Option ℕ → ℕ → Option ℕ
lacking None body count = None
lacking (Some header) None count = None
lacking (Some header) (Some body) count = Some (header + body - count)

-- THE NUMBER of bytes still to come, of the stored segments of a header and of a body
unfoldable pub missing_of : List Segment → List Segment → Option ℕ
missing_of header_segments body_segments =
    lacking (length_known Header (core_of header_segments) header_segments)
    (length_known Body (core_of header_segments) body_segments)
    (arrived header_numbers header_segments + arrived body_numbers body_segments)

-- ---- of an object and a cut of it

-- a segment of this number is stored
abbrev pub is_stored : ℕ → List Segment → Bool
is_stored n [] = false
is_stored n (s ∷ segments) = pick (eqb s.number n) true (is_stored n segments)

-- of the first bytes of a part that is cut at a size, as many as are asked for, those outside the stored segments: a
-- byte stands in the segment whose number is its place divided by the size
unfoldable pub outside : ℕ → List Segment → ℕ → ℕ
outside size segments zero = 0
outside size segments (suc place) =
    outside size segments place + pick (is_stored (place / size) segments) 0 1

-- of an object and a cut of it that send these segments
abbrev pub outside_of : {limit : ℕ} {header_segments body_segments : List Segment}
    → Fits limit header_segments body_segments → ℕ
outside_of {header_segments = header_segments} {body_segments = body_segments} f =
    outside f.header_cut header_segments (length f.header) + outside f.body_cut body_segments (length f.body)

-- ---- as a slot keeps it

-- 1 more than the number, or 0 while it is not known
abbrev pub amount_kept : Option ℕ → ℕ
amount_kept None = 0
amount_kept (Some bytes) = suc bytes

abbrev pub amount_of : ℕ → Option ℕ
amount_of zero = None
amount_of (suc bytes) = Some bytes
