-- How much is missing, worked for the cases that are easily missed (document 02, Item 4): a header of 37 bytes cut at
-- 16, a body of 40 cut at 16, and cards of one body segment or none.
use Rattle.std.specs.Prelude.{◌≡◌, refl, true, false, Some, None, List, [], ◌∷◌, ℕ, replicate}
use Rattle.cut.specs.Requirement.{body_size, header_size, Segment, segment, empty, joined}
use Rattle.cut.specs.Missing.{missing_of}

-- a core that says BodySize 40 and HeaderSize 37, in a segment of 16 bytes
abbrev core : List ℕ
core = 0 ∷ 0 ∷ 2 ∷ 0x80 ∷ 18 ∷ 0x80 ∷ 0 ∷ replicate 9 0

abbrev full : ℕ → Segment
full n = segment n false (replicate 16 0)

-- the last of the header, number 2 of 5 bytes; of the body, number 2 of 8; and a body of one segment
abbrev header_last : Segment
header_last = segment 2 true (replicate 5 0)

abbrev body_last : Segment
body_last = segment 2 true (replicate 8 0)

abbrev whole : Segment
whole = segment 0 true (replicate 10 0)

-- nothing is stored: it is not known, which is not none
pub of-nothing : missing_of [] [] ≡ None
unfolding missing_of joined
of-nothing = refl

-- the header's length from its segments 1 and 2, the last, with segment 0 missing; the body's from its last one, number
-- 0: 16 of 47 bytes have not arrived
pub by-last-segments : missing_of (full 1 ∷ header_last ∷ []) (whole ∷ []) ≡ Some 16
unfolding missing_of joined
by-last-segments = refl

-- so too where they come again, or in another order
pub repeats-once : missing_of (header_last ∷ full 1 ∷ header_last ∷ full 1 ∷ []) (whole ∷ whole ∷ []) ≡ Some 16
unfolding missing_of joined
repeats-once = refl

-- the body's length is known and the header's is not; the header's is and the body's is not
pub body-alone : missing_of [] (whole ∷ []) ≡ None
unfolding missing_of joined
body-alone = refl

pub header-alone : missing_of (full 1 ∷ header_last ∷ []) (full 0 ∷ []) ≡ None
unfolding missing_of joined
header-alone = refl

-- a last segment of a later number, parked while S is not known; then S follows from a full one, and the parked one has
-- arrived: of 77 bytes, 45 have
pub parked : missing_of (full 1 ∷ header_last ∷ []) (body_last ∷ []) ≡ None
unfolding missing_of joined
parked = refl

pub parked-then-full : missing_of (full 1 ∷ header_last ∷ []) (full 1 ∷ body_last ∷ []) ≡ Some 32
unfolding missing_of joined
parked-then-full = refl

-- both lengths from the core, with the parked one arrived
pub by-core : missing_of (segment 0 false core ∷ []) (body_last ∷ []) ≡ Some 53
unfolding missing_of joined body_size header_size
by-core = refl

-- every segment is in: none
pub all_in : missing_of (segment 0 false core ∷ full 1 ∷ header_last ∷ []) (full 0 ∷ body_last ∷ full 1 ∷ []) ≡ Some 0
unfolding missing_of joined body_size header_size
all_in = refl

-- the empty body segment is a last one, so the body's length is 0
pub empty-body : missing_of (full 1 ∷ header_last ∷ []) (empty ∷ []) ≡ Some 16
unfolding missing_of joined
empty-body = refl
