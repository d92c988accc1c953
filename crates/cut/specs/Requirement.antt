-- The requirement: document 01, "One object, one cut", as document 02, Item 2, mends it. What an object is, how it is
-- cut into segments, when segments fit one object and one cut, when they are all of it, and what they then join to.
-- `Each P l` says that P holds of each element of l, `Among x l` that x is one of l, `Bytes l` that each is below 256;
-- `pick t a b` is a if the test t passes, else b.
use Rattle.std.specs.Prelude.{◌≡◌, ◌⊎◌, Bool, true, List, [], ◌∷◌, ◌++◌, ℕ, zero, suc, ◌+◌, ◌*◌, ◌/◌, ◌%◌, ◌≤◌, ◌<◌, length, take, drop, get_or, eqb, leb}
use Rattle.cut.specs.declared.Segment.{Segment as Lent}
use Rattle.cut.specs.Lists.{pick, Each, Among, Bytes}

-- ---- the numbers that bound it

-- a header's length
abbrev pub header_least : ℕ
header_least = 7

abbrev pub header_most : ℕ
header_most = 1024

-- the limit on a body's length, which the caller sets
abbrev pub limit_least : ℕ
limit_least = 1024

abbrev pub limit_most : ℕ
limit_most = 1048576

-- the size of a cut
abbrev pub size_least : ℕ
size_least = 16

abbrev pub size_most : ℕ
size_most = 8189

-- how many segment numbers a header has, and a body
abbrev pub header_numbers : ℕ
header_numbers = 64

abbrev pub body_numbers : ℕ
body_numbers = 1024

-- ---- the header core: 7 bytes, four fields, most significant bit first

-- BodySize, 28 bits
unfoldable pub body_size : List ℕ → ℕ
body_size h = get_or h 0 0 * 0x100000 + get_or h 1 0 * 0x1000 + get_or h 2 0 * 0x10 + get_or h 3 0 / 0x10

-- HeaderSize, 13 bits
unfoldable pub header_size : List ℕ → ℕ
header_size h = get_or h 3 0 % 0x10 * 0x200 + get_or h 4 0 * 2 + get_or h 5 0 / 0x80

-- ContentType, 6 bits
unfoldable pub content_type : List ℕ → ℕ
content_type h = get_or h 5 0 % 0x80 / 2

-- ContentSubType, 9 bits
unfoldable pub content_sub_type : List ℕ → ℕ
content_sub_type h = get_or h 5 0 % 2 * 0x100 + get_or h 6 0

-- ---- an object, and a cut

-- header and body are an object, within the bounds: the header's own fields say both lengths
pub record IsObject (limit : ℕ) (header body : List ℕ) : Type 0 where
  pub header_low : header_least ≤ length header
  pub header_high : length header ≤ header_most
  pub body_high : length body ≤ limit
  pub header_bytes : Bytes header
  pub body_bytes : Bytes body
  pub says_body : body_size header ≡ length body
  pub says_header : header_size header ≡ length header

-- a part can be cut at a size: the size is within the bounds, and so are the segments' numbers, from 0
pub record IsCut (numbers size : ℕ) (part : List ℕ) : Type 0 where
  pub low : size_least ≤ size
  pub high : size ≤ size_most
  pub enough : length part ≤ numbers * size

pub record Segment : Type 0 where
  pub number : ℕ
  pub last : Bool
  pub bytes : List ℕ

abbrev pub segment : ℕ → Bool → List ℕ → Segment
segment number last bytes = record { number = number; last = last; bytes = bytes }

-- a segment that is lent
abbrev pub sent : Lent → Segment
sent s = segment s.number s.last s.bytes.now

-- a part cut at a size has this segment: the part goes on at number times size; the segment has the bytes from there,
-- as many as the size says or as there are; it is the last one if none are left after it
pub record IsSegment (part : List ℕ) (size : ℕ) (segment : Segment) : Type 0 where
  pub starts : segment.number * size < length part
  pub holds : segment.bytes ≡ take size (drop (segment.number * size) part)
  pub ends : segment.last ≡ leb (length part) (suc segment.number * size)

-- the empty last segment: number 0, no bytes
abbrev pub empty : Segment
empty = segment 0 true []

-- a part cut at a size sends a segment that it has; where it has length 0, as a body may, it has no segments, or that
-- one empty last segment, and both belong to the same object
abbrev pub Sends : List ℕ → ℕ → Segment → Type 0
Sends part size s = IsSegment part size s ⊎ ((length part ≡ 0) × (s ≡ empty))

-- some object within the limit and some cut of it send all these segments of its header and of its body
pub record Fits (limit : ℕ) (header_segments body_segments : List Segment) : Type 0 where
  pub header : List ℕ
  pub body : List ℕ
  pub object : IsObject limit header body
  pub header_cut : ℕ
  pub body_cut : ℕ
  pub header_cuts : IsCut header_numbers header_cut header
  pub body_cuts : IsCut body_numbers body_cut body
  pub header_sent : Each (Sends header header_cut) header_segments
  pub body_sent : Each (Sends body body_cut) body_segments

-- ---- finished, and joined

-- every segment that a part cut at a size has is in; the empty one is left out
abbrev pub Whole : List ℕ → ℕ → List Segment → Type 0
Whole part size segments = (s : Segment) → IsSegment part size s → Among s segments

-- finished: every segment of the object is in
pub record Finished {limit : ℕ} {header_segments body_segments : List Segment}
    (fit : Fits limit header_segments body_segments) : Type 0 where
  pub header : Whole fit.header fit.header_cut header_segments
  pub body : Whole fit.body fit.body_cut body_segments

-- the bytes of the segment of that number
abbrev pub bytes_of : ℕ → List Segment → List ℕ
bytes_of n [] = []
bytes_of n (s ∷ segments) = pick (eqb s.number n) s.bytes (bytes_of n segments)

-- the bytes of all segments of a number below n, joined by number
unfoldable pub joined : ℕ → List Segment → List ℕ
joined zero segments = []
joined (suc n) segments = joined n segments ++ bytes_of n segments
