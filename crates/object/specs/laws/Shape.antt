-- The sizes of what is lent for a slot, and where in a share its bytes lie: all that code needs to stay inside.
use Rattle.std.specs.Prelude.{◌≡◌, ℕ, ◌+◌, ◌-◌, ◌*◌, ◌≤◌, ◌<◌, length, get_or}
use Rattle.octets.specs.Octets.{largest_of}
use Rattle.answer.specs.declared.Part.{Part}
use Rattle.answer.specs.declared.Part.TheVariants.{Header, Body}
use Rattle.cut.specs.Requirement.{header_most, header_numbers, body_numbers, Segment}
use Rattle.cut.specs.declared.Record.{Record}
use Rattle.cut.specs.Lists.{Bytes}
use Rattle.object.specs.declared.Slot.{Slot}
use Rattle.part.specs.Memory.{place_of}
use Rattle.object.specs.Take.{Taken}
use Rattle.object.specs.Parts.{Lent, Parts, parts_of, memory_of, kept_of, share_of}

-- how many bytes a part's share has, and how many marks
abbrev pub width_of : Part → ℕ → ℕ
width_of Header limit = header_most
width_of Body limit = limit

abbrev pub numbers_of : Part → ℕ
numbers_of Header = header_numbers
numbers_of Body = body_numbers

pub record Shaped (limit : ℕ) (ps : Parts) : Type 0 where
  pub header_share : length ps.header.share ≡ header_most
  pub body_share : length ps.body.share ≡ limit
  pub header_marks : length ps.header.marks ≡ header_numbers
  pub body_marks : length ps.body.marks ≡ body_numbers

-- the marks are 0 or 1
abbrev pub Bits : Parts → Type 0
Bits ps = (largest_of ps.header.marks ≤ 1) × (largest_of ps.body.marks ≤ 1)

-- what is lent for a slot has document 01's lengths, and its stores are bytes
pub record IsLent (limit : ℕ) (lent : Lent) : Type 0 where
  pub header_length : length lent.header ≡ header_most
  pub body_length : length lent.body ≡ limit
  pub marks_length : length lent.marks ≡ header_numbers + body_numbers
  pub header_bytes : Bytes lent.header
  pub body_bytes : Bytes lent.body

-- byte i of a share lies where a last segment is copied to, or where a segment is written
pub record Copied (old new : Record) (i : ℕ) : Type 0 where
  pub unknown : old.size ≡ 0
  pub known : 0 < new.size
  pub later : 2 ≤ old.end
  pub from : (old.end - 1) * new.size ≤ i
  pub before : i < (old.end - 1) * new.size + old.tail

pub record Written (s : Segment) (size width i : ℕ) : Type 0 where
  pub from : place_of s.last size width s.number (length s.bytes) ≤ i
  pub before : i < place_of s.last size width s.number (length s.bytes) + length s.bytes

-- what a call leaves of a slot: each byte but those that are written or copied to, and each mark but the segment's
pub record Leaves (part : Part) (s : Segment) (slot : Slot) (lent : Lent) (t : Taken) : Type 0 where
  pub bytes : (p : Part) (i : ℕ) → ¬ (Copied (kept_of p slot) (kept_of p t.slot) i)
      → (p ≡ part → ¬ (Written s (kept_of p t.slot).size (length (share_of p lent)) i))
      → get_or (share_of p t.lent) i 0 ≡ get_or (share_of p lent) i 0
  pub marks : (p : Part) (n : ℕ) → ¬ ((p ≡ part) × (n ≡ s.number))
      → get_or (memory_of p (parts_of t.slot t.lent)).marks n 0 ≡ get_or (memory_of p (parts_of slot lent)).marks n 0
