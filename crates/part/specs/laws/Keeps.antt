-- Which segments a part holds, as a relation, so that their order never matters.
use Rattle.std.specs.Prelude.{◌≡◌, Bool, List, ℕ, length, take, drop}
use Rattle.cut.specs.Requirement.{Segment}
use Rattle.cut.specs.declared.Bounds.{Bounds}
use Rattle.cut.specs.Kept.{summary, record_of}
use Rattle.cut.specs.laws.Marks.{Marked}
use Rattle.cut.specs.Lists.{Each}
use Rattle.part.specs.Memory.{Memory, place_of}

-- a segment's bytes are laid in their place in the share, under a size
abbrev pub LaidAs : Bool → ℕ → List ℕ → ℕ → List ℕ → Type 0
LaidAs last size share n bytes = take (length bytes) (drop (place_of last size (length share) n (length bytes)) share)
    ≡ bytes

unfoldable pub Laid : ℕ → List ℕ → Segment → Type 0
Laid size share s = LaidAs s.last size share s.number s.bytes

-- a part's memory keeps these segments: the record is the one that they give within the bounds, their bytes are laid in
-- their places, and the marks are theirs
pub record Keeps (b : Bounds) (m : Memory) (ss : List Segment) : Type 0 where
  pub kept : m.kept ≡ record_of b (summary ss)
  pub laid : Each (Laid m.kept.size m.share) ss
  pub marked : Marked m.marks ss
