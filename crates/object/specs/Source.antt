-- An object with a cut of it, the segments that it has, and those that it sends.
use Rattle.std.specs.Prelude.{[], ℕ}
use Rattle.answer.specs.declared.Part.{Part}
use Rattle.cut.specs.Requirement.{Segment, IsSegment, Sends, Fits}
use Rattle.cut.specs.Parts.{part_of, cut_of}

-- an object and a cut of it: they fit no segments at all
abbrev pub Source : ℕ → Type 0
Source limit = Fits limit [] []

abbrev pub SegmentOf : {limit : ℕ} → Source limit → Part → Segment → Type 0
SegmentOf o part s = IsSegment (part_of part o) (cut_of part o) s

abbrev pub SentBy : {limit : ℕ} → Source limit → Part → Segment → Type 0
SentBy o part s = Sends (part_of part o) (cut_of part o) s
