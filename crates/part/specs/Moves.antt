-- The two moves by which what is kept of a part changes: its last segment is copied to its place once the size is
-- known, and a segment is written to its place and marked.
use Rattle.std.specs.Prelude.{List, ℕ, zero, suc, ◌-◌, ◌*◌, length, take, drop, set}
use Rattle.octets.specs.Octets.{over}
use Rattle.cut.specs.Requirement.{Segment}
use Rattle.cut.specs.declared.Record.{Record}
use Rattle.part.specs.Memory.{Memory, place_of}

-- The size becomes known: a last segment that stood at the end of the share is copied to its place. What stood there
-- stays until it is overwritten.
abbrev pub moved_as : ℕ → ℕ → ℕ → ℕ → List ℕ → List ℕ
moved_as (suc size) size' end tail share = share
moved_as zero zero end tail share = share
moved_as zero (suc size) zero tail share = share
moved_as zero (suc size) (suc zero) tail share = share
moved_as zero (suc size) (suc (suc number)) tail share =
    over share (suc number * suc size) (take tail (drop (length share - tail) share))

-- the memory under another record of the same last segment
unfoldable pub settled : Record → Memory → Memory
settled kept m = record {
  kept = kept;
  marks = m.marks;
  share = moved_as m.kept.size kept.size m.kept.end m.kept.tail m.share;
}

-- a segment is written to its place and marked
unfoldable pub put : Segment → Memory → Memory
put s m = record {
  kept = m.kept;
  marks = set m.marks s.number 1;
  share =
      over m.share (place_of s.last m.kept.size (length m.share) s.number (length s.bytes))
      s.bytes;
}
