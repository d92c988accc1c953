-- The two parts of an object in a slot and its shares: what is lent, and what is kept of each part.
use Rattle.std.specs.Prelude.{List, ◌++◌, ℕ, take, drop}
use Rattle.answer.specs.declared.Part.{Part}
use Rattle.answer.specs.declared.Part.TheVariants.{Header, Body}
use Rattle.cut.specs.Requirement.{header_numbers}
use Rattle.cut.specs.declared.Record.{Record}
use Rattle.part.specs.Memory.{Memory, memory}
use Rattle.object.specs.declared.Slot.{Slot}

-- a slot's shares of the header store, the body store and the marks
pub record Lent : Type 0 where
  pub header : List ℕ
  pub body : List ℕ
  pub marks : List ℕ

abbrev pub shares : List ℕ → List ℕ → List ℕ → Lent
shares header body marks = record { header = header; body = body; marks = marks }

pub record Parts : Type 0 where
  pub header : Memory
  pub body : Memory

-- of a part: its record, its marks of all the slot's, and its share
abbrev pub kept_of : Part → Slot → Record
kept_of Header slot = slot.header
kept_of Body slot = slot.body

abbrev pub marks_of : Part → List ℕ → List ℕ
marks_of Header marks = take header_numbers marks
marks_of Body marks = drop header_numbers marks

abbrev pub share_in : Part → List ℕ → List ℕ → List ℕ
share_in Header header body = header
share_in Body header body = body

abbrev pub share_of : Part → Lent → List ℕ
share_of part lent = share_in part lent.header lent.body

-- by the two records and what is lent
abbrev pub parts_by : Record → Record → Lent → Parts
parts_by header body lent = record {
  header = memory header (marks_of Header lent.marks) lent.header;
  body = memory body (marks_of Body lent.marks) lent.body;
}

unfoldable pub parts_of : Slot → Lent → Parts
parts_of slot lent = parts_by slot.header slot.body lent

unfoldable pub lent_of : Parts → Lent
lent_of ps = shares ps.header.share ps.body.share (ps.header.marks ++ ps.body.marks)

abbrev pub memory_of : Part → Parts → Memory
memory_of Header ps = ps.header
memory_of Body ps = ps.body
