-- What the code of a slot asks, and what the marks of one come to.
use Rattle.std.specs.Prelude.{◌≡◌, Option, None, Some, true, List, ℕ, ◌+◌, ◌≤◌, ◌<◌, length, get_or}
use Rattle.octets.specs.Octets.{sum_of, largest_of}
use Rattle.answer.specs.declared.Part.{Part}
use Rattle.answer.specs.declared.Part.TheVariants.{Header, Body}
use Rattle.cut.specs.Requirement.{header_most, header_numbers, body_numbers, Segment}
use Rattle.cut.specs.declared.Sizes.{Sizes}
use Rattle.cut.specs.Parts.{other_part}
use Rattle.cut.specs.Kept.{core_with}
use Rattle.cut.specs.Lists.{pick}
use Rattle.part.specs.Asked.{Held}
use Rattle.object.specs.declared.Slot.{Slot}
use Rattle.object.specs.declared.Tally.{Tally}
use Rattle.object.specs.Take.{takes_in}
use Rattle.object.specs.Sound.{sound_parts, sound_slot}
use Rattle.object.specs.Parts.{Lent, parts_of, kept_of, marks_of, share_of}
use Rattle.object.specs.Stage.{core_from, core_in}

-- ---- what the marks of a slot come to

abbrev pub tally_of : List ℕ → List ℕ → Tally
tally_of header marks = record {
  core = core_from (marks_of Header marks) header;
  headers = sum_of (marks_of Header marks);
  bodies = sum_of (marks_of Body marks);
}

abbrev pub total_in : Part → Tally → ℕ
total_in Header tally = tally.headers
total_in Body tally = tally.bodies

-- what the marks of a sound slot come to; a damaged one has none
unfoldable pub soundness : ℕ → Slot → Lent → Option Tally
soundness limit slot lent = pick (sound_slot limit slot lent) (Some (tally_of lent.header lent.marks)) None

-- ---- what is asked

-- all the marks of a slot, and how many are set of a part and of the other
pub record Summed (part : Part) (own others : ℕ) (marks : List ℕ) : Type 0 where
  pub long : length marks ≡ header_numbers + body_numbers
  pub ours : own ≡ sum_of (marks_of part marks)
  pub theirs : others ≡ sum_of (marks_of (other_part part) marks)

-- the marks come to the tally, and a marked segment can be read
pub record Readable (tally : Tally) (part : Part) (n : ℕ) (slot : Slot) (lent : Lent) : Type 0 where
  pub marks : length lent.marks ≡ header_numbers + body_numbers
  pub bits : largest_of lent.marks ≤ 1
  pub tallied : tally ≡ tally_of lent.header lent.marks
  pub held : 0 < get_or (marks_of part lent.marks) n 0 → Held (kept_of part slot) n (share_of part lent)

-- a segment can be offered: the slot's shares have their sizes, each mark is 0 or 1, and its record and stage are those
-- that its marked segments give, or it holds none yet
pub record Offered (limit : ℕ) (slot : Slot) (lent : Lent) : Type 0 where
  pub header : length lent.header ≡ header_most
  pub body : length lent.body ≡ limit
  pub marks : length lent.marks ≡ header_numbers + body_numbers
  pub bits : largest_of lent.marks ≤ 1
  pub sound : sound_parts limit slot.stage (parts_of slot lent) ≡ true

-- a segment that fits can be stored
pub record Fitting (tally : Tally) (part : Part) (limit : ℕ) (core : Option Sizes) (s : Segment) (slot : Slot)
    (lent : Lent)
    : Type 0 where
  pub header : length lent.header ≡ header_most
  pub body : length lent.body ≡ limit
  pub marks : length lent.marks ≡ header_numbers + body_numbers
  pub tallied : tally ≡ tally_of lent.header lent.marks
  pub bits : largest_of lent.marks ≤ 1
  pub unmarked : get_or (marks_of part lent.marks) s.number 0 ≡ 0
  pub said : core ≡ core_with part s (core_in (parts_of slot lent).header)
  pub sound : sound_parts limit slot.stage (parts_of slot lent) ≡ true
  pub fits : takes_in part limit s (parts_of slot lent) ≡ true
