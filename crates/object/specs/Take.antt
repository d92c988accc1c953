-- A segment is offered to a slot: what comes of it, and the slot and what is lent for it afterwards.
use Rattle.std.specs.Prelude.{Bool, true, false, Option, ℕ, zero, suc, length, get_or}
use Rattle.answer.specs.declared.Part.{Part}
use Rattle.answer.specs.declared.Part.TheVariants.{Header, Body}
use Rattle.cut.specs.Requirement.{Segment}
use Rattle.cut.specs.declared.Record.{Record}
use Rattle.cut.specs.declared.Sizes.{Sizes}
use Rattle.cut.specs.Parts.{other_part}
use Rattle.cut.specs.Kept.{bounds_of, core_with}
use Rattle.cut.specs.Sums.{takes}
use Rattle.cut.specs.Missing.{amount_kept}
use Rattle.part.specs.Memory.{segment_at}
use Rattle.part.specs.Moves.{settled, put}
use Rattle.part.specs.Asked.{same_segment, record_with, record_within}
use Rattle.object.specs.declared.Slot.{Slot}
use Rattle.object.specs.declared.Stage.{Stage}
use Rattle.object.specs.declared.Outcome.{Outcome}
use Rattle.object.specs.declared.Decided.{Decided}
use Rattle.object.specs.declared.Decided.TheVariants.{Repeat, Conflict, Fits}
use Rattle.object.specs.declared.Took.{Took}
use Rattle.object.specs.Parts.{Lent, Parts, parts_of, lent_of, memory_of}
use Rattle.object.specs.Stage.{core_in, stage_of, missing_in}

-- ---- what comes of a segment: it is decided by what is held, and nothing is written

-- a segment whose number is not marked fits what is held
unfoldable pub takes_in : Part → ℕ → Segment → Parts → Bool
takes_in part limit s ps =
    takes part limit (core_with part s (core_in ps.header))
    (memory_of part ps).kept (memory_of part ps).marks
    (memory_of (other_part part) ps).kept (memory_of (other_part part) ps).marks
    s.last s.number (length s.bytes)

-- of a number that is marked, by whether it is the segment that is held
abbrev pub decided_held : Bool → Decided
decided_held true = Repeat
decided_held false = Conflict

-- of another, by whether it fits, core being what header segment 0 says then
abbrev pub decided_new : Bool → Option Sizes → Decided
decided_new true core = Fits core
decided_new false core = Conflict

abbrev pub decided_by : ℕ → Bool → Decided → Decided
decided_by zero same new = new
decided_by (suc mark) same new = decided_held same

unfoldable pub decided : Part → ℕ → Segment → Parts → Decided
decided part limit s ps =
    decided_by (get_or (memory_of part ps).marks s.number 0)
    (same_segment s (segment_at (memory_of part ps) s.number))
    (decided_new (takes_in part limit s ps) (core_with part s (core_in ps.header)))

-- ---- what a segment that fits leaves

-- the record of the part that gets it
abbrev pub record_after : Part → ℕ → Segment → Parts → Record
record_after part limit s ps =
    record_with (bounds_of part limit (core_with part s (core_in ps.header))) s (memory_of part ps)

-- the two parts with one segment more: both records are settled, and the segment is put into its part
unfoldable pub parts_with : Part → ℕ → Segment → Parts → Parts
parts_with Header limit s ps = record {
  header = put s (settled (record_after Header limit s ps) ps.header);
  body = settled (record_within (bounds_of Body limit (core_with Header s (core_in ps.header))) ps.body) ps.body;
}
parts_with Body limit s ps = record {
  header = ps.header;
  body = put s (settled (record_after Body limit s ps) ps.body);
}

-- by the stage that a segment of so many bytes leaves: an empty one completes nothing, as no object waits for it
abbrev pub outcome_by : ℕ → Stage → Outcome
outcome_by count Stage.Free = Outcome.Stored
outcome_by count Stage.Gathering = Outcome.Stored
outcome_by zero (Stage.Finished header body) = Outcome.Stored
outcome_by (suc count) (Stage.Finished header body) = Outcome.Complete

-- the slot of two parts that have changed
unfoldable pub slot_with : ℕ → Parts → Slot
slot_with number ps = record {
  number = number;
  stage = stage_of ps;
  header = ps.header.kept;
  body = ps.body.kept;
  missing = amount_kept (missing_in ps);
}

-- ---- the step

pub record Taken : Type 0 where
  pub outcome : Outcome
  pub slot : Slot
  pub lent : Lent

abbrev pub left : Took → Lent → Taken
left took lent = record { outcome = took.outcome; slot = took.slot; lent = lent }

abbrev pub unchanged : Outcome → Slot → Lent → Taken
unchanged outcome slot lent = record { outcome = outcome; slot = slot; lent = lent }

abbrev pub took_of : ℕ → ℕ → Parts → Took
took_of count number ps = record { outcome = outcome_by count (stage_of ps); slot = slot_with number ps }

abbrev pub stored_as : ℕ → ℕ → Parts → Taken
stored_as count number ps = left (took_of count number ps) (lent_of ps)

abbrev pub taken_by : Decided → Part → ℕ → Segment → Slot → Lent → Taken
taken_by Repeat part limit s slot lent = unchanged Outcome.Repeat slot lent
taken_by Conflict part limit s slot lent = unchanged Outcome.Conflict slot lent
taken_by (Fits core) part limit s slot lent = stored_as (length s.bytes) slot.number
    (parts_with part limit s (parts_of slot lent))

-- What is decided, and then stored: a number that is marked is a repeat or a conflict, and one that is not is stored
-- where it fits, else it is a conflict.
unfoldable pub take_into : Part → ℕ → Segment → Slot → Lent → Taken
take_into part limit s slot lent = taken_by (decided part limit s (parts_of slot lent)) part limit s slot lent
