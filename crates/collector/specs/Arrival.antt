-- A segment as it comes in, by itself or carried by a group, and what an answer says of it.
use Rattle.std.specs.Prelude.{Bool, List, ℕ}
use Rattle.answer.specs.declared.Heard.{Heard}
use Rattle.answer.specs.declared.Part.{Part}
use Rattle.answer.specs.declared.Repetition.{Repetition}
use Rattle.wire.specs.declared.Carried.{Carried}
use Rattle.wire.specs.Reading.{bytes_in}
use Rattle.cut.specs.Requirement.{Segment}
use Rattle.collector.specs.declared.Arrival.{Arrival as ArrivalOf}

-- a segment as it comes in: its transport number and its part, the segment itself, and what its sender meant by a
-- repeat
pub record Arrival : Type 0 where
  pub number : ℕ
  pub part : Part
  pub segment : Segment
  pub repetition : Repetition

-- of a segment that came without a group
abbrev pub no_repetition : Repetition
no_repetition = record { index = 0; continuity = 0; count = 0 }

-- as a contract has it, of what is passed and of what is lent
abbrev pub arrival : Heard → Repetition → Bool → List ℕ → Arrival
arrival heard repetition last bytes = record {
  number = heard.number;
  part = heard.part;
  segment = record { number = heard.segment; last = last; bytes = bytes };
  repetition = repetition;
}

abbrev pub arrival_of : ArrivalOf → Arrival
arrival_of came = arrival came.heard came.repetition came.last came.bytes.now

abbrev pub heard_as : Arrival → Heard
heard_as a = record { number = a.number; part = a.part; segment = a.segment.number }

-- the segment that a group carries
abbrev pub segment_in : List ℕ → Carried → Segment
segment_in group carried = record {
  number = carried.heard.segment;
  last = carried.last;
  bytes = bytes_in group carried;
}

abbrev pub arrival_in : List ℕ → Carried → Arrival
arrival_in group carried = record {
  number = carried.heard.number;
  part = carried.heard.part;
  segment = segment_in group carried;
  repetition = carried.repetition;
}

abbrev pub heard_in : Carried → Heard
heard_in carried = carried.heard
