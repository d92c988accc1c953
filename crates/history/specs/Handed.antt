-- What is handed in: a group, or a segment by itself. What it brings is the segment that arrives, or why a group is not
-- read.
use Rattle.std.specs.Prelude.{Bool, Result, Ok, Err, List, ℕ, ◌<◌}
use Rattle.answer.specs.declared.Heard.{Heard}
use Rattle.answer.specs.declared.Refusal.{Refusal}
use Rattle.wire.specs.declared.Carried.{Carried}
use Rattle.wire.specs.Reading.{reading_of}
use Rattle.cut.specs.Lists.{Bytes}
use Rattle.collector.specs.Arrival.{Arrival, no_repetition, arrival, arrival_in}

pub data Handed : Type 0 where
  group : (bytes : List ℕ) → Handed
  segment : (heard : Heard) (last : Bool) (bytes : List ℕ) → Handed

-- bytes, as all memory is, and a transport number has 16 bits
abbrev pub HandedBytes : Handed → Type 0
HandedBytes (group bytes) = Bytes bytes
HandedBytes (segment heard last bytes) = Bytes bytes × (heard.number < 65536)

pub data Brought : Type 0 where
  arrives : (arrived : Arrival) → Brought
  refused : (why : Refusal) → Brought

abbrev pub brought_in : Result Carried Refusal → List ℕ → Brought
brought_in (Ok carried) bytes = arrives (arrival_in bytes carried)
brought_in (Err why) bytes = refused why

-- a segment that came without a group: its sender said nothing of repeats
abbrev pub by_itself : Heard → Bool → List ℕ → Arrival
by_itself heard last bytes = arrival heard no_repetition last bytes

abbrev pub brought_by : Handed → Brought
brought_by (group bytes) = brought_in (reading_of bytes) bytes
brought_by (segment heard last bytes) = arrives (by_itself heard last bytes)
