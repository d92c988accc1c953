-- What our collector makes of what is handed in: a group is read, and a segment comes in by itself; and the end user
-- address of a group, whatever the state is.
use Rattle.std.specs.Prelude.{List, ℕ}
use Rattle.wire.specs.Reading.{address_of}
use Rattle.collector.specs.State.{State, Reply}
use Rattle.collector.specs.Calls.{take_segment, take_group}
use Rattle.history.specs.Handed.{Handed, group, segment, by_itself}

abbrev pub take : Handed → State → Reply
take (group bytes) s = take_group bytes s
take (segment heard last bytes) s = take_segment (by_itself heard last bytes) s

abbrev pub address : List ℕ → State → List ℕ
address bytes s = address_of bytes
