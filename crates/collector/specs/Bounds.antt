-- Document 01, "Numbers that bound it": the bounds that belong to the collector's type, by the requirement's names.
use Rattle.wire.specs.Wire.{group_least, group_most, segment_least, segment_most, full_least}
use Rattle.cut.specs.Requirement.{header_least, header_most, limit_least, limit_most, header_numbers, body_numbers}
use Rattle.slots.specs.Stores.{slots_least, slots_most, slot_marks}
use Rattle.collector.specs.declared.BoundingNumbers.{BoundingNumbers}

abbrev pub bounds : BoundingNumbers
bounds = record {
  group_least = group_least;
  group_most = group_most;
  segment_least = segment_least;
  segment_most = segment_most;
  full_least = full_least;
  header_least = header_least;
  header_most = header_most;
  limit_least = limit_least;
  limit_most = limit_most;
  header_numbers = header_numbers;
  body_numbers = body_numbers;
  slots_least = slots_least;
  slots_most = slots_most;
  slot_marks = slot_marks;
}
