-- What plays no part in a segment: of two groups that differ only there, and in their check words, each carries the
-- same segment.
use Rattle.std.specs.Prelude.{◌≡◌, List, ℕ, ◌+◌, ◌≤◌, length, take, drop}
use Rattle.wire.specs.declared.Carried.{Carried}
use Rattle.wire.specs.Wire.{byte_at, last_flag, segment_number, transport_flag, length_indicator, transport_number, segment_size, segment_start}
use Rattle.wire.specs.Reading.{bytes_in}

-- two groups that differ only in the two indices, the repetition count and the end user address, which may be longer or
-- shorter, or absent; in the extension field and the spare bits; and in their check words
pub record SameButIgnored (group other : List ℕ) : Type 0 where
  pub flags : byte_at other 0 ≡ byte_at group 0
  pub last : last_flag other ≡ last_flag group
  pub number : segment_number other ≡ segment_number group
  pub addressed : transport_flag other ≡ transport_flag group
  pub indicated : 2 ≤ length_indicator other
  pub transport : transport_number other ≡ transport_number group
  pub size : segment_size other ≡ segment_size group
  pub bytes : take (segment_size group) (drop (segment_start other) other)
      ≡ take (segment_size group) (drop (segment_start group) group)
  pub long : length other + length_indicator group ≡ length group + length_indicator other

-- two groups carry the same segment: the same transport number, part, segment number, last flag and bytes
pub record SameSegment (group : List ℕ) (carried : Carried) (other : List ℕ) (again : Carried) : Type 0 where
  pub heard : again.heard ≡ carried.heard
  pub last : again.last ≡ carried.last
  pub bytes : bytes_in other again ≡ bytes_in group carried
