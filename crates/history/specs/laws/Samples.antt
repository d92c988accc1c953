-- Groups, an object and a small collector, with which histories are computed.
use Rattle.std.specs.Prelude.{◌≡◌, refl, Bool, true, false, Ok, List, [], ◌∷◌, ℕ, zero, suc, ◌*◌, ◌<◌, replicate}
use Rattle.std.proofs.Common.{inl, inr, arith}
use Rattle.crc.specs.CheckWord.{step, entered, bits_entered, divided, check_word}
use Rattle.octets.specs.Octets.{over, zeros, equal, largest_of}
use Rattle.answer.specs.declared.Part.{Part}
use Rattle.answer.specs.declared.Part.TheVariants.{Header, Body}
use Rattle.counts.specs.Counted.{none_yet, risen, within}
use Rattle.wire.specs.declared.Carried.{Carried}
use Rattle.wire.specs.Reading.{kind_of, check_holds, size_wrong, segment_of, reading_of, address_of}
use Rattle.cut.specs.laws.Lists.{bytes-zeros}
use Rattle.cut.specs.Requirement.{body_size, header_size, content_type, content_sub_type, Segment, joined}
use Rattle.cut.specs.Decision.{core_fits, room, largest, alone}
use Rattle.cut.specs.Kept.{bounds_of, settle}
use Rattle.cut.specs.Sums.{possible_in, fits_in}
use Rattle.cut.specs.Missing.{missing_of, outside}
use Rattle.cut.specs.MissingKept.{missing_by}
use Rattle.cut.specs.laws.Segment.{Numbered}
use Rattle.cut.specs.laws.Finished.{whole_numbers}
use Rattle.cut.specs.Lists.{Each, Among}
use Rattle.header.specs.Parameters.{length_at, parameter_at, within as in_header, found_at, turns, parameters_from, width_fits, all_fit, single, count, twice, find as find_parameter, fields_of, judged, read_header}
use Rattle.header.specs.Names.{unslashed, name_matches, name_data, has_name}
use Rattle.part.specs.Memory.{segment_at}
use Rattle.part.specs.Moves.{settled, put}
use Rattle.object.specs.Take.{takes_in, decided, parts_with, slot_with, take_into}
use Rattle.part.specs.Asked.{record_with, record_within, same_segment, record_right, sound_part}
use Rattle.object.specs.Sound.{sound_parts, sound_slot}
use Rattle.object.specs.Source.{Source, SegmentOf, SentBy}
use Rattle.object.specs.Parts.{parts_of, lent_of}
use Rattle.object.specs.Stage.{core_in, stage_of, missing_in}
use Rattle.slots.specs.Alone.{fits_alone}
use Rattle.slots.specs.Find.{is_free, holds, first_from, find_in, free_in}
use Rattle.slots.specs.State.{within_limits, held_among, unlike, distinct, right_slot, right_from, sound_slots}
use Rattle.slots.specs.Stores.{lent_at, with_lent, free_slot, fresh_slot, slot_at}
use Rattle.slots.specs.Show.{start_of, shown_of}
use Rattle.slots.specs.Take.{take_at, take_new, drop_at}
use Rattle.name_search.specs.Finding.{holds_name, holder_in, lowest_from, found_by_name}
use Rattle.collector.specs.State.{Start}
use Rattle.collector.specs.Calls.{take_segment, take_group, drop_number, open_with, locate, show, sound}
use Rattle.collector.specs.Arrival.{no_repetition, segment_in}
use Rattle.queries.specs.Questions.{parameters, name, find as find_by_name}
use Rattle.queries.specs.Missing.{missing}
use Rattle.history.specs.Handed.{group}
use Rattle.history.specs.History.{Call, hand, CallBytes, Allowed, under}

-- ---- the groups

-- body segment 1 of number 5, the last one: 4 bytes
abbrev pub body_last : List ℕ
body_last = 0x74 ∷ 0x00 ∷ 0x80 ∷ 0x01 ∷ 0x12 ∷ 0x00 ∷ 0x05 ∷ 0x00 ∷ 0x04 ∷ 0x74 ∷ 0x75 ∷ 0x76 ∷ 0x77 ∷ 0x27 ∷ 0x76 ∷ []

-- body segment 0 of it: 16 bytes
abbrev pub body_first : List ℕ
body_first = 0x74 ∷ 0x00 ∷ 0x00 ∷ 0x00 ∷ 0x12 ∷ 0x00 ∷ 0x05 ∷ 0x00 ∷ 0x10 ∷ 0x61 ∷ 0x62 ∷ 0x63 ∷ 0x64 ∷ 0x65 ∷ 0x66
    ∷ 0x67 ∷ 0x68 ∷ 0x69 ∷ 0x6A ∷ 0x6B ∷ 0x6C ∷ 0x6D ∷ 0x6E ∷ 0x6F ∷ 0x70 ∷ 0x6B ∷ 0xB0 ∷ []

-- body segment 1 of it, not the last one
abbrev pub body_not_last : List ℕ
body_not_last = 0x74 ∷ 0x00 ∷ 0x00 ∷ 0x01 ∷ 0x12 ∷ 0x00 ∷ 0x05 ∷ 0x00 ∷ 0x10 ∷ 0x61 ∷ 0x62 ∷ 0x63 ∷ 0x64 ∷ 0x65 ∷ 0x66
    ∷ 0x67 ∷ 0x68 ∷ 0x69 ∷ 0x6A ∷ 0x6B ∷ 0x6C ∷ 0x6D ∷ 0x6E ∷ 0x6F ∷ 0x70 ∷ 0x06 ∷ 0x68 ∷ []

-- its header, whole: BodySize 20, HeaderSize 7
abbrev pub header : List ℕ
header = 0x73 ∷ 0x00 ∷ 0x80 ∷ 0x00 ∷ 0x12 ∷ 0x00 ∷ 0x05 ∷ 0x00 ∷ 0x07 ∷ 0x00 ∷ 0x00 ∷ 0x01 ∷ 0x40 ∷ 0x03 ∷ 0x80 ∷ 0x00
    ∷ 0x71 ∷ 0x27 ∷ []

-- the same header under number 6
abbrev pub other_number : List ℕ
other_number = 0x73 ∷ 0x00 ∷ 0x80 ∷ 0x00 ∷ 0x12 ∷ 0x00 ∷ 0x06 ∷ 0x00 ∷ 0x07 ∷ 0x00 ∷ 0x00 ∷ 0x01 ∷ 0x40 ∷ 0x03 ∷ 0x80
    ∷ 0x00 ∷ 0xC0 ∷ 0xE8 ∷ []

-- all that a run is computed with
unfoldable pub computing : Unit {0}
unfolding parameters name find_by_name name_data has_name holds_name holder_in lowest_from found_by_name read_header judged
    fields_of find_parameter twice count single all_fit width_fits parameters_from turns found_at in_header parameter_at
    length_at content_type content_sub_type name_matches unslashed under open_with take_segment take_group drop_number sound
    locate show shown_of start_of take_at take_new drop_at slot_at fresh_slot free_slot with_lent lent_at sound_slots right_from
    right_slot distinct unlike held_among within_limits free_in find_in first_from holds is_free fits_alone sound_slot sound_parts
    sound_part record_right take_into decided slot_with same_segment stage_of parts_with record_within record_with takes_in fits_in
    core_in lent_of parts_of missing_in missing_by missing_of joined outside missing
    put settled segment_at possible_in settle alone largest room core_fits bounds_of header_size body_size within
    risen largest_of equal zeros over reading_of address_of kind_of check_holds size_wrong segment_of check_word divided bits_entered
    entered step
computing = tt

-- ---- small collectors

-- one slot, a body of up to 1,024 bytes; the marks are whatever they were
unfoldable pub small : Start
small = record {
  limit = 1024;
  count = 1;
  counts = none_yet;
  stores =
      record { header = replicate 1024 0; body = replicate 1024 0; marks = replicate 1088 7 };
}

pub allowed : Allowed small
unfolding small
allowed = record {
  limits = record {
    header = refl;
    body = refl;
    marks = refl;
    least = omega arith;
    most = omega arith;
    some =
        omega arith;
    slots = omega arith;
  };
  bytes = record { header = bytes-zeros 1024; body = bytes-zeros 1024 };
}

-- two slots
unfoldable pub pair : Start
pair = record {
  limit = 1024;
  count = 2;
  counts = none_yet;
  stores =
      record { header = replicate 2048 0; body = replicate 2048 0; marks = replicate 2176 7 };
}

pub pair-allowed : Allowed pair
unfolding pair
pair-allowed = record {
  limits = record {
    header = refl;
    body = refl;
    marks = refl;
    least = omega arith;
    most = omega arith;
    some =
        omega arith;
    slots = omega arith;
  };
  bytes = record { header = bytes-zeros 2048; body = bytes-zeros 2048 };
}

-- ---- one cut of one object, with a group under another number between

-- a header of 7 bytes and a body of 20, both cut at 16
unfoldable pub object : Source 1024
unfolding body_size header_size
object = record {
  header = 0x00 ∷ 0x00 ∷ 0x01 ∷ 0x40 ∷ 0x03 ∷ 0x80 ∷ 0x00 ∷ [];
  body = 0x61 ∷ 0x62 ∷ 0x63 ∷ 0x64 ∷ 0x65 ∷ 0x66 ∷ 0x67 ∷ 0x68 ∷ 0x69 ∷ 0x6A ∷ 0x6B ∷ 0x6C ∷ 0x6D ∷ 0x6E ∷ 0x6F ∷ 0x70
      ∷ 0x74 ∷ 0x75 ∷ 0x76 ∷ 0x77 ∷ [];
  object = record {
    header_low = omega arith;
    header_high = omega arith;
    body_high = omega arith;
    header_bytes =
        omega arith;
    body_bytes = omega arith;
    says_body = refl;
    says_header = refl;
  };
  header_cut = 16;
  body_cut = 16;
  header_cuts = record { low = omega arith; high = omega arith; enough = omega arith };
  body_cuts = record { low = omega arith; high = omega arith; enough = omega arith };
  header_sent = tt;
  body_sent = tt;
}

abbrev pub one_cut : List Call
one_cut =
    hand (group body_first) ∷ hand (group body_last) ∷ hand (group other_number) ∷ hand (group header)
    ∷ hand (group body_last) ∷ []

-- what is read off a group that says nothing of repeats and has no end user address
abbrev pub read_as : ℕ → Part → ℕ → Bool → ℕ → Carried
read_as number part segment last size = record {
  heard = record { number = number; part = part; segment = segment };
  last = last;
  bytes = record { start = 9; length = size };
  repetition = no_repetition;
  address = record { start = 7; length = 0 };
}

reads : (reading_of body_last ≡ Ok (read_as 5 Body 1 true 4)) × (reading_of body_first ≡ Ok (read_as 5 Body 0 false 16))
    × (reading_of header ≡ Ok (read_as 5 Header 0 true 7)) × (reading_of other_number ≡ Ok (read_as 6 Header 0 true 7))
unfolding reading_of kind_of check_holds size_wrong segment_of check_word divided bits_entered entered step
reads = (refl, refl, refl, refl)

pub of-bytes-one : Each CallBytes one_cut
of-bytes-one = (omega arith, (omega arith, (omega arith, (omega arith, (omega arith, tt)))))

abbrev header_whole : Segment
header_whole = segment_in header (read_as 5 Header 0 true 7)

abbrev body_half : Segment
body_half = segment_in body_first (read_as 5 Body 0 false 16)

abbrev body_rest : Segment
body_rest = segment_in body_last (read_as 5 Body 1 true 4)

-- each is one that the object sends
pub sent-one : SentBy object Header header_whole × SentBy object Body body_half × SentBy object Body body_rest
unfolding object
sent-one = (
  inl (record { starts = omega arith; holds = refl; ends = refl }),
  inl (record { starts = omega arith; holds = refl; ends = refl }),
  inl (record { starts = omega arith; holds = refl; ends = refl }),
)

-- all of them, the last body segment twice
abbrev pub all_sent : Part → List Segment
all_sent Header = header_whole ∷ []
all_sent Body = body_half ∷ body_rest ∷ body_rest ∷ []

pub all-sent : (part : Part) (s : Segment) → SegmentOf object part s → Among s (all_sent part)
unfolding object
all-sent Header = (whole_numbers object.header 16 (header_whole ∷ [])
    (inl (record { starts = omega arith; holds = refl; ends = refl }), tt)).1 number
  where
    number : (n : ℕ) → n * 16 < 7 → Numbered n (header_whole ∷ [])
    number zero h = inl refl
    number (suc n) h = absurd (omega arith)
all-sent Body = (whole_numbers object.body 16 (body_half ∷ body_rest ∷ body_rest ∷ []) (
  inl (record { starts = omega arith; holds = refl; ends = refl }),
  (
    inl (record { starts = omega arith; holds = refl; ends = refl }),
    (inl (record { starts = omega arith; holds = refl; ends = refl }), tt),
  ),
)).1 number
  where
    number : (n : ℕ) → n * 16 < 20 → Numbered n (body_half ∷ body_rest ∷ body_rest ∷ [])
    number zero h = inl refl
    number (suc zero) h = inr (inl refl)
    number (suc (suc n)) h = absurd (omega arith)
