-- How a group is read: document 01's checks in document 01's order, and what is read off a group that passes them all.
use Rattle.std.specs.Prelude.{List, [], Bool, true, false, not, cond, ◌||◌, Option, Some, None, Result, Ok, Err, ℕ, zero, suc, ◌+◌, ◌-◌, length, take, drop, eqb, ltb}
use Rattle.crc.specs.CheckWord.{check_word}
use Rattle.answer.specs.declared.Part.{Part}
use Rattle.answer.specs.declared.Part.TheVariants.{Header, Body}
use Rattle.answer.specs.declared.Refusal.{Refusal}
use Rattle.answer.specs.declared.Repetition.{Repetition}
use Rattle.wire.specs.declared.Place.{Place}
use Rattle.wire.specs.declared.Carried.{Carried}
use Rattle.wire.specs.Wire.{group_least, group_most, segment_least, segment_most, full_least, crc_flag, segment_flag, user_access_flag, type_number, last_flag, segment_number, user_access, transport_flag, length_indicator, transport_number, segment_size, segment_start, check_start, check_field, check_covers, repetition_index, continuity_index, repetition_count, end_user_address, end_user_address_length}

infixr 1 ◌if◌otherwise◌
-- the refusal where the test holds, and otherwise what follows
abbrev pub ◌if◌otherwise◌ : Refusal → Bool → Result Carried Refusal → Result Carried Refusal
refusal if true otherwise next = Err refusal
refusal if false otherwise next = next

-- type 3 is a header segment, type 4 a body segment, and every other type is another kind
unfoldable pub kind_of : ℕ → Option Part
kind_of number = cond (eqb number 3) (Some Header) (cond (eqb number 4) (Some Body) None)

-- the check word that the group carries is the one of everything before it
unfoldable pub check_holds : List ℕ → Bool
check_holds group = eqb (check_field group) (check_word (check_covers group))

-- the least size of a segment: 16 where it is not the last one, else 1; but 0 for number 0 of a body
abbrev pub least_size : Part → ℕ → Bool → ℕ
least_size part number false = full_least
least_size Header number true = segment_least
least_size Body zero true = 0
least_size Body (suc number) true = segment_least

-- a size field is wrong: under the least, not equal to the bytes left, or over 8,189
unfoldable pub size_wrong : ℕ → ℕ → ℕ → Bool
size_wrong least size left = ltb size least || not (eqb size left) || ltb segment_most size

-- what the sender of a group meant by a repeat
abbrev pub repetition_in : List ℕ → Repetition
repetition_in group = record {
  index = repetition_index group;
  continuity = continuity_index group;
  count = repetition_count group;
}

-- what a group carries, once it has passed the checks
unfoldable pub segment_of : List ℕ → Part → Carried
segment_of group part = record {
  heard = record { number = transport_number group; part = part; segment = segment_number group };
  last = last_flag group;
  bytes = record { start = segment_start group; length = segment_size group };
  repetition = repetition_in group;
  address = record { start = end_user_address group; length = end_user_address_length group };
}

-- the bytes at a place in a group
abbrev pub bytes_at : List ℕ → Place → List ℕ
bytes_at group place = take place.length (drop place.start group)

-- the bytes that a segment has in its group
abbrev pub bytes_in : List ℕ → Carried → List ℕ
bytes_in group carried = bytes_at group carried.bytes

-- what follows for the part that a group carries; a group of another kind is refused
abbrev pub carried_by : Option Part → (Part → Result Carried Refusal) → Result Carried Refusal
carried_by (Some part) next = next part
carried_by None next = Err Refusal.Kind

-- LENGTH (under 2 or over 8,215); NOCHECK; LENGTH (under 4); BADCHECK; KIND; NOSEGMENT; LENGTH (up to the user access
-- byte); ADDRESS; LENGTH (up to the segmentation header); SIZE
unfoldable pub reading_of : List ℕ → Result Carried Refusal
reading_of group =
    Refusal.Length if ltb (length group) group_least || ltb group_most (length group) otherwise
    Refusal.NoCheck if eqb (crc_flag group) 0 otherwise
    Refusal.Length if ltb (length group) 4 otherwise
    Refusal.BadCheck if not (check_holds group) otherwise
    carried_by (kind_of (type_number group)) λ part.
    Refusal.NoSegment if eqb (segment_flag group) 0 || eqb (user_access_flag group) 0 otherwise
    Refusal.Length if ltb (check_start group) (user_access group + 1) otherwise
    Refusal.Address if eqb (transport_flag group) 0 || ltb (length_indicator group) 2 otherwise
    Refusal.Length if ltb (check_start group) (segment_start group) otherwise
    Refusal.Size if size_wrong (least_size part (segment_number group) (last_flag group)) (segment_size group)
    (check_start group - segment_start group) otherwise
    Ok (segment_of group part)

-- the end user address; a group that is not read has none
abbrev pub address_in : Result Carried Refusal → List ℕ → List ℕ
address_in (Ok carried) group = bytes_at group carried.address
address_in (Err why) group = []

unfoldable pub address_of : List ℕ → List ℕ
address_of group = address_in (reading_of group) group
