-- The second half of document 01's order: what is asked of a group whose check word holds and whose kind is known.
use Rattle.std.specs.Prelude.{◌≡◌, List, Result, Ok, ◌||◌, ℕ, ◌+◌, ◌-◌, ◌≤◌, eqb, ltb, refl, not, length}
use Rattle.answer.specs.declared.Part.{Part}
use Rattle.answer.specs.declared.Refusal.{Refusal}
use Rattle.wire.specs.declared.Carried.{Carried}
use Rattle.wire.specs.Wire.{group_least, group_most, extension_flag, crc_flag, segment_field, segment_flag, user_access_flag, type_number, last_flag, segment_number, user_access, transport_flag, length_indicator, segment_size, segment_start, check_start}
use Rattle.wire.specs.Reading.{◌if◌otherwise◌, kind_of, check_holds, least_size, size_wrong, segment_of, carried_by, reading_of}

-- the last two checks: what is asked of a group whose session header is read
abbrev pub segmentation_of : List ℕ → Part → Result Carried Refusal
segmentation_of group part =
    Refusal.Length if ltb (check_start group) (segment_start group) otherwise
    Refusal.Size if size_wrong (least_size part (segment_number group) (last_flag group)) (segment_size group)
    (check_start group - segment_start group) otherwise
    Ok (segment_of group part)

abbrev pub session_of : List ℕ → Part → Result Carried Refusal
session_of group part =
    Refusal.NoSegment if eqb (segment_flag group) 0 || eqb (user_access_flag group) 0 otherwise
    Refusal.Length if ltb (check_start group) (user_access group + 1) otherwise
    Refusal.Address if eqb (transport_flag group) 0 || ltb (length_indicator group) 2 otherwise
    segmentation_of group part

pub in-two-halves : (group : List ℕ) → reading_of group ≡ (
    Refusal.Length if ltb (length group) group_least || ltb group_most (length group) otherwise
    Refusal.NoCheck if eqb (crc_flag group) 0 otherwise
    Refusal.Length if ltb (length group) 4 otherwise
    Refusal.BadCheck if not (check_holds group) otherwise
    carried_by (kind_of (type_number group)) (session_of group))
unfolding reading_of
in-two-halves group = refl

-- a session header that is read: where its segment field stands, and how long its user access field is
pub record Addressed (group : List ℕ) (field indicator : ℕ) : Type 0 where
  pub fielded : field ≡ segment_field group
  pub indicated : indicator ≡ length_indicator group
  pub low : extension_flag group ≤ 1
  pub transported : 2 ≤ indicator
  pub accessed : user_access group + 1 ≤ check_start group
