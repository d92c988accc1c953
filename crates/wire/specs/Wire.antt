-- The group on the wire (document 01; EN 300 401, clause 5.3.3): each field by its name and its place. All fields are
-- big-endian, most significant bit first.
use Rattle.std.specs.Prelude.{List, Bool, ℕ, ◌+◌, ◌-◌, ◌*◌, ◌/◌, ◌%◌, length, take, get_or, eqb}

-- ---- the numbers that bound it

-- a group's bytes
abbrev pub group_least : ℕ
group_least = 2

abbrev pub group_most : ℕ
group_most = 8215

-- a segment's bytes
abbrev pub segment_least : ℕ
segment_least = 1

abbrev pub segment_most : ℕ
segment_most = 8189

-- the bytes of a segment that is not the last, at least
abbrev pub full_least : ℕ
full_least = 16

-- ---- bytes and words

-- the byte at a place, and the two bytes from a place on
abbrev pub byte_at : List ℕ → ℕ → ℕ
byte_at group at = get_or group at 0

abbrev pub word_at : List ℕ → ℕ → ℕ
word_at group at = byte_at group at * 0x100 + byte_at group (at + 1)

-- ---- byte 0: four flags, then the type

abbrev pub extension_flag : List ℕ → ℕ
extension_flag group = byte_at group 0 / 0x80

abbrev pub crc_flag : List ℕ → ℕ
crc_flag group = byte_at group 0 / 0x40 % 2

abbrev pub segment_flag : List ℕ → ℕ
segment_flag group = byte_at group 0 / 0x20 % 2

abbrev pub user_access_flag : List ℕ → ℕ
user_access_flag group = byte_at group 0 / 0x10 % 2

abbrev pub type_number : List ℕ → ℕ
type_number group = byte_at group 0 % 0x10

-- ---- byte 1: two indices

abbrev pub continuity_index : List ℕ → ℕ
continuity_index group = byte_at group 1 / 0x10

abbrev pub repetition_index : List ℕ → ℕ
repetition_index group = byte_at group 1 % 0x10

-- ---- the segment field, after the extension field of 2 bytes where that is present

abbrev pub segment_field : List ℕ → ℕ
segment_field group = 2 + extension_flag group * 2

abbrev pub last_flag : List ℕ → Bool
last_flag group = eqb (word_at group (segment_field group) / 0x8000) 1

abbrev pub segment_number : List ℕ → ℕ
segment_number group = word_at group (segment_field group) % 0x8000

-- ---- the user access field: its byte, the transport number, the end user address

abbrev pub user_access : List ℕ → ℕ
user_access group = segment_field group + 2

abbrev pub transport_flag : List ℕ → ℕ
transport_flag group = byte_at group (user_access group) / 0x10 % 2

abbrev pub length_indicator : List ℕ → ℕ
length_indicator group = byte_at group (user_access group) % 0x10

abbrev pub transport_number : List ℕ → ℕ
transport_number group = word_at group (user_access group + 1)

abbrev pub end_user_address : List ℕ → ℕ
end_user_address group = user_access group + 3

abbrev pub end_user_address_length : List ℕ → ℕ
end_user_address_length group = length_indicator group - 2

-- ---- the segmentation header

abbrev pub segmentation_header : List ℕ → ℕ
segmentation_header group = user_access group + 1 + length_indicator group

abbrev pub repetition_count : List ℕ → ℕ
repetition_count group = word_at group (segmentation_header group) / 0x2000

abbrev pub segment_size : List ℕ → ℕ
segment_size group = word_at group (segmentation_header group) % 0x2000

-- ---- the segment, and the check word, which covers everything before it

abbrev pub check_bytes : ℕ
check_bytes = 2

abbrev pub segment_start : List ℕ → ℕ
segment_start group = segmentation_header group + 2

abbrev pub check_start : List ℕ → ℕ
check_start group = length group - check_bytes

abbrev pub check_field : List ℕ → ℕ
check_field group = word_at group (check_start group)

abbrev pub check_covers : List ℕ → List ℕ
check_covers group = take (check_start group) group
