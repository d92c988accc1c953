-- The check word of a group: the remainder of a division by the polynomial x^16 + x^12 + x^5 + 1, worked one bit at
-- a time (EN 300 401, clause 5.3.3.4 and annex E).
use Rattle.std.specs.Prelude.{List, [], ◌∷◌, ℕ, zero, suc, ◌-◌, ◌*◌, ◌/◌, ◌%◌, ◌^◌}
use Rattle.std.specs.Int.Bits.{bit_xor}

-- The polynomial without its x^16.
abbrev pub polynomial : ℕ
polynomial = 0x1021

-- One step of the division: the remainder's sixteen bits move up by one, and where a 1 leaves them at the top, the
-- polynomial is taken away.
unfoldable pub step : ℕ → ℕ
step remainder = bit_xor (remainder * 2 % 0x10000) (remainder / 0x8000 * polynomial)

-- A bit of the message joins the remainder's top bit, and one step is made.
unfoldable pub entered : ℕ → ℕ → ℕ
entered remainder bit = step (bit_xor remainder (bit * 0x8000))

-- The low `count` bits of a number enter, the most significant first.
unfoldable pub bits_entered : ℕ → ℕ → ℕ → ℕ
bits_entered zero number remainder = remainder
bits_entered (suc count) number remainder = bits_entered count number (entered remainder (number / 2 ^ count % 2))

-- The eight bits of each byte enter in turn.
unfoldable pub divided : List ℕ → ℕ → ℕ
divided [] remainder = remainder
divided (byte ∷ bytes) remainder = divided bytes (bits_entered 8 byte remainder)

-- The division starts from all ones, and what it leaves is complemented.
unfoldable pub check_word : List ℕ → ℕ
check_word bytes = 0xFFFF - divided bytes 0xFFFF
