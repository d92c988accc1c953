-- Document 01, "The listing program": what one line of the input asks for. A line is its characters without the
-- newline.
use Rattle.std.specs.Prelude.{cond, ◌&&◌, List, [], ◌∷◌, ◌++◌, ℕ, ◌+◌, ◌*◌, ◌/◌, ◌%◌, eqb, leb, length, drop, get_or}
use Rattle.crc.specs.CheckWord.{check_word}
use Rattle.listing_input.specs.declared.Line.{Line}
use Rattle.listing_input.specs.declared.Line.TheVariants.{Group, Drop, Malformed}
use Rattle.listing_input.specs.Hex.{is_hex, bytes_of}

-- to take a group of these bytes, to drop a transport number, or neither: LINE
pub data Asked : Type 0 where
  taking : List ℕ → Asked
  dropping : ℕ → Asked
  neither : Asked

-- the CRC of the bytes, as it stands behind them
unfoldable pub check_of : List ℕ → List ℕ
check_of bytes = check_word bytes / 0x100 ∷ check_word bytes % 0x100 ∷ []

abbrev pub word_of : List ℕ → ℕ
word_of bytes = get_or bytes 0 0 * 0x100 + get_or bytes 1 0

-- `G` and hex: a whole group; `B` and hex: a group without its CRC; `D` and four hex digits: drop
unfoldable pub asked_by : ℕ → List ℕ → Asked
asked_by letter digits =
    cond (eqb letter 0x47) (taking (bytes_of digits))
    (cond (eqb letter 0x42) (taking (bytes_of digits ++ check_of (bytes_of digits)))
    (cond (eqb letter 0x44 && eqb (length digits) 4) (dropping (word_of (bytes_of digits)))
    neither))

-- a line of at most 16,432 characters: a letter, a tab, hex
unfoldable pub asked_of : List ℕ → Asked
asked_of line =
    cond (leb (length line) 16432 && eqb (get_or line 1 0) 0x09 && is_hex (drop 2 line))
    (asked_by (get_or line 0 0) (drop 2 line)) neither

-- the answer of the reader: how many bytes the group has, or the number, or that the line is malformed
abbrev pub told : Asked → Line
told (taking bytes) = Group (length bytes)
told (dropping number) = Drop number
told neither = Malformed

-- the bytes that the reader lays over the start of the memory that it is lent: the group's, or none
abbrev pub left : Asked → List ℕ
left (taking bytes) = bytes
left (dropping number) = []
left neither = []
