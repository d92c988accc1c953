-- A group worked through by hand, with every field that plays no part in gathering: an extension field, two unlike
-- indices, a repetition count and an end user address.
use Rattle.std.specs.Prelude.{◌≡◌, refl, true, Ok, List, [], ◌∷◌, ℕ}
use Rattle.crc.specs.CheckWord.{step, entered, bits_entered, divided, check_word}
use Rattle.answer.specs.declared.Part.TheVariants.{Body}
use Rattle.wire.specs.Reading.{kind_of, check_holds, size_wrong, segment_of, reading_of, address_of}

-- all four flags and type 4; continuity index 3, repetition index 10; the extension field; last, number 1; transport
-- flag and indicator 4; transport number 5; the address; repetition count 5, size 4; the segment; the check word
abbrev group : List ℕ
group = 0xF4 ∷ 0x3A ∷ 0xBE ∷ 0xEF ∷ 0x80 ∷ 0x01 ∷ 0x14 ∷ 0x00 ∷ 0x05 ∷ 0xA1 ∷ 0xB2 ∷ 0xA0 ∷ 0x04 ∷ 0x74 ∷ 0x75 ∷ 0x76
    ∷ 0x77 ∷ 0x00 ∷ 0xB4 ∷ []

pub record Example : Type 0 where
  pub read : reading_of group ≡ Ok (record {
    heard = record { number = 5; part = Body; segment = 1 };
    last = true;
    bytes = record { start = 13; length = 4 };
    repetition = record { index = 10; continuity = 3; count = 5 };
    address = record { start = 9; length = 2 };
  })
  pub address : address_of group ≡ 0xA1 ∷ 0xB2 ∷ []

pub example : Example
unfolding reading_of address_of kind_of check_holds size_wrong segment_of check_word divided bits_entered entered step
example = record { read = refl; address = refl }
