-- A reading, field by field, in numbers: 0 for what is not there.
use Rattle.std.specs.Prelude.{Bool, true, false, cond, Result, Ok, Err, ℕ, eqb}
use Rattle.answer.specs.declared.Part.{Part}
use Rattle.answer.specs.declared.Part.TheVariants.{Header, Body}
use Rattle.answer.specs.declared.Answer.TheVariants as Answer
use Rattle.answer.specs.declared.Refusal.{Refusal}
use Rattle.answer.specs.Table.{number_of}
use Rattle.wire.specs.declared.Carried.{Carried}

abbrev pub flag_number : Bool → ℕ
flag_number true = 1
flag_number false = 0

abbrev pub part_number : Part → ℕ
part_number Header = 0
part_number Body = 1

-- field 0 is a refusal's number in document 01; 1 to 6 are the segment that is read, 7 to 9 what its sender meant by a
-- repeat, 10 and 11 where the end user address starts and how long it is
unfoldable pub beside_field : Carried → ℕ → ℕ
beside_field segment field =
    cond (eqb field 7) segment.repetition.index
    (cond (eqb field 8) segment.repetition.continuity
    (cond (eqb field 9) segment.repetition.count
    (cond (eqb field 10) segment.address.start
    (cond (eqb field 11) segment.address.length 0))))

unfoldable pub segment_field : Carried → ℕ → ℕ
segment_field segment field =
    cond (eqb field 1) segment.heard.number
    (cond (eqb field 2) (part_number segment.heard.part)
    (cond (eqb field 3) segment.heard.segment
    (cond (eqb field 4) (flag_number segment.last)
    (cond (eqb field 5) segment.bytes.start
    (cond (eqb field 6) segment.bytes.length (beside_field segment field))))))

unfoldable pub refusal_field : ℕ → ℕ → ℕ
refusal_field number field = cond (eqb field 0) number 0

abbrev pub field_of : Result Carried Refusal → ℕ → ℕ
field_of (Ok segment) field = segment_field segment field
field_of (Err refusal) field = refusal_field (number_of (Answer.Refused refusal)) field
