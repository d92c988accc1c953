-- What a header says, field by field, in numbers: 0 for what is not there.
use Rattle.std.specs.Prelude.{cond, List, Option, Some, None, Result, Ok, Err, ℕ, ◌+◌, eqb, ltb, length}
use Rattle.answer.specs.declared.Answer.TheVariants as Answer
use Rattle.answer.specs.declared.Reason.TheVariants as Reason
use Rattle.answer.specs.Table.{number_of}
use Rattle.cut.specs.Requirement.{header_least}
use Rattle.header.specs.Parameters.{read_header}
use Rattle.header.specs.declared.Fields.{Fields}
use Rattle.header.specs.declared.Place.{Place}
use Rattle.header.specs.declared.Refusal.{Refusal}
use Rattle.comparison.specs.Fields.{refusal_field}

abbrev pub refusal_number : Refusal → ℕ
refusal_number Refusal.Header = number_of (Answer.Denied Reason.Header)
refusal_number Refusal.Duplicate = number_of (Answer.Denied Reason.Duplicate)

-- a priority that is there is one more than its byte
abbrev pub priority_number : Option ℕ → ℕ
priority_number None = 0
priority_number (Some byte) = byte + 1

abbrev pub name_start : Option Place → ℕ
name_start None = 0
name_start (Some place) = place.start

abbrev pub name_size : Option Place → ℕ
name_size None = 0
name_size (Some place) = place.size

-- field 0 is a refusal's number in document 01; 1 to 7 are what is read
unfoldable pub said_field : Fields → ℕ → ℕ
said_field fields field =
    cond (eqb field 1) fields.body_size
    (cond (eqb field 2) fields.header_size
    (cond (eqb field 3) fields.content_type
    (cond (eqb field 4) fields.content_sub_type
    (cond (eqb field 5) (priority_number fields.priority)
    (cond (eqb field 6) (name_start fields.name)
    (cond (eqb field 7) (name_size fields.name) 0))))))

abbrev pub read_field : Result Fields Refusal → ℕ → ℕ
read_field (Ok fields) field = said_field fields field
read_field (Err refusal) field = refusal_field (refusal_number refusal) field

-- nothing is told of a header that is shorter than its core
unfoldable pub header_field : List ℕ → ℕ → ℕ
header_field header field = cond (ltb (length header) header_least) 0 (read_field (read_header header) field)
