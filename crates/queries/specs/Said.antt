use Rattle.std.specs.Prelude.{Result, Ok, Err}
use Rattle.answer.specs.declared.Reason.{Reason}
use Rattle.header.specs.declared.Fields.{Fields}
use Rattle.header.specs.declared.Refusal.{Refusal}

-- What a header that is read says, as the answer to a question.

abbrev pub reason_of : Refusal → Reason
reason_of Refusal.Header = Reason.Header
reason_of Refusal.Duplicate = Reason.Duplicate

abbrev pub asked_as : Result Fields Refusal → Result Fields Reason
asked_as (Ok fields) = Ok fields
asked_as (Err refusal) = Err (reason_of refusal)
