-- Document 01, "What comes back": one table, with the number and the name of each answer and the values returned with
-- it.
use Rattle.std.specs.Prelude.{◌≡◌, ℕ}
use Prim.Native.String.{String}
use Rattle.answer.specs.declared.Refusal.{Refusal}
use Rattle.answer.specs.declared.Refusal.TheVariants.{Length, NoCheck, BadCheck, Kind, NoSegment, Address, Size}
use Rattle.answer.specs.declared.Reason.{Reason}
use Rattle.answer.specs.declared.Reason.TheVariants.{NotHeld, Unfinished, Header, Duplicate, NotFound, Limits, State}
use Rattle.answer.specs.declared.Answer.{Answer}
use Rattle.answer.specs.declared.Answer.TheVariants.{Stored, Complete, Repeat, Dropped, Refused, Conflict, Full, Denied}
use Rattle.answer.specs.declared.Returned.{Returned}
use Rattle.answer.specs.declared.Returned.TheVariants.{Sent, Segment, Number, Nothing}
use Rattle.answer.specs.declared.Row.{Row as Kept}
use Rattle.answer.specs.Letters.{Spells}

pub record Row : Type 0 where
  pub number : ℕ
  pub name : String
  pub returned : Returned

abbrev pub row : ℕ → String → Returned → Row
row number name returned = record { number = number; name = name; returned = returned }

-- why a group is not read
abbrev pub refusal_row : Refusal → Row
refusal_row Length = row 10 "LENGTH" Nothing
refusal_row NoCheck = row 11 "NOCHECK" Nothing
refusal_row BadCheck = row 12 "BADCHECK" Nothing
refusal_row Kind = row 13 "KIND" Nothing
refusal_row NoSegment = row 14 "NOSEGMENT" Nothing
refusal_row Address = row 15 "ADDRESS" Nothing
refusal_row Size = row 16 "SIZE" Nothing

-- why a call gives nothing
abbrev pub reason_row : Reason → Row
reason_row NotHeld = row 19 "NOTHELD" Nothing
reason_row Unfinished = row 20 "UNFINISHED" Nothing
reason_row Header = row 21 "HEADER" Nothing
reason_row Duplicate = row 22 "DUPLICATE" Nothing
reason_row NotFound = row 24 "NOTFOUND" Nothing
reason_row Limits = row 25 "LIMITS" Nothing
reason_row State = row 26 "STATE" Nothing

abbrev pub row_of : Answer → Row
row_of (Stored heard repetition) = row 0 "STORED" (Sent heard repetition)
row_of (Complete heard repetition) = row 1 "COMPLETE" (Sent heard repetition)
row_of (Repeat heard repetition) = row 2 "REPEAT" (Sent heard repetition)
row_of (Dropped number) = row 3 "DROPPED" (Number number)
row_of (Refused refusal) = refusal_row refusal
row_of (Conflict heard) = row 17 "CONFLICT" (Segment heard)
row_of (Full heard) = row 18 "FULL" (Segment heard)
row_of (Denied reason) = reason_row reason

abbrev pub number_of : Answer → ℕ
number_of answer = (row_of answer).number

abbrev pub name_of : Answer → String
name_of answer = (row_of answer).name

abbrev pub returned_with : Answer → Returned
returned_with answer = (row_of answer).returned

-- the number that no answer has, and none is given again
abbrev pub retired : ℕ
retired = 23

-- a row as the code has it, with the name spelt in ASCII
pub record Reads (kept : Kept) (row : Row) : Type 0 where
  pub number : kept.0 ≡ row.number
  pub name : Spells kept.1.now row.name
  pub returned : kept.2 ≡ row.returned
