-- Document 01, "The listing program": the lines of the output.
use Rattle.std.specs.Prelude.{List, [], ◌∷◌, ◌++◌, ℕ}
use Rattle.answer.specs.declared.Part.{Part}
use Rattle.answer.specs.declared.Part.TheVariants.{Header, Body}
use Rattle.answer.specs.declared.Answer.{Answer}
use Rattle.answer.specs.declared.Heard.{Heard}
use Rattle.answer.specs.declared.Repetition.{Repetition}
use Rattle.answer.specs.declared.Returned.{Returned}
use Rattle.answer.specs.declared.Returned.TheVariants.{Sent, Segment, Number, Nothing}
use Rattle.answer.specs.Letters.{letters}
use Rattle.answer.specs.Table.{name_of, returned_with}
use Rattle.counts.specs.declared.Counts.{Counts}
use Rattle.listing_output.specs.Number.{decimal, four_digits}

abbrev pub space : ℕ
space = 0x20

abbrev pub newline : ℕ
newline = 0x0A

-- fields parted by single spaces, and a newline
abbrev pub text_of : List (List ℕ) → List ℕ
text_of [] = newline ∷ []
text_of (field ∷ []) = field ++ (newline ∷ [])
text_of (field ∷ next ∷ fields) = field ++ (space ∷ []) ++ text_of (next ∷ fields)

abbrev pub part_of : Part → List ℕ
part_of Header = letters "H"
part_of Body = letters "B"

-- what is not returned
abbrev pub dash : List ℕ
dash = letters "-"

-- a segment's own values, each with a space behind it: transport number, part, segment number
abbrev pub segment_text : Heard → List ℕ
segment_text heard = (four_digits heard.number ++ (space ∷ []))
    ++ ((part_of heard.part ++ (space ∷ [])) ++ (decimal heard.segment ++ (space ∷ [])))

-- repetition index, continuity index, repetition count
abbrev pub meant_by : Repetition → List (List ℕ)
meant_by repetition = decimal repetition.index ∷ decimal repetition.continuity ∷ decimal repetition.count ∷ []

-- transport number, part, segment number, and what the sender meant by a repeat
abbrev pub values_of : Returned → List (List ℕ)
values_of (Sent heard repetition) = four_digits heard.number ∷ part_of heard.part ∷ decimal heard.segment
    ∷ meant_by repetition
values_of (Segment heard) = four_digits heard.number ∷ part_of heard.part ∷ decimal heard.segment
    ∷ dash ∷ dash ∷ dash ∷ []
values_of (Number number) = four_digits number ∷ dash ∷ dash ∷ dash ∷ dash ∷ dash ∷ []
values_of Nothing = dash ∷ dash ∷ dash ∷ dash ∷ dash ∷ dash ∷ []

-- the line for an answer: its number, the answer's name, and the values returned with it
unfoldable pub answer_text : ℕ → Answer → List ℕ
answer_text line answer = text_of (decimal line ∷ letters (name_of answer) ∷ values_of (returned_with answer))

-- the line for a malformed one
unfoldable pub malformed_text : ℕ → List ℕ
malformed_text line = text_of (decimal line ∷ letters "LINE" ∷ dash ∷ dash ∷ dash ∷ dash ∷ dash ∷ dash ∷ [])

-- the last line: taken, repeated, refused, completed, dropped
unfoldable pub counts_text : Counts → List ℕ
counts_text counts =
    text_of
    (letters "T" ∷ decimal counts.taken ∷ decimal counts.repeated ∷ decimal counts.refused ∷ decimal counts.completed
    ∷ decimal counts.dropped ∷ [])
