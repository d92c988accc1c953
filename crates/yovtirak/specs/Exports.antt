-- What each exported call returns, and all that it leaves: the collector's own definitions, over the words that hold
-- the state and the counts.
use Rattle.std.specs.Prelude.{Bool, true, false, Result, Ok, Err, List, [], ◌∷◌, ℕ, ◌+◌, ◌*◌, ◌%◌, eqb, length, ⊤, Option, Some, None, is_ok}
use Rattle.answer.specs.Table.{number_of, returned_with}
use Rattle.answer.specs.declared.Answer.{Answer}
use Rattle.answer.specs.declared.Answer.TheVariants.{Stored, Complete, Repeat, Dropped, Refused, Conflict, Full, Denied}
use Rattle.answer.specs.declared.Reason.{Reason}
use Rattle.answer.specs.declared.Refusal.{Refusal}
use Rattle.answer.specs.declared.Heard.{Heard}
use Rattle.answer.specs.declared.Part.{Part}
use Rattle.answer.specs.declared.Repetition.{Repetition}
use Rattle.answer.specs.declared.Returned.{Returned}
use Rattle.answer.specs.declared.Returned.TheVariants.{Sent, Segment, Number, Nothing}
use Rattle.wire.specs.declared.Carried.{Carried}
use Rattle.wire.specs.Reading.{reading_of}
use Rattle.cut.specs.Lists.{both, pick}
use Rattle.cut.specs.Missing.{amount_kept}
use Rattle.object.specs.declared.Stage.{Stage}
use Rattle.slots.specs.Stores.{Stores, slot_at}
use Rattle.counts.specs.declared.Counts.{Counts}
use Rattle.collector.specs.declared.Collector.{Collector}
use Rattle.collector.specs.State.{State, Reply, Opened, state, start}
use Rattle.collector.specs.Calls.{take_group, drop_number, open_with, locate}
use Rattle.queries.specs.Questions.{parameters, find}
use Rattle.queries.specs.Missing.{missing}
use Rattle.header.specs.declared.Fields.{Fields}
use Rattle.header.specs.declared.Place.{Place}
use Rattle.layout.specs.Layout.{header_word, body_word, words_of, count_words, collector_from, counts_from, readable}

-- ---- an answer in one word: its number, then the part, the transport number and the segment's number, and what the
-- sender meant by a repeat

abbrev pub part_word : Part → ℕ
part_word Part.Header = 0
part_word Part.Body = 1

abbrev pub heard_word : Heard → ℕ
heard_word heard = part_word heard.part * 256 + heard.number * 65536 + heard.segment * 4294967296

-- its repetition index, four bits, its continuity index, four bits, and its repetition count, three bits
abbrev pub repetition_word : Repetition → ℕ
repetition_word repetition = repetition.index % 16 * 281474976710656
    + repetition.continuity % 16 * 4503599627370496 + repetition.count % 8 * 72057594037927936

abbrev pub returned_word : Returned → ℕ
returned_word (Sent heard repetition) = heard_word heard + repetition_word repetition
returned_word (Segment heard) = heard_word heard
returned_word (Number number) = number * 65536
returned_word Nothing = 0

abbrev pub answer_word : Answer → ℕ
answer_word answer = number_of answer + returned_word (returned_with answer)

-- ---- the calls

-- a call's result, and all that is lent to it afterwards
pub record Called : Type 0 where
  pub result : ℕ
  pub state : List ℕ
  pub counts : List ℕ
  pub stores : Stores

abbrev pub called : ℕ → List ℕ → List ℕ → Stores → Called
called result words counts stores = record { result = result; state = words; counts = counts; stores = stores }

-- the state that words hold
abbrev pub held : List ℕ → List ℕ → Stores → State
held words counts stores = state (collector_from words) (counts_from counts) stores

-- an object's record is another one now
abbrev pub changes : Answer → Bool
changes (Stored heard repetition) = true
changes (Complete heard repetition) = true
changes (Dropped number) = true
changes (Repeat heard repetition) = false
changes (Refused refusal) = false
changes (Conflict heard) = false
changes (Full heard) = false
changes (Denied reason) = false

-- the words lent hold a state and five counts
abbrev pub lent_right : List ℕ → List ℕ → Bool
lent_right words counts = both (eqb (length counts) 5) (readable words)

-- what they hold then
abbrev pub held_in : List ℕ → List ℕ → Option (Collector × Counts)
held_in words counts = pick (lent_right words counts) (Some (collector_from words, counts_from counts)) None

-- a call that is answered: the state's words stay where it did not change
unfoldable pub left : Reply → List ℕ → Called
left r words =
    called (answer_word r.answer) (pick (changes r.answer) (words_of r.left.collector) words)
    (count_words r.left.counts) r.left.stores

-- words that hold no state: STATE, and nothing changes
abbrev pub no_state : List ℕ → List ℕ → Stores → Called
no_state words counts stores = called (number_of (Denied Reason.State)) words counts stores

unfoldable pub take_call : List ℕ → List ℕ → List ℕ → Stores → Called
take_call group words counts stores =
    pick (lent_right words counts) (left (take_group group (held words counts stores)) words)
    (no_state words counts stores)

unfoldable pub drop_call : ℕ → List ℕ → List ℕ → Stores → Called
drop_call number words counts stores =
    pick (lent_right words counts) (left (drop_number number (held words counts stores)) words)
    (no_state words counts stores)

-- ---- an opening

-- 0 where the collector is open
abbrev pub opening_word : Result ⊤ Reason → ℕ
opening_word (Ok unit) = 0
opening_word (Err why) = number_of (Denied why)

abbrev pub is_open : Result ⊤ Reason → Bool
is_open opening = is_ok opening

unfoldable pub left_open : Opened → List ℕ → Called
left_open o words =
    called (opening_word o.opening) (pick (is_open o.opening) (words_of o.left.collector) words)
    (count_words o.left.counts) o.left.stores

-- LIMITS too where the words lent are too few or too many
unfoldable pub open_call : ℕ → ℕ → List ℕ → List ℕ → Stores → Called
open_call limit slots words counts stores =
    pick (both (eqb (length words) 178) (eqb (length counts) 5))
    (left_open (open_with (start limit slots (counts_from counts) stores)) words)
    (called (number_of (Denied Reason.Limits)) words counts stores)

-- ---- where a finished object is

-- a question's result, and what it tells
pub record Told : Type 0 where
  pub result : ℕ
  pub told : List ℕ

-- the slot, and how long the header and the body are
abbrev pub place_words : ℕ → Stage → List ℕ
place_words i stage = i ∷ header_word stage ∷ body_word stage ∷ []

abbrev pub place_told : Result ℕ Reason → Collector → List ℕ → Told
place_told (Err why) c place = record { result = number_of (Denied why); told = place }
place_told (Ok i) c place = record { result = 0; told = place_words i (slot_at i c.slots).stage }

unfoldable pub finished_call : ℕ → List ℕ → List ℕ → Stores → List ℕ → Told
finished_call number words counts stores place =
    pick (both (eqb (length place) 3) (lent_right words counts))
    (place_told (locate number (held words counts stores)) (collector_from words) place)
    (record { result = number_of (Denied Reason.State); told = place })

-- ---- what its header says

-- Priority's byte, or 256 where there is none
abbrev pub priority_word : Option ℕ → ℕ
priority_word None = 256
priority_word (Some byte) = byte

-- where ContentName's data starts in the header, and how long it is: 0 where there is none, as a name has a byte at
-- least
abbrev pub name_start : Option Place → ℕ
name_start None = 0
name_start (Some place) = place.start

abbrev pub name_length : Option Place → ℕ
name_length None = 0
name_length (Some place) = place.size

abbrev pub field_words : Fields → List ℕ
field_words f = f.body_size ∷ f.header_size ∷ f.content_type ∷ f.content_sub_type ∷ priority_word
    f.priority ∷ name_start f.name ∷ name_length f.name ∷ []

abbrev pub fields_told : Result Fields Reason → List ℕ → Told
fields_told (Err why) told = record { result = number_of (Denied why); told = told }
fields_told (Ok fields) told = record { result = 0; told = field_words fields }

unfoldable pub read_call : ℕ → List ℕ → List ℕ → Stores → List ℕ → Told
read_call number words counts stores told =
    pick (both (eqb (length told) 7) (lent_right words counts))
    (fields_told (parameters number (held words counts stores)) told)
    (record { result = number_of (Denied Reason.State); told = told })

-- ---- whose a name is

-- its transport number, where an answer has it
abbrev pub sought_word : Result ℕ Reason → ℕ
sought_word (Ok number) = number * 65536
sought_word (Err why) = number_of (Denied why)

unfoldable pub find_call : List ℕ → List ℕ → List ℕ → Stores → ℕ
find_call name words counts stores =
    pick (lent_right words counts) (sought_word (find name (held words counts stores))) (number_of (Denied Reason.State))

-- ---- how many bytes are still to come

-- as a slot keeps it: 1 more, or 0 while it is not known
abbrev pub awaited_word : Result (Option ℕ) Reason → ℕ
awaited_word (Ok amount) = amount_kept amount * 65536
awaited_word (Err why) = number_of (Denied why)

unfoldable pub missing_call : ℕ → List ℕ → List ℕ → Stores → ℕ
missing_call number words counts stores =
    pick (lent_right words counts) (awaited_word (missing number (held words counts stores)))
    (number_of (Denied Reason.State))

-- ---- where the end user address of a group stands

-- where it starts, and how many bytes it has; or why the group is not read
abbrev pub address_word : Result Carried Refusal → ℕ
address_word (Err why) = number_of (Refused why)
address_word (Ok carried) = carried.address.start * 65536 + carried.address.length * 4294967296

unfoldable pub address_call : List ℕ → ℕ
address_call group = address_word (reading_of group)
