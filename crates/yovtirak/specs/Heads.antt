-- A head's own calls: any calls of the exported functions after an opening, each handed the words and the lent memory
-- just as the one before left them. The latest call comes first, as in a history of the collector.
use Rattle.std.specs.Prelude.{◌≡◌, List, [], ◌∷◌, ℕ, ◌*◌, ◌/◌, ◌%◌, length, Result, Ok, Err, Option}
use Rattle.answer.specs.declared.Answer.{Answer}
use Rattle.answer.specs.declared.Heard.{Heard}
use Rattle.answer.specs.declared.Part.TheVariants.{Header, Body}
use Rattle.answer.specs.declared.Reason.{Reason}
use Rattle.answer.specs.declared.Repetition.{Repetition}
use Rattle.answer.specs.Table.{number_of}
use Rattle.slots.specs.Stores.{Stores}
use Rattle.collector.specs.State.{State, Start}
use Rattle.history.specs.Handed.{Handed}
use Rattle.history.specs.History.{Question, Call, hand, ask, reached}
use Rattle.history.specs.Ours.{ours}
use Rattle.layout.specs.Layout.{counts_from, collector_from, words_of, count_words}
use Rattle.yovtirak.specs.Exports.{Called, held, part_word, answer_word, open_call, take_call, drop_call, Told, place_told, finished_call, fields_told, read_call, sought_word, find_call, awaited_word, missing_call, address_word, address_call}
use Rattle.octets.specs.Octets.{part}
use Rattle.wire.specs.Reading.{reading_of}
use Rattle.cut.specs.Lists.{Bytes}
use Rattle.cut.specs.Missing.{amount_kept}
use Rattle.cut.specs.Requirement.{header_most}

-- what a head has in hand between two calls
pub record Lent : Type 0 where
  pub state : List ℕ
  pub counts : List ℕ
  pub stores : Stores

-- a call, with what is handed to it beside that; `place` and `told` are what a question may write into
pub data HeadCall : Type 0 where
  take : (group : List ℕ) → HeadCall
  drop : (number : ℕ) → HeadCall
  finished : (number : ℕ) (place : List ℕ) → HeadCall
  read : (number : ℕ) (told : List ℕ) → HeadCall
  find : (name : List ℕ) → HeadCall
  missing : (number : ℕ) → HeadCall
  address : (group : List ℕ) → HeadCall

-- a group is bytes, as all memory is
abbrev pub GroupBytes : HeadCall → Type 0
GroupBytes (take group) = Bytes group
GroupBytes (drop number) = Unit {0}
GroupBytes (finished number place) = Unit {0}
GroupBytes (read number told) = Unit {0}
GroupBytes (find name) = Unit {0}
GroupBytes (missing number) = Unit {0}
GroupBytes (address group) = Unit {0}

abbrev pub left_by : Called → Lent
left_by c = record { state = c.state; counts = c.counts; stores = c.stores }

abbrev pub begins : ℕ → ℕ → Lent → Called
begins limit slots l = open_call limit slots l.state l.counts l.stores

-- what a call leaves; the questions are lent nothing of it that they could change
abbrev pub leaves : HeadCall → Lent → Lent
leaves (take group) l = left_by (take_call group l.state l.counts l.stores)
leaves (drop number) l = left_by (drop_call number l.state l.counts l.stores)
leaves (finished number place) l = l
leaves (read number told) l = l
leaves (find name) l = l
leaves (missing number) l = l
leaves (address group) l = l

-- what it returns, and what a question writes
abbrev pub returns : HeadCall → Lent → Told
returns (take group) l = record { result = (take_call group l.state l.counts l.stores).result; told = [] }
returns (drop number) l = record { result = (drop_call number l.state l.counts l.stores).result; told = [] }
returns (finished number place) l = finished_call number l.state l.counts l.stores place
returns (read number told) l = read_call number l.state l.counts l.stores told
returns (find name) l = record { result = find_call name l.state l.counts l.stores; told = [] }
returns (missing number) l = record { result = missing_call number l.state l.counts l.stores; told = [] }
returns (address group) l = record { result = address_call group; told = [] }

-- after an opening and these calls
abbrev pub after : ℕ → ℕ → Lent → List HeadCall → Lent
after limit slots l [] = left_by (begins limit slots l)
after limit slots l (call ∷ calls) = leaves call (after limit slots l calls)

-- ---- the same calls of the collector

abbrev pub as_start : ℕ → ℕ → Lent → Start
as_start limit slots l = record { limit = limit; count = slots; counts = counts_from l.counts; stores = l.stores }

abbrev pub as_call : HeadCall → Call
as_call (take group) = hand (Handed.group group)
as_call (drop number) = Call.drop number
as_call (finished number place) = ask (Question.show number Header)
as_call (read number told) = ask (Question.parameters number)
as_call (find name) = ask (Question.find name)
as_call (missing number) = ask (Question.missing number)
as_call (address group) = ask (Question.address group)

abbrev pub as_calls : List HeadCall → List Call
as_calls [] = []
as_calls (call ∷ calls) = as_call call ∷ as_calls calls

-- the state that the same calls of our collector reach
abbrev pub reached_by : ℕ → ℕ → Lent → List HeadCall → State
reached_by limit slots l calls = reached ours (as_start limit slots l) (as_calls calls)

-- what our collector answers there, in words
abbrev pub in_words : HeadCall → State → Told
in_words (take group) s = record { result = answer_word (ours.takes (Handed.group group) s).answer; told = [] }
in_words (drop number) s = record { result = answer_word (ours.drops number s).answer; told = [] }
in_words (finished number place) s = place_told (ours.locates number s) s.collector place
in_words (read number told) s = fields_told (ours.tells number s) told
in_words (find name) s = record { result = sought_word (ours.finds name s); told = [] }
in_words (missing number) s = record { result = awaited_word (ours.awaits number s); told = [] }
in_words (address group) s = record { result = address_word (reading_of group); told = [] }

-- what a question writes into is as long as it must be
abbrev pub Fitting : HeadCall → Type 0
Fitting (take group) = Unit {0}
Fitting (drop number) = Unit {0}
Fitting (finished number place) = length place ≡ 3
Fitting (read number told) = length told ≡ 7
Fitting (find name) = Unit {0}
Fitting (missing number) = Unit {0}
Fitting (address group) = Unit {0}

-- where a finished object stands, in any words: the slot, h and b that are told, such that the first h bytes of the
-- slot's share of the header store and the first b of its share of the body store are what `show` hands back
pub record Place (number : ℕ) (state counts : List ℕ) (stores : Stores) (place : List ℕ) : Type 0 where
  pub slot : ℕ
  pub header : ℕ
  pub body : ℕ
  pub told : (finished_call number state counts stores place).told ≡ slot ∷ header ∷ body ∷ []
  pub header_there : ours.shows number Header (held state counts stores)
      ≡ part stores.header (slot * header_most) header
  pub body_there : ours.shows number Body (held state counts stores)
      ≡ part stores.body (slot * (collector_from state).limit) body

-- what the shifts and masks of `yovtirak_reply_of` take out of a word
pub record Tells (word : ℕ) (answer : Answer) (heard : Heard) (repetition : Repetition) : Type 0 where
  pub answered : word % 256 ≡ number_of answer
  pub which : word / 256 % 256 ≡ part_word heard.part
  pub number : word / 65536 % 65536 ≡ heard.number
  pub segment : word / 4294967296 % 65536 ≡ heard.segment
  pub index : word / 281474976710656 % 16 ≡ repetition.index
  pub continuity : word / 4503599627370496 % 16 ≡ repetition.continuity
  pub count : word / 72057594037927936 % 8 ≡ repetition.count

-- the words and the lent memory are those of a state
pub record Words (l : Lent) (s : State) : Type 0 where
  pub state : l.state ≡ words_of s.collector
  pub counts : l.counts ≡ count_words s.counts
  pub stores : l.stores ≡ s.stores

abbrev pub denial_in : Result (Option ℕ) Reason → ℕ
denial_in (Ok amount) = 0
denial_in (Err why) = number_of (Answer.Denied why)

abbrev pub amount_in : Result (Option ℕ) Reason → ℕ
amount_in (Ok amount) = amount_kept amount
amount_in (Err why) = 0

-- what the shift and the mask of `yovtirak_tell_missing` take out of a word: the answer's number, 0 where the number
-- of bytes is told, and 1 more than that number, or 0 while it is not known
pub record TellsMissing (word : ℕ) (awaited : Result (Option ℕ) Reason) : Type 0 where
  pub answered : word % 256 ≡ denial_in awaited
  pub amount : word / 65536 ≡ amount_in awaited
