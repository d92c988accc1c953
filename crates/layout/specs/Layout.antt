-- Which word holds what. A state is the limit on a body, the number of slots, and eleven words for each of sixteen
-- slots; the counts are five words of their own.
use Rattle.std.specs.Prelude.{Bool, true, false, List, [], ◌∷◌, ◌++◌, ℕ, zero, suc, ◌+◌, eqb, leb, ltb, length, get_or}
use Rattle.counts.specs.declared.Counts.{Counts}
use Rattle.cut.specs.Lists.{both, pick}
use Rattle.cut.specs.declared.Record.{Record}
use Rattle.object.specs.declared.Slot.{Slot}
use Rattle.object.specs.declared.Stage.{Stage}
use Rattle.object.specs.declared.Stage.TheVariants.{Free, Gathering, Finished}
use Rattle.slots.specs.Stores.{slots_most}
use Rattle.collector.specs.declared.Collector.{Collector}

abbrev pub five : ℕ → ℕ → ℕ → ℕ → ℕ → List ℕ
five a b c d e = a ∷ b ∷ c ∷ d ∷ e ∷ []

-- ---- what is written

-- a stage's number, and the two lengths of a finished object
abbrev pub stage_tag : Stage → ℕ
stage_tag Free = 0
stage_tag Gathering = 1
stage_tag (Finished header body) = 2

abbrev pub header_word : Stage → ℕ
header_word Free = 0
header_word Gathering = 0
header_word (Finished header body) = header

abbrev pub body_word : Stage → ℕ
body_word Free = 0
body_word Gathering = 0
body_word (Finished header body) = body

-- a slot's number, stage and lengths, the records of its header and its body, and how many bytes are still to come
abbrev pub slot_words : Slot → List ℕ
slot_words slot =
    five slot.number (stage_tag slot.stage) (header_word slot.stage) (body_word slot.stage)
    slot.header.size
    ++ five slot.header.end slot.header.tail slot.body.size slot.body.end slot.body.tail
    ++ slot.missing ∷ []

unfoldable pub slots_words : List Slot → List ℕ
slots_words [] = []
slots_words (slot ∷ slots) = slot_words slot ++ slots_words slots

unfoldable pub words_of : Collector → List ℕ
words_of c = c.limit ∷ c.count ∷ slots_words c.slots

abbrev pub count_words : Counts → List ℕ
count_words c = five c.taken c.repeated c.refused c.completed c.dropped

-- ---- what is read

abbrev pub word : List ℕ → ℕ → ℕ
word words i = get_or words i 0

abbrev pub stage_from : ℕ → ℕ → ℕ → Stage
stage_from tag header body = pick (eqb tag 0) Free (pick (eqb tag 1) Gathering (Finished header body))

-- a transport number has 16 bits
abbrev pub number_from : ℕ → ℕ
number_from n = pick (ltb n 65536) n 0

-- what a slot keeps of the bytes still to come has 32
abbrev pub missing_from : ℕ → ℕ
missing_from n = pick (ltb n 4294967296) n 0

unfoldable pub stage_at : List ℕ → ℕ → Stage
stage_at words at = stage_from (word words at) (word words (at + 1)) (word words (at + 2))

unfoldable pub record_at : List ℕ → ℕ → Record
record_at words at = record { size = word words at; end = word words (at + 1); tail = word words (at + 2) }

unfoldable pub slot_in : List ℕ → ℕ → Slot
slot_in words at = record {
  number = number_from (word words at);
  stage = stage_at words (at + 1);
  header =
      record_at words (at + 4);
  body = record_at words (at + 7);
  missing = missing_from (word words (at + 10));
}

unfoldable pub slots_from : List ℕ → ℕ → ℕ → List Slot
slots_from words zero at = []
slots_from words (suc n) at = slot_in words at ∷ slots_from words n (at + 11)

unfoldable pub collector_from : List ℕ → Collector
collector_from words = record { limit = word words 0; count = word words 1; slots = slots_from words slots_most 2 }

abbrev pub counts_from : List ℕ → Counts
counts_from words = record {
  taken = word words 0;
  repeated = word words 1;
  refused = word words 2;
  completed =
      word words 3;
  dropped = word words 4;
}

-- ---- whether words hold a state

-- a slot's stage is one of the three, and of one that is held the number has 16 bits and the bytes still to come have
-- 32; a free slot's other words play no part
unfoldable pub slot_readable : List ℕ → ℕ → Bool
slot_readable words at = pick (eqb (word words (at + 1)) 0) true
    (pick (leb (word words (at + 1)) 2)
    (both (ltb (word words at) 65536) (ltb (word words (at + 10)) 4294967296)) false)

unfoldable pub readable_from : List ℕ → ℕ → ℕ → Bool
readable_from words zero at = true
readable_from words (suc n) at = both (slot_readable words at) (readable_from words n (at + 11))

-- so are the slots up to the number of slots
unfoldable pub readable : List ℕ → Bool
readable words = pick (eqb (length words) 178)
    (pick (leb (word words 1) slots_most) (readable_from words (word words 1) 2) false) false
