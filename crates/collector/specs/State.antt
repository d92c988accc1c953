-- A collector's state, as the caller has it in hand between two calls, and what a call answers and leaves. Every call
-- is defined in these words.
use Rattle.std.specs.Prelude.{Option, List, ℕ, replicate, Result, ⊤}
use Rattle.std.specs.Borrow.{Bor}
use Rattle.answer.specs.declared.Answer.{Answer}
use Rattle.answer.specs.declared.Reason.{Reason}
use Rattle.counts.specs.declared.Counts.{Counts}
use Rattle.slots.specs.Stores.{Stores, slots_most, free_slot}
use Rattle.slots.specs.Find.{find_in, free_in}
use Rattle.collector.specs.declared.Collector.{Collector}
use Rattle.collector.specs.declared.Lent.{Lent}
use Rattle.collector.specs.declared.Reply.{Reply as ReplyOf}
use Rattle.collector.specs.declared.Opened.{Opened as OpenedOf}

pub record State : Type 0 where
  pub collector : Collector
  pub counts : Counts
  pub stores : Stores

pub record Reply : Type 0 where
  pub answer : Answer
  pub left : State

-- what an opening is handed, and what it is answered and leaves
pub record Start : Type 0 where
  pub limit : ℕ
  pub count : ℕ
  pub counts : Counts
  pub stores : Stores

pub record Opened : Type 0 where
  pub opening : Result ⊤ Reason
  pub left : State

-- ---- as a contract has them: what is lent, what is passed, and what is returned beside what is lent

abbrev pub stores : Bor (List ℕ) → Bor (List ℕ) → Bor (List ℕ) → Stores
stores header body marks = record { header = header.now; body = body.now; marks = marks.now }

abbrev pub state : Collector → Counts → Stores → State
state c counts lent = record { collector = c; counts = counts; stores = lent }

-- the state that is lent for a question
abbrev pub lent_state : Lent → State
lent_state l = state l.collector.now l.counts (stores l.header l.body l.marks)

abbrev pub reply : ReplyOf → Stores → Reply
reply r lent = record { answer = r.answer; left = state r.collector r.counts lent }

abbrev pub start : ℕ → ℕ → Counts → Stores → Start
start limit count counts lent = record { limit = limit; count = count; counts = counts; stores = lent }

abbrev pub opened : OpenedOf → Stores → Opened
opened r lent = record { opening = r.opening; left = state r.collector r.counts lent }

-- the slot that holds a number, and the lowest one that is free
abbrev pub find : ℕ → State → Option ℕ
find number s = find_in number s.collector.count s.collector.slots

abbrev pub free : State → Option ℕ
free s = free_in s.collector.count s.collector.slots

abbrev pub all_free : ℕ → ℕ → Collector
all_free limit count = record { limit = limit; count = count; slots = replicate slots_most free_slot }
