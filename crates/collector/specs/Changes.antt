-- What a segment comes to: the answer, and the slot that is put in one place, if one is.
use Rattle.std.specs.Prelude.{List, ℕ, set}
use Rattle.answer.specs.declared.Answer.{Answer}
use Rattle.object.specs.declared.Slot.{Slot}
use Rattle.object.specs.Take.{take_into}
use Rattle.slots.specs.Stores.{Stores, lent_at}
use Rattle.slots.specs.Take.{Placed, placed_at}
use Rattle.collector.specs.declared.Change.{Change}
use Rattle.collector.specs.declared.Change.TheVariants.{Nothing, At}
use Rattle.collector.specs.Calls.{answer_for, answering, with_slots}
use Rattle.collector.specs.State.{State, Reply, state}
use Rattle.collector.specs.Arrival.{Arrival}

abbrev pub answer_of : Change → Answer
answer_of (Nothing answer) = answer
answer_of (At i slot answer) = answer

abbrev pub slots_by : Change → List Slot → List Slot
slots_by (Nothing answer) slots = slots
slots_by (At i slot answer) slots = set slots i slot

-- where a slot is put; the first place where none is
abbrev pub place_of : Change → ℕ
place_of (Nothing answer) = 0
place_of (At i slot answer) = i

-- a change, and all that is lent afterwards
pub record Came : Type 0 where
  pub change : Change
  pub stores : Stores

abbrev pub came_to : ℕ → Arrival → Placed → Came
came_to i a placed = record {
  change = At i placed.slot (answer_for placed.outcome a);
  stores = placed.stores;
}

-- a segment is offered to a slot that stands, or is to stand, at i
abbrev pub offered_at : ℕ → ℕ → Arrival → Slot → Stores → Came
offered_at limit i a slot lent =
    came_to i a (placed_at limit i lent (take_into a.part limit a.segment slot (lent_at limit i lent)))

-- the change is made, over what is lent as it stands then, and its answer counted
abbrev pub left_by : Change → State → Reply
left_by change s =
    answering (answer_of change)
    (state (with_slots (slots_by change s.collector.slots) s.collector) s.counts s.stores)
