-- What is held for a number in a state: its slot and its stage, whether a slot is there for it, and when two states
-- hold the same for it.
use Rattle.std.specs.Prelude.{◌≡◌, Option, None, Some, ℕ, List, []}
use Rattle.object.specs.declared.Slot.{Slot}
use Rattle.object.specs.declared.Stage.{Stage}
use Rattle.object.specs.State.{marked_segments}
use Rattle.object.specs.Parts.{Lent}
use Rattle.slots.specs.Stores.{lent_at, slot_at}
use Rattle.collector.specs.State.{State, find, free}
use Rattle.answer.specs.declared.Part.{Part}
use Rattle.cut.specs.Requirement.{Segment}

-- the limit on a body
abbrev pub limit_of : State → ℕ
limit_of s = s.collector.limit

-- a slot and its shares
abbrev pub slot_of : ℕ → State → Slot
slot_of i s = slot_at i s.collector.slots

abbrev pub lent_of : ℕ → State → Lent
lent_of i s = lent_at (limit_of s) i s.stores

-- the stage of the slot that holds a number; free where none does
abbrev pub stage_at : Option ℕ → State → Stage
stage_at None s = Stage.Free
stage_at (Some i) s = (slot_of i s).stage

abbrev pub stage_for : ℕ → State → Stage
stage_for number s = stage_at (find number s) s

-- a slot is there for a number: it holds one, or one is free
abbrev pub SlotFor : ℕ → State → Type 0
SlotFor number s = ¬ ((find number s ≡ None) × (free s ≡ None))

-- what is held for a number is the same in two states
pub record Same (number : ℕ) (s t : State) : Type 0 where
  pub limit : limit_of t ≡ limit_of s
  -- the same slot holds it, or none
  pub found : find number t ≡ find number s
  -- the slot's number, stage, records and number of bytes still to come
  pub slot : (i : ℕ) → find number s ≡ Some i → slot_of i t ≡ slot_of i s
  -- its marks, and all bytes of its shares
  pub lent : (i : ℕ) → find number s ≡ Some i → lent_of i t ≡ lent_of i s

-- the marked segments of the slot that holds a number
abbrev pub marked_in : Part → Option ℕ → State → List Segment
marked_in part None s = []
marked_in part (Some i) s = marked_segments part (slot_of i s) (lent_of i s)

abbrev pub marked_under : Part → ℕ → State → List Segment
marked_under part number s = marked_in part (find number s) s
