-- What is said of a state by itself: the slots in use, bytes, the counts, and that it is not damaged, in document 01's
-- words and those of document 02, Item 4.
use Rattle.std.specs.Prelude.{List, ℕ, ◌<◌, ◌≤◌, length, get_or, ◌≡◌, true, false}
use Rattle.object.specs.declared.Slot.{Slot}
use Rattle.object.specs.State.{Sound}
use Rattle.collector.specs.State.{State}
use Rattle.cut.specs.Lists.{Bytes}
use Rattle.slots.specs.Stores.{Stores, Limits}
use Rattle.slots.specs.Find.{is_free, holds}
use Rattle.counts.specs.declared.Counts.{Counts}
use Rattle.counts.specs.Counted.{ceiling}
use Rattle.history.specs.Held.{lent_of, limit_of, slot_of}

-- slot i is one of those that are in use
pub record Used (count i : ℕ) (slots : List Slot) : Type 0 where
  pub counted : i < count
  pub there : i < length slots

-- slot i is one of those in use
abbrev pub InUse : ℕ → State → Type 0
InUse i s = Used s.collector.count i s.collector.slots

-- what is lent are bytes, as all memory is
pub record OfBytes (stores : Stores) : Type 0 where
  pub header : Bytes stores.header
  pub body : Bytes stores.body

-- no count is above the ceiling
pub record Low (c : Counts) : Type 0 where
  pub taken : c.taken ≤ ceiling
  pub repeated : c.repeated ≤ ceiling
  pub refused : c.refused ≤ ceiling
  pub completed : c.completed ≤ ceiling
  pub dropped : c.dropped ≤ ceiling

-- a state that is not damaged
pub record InOrder (s : State) : Type 0 where
  -- the lent lengths are right, and the limit and the number of slots are within their bounds
  pub limits : Limits (limit_of s) s.collector.count (length s.stores.header) (length s.stores.body)
      (length s.stores.marks)
  -- no two slots hold one number
  pub once : (number i j : ℕ) → InUse i s → InUse j s → holds number (slot_of i s) ≡ true
      → holds number (slot_of j s) ≡ true → i ≡ j
  -- no mark is set in a free slot
  pub unmarked : (i : ℕ) → InUse i s → is_free (slot_of i s) ≡ true → (n : ℕ) → get_or (lent_of i s).marks n 0 ≡ 0
  -- the marks of a held slot are 0 or 1 and one is set; its marked segments, with their recorded lengths and stored
  -- bytes, fit some object and cut; and its record, stage and number of bytes still to come are those that these
  -- segments give
  pub held : (i : ℕ) → InUse i s → is_free (slot_of i s) ≡ false → Sound (limit_of s) (slot_of i s) (lent_of i s)
  -- no count lies outside 0 to 2147483647
  pub counts : Low s.counts
