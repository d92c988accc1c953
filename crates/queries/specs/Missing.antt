-- How many bytes of an object are still to come (document 02, Item 4): the question by number.
use Rattle.std.specs.Prelude.{None, Some, ℕ, Result, Ok, Err, Option}
use Rattle.answer.specs.declared.Reason.{Reason}
use Rattle.cut.specs.Lists.{pick}
use Rattle.cut.specs.Missing.{amount_of}
use Rattle.slots.specs.Stores.{slot_at}
use Rattle.collector.specs.State.{State, find}
use Rattle.collector.specs.Calls.{sound}

abbrev pub awaited_in : Option ℕ → State → Result (Option ℕ) Reason
awaited_in None s = Err Reason.NotHeld
awaited_in (Some i) s = Ok (amount_of (slot_at i s.collector.slots).missing)

-- STATE, NOTHELD; then the number that the slot keeps, whether the object is finished or not
unfoldable pub missing : ℕ → State → Result (Option ℕ) Reason
missing number s = pick (sound s) (awaited_in (find number s) s) (Err Reason.State)
