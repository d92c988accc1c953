-- `answer::reason_row` meets its contract: in each arm the reason is the one that the arm names.
-- Assumes nothing.
use Rattle.std.proofs.Common.{refl}
use Rattle.answer.proofs.reason_row.Goals as goal

pub returns-in-NotHeld : goal.returns-in-NotHeld
returns-in-NotHeld c = rw c.in-NotHeld.is (record { number = refl; name = refl; returned = refl })

pub returns-in-Unfinished : goal.returns-in-Unfinished
returns-in-Unfinished c = rw c.in-Unfinished.is (record { number = refl; name = refl; returned = refl })

pub returns-in-Header : goal.returns-in-Header
returns-in-Header c = rw c.in-Header.is (record { number = refl; name = refl; returned = refl })

pub returns-in-Duplicate : goal.returns-in-Duplicate
returns-in-Duplicate c = rw c.in-Duplicate.is (record { number = refl; name = refl; returned = refl })

pub returns-in-NotFound : goal.returns-in-NotFound
returns-in-NotFound c = rw c.in-NotFound.is (record { number = refl; name = refl; returned = refl })

pub returns-in-Limits : goal.returns-in-Limits
returns-in-Limits c = rw c.in-Limits.is (record { number = refl; name = refl; returned = refl })

pub returns-in-State : goal.returns-in-State
returns-in-State c = rw c.in-State.is (record { number = refl; name = refl; returned = refl })
