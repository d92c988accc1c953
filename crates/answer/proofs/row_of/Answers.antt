-- `answer::row_of` meets its contract: in each arm the answer is the one that the arm names.
-- Assumes nothing.
use Rattle.std.proofs.Common.{refl}
use Rattle.answer.proofs.row_of.Goals as goal

pub returns-in-Stored : goal.returns-in-Stored
returns-in-Stored c = rw c.in-Stored.is (record { number = refl; name = refl; returned = refl })

pub returns-in-Complete : goal.returns-in-Complete
returns-in-Complete c = rw c.in-Complete.is (record { number = refl; name = refl; returned = refl })

pub returns-in-Repeat : goal.returns-in-Repeat
returns-in-Repeat c = rw c.in-Repeat.is (record { number = refl; name = refl; returned = refl })

pub returns-in-Dropped : goal.returns-in-Dropped
returns-in-Dropped c = rw c.in-Dropped.is (record { number = refl; name = refl; returned = refl })

pub returns-in-Conflict : goal.returns-in-Conflict
returns-in-Conflict c = rw c.in-Conflict.is (record { number = refl; name = refl; returned = refl })

pub returns-in-Full : goal.returns-in-Full
returns-in-Full c = rw c.in-Full.is (record { number = refl; name = refl; returned = refl })
