-- `answer::refusal_row` meets its contract: in each arm the refusal is the one that the arm names.
-- Assumes nothing.
use Rattle.std.proofs.Common.{refl}
use Rattle.answer.proofs.refusal_row.Goals as goal

pub returns-in-Length : goal.returns-in-Length
returns-in-Length c = rw c.in-Length.is (record { number = refl; name = refl; returned = refl })

pub returns-in-NoCheck : goal.returns-in-NoCheck
returns-in-NoCheck c = rw c.in-NoCheck.is (record { number = refl; name = refl; returned = refl })

pub returns-in-BadCheck : goal.returns-in-BadCheck
returns-in-BadCheck c = rw c.in-BadCheck.is (record { number = refl; name = refl; returned = refl })

pub returns-in-Kind : goal.returns-in-Kind
returns-in-Kind c = rw c.in-Kind.is (record { number = refl; name = refl; returned = refl })

pub returns-in-NoSegment : goal.returns-in-NoSegment
returns-in-NoSegment c = rw c.in-NoSegment.is (record { number = refl; name = refl; returned = refl })

pub returns-in-Address : goal.returns-in-Address
returns-in-Address c = rw c.in-Address.is (record { number = refl; name = refl; returned = refl })

pub returns-in-Size : goal.returns-in-Size
returns-in-Size c = rw c.in-Size.is (record { number = refl; name = refl; returned = refl })
