-- `slots::drop_at` meets its contract: the slot's marks are lent, and laid back as 0.
-- Assumes nothing.
use mathlib.Core.Path.{refl}
use Rattle.slots.specs.Take.{drop_at}
use Rattle.slots.specs.laws.Shares.{marks-cleared}
use Rattle.slots.proofs.drop_at.Goals as goal

pub returns : goal.returns
unfolding drop_at
returns c =
    let a = c.args in
    rw (
      c.free_slot.ensures,
      c.clear.ensures,
      marks-cleared a.i a.marks.now c.requires.1,
    ) refl
