-- `slots::sound` meets its contract: test by test.
-- Assumes nothing.
use mathlib.Core.Path.{◌≡◌}
use lib.ListN.{take, drop}
use Rattle.slots.specs.Stores.{stores}
use Rattle.slots.specs.State.{right_from, sound_slots}
use Rattle.slots.proofs.sound.Given as goal

abbrev pub invariant-loop-i : goal.invariant-loop-i
invariant-loop-i l =
    sound_slots l.limit l.count l.slots (stores l.header l.body l.marks)
    ≡ right_from l.limit l.i (drop l.i (take l.count l.slots)) (stores l.header l.body l.marks)
