-- `object::marks_of` meets its contract: the first 64 marks are the header's.
-- Assumes nothing.
use Prim.Native.Nat.{◌-◌}
use native.Mathlib.Omega.{arith}
use lib.ListN.{length, drop, length-drop}
use lib.Seq.{take_all}
use Rattle.object.proofs.marks_of.Goals as goal

pub returns-in-Body : goal.returns-in-Body
returns-in-Body c =
    rw c.in-Body.is
    (take_all (length c.args.marks.now - 64)
    (drop 64 c.args.marks.now) (rw length-drop (omega arith)))
