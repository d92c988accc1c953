-- The loop's invariant: the bytes passed so far stand at `to`.
use Rattle.std.proofs.Common.{◌≡◌, take, drop}
use Rattle.octets.specs.Octets.{over}
use Rattle.octets.proofs.move_down.Given as goal

abbrev pub invariant-loop-i : goal.invariant-loop-i
invariant-loop-i l = l.bytes ≡ over l.initial.bytes l.to (take l.i (drop l.from l.initial.bytes))
