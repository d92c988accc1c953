-- The loop's invariant: the bytes of `src` passed so far are laid over the start of `dst`.
use Rattle.std.proofs.Common.{◌≡◌, take}
use Rattle.octets.specs.Octets.{over}
use Rattle.octets.proofs.copy_in.Given as goal

abbrev pub invariant-loop-i : goal.invariant-loop-i
invariant-loop-i l = l.dst ≡ over l.initial.dst 0 (take l.i l.src)
