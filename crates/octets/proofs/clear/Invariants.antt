-- The loop's invariant: the marks passed so far are 0.
use Rattle.std.proofs.Common.{◌≡◌, ◌++◌, drop, replicate}
use Rattle.octets.proofs.clear.Given as goal

abbrev pub invariant-loop-mark : goal.invariant-loop-mark
invariant-loop-mark l = l.mark-items ≡ replicate l.mark-index 0 ++ drop l.mark-index l.initial.mark-items
