-- `slots::all_distinct` meets its contract: what is not looked at yet decides, at each turn.
-- Assumes nothing.
use Rattle.std.proofs.Common.{◌≡◌, length}
use Rattle.slots.specs.Keys.{distinct_keys}
use Rattle.slots.proofs.all_distinct.Given as goal

abbrev pub invariant-loop-key : goal.invariant-loop-key
invariant-loop-key l = distinct_keys l.keys ≡ distinct_keys l.rest

abbrev pub decreases-loop-key : goal.decreases-loop-key
decreases-loop-key l = length l.rest
