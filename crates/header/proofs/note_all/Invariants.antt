-- The loop's invariant: what is left of the list, noted from here on, comes to what the whole list does.
use Prim.Native.Nat.{◌-◌}
use mathlib.Core.Path.{◌≡◌}
use lib.ListN.{length}
use Rattle.header.specs.Parameters.{parameters_from}
use Rattle.header.specs.laws.Scan.{scanned, scan_header}
use Rattle.header.proofs.note_all.Given as goal

abbrev pub invariant-loop-at : goal.invariant-loop-at
invariant-loop-at l = scanned (parameters_from l.header l.at) l.seen l.notes ≡ scan_header l.header

abbrev pub decreases-loop-at : goal.decreases-loop-at
decreases-loop-at l = length l.header - l.at
