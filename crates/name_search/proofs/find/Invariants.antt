-- At each turn over slots, what is held and what is left come to the answer; at each turn over parameters nothing is
-- held yet of this slot, and what is left of them decides.
use mathlib.Core.Path.{◌≡◌}
use Prim.Native.Nat.{◌-◌}
use lib.ListN.{length, drop}
use Rattle.name_search.specs.Finding.{lower, holds_name, lowest_from, found_by_name}
use Rattle.name_search.specs.laws.Legible.{Left}
use Rattle.name_search.proofs.find.Given as goal

abbrev pub invariant-parameters : goal.invariant-parameters
invariant-parameters l =
    (l.lowest ≡ l.initial.lowest) × Left (holds_name l.asked l.i l.slot l.store) l.asked l.header l.at

abbrev pub decreases-parameters : goal.decreases-parameters
decreases-parameters l = length l.header - l.at

abbrev pub invariant-slots : goal.invariant-slots
invariant-slots l =
    found_by_name l.asked l.count l.fn.slots l.store
    ≡ lower l.lowest (lowest_from l.asked l.i (drop l.i l.slot-items) l.store)
