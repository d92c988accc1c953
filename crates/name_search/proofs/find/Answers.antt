-- `name_search::find` meets its contract. At each turn over slots, what is held and what is left come to the answer; at
-- each turn over parameters nothing is held yet of this slot, and what is left of them decides. Assumes nothing.
use mathlib.Core.Path.{◌≡◌, refl, sym, ap, ◌∙◌}
use Prim.Native.Nat.{◌<◌}
use native.Mathlib.Omega.{arith}
use lib.ListN.{get_or, take, length-take}
use Rattle.std.proofs.lemmas.List.{get_or-take}
use Rattle.header.specs.laws.Parameters.{found-known, found-on}
use Rattle.slots.specs.Stores.{free_slot, slot_at}
use Rattle.name_search.specs.Finding.{lower, holder_in, found_by_name}
use Rattle.name_search.specs.laws.Legible.{left-first, left-end, left_here, left-on}
use Rattle.name_search.specs.laws.Lower.{lower-nobody, lower-zero, holder-not, holder-is, lowest-none, lowest-on}
use Rattle.name_search.proofs.find.Goals as goal
use Rattle.name_search.proofs.find.Goals.{in-Some+then-is_named+else-slot-eq0, in_default}

pub slots-init : goal.slots-init
unfolding found_by_name
slots-init c = refl

pub legible_in-header-requires : goal.legible_in-header-requires
unfolding slot_at free_slot
legible_in-header-requires c =
    let a = c.args in
    let inside : c.slots.i < a.count = omega (arith, rw length-take at c.slots-test.true) in
    rw (get_or-take a.count a.slots.now c.slots.i free_slot inside) (c.requires.cores c.slots.i inside)

pub parameters-init : goal.parameters-init
parameters-init c = (refl, rw c.legible_in-header.ensures (left-first _ _ _ _))

pub is_named-requires : goal.is_named-requires
is_named-requires c = (found-known _ _ _ (sym c.in-Some.ensures)).inside

pub overflow_add-at : goal.overflow_add-at
overflow_add-at c = omega (arith, (found-known _ _ _ (sym c.in-Some.ensures)).inside)

pub parameters-smaller : goal.parameters-smaller
parameters-smaller c =
    let found = sym c.in-Some.ensures in
    omega (arith, found-on _ _ _ found, (found-known _ _ _ found).inside)

pub parameters-preserved : goal.parameters-preserved
parameters-preserved c =
    let s = c.parameters in
    (s.invariant.0, left-on _ _ _ _ s.invariant.1 _ (sym c.in-Some.ensures) (sym c.if-is_named.ensures))

pub slots-preserved : goal.slots-preserved
unfolding free_slot
slots-preserved c =
    let a = c.args in
    let inv = c.parameters.invariant in
    let slot = get_or (take a.count a.slots.now) c.slots.i free_slot in
    let held = c.slots.lowest in
    let passed : c.match-parameter_at.lowest ≡ lower held (holder_in a.asked.now c.slots.i slot a.store.now) =
    elim c.match-parameter_at.branch [
      | in-Some+then-is_named+else-slot-eq0 w ↦ w.lowest-is ∙ w.lower_of-lowest.ensures
          ∙ rw inv.0 (ap (lower held) (sym (holder-is _ _ _ _
          (left_here _ _ _ _ inv.1 _ (sym w.in-Some.ensures) (sym w.if-is_named.ensures)))))
      | in_default w ↦ w.lowest-is ∙ inv.0
          ∙ sym (ap (lower held)
          (holder-not _ _ _ _ (left-end _ _ _ _ inv.1 (sym c.parameter_at.ensures ∙ w.in_default.is)))
          ∙ lower-nobody held)
    ] in
    rw passed (lowest-on _ _ _ c.slots.i c.slots-test.true held c.slots.invariant)

pub returns-after-slots : goal.returns-after-slots
returns-after-slots c =
    let a = c.args in
    let none = lowest-none a.asked.now (take a.count a.slots.now) a.store.now c.slots.i c.slots-test.false in
    sym (c.slots.invariant ∙ rw none (lower-nobody c.slots.lowest))

pub returns-then-slot-eq0 : goal.returns-then-slot-eq0
unfolding free_slot
returns-then-slot-eq0 c =
    let inv = c.parameters.invariant in
    let named = holder-is _ _ _ _ (left_here _ _ _ _ inv.1 _ (sym c.in-Some.ensures) (sym c.if-is_named.ensures)) in
    let on = lowest-on _ _ _ c.slots.i c.slots-test.true c.slots.lowest c.slots.invariant in
    rw (c.lower_of-lowest.ensures, inv.0, c.if-slot-eq0.true)
    (sym (rw (named, c.if-slot-eq0.true) at on ∙ lower-zero c.slots.lowest _))
