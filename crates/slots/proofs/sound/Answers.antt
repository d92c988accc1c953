-- `slots::sound` meets its contract: test by test.
-- Assumes nothing.
use mathlib.Core.Bool.{Bool, true}
use mathlib.Core.List.{List}
use Prim.Native.Nat.{ℕ, ◌<◌}
use mathlib.Core.Path.{◌≡◌, refl, sym, ◌∙◌}
use native.Mathlib.Omega.{arith}
use lib.ListN.{take, length-take}
use Rattle.std.proofs.lemmas.List.{get_or-take}
use Rattle.object.specs.declared.Slot.{Slot}
use Rattle.slots.specs.Stores.{free_slot, Limits, stores}
use Rattle.slots.specs.State.{within_limits, distinct, sound_slots}
use Rattle.slots.specs.Keys.{keys_of, distinct_keys}
use Rattle.slots.specs.laws.Keys.{distinct-keys}
use Rattle.slots.specs.laws.StateTests.{limits-hold, right-none, right-on}
use Rattle.slots.proofs.Laws.{both-only}
use Rattle.slots.proofs.sound.Goals as goal

-- each slot has its shares
limits : {limit count h b m : ℕ} {r : Bool}
    → r ≡ within_limits limit count h b m → r ≡ true → Limits limit count h b m
limits {limit} {count} {h} {b} {m} e t = limits-hold limit count h b m (sym e ∙ t)

-- what the keys tell of the slots
told : (count : ℕ) (slots : List Slot) {keys : List ℕ} {r : Bool} → keys ≡ keys_of slots
    → r ≡ distinct_keys (take count keys) → distinct (take count slots) ≡ r
told count slots e d = sym (distinct-keys count slots) ∙ rw (sym e) (sym d)

pub returns-then-not-within_limits : goal.returns-then-not-within_limits
unfolding sound_slots
returns-then-not-within_limits c = rw (sym c.within_limits.ensures ∙ c.if-not-within_limits.true) refl

pub slice_bounds-all_distinct-end : goal.slice_bounds-all_distinct-end
slice_bounds-all_distinct-end c = omega (arith, limits c.within_limits.ensures c.if-not-within_limits.false)

pub slice_bounds-all_distinct-end-2 : goal.slice_bounds-all_distinct-end-2
slice_bounds-all_distinct-end-2 c =
    rw length-take (omega (arith, limits c.within_limits.ensures c.if-not-within_limits.false))

pub returns-then-not-all_distinct : goal.returns-then-not-all_distinct
unfolding sound_slots
returns-then-not-all_distinct c = rw (
  sym c.within_limits.ensures ∙ c.if-not-within_limits.false,
  told c.args.count c.args.slots.now c.keys_of.ensures c.all_distinct.ensures ∙ c.if-not-all_distinct.true,
) refl

pub loop-i-init : goal.loop-i-init
unfolding sound_slots
loop-i-init c = rw (
  sym c.within_limits.ensures ∙ c.if-not-within_limits.false,
  told c.args.count c.args.slots.now c.keys_of.ensures c.all_distinct.ensures ∙ c.if-not-all_distinct.false,
  both-only,
) refl

pub shared_ref_as_front-slot-items : goal.shared_ref_as_front-slot-items
shared_ref_as_front-slot-items c = omega (arith, limits c.within_limits.ensures c.if-not-within_limits.false)

pub offset_bounds-slot-items-i : goal.offset_bounds-slot-items-i
offset_bounds-slot-items-i c = omega (arith, limits c.within_limits.ensures c.if-not-within_limits.false)

pub bounds-slot-items-i : goal.bounds-slot-items-i
bounds-slot-items-i c = omega (arith, limits c.within_limits.ensures c.if-not-within_limits.false)

pub right_at-requires : goal.right_at-requires
right_at-requires c =
    let m = limits c.within_limits.ensures c.if-not-within_limits.false in
    record { header_most_in_bounds = omega arith; slot_marks_in_bounds = omega arith }

pub returns-then-not-right_at : goal.returns-then-not-right_at
unfolding free_slot
returns-then-not-right_at c =
    let a = c.args in
    let m = limits c.within_limits.ensures c.if-not-within_limits.false in
    let inside : c.loop-i.i < a.count = omega (arith, rw length-take at c.loop-i-test.true) in
    sym (c.loop-i.invariant
    ∙ rw (
      right-on a.slots.now a.count c.loop-i.i inside (omega (arith, inside)) a.limit
          (stores a.header.now a.body.now a.marks.now),
      ← get_or-take a.count a.slots.now c.loop-i.i free_slot inside,
      sym c.right_at.ensures ∙ c.if-not-right_at.true,
    ) refl)

pub loop-i-preserved : goal.loop-i-preserved
unfolding free_slot
loop-i-preserved c =
    let a = c.args in
    let m = limits c.within_limits.ensures c.if-not-within_limits.false in
    let inside : c.loop-i.i < a.count = omega (arith, rw length-take at c.loop-i-test.true) in
    c.loop-i.invariant
    ∙ rw (
      right-on a.slots.now a.count c.loop-i.i inside (omega (arith, inside)) a.limit
          (stores a.header.now a.body.now a.marks.now),
      ← get_or-take a.count a.slots.now c.loop-i.i free_slot inside,
      sym c.right_at.ensures ∙ c.if-not-right_at.false,
    ) refl

pub returns : goal.returns
returns c =
    let a = c.args in
    let lent = stores a.header.now a.body.now a.marks.now in
    sym (c.loop-i.invariant ∙ right-none a.slots.now a.count c.loop-i.i a.limit lent
    (rw length-take (omega arith)))
