-- `queries::missing` meets its contract: STATE, NOTHELD, then what the slot keeps.
-- Assumes nothing.
use native.Mathlib.Omega.{arith}
use mathlib.Core.Path.{refl, sym, ap, ◌∙◌}
use Rattle.std.specs.Prelude.{Ok}
use Rattle.slots.specs.Stores.{free_slot, slot_at}
use Rattle.collector.specs.State.{lent_state}
use Rattle.collector.specs.laws.State.{found-among}
use Rattle.queries.specs.Missing.{missing}
use Rattle.queries.proofs.missing.Goals as goal

pub returns-then-not-is_sound : goal.returns-then-not-is_sound
unfolding missing
returns-then-not-is_sound c = rw (sym c.is_sound.ensures ∙ c.if-not-is_sound.true) refl

pub returns-in_default : goal.returns-in_default
unfolding missing
returns-in_default c =
    let good = sym c.is_sound.ensures ∙ c.if-not-is_sound.false in
    rw (good, sym c.find.ensures ∙ c.in_default.is) refl

pub offset_bounds-lent-i : goal.offset_bounds-lent-i
offset_bounds-lent-i c =
    let a = c.args in
    let good = sym c.is_sound.ensures ∙ c.if-not-is_sound.false in
    omega (arith, found-among a.number _ (lent_state a.lent.now) good (sym c.find.ensures ∙ c.in-Some.is))

pub bounds-lent-i : goal.bounds-lent-i
bounds-lent-i c =
    let a = c.args in
    let good = sym c.is_sound.ensures ∙ c.if-not-is_sound.false in
    found-among a.number _ (lent_state a.lent.now) good (sym c.find.ensures ∙ c.in-Some.is)

pub returns : goal.returns
unfolding missing slot_at free_slot
returns c =
    let good = sym c.is_sound.ensures ∙ c.if-not-is_sound.false in
    rw (good, sym c.find.ensures ∙ c.in-Some.is)
    (ap Ok c.amount_of.ensures)
