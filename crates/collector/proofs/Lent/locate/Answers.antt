-- `collector::Lent::locate` meets its contract: STATE, NOTHELD, then the stage.
-- Assumes nothing.
use Rattle.collector.specs.Calls.{locate}
use Rattle.slots.specs.Stores.{free_slot, slot_at}
use Rattle.collector.specs.State.{lent_state}
use Rattle.collector.specs.laws.State.{found-among}
use native.Mathlib.Omega.{arith}
use mathlib.Core.Path.{sym, ◌∙◌}
use Rattle.collector.proofs.Lent.locate.Goals as goal

pub returns-then-not-is_sound : goal.returns-then-not-is_sound
unfolding locate
returns-then-not-is_sound c = rw (sym c.is_sound.ensures ∙ c.if-not-is_sound.true)

pub returns-in_default : goal.returns-in_default
unfolding locate
returns-in_default c =
    let good = sym c.is_sound.ensures ∙ c.if-not-is_sound.false in
    rw (good, sym c.find.ensures ∙ c.in_default.is)

pub offset_bounds-self-i : goal.offset_bounds-self-i
offset_bounds-self-i c =
    let a = c.args in
    let good = sym c.is_sound.ensures ∙ c.if-not-is_sound.false in
    omega (arith, found-among a.number _ (lent_state a.self.now) good (sym c.find.ensures ∙ c.in-Some.is))

pub bounds : goal.bounds
bounds c =
    let a = c.args in
    let good = sym c.is_sound.ensures ∙ c.if-not-is_sound.false in
    found-among a.number _ (lent_state a.self.now) good (sym c.find.ensures ∙ c.in-Some.is)

pub returns-in-Free : goal.returns-in-Free
unfolding locate slot_at free_slot
returns-in-Free c =
    let good = sym c.is_sound.ensures ∙ c.if-not-is_sound.false in
    rw (good, sym c.find.ensures ∙ c.in-Some.is, c.in-Free.is)

pub returns-in-Gathering : goal.returns-in-Gathering
unfolding locate slot_at free_slot
returns-in-Gathering c =
    let good = sym c.is_sound.ensures ∙ c.if-not-is_sound.false in
    rw (good, sym c.find.ensures ∙ c.in-Some.is, c.in-Gathering.is)

pub returns-in-Finished : goal.returns-in-Finished
unfolding locate slot_at free_slot
returns-in-Finished c =
    let good = sym c.is_sound.ensures ∙ c.if-not-is_sound.false in
    rw (good, sym c.find.ensures ∙ c.in-Some.is, c.in-Finished.is)
