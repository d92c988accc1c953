-- `collector::Collector::dropped` meets its contract: STATE, NOTHELD, or the slot freed.
-- Assumes nothing.
use mathlib.Core.Path.{sym, ◌∙◌}
use Rattle.slots.specs.Stores.{stores}
use Rattle.slots.specs.laws.Ready.{found_inside}
use Rattle.collector.specs.State.{state}
use Rattle.collector.specs.Calls.{drop_number}
use Rattle.collector.specs.laws.State.{slots-sound}
use Rattle.collector.proofs.Collector.dropped.Goals as goal

pub returns-then-not-is_sound : goal.returns-then-not-is_sound
unfolding drop_number
returns-then-not-is_sound c =
    let a = c.args in rw (sym c.is_sound.ensures ∙ c.if-not-is_sound.true)
    (c.answered.ensures (stores a.header.now a.body.now a.marks.now))

pub returns-in_default : goal.returns-in_default
unfolding drop_number
returns-in_default c =
    let a = c.args in
    let lent = stores a.header.now a.body.now a.marks.now in
    let good = sym c.is_sound.ensures ∙ c.if-not-is_sound.false in
    rw (good, sym c.find.ensures ∙ c.in_default.is)
    (c.answered-in_default.ensures lent)

pub drop_at-requires : goal.drop_at-requires
drop_at-requires c =
    let a = c.args in
    let lent = stores a.header.now a.body.now a.marks.now in
    let good = sym c.is_sound.ensures ∙ c.if-not-is_sound.false in
    let found = sym c.find.ensures ∙ c.in-Some.is in
    let slots = slots-sound (state a.self a.counts lent) good in
    let within = found_inside a.self.limit a.self.count a.self.slots lent slots a.number _ found in
    (within.slot, within.marks)

pub returns : goal.returns
unfolding drop_number
returns c =
    let good = sym c.is_sound.ensures ∙ c.if-not-is_sound.false in
    rw (good, sym c.find.ensures ∙ c.in-Some.is, ← c.drop_at.ensures)
    (c.answered-2.ensures _)
