-- `collector::Collector::segment_taken` meets its contract: STATE, or the change that the segment comes to is made.
-- Assumes nothing.
use mathlib.Core.Path.{◌≡◌, sym, ◌∙◌}
use borrow.Author.Rules.{rules}
use Rattle.slots.specs.Stores.{stores}
use Rattle.collector.specs.State.{state}
use Rattle.collector.specs.Arrival.{no_repetition}
use Rattle.collector.specs.Calls.{take_segment}
use Rattle.collector.specs.laws.State.{slots-sound}
use Rattle.collector.proofs.Collector.segment_taken.Goals as goal

pub returns-then-not-is_sound : goal.returns-then-not-is_sound
unfolding take_segment
returns-then-not-is_sound c =
    let a = c.args in rw (sym c.is_sound.ensures ∙ c.if-not-is_sound.true)
    (c.answered.ensures (stores a.header.now a.body.now a.marks.now))

pub take_segment-change-requires : goal.take_segment-change-requires
take_segment-change-requires c =
    let a = c.args in
    let lent = stores a.header.now a.body.now a.marks.now in
    let good = sym c.is_sound.ensures ∙ c.if-not-is_sound.false in slots-sound (state a.self a.counts lent) good

pub changed-requires : goal.changed-requires
changed-requires c = c.take_segment-change.ensures.0

pub returns : goal.returns
unfolding take_segment
returns c =
    let good = sym c.is_sound.ensures ∙ c.if-not-is_sound.false in
    let none : c.default.result ≡ no_repetition = search rules in
    rw (good, ← none) (c.changed.ensures _ ∙ c.take_segment-change.ensures.1 c.args.counts)
