-- `collector::Collector::take_group` meets its contract: STATE, a refusal of reading, or the segment.
-- Assumes nothing.
use Prim.Native.Nat.{◌+◌, ◌-◌}
use mathlib.Core.Path.{◌≡◌, sym, ◌∙◌}
use native.Mathlib.Omega.{arith}
use Rattle.slots.specs.Stores.{stores}
use Rattle.collector.specs.State.{state}
use Rattle.collector.specs.Calls.{take_segment, take_group}
use Rattle.collector.specs.laws.State.{slots-sound}
use Rattle.collector.proofs.Collector.take_group.Goals as goal

pub take_segment-requires : goal.take_segment-requires
take_segment-requires c =
    let a = c.args in
    let lent = stores a.header.now a.body.now a.marks.now in
    let good = sym c.is_sound.ensures ∙ c.if-not-is_sound.false in
    slots-sound (state a.self.now a.counts lent) good

pub returns : goal.returns
unfolding take_group take_segment
returns c =
    let a = c.args in
    let place = c.in-Ok.carried.bytes in
    let good = sym c.is_sound.ensures ∙ c.if-not-is_sound.false in
    let read = sym c.read-reading.ensures ∙ c.in-Ok.is in
    let long : place.start + place.length - place.start ≡ place.length = omega arith in
    let left = rw long at (c.take_segment.ensures.1 a.counts) in
    (c.take_segment.ensures.0, rw (good, read, good) left)
