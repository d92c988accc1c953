-- `collector::Collector::take_segment` meets its contract: the slot that holds the number, or none.
-- Assumes nothing.
use mathlib.Core.Path.{refl, sym, ◌∙◌}
use native.Mathlib.Omega.{arith}
use Rattle.slots.specs.Stores.{stores, free_slot, slot_at}
use Rattle.slots.specs.Take.{take_at}
use Rattle.slots.specs.laws.Ready.{sound-offered}
use Rattle.collector.proofs.Laws.{put_as}
use Rattle.collector.specs.Arrival.{arrival_of}
use Rattle.collector.proofs.Collector.take_segment.Goals as goal

pub returns-in_default : goal.returns-in_default
returns-in_default c =
    let none = sym c.find.ensures ∙ c.in_default.is in
    (c.take_first.ensures.0, λ counts. rw none (c.take_first.ensures.1 counts))

pub offset_bounds-self-i : goal.offset_bounds-self-i
offset_bounds-self-i c =
    let a = c.args in
    let lent = stores a.header.now a.body.now a.marks.now in
    let found = sym c.find.ensures ∙ c.in-Some.is in
    let o = sound-offered a.self.now.limit a.self.now.count a.self.now.slots lent c.requires a.came.now.heard.number _ found in
    omega (arith, o.inside.slot)

pub bounds-self-i : goal.bounds-self-i
bounds-self-i c =
    let a = c.args in
    let lent = stores a.header.now a.body.now a.marks.now in
    let found = sym c.find.ensures ∙ c.in-Some.is in
    let o = sound-offered a.self.now.limit a.self.now.count a.self.now.slots lent c.requires a.came.now.heard.number _ found in
    o.inside.slot

pub take_at-requires : goal.take_at-requires
unfolding slot_at free_slot
take_at-requires c =
    let a = c.args in
    let lent = stores a.header.now a.body.now a.marks.now in
    let found = sym c.find.ensures ∙ c.in-Some.is in
    let o = sound-offered a.self.now.limit a.self.now.count a.self.now.slots lent c.requires a.came.now.heard.number _ found in
    record { inside = o.inside; offered = o.offered }

pub returns : goal.returns
unfolding take_at slot_at free_slot
returns c =
    let a = c.args in
    let lent = stores a.header.now a.body.now a.marks.now in
    let found = sym c.find.ensures ∙ c.in-Some.is in
    let o = sound-offered a.self.now.limit a.self.now.count a.self.now.slots lent c.requires a.came.now.heard.number _ found in
    let i = c.in-Some.i in
    rw found (put_as a.self.now i (arrival_of a.came.now) lent
    (slot_at i a.self.now.slots) (slot_at i a.self.now.slots) c.take_at.ensures refl o.inside.slot)
