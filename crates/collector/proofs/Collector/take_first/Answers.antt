-- `collector::Collector::take_first` meets its contract: CONFLICT, FULL, or the lowest free slot.
-- Assumes nothing.
use mathlib.Core.Path.{refl, sym, ◌∙◌}
use native.Mathlib.Omega.{arith}
use Rattle.slots.specs.Stores.{stores, fresh_slot}
use Rattle.slots.specs.Take.{take_new}
use Rattle.slots.specs.laws.Ready.{sound-open}
use Rattle.slots.specs.laws.Fresh.{fresh-offered}
use Rattle.collector.proofs.Laws.{put_as}
use Rattle.collector.specs.Arrival.{arrival_of}
use Rattle.collector.proofs.Collector.take_first.Goals as goal

pub returns-then-not-fits_alone : goal.returns-then-not-fits_alone
returns-then-not-fits_alone c = (
  omega arith,
  λ counts. rw (sym (rw c.segment.ensures at c.fits_alone.ensures) ∙ c.if-not-fits_alone.true) refl,
)

pub returns-in_default : goal.returns-in_default
returns-in_default c =
    let alone = sym (rw c.segment.ensures at c.fits_alone.ensures) ∙ c.if-not-fits_alone.false in
    (omega arith, λ counts. rw (alone, sym c.free.ensures ∙ c.in_default.is) refl)

pub take_at-requires : goal.take_at-requires
take_at-requires c =
    let a = c.args in
    let lent = stores a.header.now a.body.now a.marks.now in
    let o = sound-open a.self.now.limit a.self.now.count a.self.now.slots lent c.requires _
    (sym c.free.ensures ∙ c.in-Some.is) in
    record {
      inside = o.inside;
      offered = rw c.fresh_slot-fresh.ensures (fresh-offered a.self.now.limit _ a.came.now.heard.number lent o);
    }

pub returns : goal.returns
unfolding take_new
returns c =
    let a = c.args in
    let lent = stores a.header.now a.body.now a.marks.now in
    let o = sound-open a.self.now.limit a.self.now.count a.self.now.slots lent c.requires _
    (sym c.free.ensures ∙ c.in-Some.is) in
    let alone = sym (rw c.segment.ensures at c.fits_alone.ensures) ∙ c.if-not-fits_alone.false in
    rw (alone, sym c.free.ensures ∙ c.in-Some.is)
    (put_as a.self.now _ (arrival_of a.came.now) lent
    c.fresh_slot-fresh.result (fresh_slot a.came.now.heard.number) c.take_at.ensures
    c.fresh_slot-fresh.ensures o.inside.slot)
