-- `object::take` meets its contract: what is decided, and then stored.
-- Assumes nothing.
use mathlib.Core.Path.{sym, ◌∙◌}
use Rattle.cut.specs.Requirement.{Segment, sent}
use Rattle.object.specs.laws.Decided.{offered-readable, decided-fits}
use Rattle.object.specs.Parts.{Lent, shares}
use Rattle.object.proofs.take.Goals as goal

pub decide-decided-requires : goal.decide-decided-requires
decide-decided-requires c =
    let lent : Lent = shares c.args.header.now c.args.body.now c.args.marks.now in
    offered-readable c.tally_of-held.result
    c.args.part
    c.args.segment.now.number
    c.args.limit
    c.args.slot lent
    c.requires
    c.tally_of-held.ensures.0

pub store-requires : goal.store-requires
store-requires c =
    let lent : Lent = shares c.args.header.now c.args.body.now c.args.marks.now in
    let s : Segment = sent c.args.segment.now in
    decided-fits c.args.part
    c.args.limit s
    c.args.slot lent
    c.tally_of-held.result
    c.in-Fits.core
    c.requires c.tally_of-held.ensures.0 (sym c.decide-decided.ensures ∙
    c.in-Fits.is)
