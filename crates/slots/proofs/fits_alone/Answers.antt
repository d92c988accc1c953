-- `slots::fits_alone` meets its contract: what comes of it where nothing is in yet.
-- Assumes nothing.
use mathlib.Core.Path.{◌≡◌, sym, ap, ◌∙◌}
use borrow.Author.Rules.{rules}
use Rattle.std.specs.Prelude.{None}
use Rattle.octets.specs.Octets.{zeros}
use Rattle.octets.specs.laws.Marks.{zeros-sum}
use Rattle.cut.specs.Requirement.{Segment, sent}
use Rattle.slots.specs.Stores.{slot_marks}
use Rattle.slots.specs.Alone.{is_fits}
use Rattle.slots.specs.laws.Fresh.{fresh-decided, fresh-readable}
use Rattle.slots.proofs.Laws.{zeros-long, unfit}
use Rattle.object.specs.Parts.{Lent, shares}
use Rattle.object.specs.declared.Tally.{Tally}
use Rattle.slots.proofs.fits_alone.Goals as goal

-- what the marks come to where none is set
abbrev none_counted : Tally
none_counted = record { core = None; headers = 0; bodies = 0 }

pub decide-decided-requires : goal.decide-decided-requires
unfolding zeros
decide-decided-requires c =
    let a = c.args in
    let s : Segment = sent a.segment.now in
    let lent : Lent = shares a.segment.now.bytes.now a.segment.now.bytes.now (zeros slot_marks) in
    let none : c.default-nothing.result ≡ none_counted = search rules in
    rw (c.fresh_slot-fresh.ensures, none)
    (fresh-readable a.part a.limit 0 s lent (zeros-sum slot_marks) (zeros-long slot_marks))

pub returns-in-Fits : goal.returns-in-Fits
unfolding zeros
returns-in-Fits c =
    let a = c.args in
    let s : Segment = sent a.segment.now in
    let lent : Lent = shares a.segment.now.bytes.now a.segment.now.bytes.now (zeros slot_marks) in
    let decided = rw c.fresh_slot-fresh.ensures at c.decide-decided.ensures in
    ap is_fits (sym c.in-Fits.is ∙ decided) ∙ fresh-decided a.part a.limit 0 s lent (zeros-sum slot_marks)

pub returns-in_default : goal.returns-in_default
unfolding zeros
returns-in_default c =
    let a = c.args in
    let s : Segment = sent a.segment.now in
    let lent : Lent = shares a.segment.now.bytes.now a.segment.now.bytes.now (zeros slot_marks) in
    let decided = rw c.fresh_slot-fresh.ensures at c.decide-decided.ensures in
    unfit c.decide-decided.result c.in_default.not-Fits
    ∙ ap is_fits decided ∙ fresh-decided a.part a.limit 0 s lent (zeros-sum slot_marks)
