-- `object::decide` meets its contract: held, or new, as the definition goes.
-- Assumes nothing.
use mathlib.Core.Path.{◌≡◌, sym, ap, ◌∙◌}
use mathlib.Core.Bool.{true, false}
use Rattle.cut.specs.Requirement.{Segment, sent}
use Rattle.cut.specs.Kept.{core_with}
use Rattle.object.specs.declared.Tally.{Tally}
use Rattle.object.specs.laws.Decided.{said, decided-held, decided-new}
use Rattle.object.specs.Parts.{Lent, shares, parts_of}
use Rattle.object.specs.Stage.{core_in}
use Rattle.object.proofs.decide.Goals as goal

pub returns-then-same_as_held : goal.returns-then-same_as_held
returns-then-same_as_held c =
    let lent : Lent = shares c.args.header.now c.args.body.now c.args.marks.now in
    let s : Segment = sent c.args.segment.now in
    let marked = rw c.marks_of.ensures at
    c.holds.ensures in
    decided-held c.args.part
    c.args.limit s
    c.args.slot lent true
    (sym marked ∙ c.if-holds.true) (sym c.if-same_as_held.true ∙ c.same_as_held.ensures)

pub returns-then-holds : goal.returns-then-holds
returns-then-holds c =
    let lent : Lent = shares c.args.header.now c.args.body.now c.args.marks.now in
    let s : Segment = sent c.args.segment.now in
    let marked = rw c.marks_of.ensures at
    c.holds.ensures in
    decided-held c.args.part
    c.args.limit s
    c.args.slot lent false
    (sym marked ∙ c.if-holds.true) (sym c.if-same_as_held.false ∙ c.same_as_held.ensures)

pub returns-then-not-takes : goal.returns-then-not-takes
unfolding parts_of core_in
returns-then-not-takes c =
    let lent : Lent = shares c.args.header.now c.args.body.now c.args.marks.now in
    let s : Segment = sent c.args.segment.now in
    let marked = rw c.marks_of.ensures at
    c.holds.ensures in
    let core : c.core_with-core.result ≡ said c.args.part c.args.limit s c.args.slot lent = c.core_with-core.ensures
    ∙ ap (λ (t : Tally). core_with c.args.part s t.core) c.requires.tallied in
    decided-new c.args.part c.args.limit s c.args.slot lent false (sym marked ∙ c.if-holds.false)
    (sym (c.if-not-takes.true) ∙ (rw core at c.takes.ensures))

pub returns : goal.returns
unfolding parts_of core_in
returns c =
    let lent : Lent = shares c.args.header.now c.args.body.now c.args.marks.now in
    let s : Segment = sent c.args.segment.now in
    let marked = rw c.marks_of.ensures at
    c.holds.ensures in
    let core : c.core_with-core.result ≡ said c.args.part c.args.limit s c.args.slot lent = c.core_with-core.ensures
    ∙ ap (λ (t : Tally). core_with c.args.part s t.core) c.requires.tallied in
    rw core (decided-new c.args.part c.args.limit s c.args.slot lent true (sym marked ∙ c.if-holds.false)
    (sym (c.if-not-takes.false) ∙ (rw core at c.takes.ensures)))
