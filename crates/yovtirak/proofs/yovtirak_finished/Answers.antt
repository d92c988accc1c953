-- `yovtirak::yovtirak_finished` meets its contract: the words are read, and the object is located.
-- Assumes nothing.
use mathlib.Core.Path.{refl, sym, ◌∙◌}
use borrow.Author.Tests.{eq-eqb, ne_eqb}
use Rattle.yovtirak.specs.Exports.{finished_call}
use Rattle.yovtirak.specs.laws.Exports.{holds, holds-nothing}
use Rattle.yovtirak.proofs.yovtirak_finished.Goals as goal

pub returns-then-place-ne3 : goal.returns-then-place-ne3
unfolding finished_call
returns-then-place-ne3 c = rw (ne_eqb _ _ c.if-place-ne3.true) refl

pub returns-in_default : goal.returns-in_default
unfolding finished_call
returns-in_default c =
    rw (
      eq-eqb _ _ c.if-place-ne3.false,
      holds-nothing _ _ (sym c.held_in.ensures ∙ c.in_default.is),
    ) refl

pub returns-in-Err : goal.returns-in-Err
unfolding finished_call
returns-in-Err c =
    let h = holds _ _ _ _ (sym c.held_in.ensures ∙ c.in-Some.is) in
    rw (
      eq-eqb _ _ c.if-place-ne3.false,
      h.right,
      h.collector,
      h.counted,
      ← c.lent.ensures,
      sym c.locate.ensures ∙ c.in-Err.is,
      c.reason_word.ensures,
    ) refl

pub returns-in-Ok : goal.returns-in-Ok
unfolding finished_call
returns-in-Ok c =
    let h = holds _ _ _ _ (sym c.held_in.ensures ∙ c.in-Some.is) in
    rw (
      eq-eqb _ _ c.if-place-ne3.false,
      h.right,
      h.collector,
      h.counted,
      ← c.lent.ensures,
      sym c.locate.ensures ∙ c.in-Ok.is,
      c.put_place.ensures,
      c.stage_at.ensures,
    ) refl
