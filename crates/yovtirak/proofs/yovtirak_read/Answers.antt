-- `yovtirak::yovtirak_read` meets its contract: the words are read, and the header is asked.
-- Assumes nothing.
use mathlib.Core.Path.{refl, sym, ◌∙◌}
use borrow.Author.Tests.{eq-eqb, ne_eqb}
use Rattle.yovtirak.specs.Exports.{read_call}
use Rattle.yovtirak.specs.laws.Exports.{holds, holds-nothing}
use Rattle.yovtirak.proofs.yovtirak_read.Goals as goal

pub returns-then-told-ne7 : goal.returns-then-told-ne7
unfolding read_call
returns-then-told-ne7 c = rw (ne_eqb _ _ c.if-told-ne7.true) refl

pub returns-in_default : goal.returns-in_default
unfolding read_call
returns-in_default c =
    rw (
      eq-eqb _ _ c.if-told-ne7.false,
      holds-nothing _ _ (sym c.held_in.ensures ∙ c.in_default.is),
    ) refl

pub returns-in-Err : goal.returns-in-Err
unfolding read_call
returns-in-Err c =
    let h = holds _ _ _ _ (sym c.held_in.ensures ∙ c.in-Some.is) in
    rw (
      eq-eqb _ _ c.if-told-ne7.false,
      h.right,
      h.collector,
      h.counted,
      ← c.lent.ensures,
      sym c.parameters.ensures ∙ c.in-Err.is,
      c.reason_word.ensures,
    ) refl

pub returns-in-Ok : goal.returns-in-Ok
unfolding read_call
returns-in-Ok c =
    let h = holds _ _ _ _ (sym c.held_in.ensures ∙ c.in-Some.is) in
    rw (
      eq-eqb _ _ c.if-told-ne7.false,
      h.right,
      h.collector,
      h.counted,
      ← c.lent.ensures,
      sym c.parameters.ensures ∙ c.in-Ok.is,
      c.put_fields.ensures,
    ) refl
