-- `yovtirak::yovtirak_open` meets its contract: the counts are read and written, and the state is written where it is
-- open. Assumes nothing.
use mathlib.Core.Path.{refl}
use borrow.Author.Tests.{eq-eqb, ne_eqb}
use Rattle.yovtirak.specs.Exports.{left_open, open_call}
use Rattle.yovtirak.proofs.yovtirak_open.Goals as goal

pub returns-then-state-ne-STATE : goal.returns-then-state-ne-STATE
unfolding open_call
returns-then-state-ne-STATE c = rw (ne_eqb _ _ c.if-state-ne-STATE.true) refl

pub returns-in_default : goal.returns-in_default
unfolding open_call
returns-in_default c = rw (eq-eqb _ _ c.if-state-ne-STATE.false, ne_eqb _ _ c.in_default.ensures.cases) refl

pub returns : goal.returns
unfolding open_call left_open
returns c =
    let lent = c.in-Some.ensures.cases in
    rw (
      eq-eqb _ _ c.if-state-ne-STATE.false,
      eq-eqb _ _ lent.long,
      ← (rw lent.same at c.counts_from-before.ensures),
      ← c.opened-opened.ensures,
      c.opening_word.ensures,
      c.keep.ensures,
      c.is_ok.ensures.value,
      c.put_counts.ensures,
    ) refl
