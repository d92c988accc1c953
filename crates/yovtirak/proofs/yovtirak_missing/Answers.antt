-- `yovtirak::yovtirak_missing` meets its contract: the words are read, and the question is asked.
-- Assumes nothing.
use mathlib.Core.Path.{refl, sym, ◌∙◌}
use Rattle.yovtirak.specs.Exports.{missing_call}
use Rattle.yovtirak.specs.laws.Exports.{holds, holds-nothing}
use Rattle.yovtirak.proofs.yovtirak_missing.Goals as goal

pub returns-in_default : goal.returns-in_default
unfolding missing_call
returns-in_default c = rw (holds-nothing _ _ (sym c.held_in.ensures ∙ c.in_default.is)) refl

pub returns : goal.returns
unfolding missing_call
returns c =
    let h = holds _ _ _ _ (sym c.held_in.ensures ∙ c.in-Some.is) in
    rw (h.right, h.collector, h.counted, ← c.lent.ensures, ← c.missing.ensures) c.awaited_word.ensures
