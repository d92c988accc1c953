-- `yovtirak::yovtirak_find` meets its contract: the words are read, and the name is looked for.
-- Assumes nothing.
use mathlib.Core.Path.{refl, sym, ◌∙◌}
use Rattle.yovtirak.specs.Exports.{find_call}
use Rattle.yovtirak.specs.laws.Exports.{holds, holds-nothing}
use Rattle.yovtirak.proofs.yovtirak_find.Goals as goal

pub returns-in_default : goal.returns-in_default
unfolding find_call
returns-in_default c = rw (holds-nothing _ _ (sym c.held_in.ensures ∙ c.in_default.is)) refl

pub returns : goal.returns
unfolding find_call
returns c =
    let h = holds _ _ _ _ (sym c.held_in.ensures ∙ c.in-Some.is) in
    rw (h.right, h.collector, h.counted, ← c.lent.ensures, ← c.find.ensures) c.sought_word.ensures
