-- `yovtirak::yovtirak_drop` meets its contract: the words are read, handed to the collector, and written.
-- Assumes nothing.
use mathlib.Core.Path.{refl, sym, ◌∙◌}
use Rattle.yovtirak.specs.Exports.{left, drop_call}
use Rattle.yovtirak.specs.laws.Exports.{holds, holds-nothing}
use Rattle.yovtirak.proofs.yovtirak_drop.Goals as goal

pub returns-in_default : goal.returns-in_default
unfolding drop_call
returns-in_default c = rw (holds-nothing _ _ (sym c.held_in.ensures ∙ c.in_default.is)) refl

pub leave-requires : goal.leave-requires
leave-requires c =
    let h = holds _ _ _ _ (sym c.held_in.ensures ∙ c.in-Some.is) in (h.state_length, h.counts_length)

pub returns : goal.returns
unfolding drop_call left
returns c =
    let h = holds _ _ _ _ (sym c.held_in.ensures ∙ c.in-Some.is) in
    let l = c.leave.ensures in
    rw (h.right, h.collector, h.counted, ← c.dropped-after.ensures, l.0, l.1, l.2) refl
