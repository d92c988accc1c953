-- `collector::Lent::show` meets its contract: where the object is, then its part of a store.
-- Assumes nothing.
use mathlib.Core.Path.{sym, ◌∙◌}
use Rattle.collector.specs.Calls.{show}
use Rattle.collector.proofs.Lent.show.Goals as goal

pub returns-in_default : goal.returns-in_default
unfolding show
returns-in_default c = rw (sym c.locate.ensures ∙ c.in_default.is)

pub returns : goal.returns
unfolding show
returns c = rw (sym c.locate.ensures ∙ c.in-Ok.is)
    c.shown_at.ensures
