-- `queries::name` meets its contract: where the object is, then the name in its header, which has its core.
-- Assumes nothing.
use mathlib.Core.Path.{sym, ap, ◌∙◌}
use Rattle.header.specs.Names.{name_data}
use Rattle.collector.specs.State.{lent_state}
use Rattle.collector.specs.Calls.{show}
use Rattle.queries.specs.Questions.{name}
use Rattle.queries.specs.laws.Theorems.{core-shown}
use Rattle.queries.proofs.name.Goals as goal

pub returns-in_default : goal.returns-in_default
unfolding name
returns-in_default c = rw (sym c.locate.ensures ∙ c.in_default.is)

pub name_data-requires : goal.name_data-requires
unfolding show
name_data-requires c =
    let a = c.args in
    let s = lent_state a.lent.now in
    let there = sym c.locate.ensures ∙ c.in-Ok.is in
    rw c.shown_at.ensures (rw there at (core-shown a.number _ s there))

pub returns : goal.returns
unfolding name show
returns c =
    let there =
    sym c.locate.ensures ∙ c.in-Ok.is in
    rw there (c.name_data.ensures ∙ ap name_data c.shown_at.ensures)
