-- `listing::Lister::list_end` meets its contract.
-- Assumes nothing.
use mathlib.Core.Path.{sym, ◌∙◌}
use Rattle.listing.specs.Listed.{listed}
use Rattle.listing.specs.laws.Listed.{end-some, end_none}
use Rattle.listing.proofs.Lister.list_end.Goals as goal

pub returns-then-self-gt0 : goal.returns-then-self-gt0
returns-then-self-gt0 c = c.list_line.ensures ∙ sym (end-some (listed c.args.self.now) c.if-self-gt0.true)

pub returns-else-self-gt0 : goal.returns-else-self-gt0
returns-else-self-gt0 c = sym (end_none (listed c.args.self.now) c.if-self-gt0.false)
