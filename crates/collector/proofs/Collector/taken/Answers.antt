-- `collector::Collector::taken` meets its contract: the change that the group comes to is made.
-- Assumes nothing.
use mathlib.Core.Path.{◌∙◌}
use Rattle.collector.proofs.Collector.taken.Goals as goal

pub changed-requires : goal.changed-requires
changed-requires c = c.take_group-change.ensures.0

pub returns : goal.returns
returns c = c.changed.ensures _ ∙ c.take_group-change.ensures.1
