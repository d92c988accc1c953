-- `collector::Collector::is_sound` meets its contract: the slots, then the counts.
-- Assumes nothing.
use mathlib.Core.Path.{sym, ◌∙◌}
use Rattle.collector.specs.Calls.{sound}
use Rattle.collector.proofs.Collector.is_sound.Goals as goal

pub returns-then-sound : goal.returns-then-sound
unfolding sound
returns-then-sound c = rw (sym c.sound.ensures ∙ c.if-sound.true) c.are_within.ensures

pub returns-else-sound : goal.returns-else-sound
unfolding sound
returns-else-sound c = rw (sym c.sound.ensures ∙ c.if-sound.false) c.if-sound.false
