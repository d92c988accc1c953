-- `collector::Collector::opened` meets its contract: LIMITS, or opened with marks and counts of 0.
-- Assumes nothing.
use Rattle.collector.specs.Calls.{open_with}
use mathlib.Core.Path.{sym, ◌∙◌}
use Rattle.collector.proofs.Collector.opened.Goals as goal

pub returns-then-not-within_limits : goal.returns-then-not-within_limits
unfolding open_with
returns-then-not-within_limits c = rw (
  sym c.within_limits.ensures ∙ c.if-not-within_limits.true,
  c.free_slot-free.ensures,
)

pub returns : goal.returns
unfolding open_with
returns c =
    rw (
      sym c.within_limits.ensures ∙ c.if-not-within_limits.false,
      c.free_slot-free.ensures,
      c.none_yet.ensures,
      c.clear.ensures,
    )
