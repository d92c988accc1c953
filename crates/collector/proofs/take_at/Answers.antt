-- `collector::take_at` meets its contract: what the slot has taken, told as an answer.
-- Assumes nothing.
use mathlib.Core.Path.{ap}
use Rattle.collector.specs.Arrival.{arrival_of}
use Rattle.collector.specs.Changes.{came_to}
use Rattle.collector.proofs.take_at.Goals as goal

pub returns : goal.returns
returns c =
    let a = c.args in
    rw c.answer_as.ensures
    (ap (came_to a.i (arrival_of a.came.now))
    (rw c.segment-segment.ensures at c.take_into-took.ensures))
