-- `collector::Collector::answered` meets its contract: the answer is counted, and nothing else changes.
-- Assumes nothing.
use Rattle.collector.proofs.Collector.answered.Goals as goal

pub returns : goal.returns
returns c = λ lent. rw c.counted.ensures
