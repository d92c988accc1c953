-- `layout::slot_from` meets its contract, word by word.
-- Assumes nothing.
use Rattle.std.proofs.Common.{rules}
use Rattle.layout.specs.Layout.{stage_at, record_at, slot_in}
use Rattle.layout.proofs.slot_from.Goals as goal

pub returns : goal.returns
unfolding slot_in stage_at record_at
returns c = search rules
