-- `object::staged` meets its contract: the stage and the number of bytes still to come follow from the sums.
-- Assumes nothing.
use Rattle.std.proofs.Common.{rules}
use Rattle.object.specs.Take.{slot_with}
use Rattle.object.specs.Parts.{parts_of}
use Rattle.object.specs.Stage.{core_in, stage_of, missing_in}
use Rattle.object.proofs.staged.Goals as goal

pub returns : goal.returns
unfolding slot_with parts_of stage_of missing_in core_in
returns c = search rules
