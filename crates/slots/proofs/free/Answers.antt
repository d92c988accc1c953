-- `slots::free` meets its contract: the first that passes a test is the one in its position.
-- Assumes nothing.
use mathlib.Core.Path.{◌∙◌}
use lib.ListN.{take}
use Rattle.std.proofs.Common.{rules}
use Rattle.std.proofs.lemmas.Iterator.{YieldsList-from_slice, YieldsList-from_take}
use Rattle.std.proofs.lemmas.Iterator.Search.{position_from_yields_List}
use Rattle.slots.specs.Find.{is_free, free_in}
use Rattle.slots.proofs.Laws.{first-position}
use Rattle.slots.proofs.free.Goals as goal

pub returns : goal.returns
unfolding free_in
returns c =
    position_from_yields_List is_free _ _ c.position.result c.position.ensures.ran
    (YieldsList-from_take c.args.count (YieldsList-from_slice c.args.slots.now cc) cc)
    (λ x b q k. search rules)
    ∙ first-position is_free (take c.args.count c.args.slots.now)
