-- `object::is_sound` meets its contract.
-- Assumes nothing.
use mathlib.Core.Path.{ap, ◌∙◌}
use mathlib.Core.List.{[]}
use Rattle.std.specs.Prelude.{is_some}
use Rattle.object.specs.Parts.{shares}
use Rattle.object.specs.laws.Decided.{is-sound}
use Rattle.object.proofs.is_sound.Goals as goal

pub returns : goal.returns
returns c =
    let a = c.args in
    c.is_some.ensures ∙ ap is_some c.soundness_of.ensures ∙ is-sound a.limit a.slot (shares a.header.now [] a.marks.now)
