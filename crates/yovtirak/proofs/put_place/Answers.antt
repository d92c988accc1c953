-- `yovtirak::put_place` meets its contract.
-- Assumes nothing.
use Rattle.layout.specs.Layout.{header_word, body_word}
use Rattle.yovtirak.specs.laws.Exports.{three-put}
use Rattle.yovtirak.proofs.put_place.Goals as goal

pub returns : goal.returns
returns c =
    let a = c.args in
    rw (c.header_word.ensures, c.body_word.ensures)
    (three-put a.place.now a.i (header_word a.stage) (body_word a.stage) c.requires)
