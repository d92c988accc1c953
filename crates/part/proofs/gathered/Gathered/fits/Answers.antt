-- `Gathered::fits` meets its contract: a number past the part's fits nothing.
-- Assumes nothing.
use mathlib.Core.Path.{sym}
use Rattle.part.specs.laws.Inside.{fits-beyond}
use Rattle.part.proofs.gathered.Gathered.fits.Goals as goal

pub returns-then-self-number : goal.returns-then-self-number
returns-then-self-number c =
    let part = c.args.self.now in
    sym (fits-beyond part.bounds part.kept part.marks.now c.args.last c.args.number c.args.count c.if-self-number.true)
