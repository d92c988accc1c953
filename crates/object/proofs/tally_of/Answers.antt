-- `object::tally_of` meets its contract: the core, and the two sums.
-- Assumes nothing.
use native.Mathlib.Omega.{arith}
use Rattle.answer.specs.declared.Part.TheVariants.{Header, Body}
use Rattle.object.specs.laws.Inside.{marks-length, marks-bits}
use Rattle.object.proofs.tally_of.Goals as goal

pub sum-headers-requires : goal.sum-headers-requires
sum-headers-requires c =
    rw c.marks_of-own.ensures (
      marks-bits Header c.args.marks.now c.requires.1,
      omega (arith, marks-length Header c.args.marks.now c.requires.0),
    )

pub sum-bodies-requires : goal.sum-bodies-requires
sum-bodies-requires c =
    rw c.marks_of.ensures (
      marks-bits Body c.args.marks.now c.requires.1,
      omega (arith, marks-length Body c.args.marks.now c.requires.0),
    )
