-- `Gathered::total_from` meets its contract: what is before the number and what is from it on add up to the total.
-- Assumes nothing.
use Prim.Native.Nat.{◌-◌}
use native.Mathlib.Omega.{arith}
use lib.ListN.{length, length-take, length-drop}
use Rattle.octets.specs.laws.Marks.{sum-split, largest-part}
use Rattle.part.proofs.gathered.Gathered.total_from.Goals as goal

pub sum-requires : goal.sum-requires
sum-requires c =
    let part = c.args.self.now in (
      omega (arith, largest-part part.marks.now 0 c.args.from, part.counted.bits),
      simp length-take (omega (arith, c.requires, part.counted.numbers, part.counted.few)),
    )

pub overflow_sub-result : goal.overflow_sub-result
overflow_sub-result c =
    let part = c.args.self.now in
    omega (arith, part.counted.sum, c.sum.ensures, sum-split part.marks.now c.args.from)

pub returns-then-from-self : goal.returns-then-from-self
returns-then-from-self c =
    let part = c.args.self.now in
    omega (arith, part.counted.sum, c.sum.ensures, sum-split part.marks.now c.args.from)

pub sum-requires-2 : goal.sum-requires-2
sum-requires-2 c =
    let part = c.args.self.now in
    let l = part.marks.now in
    let k = length l - c.args.from in (
      omega (arith, largest-part l c.args.from k, part.counted.bits),
      simp (length-take, length-drop) (omega (arith, part.counted.numbers, part.counted.few)),
    )
