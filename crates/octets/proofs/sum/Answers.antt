-- A block holds marks, 128 at most, so its sum fits a u8, and what it adds leaves the invariant.
use Rattle.std.proofs.Common.{rules, arith, ap, ℕ, List, ◌≡◌, ◌<◌, ◌≤◌, ◌++◌, sum, length, length-append}
use Rattle.std.specs.Slice.Iter.{chunks_rest}
use Rattle.octets.specs.Octets.{largest_of, sum_of}
use Rattle.octets.specs.laws.Marks.{sum-is, sum-append, sum_bound, largest-append}
use Rattle.octets.proofs.sum.Goals as goal

-- a block in front adds at most 1 for each of its marks, and what is left is marks too
in_front : (block left : List ℕ) → largest_of (block ++ left) ≤ 1 → (sum block ≤ length block) × (largest_of left ≤ 1)
in_front block left h =
    let both = largest-append block left in
    (omega (arith, sum-is block, sum_bound block (omega (arith, both))), omega (arith, both))

pub sum-requires-clause-fits : goal.sum-requires-clause-fits
sum-requires-clause-fits c =
    let block = c.in-Some.block.now in
    let left = chunks_rest c.next.new.self in
    let cut : chunks_rest c.loop-block.block-iterator ≡ block ++ left = c.in-Some.ensures.steps.1.0 in
    let front = in_front block left (rw cut at c.loop-block.invariant.1) in
    let few : sum block < 256 = omega (arith, front.0, c.in-Some.ensures.steps.1.1) in
    search rules

pub loop-block-preserved : goal.loop-block-preserved
loop-block-preserved c =
    let block = c.in-Some.block.now in
    let left = chunks_rest c.next.new.self in
    let cut : chunks_rest c.loop-block.block-iterator ≡ block ++ left = c.in-Some.ensures.steps.1.0 in
    let front = in_front block left (rw cut at c.loop-block.invariant.1) in
    let added : c.sum.result ≡ sum block = search rules in (
      omega arith,
      front.1,
      omega (arith, added, front.0, ap length cut, length-append block left),
      omega (arith, added, sum-is block, ap sum_of cut, sum-append block left),
    )
