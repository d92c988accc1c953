-- The loop's invariant: the sum so far and the sum of what is left are the whole sum; the sum so far is at most 1 for
-- each mark passed.
use Rattle.std.proofs.Common.{◌≡◌, ◌+◌, ◌≤◌, length}
use Rattle.std.specs.Slice.Iter.{chunks_rest, chunks_size}
use Rattle.octets.specs.Octets.{largest_of, sum_of}
use Rattle.octets.proofs.sum.Given as goal

abbrev pub invariant-loop-block : goal.invariant-loop-block
invariant-loop-block l =
    let left = chunks_rest l.block-iterator in
    (chunks_size l.block-iterator ≡ 128) × (largest_of left ≤ 1) × (l.total + length left ≤ length l.marks)
    × (l.total + sum_of left ≡ sum_of l.marks)
