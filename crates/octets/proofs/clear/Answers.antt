-- The loop's invariant: the marks passed so far are 0.
use Rattle.std.proofs.Common.{◌≡◌, length, arith, drop_of_length-le, append-nil}
use Rattle.octets.specs.Octets.{zeros}
use Rattle.octets.proofs.clear.Goals as goal

pub returns : goal.returns
unfolding zeros
returns c =
    let l = c.args.marks.now in
    let e : c.loop-mark.mark-index ≡ length l = omega arith in
    rw (c.loop-mark.invariant, e, drop_of_length-le l {i = length l} (omega arith)) (append-nil _)
