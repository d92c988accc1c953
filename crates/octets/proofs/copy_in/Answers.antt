-- The loop's invariant: the bytes of `src` passed so far are laid over the start of `dst`.
use Rattle.std.proofs.Common.{arith, zero-add}
use Rattle.octets.specs.laws.Over.{over_none, over-more}
use Rattle.octets.proofs.copy_in.Goals as goal

pub loop-i-init : goal.loop-i-init
loop-i-init c = over_none c.args.dst.now 0 c.args.src.now

pub loop-i-preserved : goal.loop-i-preserved
loop-i-preserved c =
    rw c.loop-i.invariant
    (rw zero-add at (over-more c.args.dst.now 0 c.args.src.now c.loop-i.i (omega arith) (omega arith)))
