-- The loop's invariant: the bytes passed so far stand at `to`. What is read next was not written yet, since `to` is no
-- higher than `from`.
use Rattle.std.proofs.Common.{◌≡◌, ◌+◌, ◌-◌, arith, sym, ◌∙◌, length, take, drop, get_or, length-drop, length-take-le, get_or-drop}
use Rattle.octets.specs.Octets.{over}
use Rattle.octets.specs.laws.Over.{over_none, over-more, over-past}
use Rattle.octets.proofs.move_down.Goals as goal

pub loop-i-init : goal.loop-i-init
loop-i-init c = over_none c.args.bytes.now c.args.to (drop c.args.from c.args.bytes.now)

pub loop-i-preserved : goal.loop-i-preserved
loop-i-preserved c =
    let p = c.args in
    let l = p.bytes.now in
    let run = drop p.from l in
    let i = c.loop-i.i in
    let n : length run ≡ length l - p.from = length-drop p.from l in
    let k : length (take i run) ≡ i = length-take-le i run (omega arith) in
    let g : get_or (over l p.to (take i run)) (p.from + i) 0 ≡ get_or run i 0 =
    over-past l p.to (take i run) (omega arith) (p.from + i) (omega arith) ∙ sym (get_or-drop p.from l i 0) in
    rw (c.loop-i.invariant, g) (over-more l p.to run i (omega arith) (omega arith))
