-- `part::bounds::room_ended` meets its contract: what ends past the bound by division does so by the product.
use Rattle.std.proofs.Common.{◌-◌, ◌*◌, ◌<◌, arith, div-lt_iff_lt-mul}
use Rattle.part.proofs.bounds.room_ended.Goals as goal
use Rattle.part.proofs.bounds.room_ended.Goals.{then-bounds-tail-2-via-then-bounds-tail-2, then-bounds-tail-2-via-else-bounds-tail-2+then-number-size}

pub returns-then-bounds-tail-2 : goal.returns-then-bounds-tail-2
returns-then-bounds-tail-2 c =
    elim c.then-bounds-tail-2.branch [
      | then-bounds-tail-2-via-then-bounds-tail-2 w ↦
          let a = c.args in
          let past : a.bounds.most - a.tail < a.number * a.size = (div-lt_iff_lt-mul {k = a.size} (omega arith)).0
          w.if-bounds-tail-2.true in
          grind arith
      | then-bounds-tail-2-via-else-bounds-tail-2+then-number-size w ↦ grind arith
    ]
