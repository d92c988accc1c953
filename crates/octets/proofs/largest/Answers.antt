-- The marks folded by `max` give the largest.
use Rattle.std.proofs.Common.{rules, arith, ◌≡◌, max, fold}
use Rattle.octets.specs.laws.Marks.{largest-folded}
use Rattle.octets.proofs.largest.Goals as goal

pub returns : goal.returns
returns c =
    let folded : c.fold.result ≡ fold (λ top mark. max top mark) 0 c.args.marks.now = search rules in
    omega (arith, folded, largest-folded c.args.marks.now 0)
