-- `yovtirak::heard_word` meets its contract.
-- Assumes nothing.
use mathlib.Core.Path.{refl}
use native.Mathlib.Omega.{arith}
use Rattle.yovtirak.specs.laws.Exports.{part_small}
use Rattle.yovtirak.proofs.heard_word.Goals as goal

pub overflow_mul-result : goal.overflow_mul-result
overflow_mul-result c = record {
  fits = omega (
    arith,
    part_small c.args.heard.part,
    c.part_word.ensures,
  );
}

pub overflow_add-result : goal.overflow_add-result
overflow_add-result c = record {
  fits = omega (
    arith,
    part_small c.args.heard.part,
    c.part_word.ensures,
  );
}

pub overflow_add-result-2 : goal.overflow_add-result-2
overflow_add-result-2 c = record {
  fits =
      omega (arith, part_small c.args.heard.part, c.part_word.ensures);
}

pub returns : goal.returns
returns c = (
  rw c.part_word.ensures refl,
  omega (arith, part_small c.args.heard.part, c.part_word.ensures),
)
