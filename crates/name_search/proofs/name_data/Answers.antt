-- `name_search::name_data` meets its contract: the name that a reading tells of lies inside the header.
-- Assumes nothing.
use mathlib.Core.Path.{sym}
use native.Mathlib.Omega.{arith}
use Rattle.name_search.specs.laws.Theorems.{name-within}
use Rattle.name_search.proofs.name_data.Goals as goal

pub overflow_add-end : goal.overflow_add-end
overflow_add-end c = omega (arith, name-within _ _ (sym c.in-Some.ensures))

pub slice_bounds-result-end-2 : goal.slice_bounds-result-end-2
slice_bounds-result-end-2 c = omega (arith, name-within _ _ (sym c.in-Some.ensures))
