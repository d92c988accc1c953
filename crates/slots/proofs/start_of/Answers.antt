-- `slots::start_of` meets its contract: the share's first bytes lie in the store, or nothing is shown.
-- Assumes nothing.
use mathlib.Core.Path.{◌≡◌}
use Prim.Native.Nat.{◌*◌}
use native.Mathlib.Omega.{arith}
use Rattle.slots.proofs.Laws.{start_none, start-some}
use Rattle.slots.proofs.start_of.Goals.{in_default-via-in-Some+then-start-store+else-count-store, in_default-via-in-Some+else-start-store, in_default-via-in_default}
use Rattle.slots.proofs.start_of.Goals as goal

pub returns-in-Some : goal.returns-in-Some
returns-in-Some c =
    let a = c.args in
    let at : c.in-Some.start ≡ a.i * a.width = c.in-Some.ensures.1 in
    rw at (start-some a.width a.i a.count a.store.now (omega (arith, c.in-Some.ensures)))

pub returns-in_default : goal.returns-in_default
returns-in_default c =
    let a = c.args in
    start_none a.width a.i a.count a.store.now (elim c.in_default.branch [
      | in_default-via-in-Some+then-start-store+else-count-store w ↦ omega (arith, w.in-Some.ensures)
      | in_default-via-in-Some+else-start-store w ↦ omega (arith, w.in-Some.ensures)
      | in_default-via-in_default w ↦ omega (arith, w.in_default.ensures)
    ])
