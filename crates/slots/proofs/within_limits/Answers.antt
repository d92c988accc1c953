-- `slots::within_limits` meets its contract: test by test.
-- Assumes nothing.
use mathlib.Core.Path.{◌≡◌, refl, sym, ◌∙◌}
use mathlib.Core.Bool.{Bool, true, false}
use mathlib.Core.List.{[], ◌∷◌}
use Prim.Native.Nat.{◌*◌}
use lib.Dec.{leb, eqb}
use Rattle.std.proofs.Common.{rules}
use Rattle.cut.specs.Requirement.{header_most, limit_least, limit_most}
use Rattle.cut.specs.Lists.{both, all}
use Rattle.cut.specs.laws.Decision.{false-true, both-then, both-else}
use Rattle.slots.specs.Stores.{slots_least, slots_most}
use Rattle.slots.specs.State.{within_limits}
use Rattle.slots.specs.laws.StateTests.{limits-tests}
use Rattle.slots.proofs.within_limits.Goals.{then-contains, else-contains, then-contains-2, else-contains-2, then-header-count, else-header-count}
use Rattle.slots.proofs.within_limits.Goals as goal

pub returns-then-body-count : goal.returns-then-body-count
unfolding within_limits
returns-then-body-count c = search rules

-- the limits' tests, and the lengths' up to one that fails
fails : (l m c d h b k : Bool) → both (both (both (both l m) (both c d)) h) b ≡ false
    → false ≡ both (all (l ∷ m ∷ c ∷ d ∷ [])) (both h (both b k))
fails false m c d h b k e = refl
fails true false c d h b k e = refl
fails true true false d h b k e = refl
fails true true true false h b k e = refl
fails true true true true false b k e = refl
fails true true true true true false k e = refl
fails true true true true true true k e = absurd (false-true e refl)

pub returns-else-body-count : goal.returns-else-body-count
returns-else-body-count c =
    let a = c.args in
    let l : Bool = leb limit_least a.limit in
    let m : Bool = leb a.limit limit_most in
    let s : Bool = both (leb slots_least a.count) (leb a.count slots_most) in
    let h : Bool = eqb a.header (a.count * header_most) in
    let b : Bool = eqb a.body (a.count * a.limit) in
    let limits : c.contains.result ≡ both l m = search rules in
    let counts : c.if-contains.value ≡ both (both l m) s = elim c.if-contains.branch [
      | then-contains w ↦ both-then s (sym limits ∙ w.if-contains.true) w.value-is (search rules)
      | else-contains w ↦ both-else s (sym limits ∙ w.if-contains.false) (w.value-is ∙ limits)
    ] in
    let headers : c.if-contains-2.value ≡ both c.if-contains.value h = elim c.if-contains-2.branch [
      | then-contains-2 w ↦ both-then h w.if-contains-2.true w.value-is (search rules)
      | else-contains-2 w ↦ both-else h w.if-contains-2.false w.value-is
    ] in
    let bodies : c.if-header-count.value ≡ both c.if-contains-2.value b = elim c.if-header-count.branch [
      | then-header-count w ↦ both-then b w.if-header-count.true w.value-is (search rules)
      | else-header-count w ↦ both-else b w.if-header-count.false w.value-is
    ] in
    let all_tests = rw (headers, counts) at bodies in
    rw (c.if-body-count.false, limits-tests a.limit a.count a.header a.body a.marks)
    (fails l m (leb slots_least a.count) (leb a.count slots_most) h b _ (sym all_tests ∙ c.if-body-count.false))
