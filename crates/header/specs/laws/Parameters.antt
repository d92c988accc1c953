-- Laws of the list of parameters: how it goes on from one parameter to the next, and what holds of each of them.
use Rattle.std.specs.Prelude.{◌≡◌, refl, Bool, true, false, List, [], ◌∷◌, Option, Some, None, ℕ, zero, suc, ◌+◌, ◌/◌, ◌%◌, ◌≤◌, ◌<◌, length, get_or, ltb}
use Rattle.std.proofs.Common.{sym, ap, ◌∙◌, subst, lt-ltb, le-ltb, le-leb, eq-eqb, ne_eqb, eqb-true}
use Rattle.std.proofs.Math.Decide.{dec_le, dec_lt, ℕ_discrete}
use native.Mathlib.Omega.{arith}
use Rattle.std.proofs.lemmas.Bool.{lt-leb}
use Rattle.header.specs.declared.Parameter.{Parameter}
use Rattle.header.specs.Parameters.{pick, length_at, by_code, parameter_at, within, found_at, Listed, broken, listed, put, follow, turns, parameters_from, width_fits, all_fit, find}

-- ---- one parameter

pub within-is : (end : ℕ) (p : Parameter) → p.start + p.size ≤ end → within end p ≡ Some p
unfolding within
within-is end p h = rw (le-leb _ _ h)

pub within-not : (end : ℕ) (p : Parameter) → end < p.start + p.size → within end p ≡ None
unfolding within
within-not end p h = rw (lt-leb _ _ h)

-- what is found is the parameter itself, and it does not run past the end
pub within-found : (end : ℕ) (p q : Parameter) → within end p ≡ Some q → (p ≡ q) × (q.start + q.size ≤ end)
within-found end p q e = go (dec_le (p.start + p.size) end)
  where
    go : Dec (p.start + p.size ≤ end) → (p ≡ q) × (q.start + q.size ≤ end)
    go (yes h) = let s : p ≡ q = cc (within-is end p h) in (s, subst (λ (r : Parameter). r.start + r.size ≤ end) s h)
    go (no h) = let z : ◌≡◌ {A = ℕ} 0 1 = cc (within-not end p (omega arith)) in absurd (omega arith)

module _ (h : List ℕ) (at : ℕ) where
  pub length-known : (i : ℕ) → (at < (length_at h i at).start) × ((length_at h i at).identifier ≡ i)
  unfolding length_at
  length-known i = go (dec_lt (get_or h at 0) 128)
    where
      go : Dec (get_or h at 0 < 128) → (at < (length_at h i at).start) × ((length_at h i at).identifier ≡ i)
      go (yes g) = rw (lt-ltb (get_or h at 0) 128 g) (omega arith, refl)
      go (no g) = rw (le-ltb (get_or h at 0) 128 (omega arith)) (omega arith, refl)

-- the data stands behind the byte that begins the parameter, and the identifier has 6 bits
pub parameter-known : (h : List ℕ) (at : ℕ) → (at < (parameter_at h at).start) × ((parameter_at h at).identifier < 64)
unfolding parameter_at
parameter-known h at = go (get_or h at 0 / 64) (get_or h at 0 % 64) (omega arith)
  where
    go : (c i : ℕ) → i < 64 → (at < (by_code h at c i).start) × ((by_code h at c i).identifier < 64)
    go zero i g = (omega arith, g)
    go (suc zero) i g = (omega arith, g)
    go (suc (suc zero)) i g = (omega arith, g)
    go (suc (suc (suc c))) i g = let k = length-known h (at + 1) i in (omega (arith, k.0), rw k.1 g)

-- what is known of each parameter that is found
pub record Known (h : List ℕ) (p : Parameter) : Type 0 where
  pub named : p.identifier < 64
  pub inside : p.start + p.size ≤ length h

pub found-known : (h : List ℕ) (at : ℕ) (p : Parameter) → found_at h at ≡ Some p → Known h p
unfolding found_at
found-known h at p e =
    let w = within-found (length h) (parameter_at h at) p e in
    record { named = rw (← w.0) (parameter-known h at).1; inside = w.1 }

-- each parameter takes a byte at least
pub found-on : (h : List ℕ) (at : ℕ) (p : Parameter) → found_at h at ≡ Some p → at < p.start
unfolding found_at
found-on h at p e = rw (← (within-found (length h) (parameter_at h at) p e).0) (parameter-known h at).0

pub found-past : (h : List ℕ) (at : ℕ) → length h ≤ at → found_at h at ≡ None
unfolding found_at
found-past h at g = within-not (length h) (parameter_at h at) (omega (arith, (parameter-known h at).0))

-- ---- the list, one parameter after the other

turns-end : (n : ℕ) (h : List ℕ) (at : ℕ) → length h ≤ at → turns n h at ≡ listed []
unfolding turns
turns-end zero h at g = refl
turns-end (suc n) h at g = rw (le-ltb _ _ g)

-- it does not matter how many turns there are, if they are enough
turns-enough : (n m : ℕ) (h : List ℕ) (at : ℕ) → length h ≤ at + n → length h ≤ at + m → turns n h at ≡ turns m h at
unfolding turns
turns-enough zero m h at f g = sym (turns-end m h at (omega arith))
turns-enough (suc n) zero h at f g = turns-end (suc n) h at (omega arith)
turns-enough (suc n) (suc m) h at f g =
    ap (λ (r : Listed). pick (ltb at (length h)) r (listed []))
    (on (found_at h at) (found-on h at) (λ p k. turns-enough n m h (p.start + p.size) (omega arith) (omega arith)))
  where
    on : (s : Option Parameter) → ((p : Parameter) → s ≡ Some p → at < p.start)
        → ((p : Parameter) → at < p.start → turns n h (p.start + p.size) ≡ turns m h (p.start + p.size))
        → follow s (λ p. turns n h (p.start + p.size)) ≡ follow s (λ p. turns m h (p.start + p.size))
    on None k r = refl
    on (Some p) k r = ap (put p) (r p (k p refl))

module _ (h : List ℕ) (at : ℕ) where
  pub from_end : length h ≤ at → parameters_from h at ≡ listed []
  unfolding parameters_from
  from_end g = turns-end (length h) h at g

  pub from_step : at < length h → parameters_from h at
      ≡ follow (found_at h at) (λ p. parameters_from h (p.start + p.size))
  unfolding parameters_from turns
  from_step g = turns-enough (length h) (suc (length h)) h at (omega arith) (omega arith) ∙ rw (lt-ltb at (length h) g)

-- ---- what holds of each

abbrev pub Each : (Parameter → Type 0) → List Parameter → Type 0
Each P [] = Unit {0}
Each P (p ∷ ps) = P p × Each P ps

abbrev pub EachListed : (Parameter → Type 0) → Listed → Type 0
EachListed P broken = Unit {0}
EachListed P (listed ps) = Each P ps

put-each : (P : Parameter → Type 0) (p : Parameter) (l : Listed) → P p → EachListed P l → EachListed P (put p l)
put-each P p broken k r = tt
put-each P p (listed ps) k r = (k, r)

turns-known : (n : ℕ) (h : List ℕ) (at : ℕ) → EachListed (Known h) (turns n h at)
unfolding turns
turns-known zero h at = tt
turns-known (suc n) h at = go (ltb at (length h)) (found_at h at) (found-known h at)
    (λ p. turns-known n h (p.start + p.size))
  where
    go : (t : Bool) (s : Option Parameter) → ((p : Parameter) → s ≡ Some p → Known h p)
        → ((p : Parameter) → EachListed (Known h) (turns n h (p.start + p.size)))
        → EachListed (Known h) (pick t (follow s (λ p. turns n h (p.start + p.size))) (listed []))
    go false s k r = tt
    go true None k r = tt
    go true (Some p) k r = put-each (Known h) p (turns n h (p.start + p.size)) (k p refl) (r p)

-- every parameter of a header has its data inside the header
pub from-known : (h : List ℕ) (at : ℕ) → EachListed (Known h) (parameters_from h at)
unfolding parameters_from
from-known h at = turns-known (length h) h at

pub each-fit : (ps : List Parameter) → all_fit ps ≡ true → Each (λ p. width_fits p.identifier p.size ≡ true) ps
unfolding all_fit
each-fit [] e = tt
each-fit (p ∷ ps) e = go (width_fits p.identifier p.size) refl (each-fit ps)
  where
    go : (t : Bool) → width_fits p.identifier p.size ≡ t
        → (all_fit ps ≡ true → Each (λ q. width_fits q.identifier q.size ≡ true) ps)
        → Each (λ q. width_fits q.identifier q.size ≡ true) (p ∷ ps)
    go true f r = (f, r (rw f at e))
    go false f r = let b : false ≡ true = rw f at e in let z : ◌≡◌ {A = ℕ} 0 1 = cc in absurd (omega arith)

-- what is found by its identifier is one of them
pub find-each : (P : Parameter → Type 0) (i : ℕ) (ps : List Parameter) (p : Parameter) → Each P ps → find i ps ≡ Some p
    → P p × (p.identifier ≡ i)
unfolding find
find-each P i [] p k e = let z : ◌≡◌ {A = ℕ} 0 1 = cc in absurd (omega arith)
find-each P i (q ∷ ps) p k e = go (find i ps) refl (λ f. find-each P i ps p k.1 f) (ℕ_discrete q.identifier i)
  where
    go : (s : Option Parameter) → find i ps ≡ s → (find i ps ≡ Some p → P p × (p.identifier ≡ i))
        → Dec (q.identifier ≡ i) → P p × (p.identifier ≡ i)
    go (Some r) f rest d = let m : Some r ≡ Some p = rw f at e in rest (f ∙ m)
    go None f rest (yes d) =
        let m : Some q ≡ Some p = rw (f, eq-eqb q.identifier i d) at e in
        let s : q ≡ p = cc in
        (subst P s k.0, cc)
    go None f rest (no d) =
        let m : ◌≡◌ {A = Option Parameter} None (Some p) = rw (f, ne_eqb q.identifier i d) at e in
        let z : ◌≡◌ {A = ℕ} 0 1 = cc in
        absurd (omega arith)

-- Priority's data is one byte inside the header
pub priority-inside : (h : List ℕ) (ps : List Parameter) (p : Parameter) → Each (Known h) ps → all_fit ps ≡ true
    → find 0x0A ps ≡ Some p → (p.start < length h) × (p.size ≡ 1)
unfolding width_fits
priority-inside h ps p k f e =
    let a = find-each (Known h) 0x0A ps p k e in
    let b = find-each (λ q. width_fits q.identifier q.size ≡ true) 0x0A ps p (each-fit ps f) e in
    let s : p.size ≡ 1 = eqb-true p.size 1 (rw b.1 at b.0) in
    (omega (arith, a.0.inside), s)
