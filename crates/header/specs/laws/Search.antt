-- What a search over the parameters of a header that reads may go by: from each parameter the list goes on to the next,
-- and the name asked for is met among them exactly where it is the header's.
use Rattle.std.specs.Prelude.{◌≡◌, refl, Bool, true, false, List, [], ◌∷◌, Option, Some, None, ℕ, ◌+◌, ◌≤◌, ◌<◌, eqb, length, take, drop}
use Rattle.std.proofs.Common.{sym, ap, ◌∙◌, arith, eq-eqb, ne_eqb}
use Rattle.std.proofs.Math.Decide.{ℕ_discrete}
use Rattle.header.specs.declared.Parameter.{Parameter}
use Rattle.header.specs.declared.Fields.{Fields}
use Rattle.header.specs.Parameters.{pick, found_at, Listed, broken, listed, put, follow, parameters_from, count, find, name_of, fields_of}
use Rattle.header.specs.Names.{name_matches, named_as}
use Rattle.header.specs.laws.Parameters.{from_step}
use Rattle.header.specs.laws.Exact.{count_same, count-other, or_else-nothing}
use Rattle.header.specs.laws.Theorems.{ReadFrom, read-once, find_none}

-- ---- from one parameter to the next

-- the next parameter of a list that is not broken
pub record Next (h : List ℕ) (at : ℕ) (ps : List Parameter) : Type 0 where
  pub parameter : Parameter
  pub rest : List Parameter
  pub found : found_at h at ≡ Some parameter
  pub first : ps ≡ parameter ∷ rest
  pub goes_on : parameters_from h (parameter.start + parameter.size) ≡ listed rest

pub next : (h : List ℕ) (at : ℕ) (ps : List Parameter) → at < length h → parameters_from h at ≡ listed ps → Next h at ps
next h at ps g e = go (found_at h at) refl (sym (from_step h at g) ∙ e)
  where
    on : (p : Parameter) → found_at h at ≡ Some p → (l : Listed) → parameters_from h (p.start + p.size) ≡ l → put p l
        ≡ listed ps → Next h at ps
    on p f broken x y = let z : ◌≡◌ {A = ℕ} 0 1 = cc in absurd (omega arith)
    on p f (listed qs) x y = record { parameter = p; rest = qs; found = f; first = cc; goes_on = x }

    go : (s : Option Parameter) → found_at h at ≡ s
        → follow s (λ p. parameters_from h (p.start + p.size)) ≡ listed ps → Next h at ps
    go None f y = let z : ◌≡◌ {A = ℕ} 0 1 = cc in absurd (omega arith)
    go (Some p) f y = on p f (parameters_from h (p.start + p.size)) refl y

-- ---- the name asked for

-- a parameter is the ContentName that is asked for
unfoldable pub is_named : List ℕ → List ℕ → Parameter → Bool
is_named h asked p = pick (eqb p.identifier 0x0C) (name_matches (take p.size (drop p.start h)) asked) false

-- one of the parameters is
unfoldable pub some_named : List ℕ → List ℕ → List Parameter → Bool
some_named h asked [] = false
some_named h asked (p ∷ ps) = pick (is_named h asked p) true (some_named h asked ps)

pick-bool : (t : Bool) → pick t true false ≡ t
pick-bool true = refl
pick-bool false = refl

module _ (h asked : List ℕ) (p : Parameter) where
  named-yes : p.identifier ≡ 0x0C → is_named h asked p ≡ name_matches (take p.size (drop p.start h)) asked
  unfolding is_named
  named-yes d = rw (eq-eqb p.identifier 0x0C d)

  named-no : (p.identifier ≡ 0x0C → ⊥) → is_named h asked p ≡ false
  unfolding is_named
  named-no d = rw (ne_eqb p.identifier 0x0C d)

some_is : (h asked : List ℕ) (ps : List Parameter) → count 0x0C ps ≤ 1 → some_named h asked ps
    ≡ named_as h asked (name_of (find 0x0C ps))
unfolding some_named find
some_is h asked [] c = refl
some_is h asked (p ∷ ps) c = go (ℕ_discrete p.identifier 0x0C) (some_is h asked ps)
  where
    go : Dec (p.identifier ≡ 0x0C)
        → (count 0x0C ps ≤ 1 → some_named h asked ps ≡ named_as h asked (name_of (find 0x0C ps)))
        → some_named h asked (p ∷ ps) ≡ named_as h asked (name_of (find 0x0C (p ∷ ps)))
    go (yes d) r =
        let n : find 0x0C ps ≡ None = find_none 0x0C ps (omega (arith, count_same p ps 0x0C d)) in
        let s : some_named h asked ps ≡ false = rw n at (r (omega (arith, count_same p ps 0x0C d))) in
        rw (named-yes h asked p d, s, n, eq-eqb p.identifier 0x0C d)
        (pick-bool (name_matches (take p.size (drop p.start h)) asked))
    go (no d) r =
        rw (named-no h asked p d, ne_eqb p.identifier 0x0C d, or_else-nothing (find 0x0C ps))
        (r (omega (arith, count-other p ps 0x0C d)))

-- the name asked for is met among the parameters exactly where it is the header's
pub named-read : (h asked : List ℕ) (f : Fields) (r : ReadFrom h f) → some_named h asked r.ps
    ≡ named_as h asked f.name
unfolding fields_of
named-read h asked f r =
    some_is h asked r.ps (read-once h f r 0x0C refl) ∙ ap (λ (g : Fields). named_as h asked g.name)
    (sym r.fields)
