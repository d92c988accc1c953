-- What a reading means: the order of the refusals, that what is read stands inside the header, that a single parameter
-- that is read is the only one, and when a name matches.
use Rattle.std.specs.Prelude.{◌≡◌, Bool, true, false, List, [], ◌∷◌, ◌++◌, Option, Some, None, Result, Ok, Err, ◌⊎◌, ◌↔◌, drop}
use Rattle.std.proofs.Math.Path.{refl}
use Rattle.std.proofs.Common.{sym, ap, ◌∙◌, subst, inl, inr, arith, lt-ltb, le-ltb, eq-eqb, ne_eqb, ltb-true}
use Prim.Native.Nat.{ℕ, zero, suc, ◌+◌, ◌/◌, ◌%◌, ◌≤◌, ◌<◌}
use Rattle.std.proofs.Math.Decide.{ℕ_discrete, dec_lt}
use Rattle.std.proofs.Math.ListN.{length, get_or, length-append, get_or-append}
use Rattle.octets.specs.laws.Marks.{equal-exactly}
use Rattle.header.specs.declared.Parameter.{Parameter}
use Rattle.header.specs.declared.Place.{Place}
use Rattle.header.specs.declared.Fields.{Fields}
use Rattle.header.specs.declared.Refusal.{Refusal}
use Rattle.header.specs.declared.Refusal.TheVariants.{Header, Duplicate}
use Rattle.header.specs.Parameters.{pick, length_at, by_code, parameter_at, found_at, Listed, broken, listed, parameters, width_fits, all_fit, singles, among, count, twice, find, priority_of, name_of, fields_of, judged, read_header}
use Rattle.header.specs.Names.{unslashed, name_matches}
use Rattle.header.specs.laws.Parameters.{within-is, within-found, length-known, parameter-known, Known, Each, EachListed, from-known, each-fit, find-each, priority-inside}
use Rattle.header.specs.laws.Exact.{count_same, count-other, twice_there, twice-back}

-- ---- the order of the refusals

-- one of the single parameters comes twice
pub record Repeats (ps : List Parameter) : Type 0 where
  pub identifier : ℕ
  pub single : among identifier singles ≡ true
  pub again : 1 < count identifier ps

-- what a reading is given for
pub data Given (h : List ℕ) : Result Fields Refusal → Type 0 where
  past_end : parameters h ≡ broken → Given h (Err Header)
  width : {ps : List Parameter} → parameters h ≡ listed ps → all_fit ps ≡ false → Given h (Err Header)
  repeated : {ps : List Parameter} → parameters h ≡ listed ps → all_fit ps ≡ true → Repeats ps
      → Given h (Err Duplicate)
  whole : {ps : List Parameter} → parameters h ≡ listed ps → all_fit ps ≡ true → (Repeats ps → ⊥)
      → Given h (Ok (fields_of h (find 0x0A ps) (find 0x0C ps)))

not-twice : (ps : List Parameter) → twice singles ps ≡ false → Repeats ps → ⊥
not-twice ps e r =
    let t : twice singles ps ≡ true = twice-back singles ps r.identifier r.single r.again in
    let z : ◌≡◌ {A = ℕ} 0 1 = cc in
    omega arith

-- each reading is given for one of these
pub given : (h : List ℕ) → Given h (read_header h)
unfolding read_header judged
given h = on (parameters h) refl
  where
    on : (l : Listed) → parameters h ≡ l → Given h (judged h l)
    on broken e = past_end e
    on (listed ps) e = fit (all_fit ps) refl (twice singles ps) refl
      where
        fit : (t : Bool) → all_fit ps ≡ t → (u : Bool) → twice singles ps ≡ u
            → Given h (pick t (pick u (Err Duplicate) (Ok (fields_of h (find 0x0A ps) (find 0x0C ps))))
            (Err Header))
        fit false f u x = width e f
        fit true f true x = let a = twice_there singles ps x in
            repeated e f (record { identifier = a.0; single = a.1; again = a.2 })
        fit true f false x = whole e f (not-twice ps x)

-- and for nothing else
pub given-only : (h : List ℕ) {r : Result Fields Refusal} → Given h r → read_header h ≡ r
unfolding read_header judged
given-only h (past_end e) = rw e
given-only h (width e f) = rw (e, f)
given-only h (repeated {ps} e f r) = rw (e, f, twice-back singles ps r.identifier r.single r.again)
given-only h (whole {ps} e f n) = rw (e, f, once (twice singles ps) refl)
  where
    once : (t : Bool) → twice singles ps ≡ t → twice singles ps ≡ false
    once false x = x
    once true x = let a = twice_there singles ps x in
        absurd (n (record { identifier = a.0; single = a.1; again = a.2 }))

-- ---- what is read

-- the list that a reading was made of
pub record ReadFrom (h : List ℕ) (f : Fields) : Type 0 where
  pub ps : List Parameter
  pub lists : parameters h ≡ listed ps
  pub known : Each (Known h) ps
  pub fit : all_fit ps ≡ true
  pub once : Repeats ps → ⊥
  pub fields : f ≡ fields_of h (find 0x0A ps) (find 0x0C ps)

pub read-from : (h : List ℕ) (f : Fields) → read_header h ≡ Ok f → ReadFrom h f
read-from h f e = go (given h) e
  where
    known : (ps : List Parameter) → parameters h ≡ listed ps → Each (Known h) ps
    known ps x = subst (EachListed (Known h)) x (from-known h 7)

    go : {r : Result Fields Refusal} → Given h r → r ≡ Ok f → ReadFrom h f
    go (past_end l) x = let z : ◌≡◌ {A = ℕ} 0 1 = cc in absurd (omega arith)
    go (width l a) x = let z : ◌≡◌ {A = ℕ} 0 1 = cc in absurd (omega arith)
    go (repeated l a n) x = let z : ◌≡◌ {A = ℕ} 0 1 = cc in absurd (omega arith)
    go (whole {ps} l a n) x = record { ps = ps; lists = l; known = known ps l; fit = a; once = n; fields = cc }

-- ContentName's data has its character set byte at least, and lies inside the header
pub name-inside : (h : List ℕ) (f : Fields) (place : Place) → read_header h ≡ Ok f → f.name ≡ Some place
    → (0 < place.size) × (place.start + place.size ≤ length h)
unfolding fields_of width_fits
name-inside h f place e d = go (find 0x0C r.ps) refl (sym (ap (λ (g : Fields). g.name) r.fields) ∙ d)
  where
    r : ReadFrom h f
    r = read-from h f e

    go : (g : Option Parameter) → find 0x0C r.ps ≡ g → name_of g ≡ Some place → (0 < place.size)
        × (place.start + place.size ≤ length h)
    go None x y = let z : ◌≡◌ {A = ℕ} 0 1 = cc in absurd (omega arith)
    go (Some p) x y =
        let same : ◌≡◌ {A = Place} (record { start = p.start; size = p.size }) place = cc in
        let a : p.start ≡ place.start = ap (λ (q : Place). q.start) same in
        let b : p.size ≡ place.size = ap (λ (q : Place). q.size) same in
        let k = find-each (Known h) 0x0C r.ps p r.known x in
        let w = find-each (λ q. width_fits q.identifier q.size ≡ true) 0x0C r.ps p (each-fit r.ps r.fit) x
        in
        let s : 0 < p.size = ltb-true 0 p.size (rw w.1 at w.0) in
        (omega arith, omega (arith, k.0.inside))

-- Priority's byte is a byte of the header
pub priority-byte : (h : List ℕ) (f : Fields) (b : ℕ) → read_header h ≡ Ok f → f.priority ≡ Some b → (at : ℕ)
    × (at < length h) × (get_or h at 0 ≡ b)
unfolding fields_of
priority-byte h f b e d = go (find 0x0A r.ps) refl (sym (ap (λ (g : Fields). g.priority) r.fields) ∙ d)
  where
    r : ReadFrom h f
    r = read-from h f e

    go : (g : Option Parameter) → find 0x0A r.ps ≡ g → priority_of h g ≡ Some b → (at : ℕ) × (at < length h)
        × (get_or h at 0 ≡ b)
    go None x y = let z : ◌≡◌ {A = ℕ} 0 1 = cc in absurd (omega arith)
    go (Some p) x y = (p.start, (priority-inside h r.ps p r.known r.fit x).0, cc)

-- ---- the only one

abbrev pub Among : Parameter → List Parameter → Type 0
Among p [] = ⊥
Among p (q ∷ qs) = (p ≡ q) ⊎ Among p qs

each-among : (ps : List Parameter) → Each (λ p. Among p ps) ps
each-among [] = tt
each-among (q ∷ qs) = (inl refl, later qs (each-among qs))
  where
    later : (ps : List Parameter) → Each (λ p. Among p qs) ps → Each (λ p. Among p (q ∷ qs)) ps
    later [] k = tt
    later (p ∷ ps) k = (inr k.0, later ps k.1)

pub find_none : (i : ℕ) (ps : List Parameter) → count i ps ≡ 0 → find i ps ≡ None
unfolding find
find_none i [] e = refl
find_none i (q ∷ qs) e = go (ℕ_discrete q.identifier i) (find_none i qs)
  where
    go : Dec (q.identifier ≡ i) → (count i qs ≡ 0 → find i qs ≡ None) → find i (q ∷ qs) ≡ None
    go (yes d) r = absurd (omega (arith, count_same q qs i d))
    go (no d) r = rw (r (omega (arith, count-other q qs i d)), ne_eqb q.identifier i d)

find-back : (i : ℕ) (ps : List Parameter) (p : Parameter) → count i ps ≤ 1 → Among p ps → p.identifier ≡ i → find i ps
    ≡ Some p
unfolding find
find-back i [] p c a e = absurd a
find-back i (q ∷ qs) p c (inl a) e =
    let d : q.identifier ≡ i = rw a at e in
    rw (find_none i qs (omega (arith, count_same q qs i d)), eq-eqb q.identifier i d) (ap Some (sym a))
find-back i (q ∷ qs) p c (inr a) e = rw (find-back i qs p (fewer (ℕ_discrete q.identifier i)) a e)
  where
    fewer : Dec (q.identifier ≡ i) → count i qs ≤ 1
    fewer (yes d) = omega (arith, count_same q qs i d)
    fewer (no d) = omega (arith, count-other q qs i d)

-- where an identifier comes at most once, what is found by it is the one parameter that has it
pub find-only : (i : ℕ) (ps : List Parameter) (p : Parameter) → count i ps ≤ 1 → (find i ps ≡ Some p)
    ↔ (Among p ps × (p.identifier ≡ i))
find-only i ps p c = (find-each (λ q. Among q ps) i ps p (each-among ps), λ a. find-back i ps p c a.0 a.1)

-- a single parameter of a header that reads comes at most once
pub read-once : (h : List ℕ) (f : Fields) (r : ReadFrom h f) (i : ℕ) → among i singles ≡ true → count i r.ps ≤ 1
read-once h f r i s = go (dec_lt 1 (count i r.ps))
  where
    go : Dec (1 < count i r.ps) → count i r.ps ≤ 1
    go (yes g) = absurd (r.once (record { identifier = i; single = s; again = g }))
    go (no g) = omega arith

-- ---- no byte past a parameter plays a part in it

module _ (h t : List ℕ) where
  front : (j : ℕ) → j < length h → get_or (h ++ t) j 0 ≡ get_or h j 0
  front j g = get_or-append h t 0 j g

  length_front : (i at : ℕ) → (length_at h i at).start ≤ length h → length_at (h ++ t) i at ≡ length_at h i at
  unfolding length_at
  length_front i at g = go (dec_lt (get_or h at 0) 128)
    where
      first : get_or (h ++ t) at 0 ≡ get_or h at 0
      first = front at (omega (arith, (length-known h at i).0))

      go : Dec (get_or h at 0 < 128) → length_at (h ++ t) i at ≡ length_at h i at
      go (yes s) = rw (first, lt-ltb (get_or h at 0) 128 s)
      go (no s) =
          let l : 128 ≤ get_or h at 0 = omega arith in
          let b : at + 2 ≤ length h = rw (le-ltb (get_or h at 0) 128 l) at g in
          rw (first, front (at + 1) (omega arith))

  parameter-front : (at : ℕ) → (parameter_at h at).start ≤ length h → parameter_at (h ++ t) at ≡ parameter_at h at
  unfolding parameter_at
  parameter-front at g = rw (front at (omega (arith, (parameter-known h at).0)))
      (go (get_or h at 0 / 64) (get_or h at 0 % 64) g)
    where
      go : (c i : ℕ) → (by_code h at c i).start ≤ length h → by_code (h ++ t) at c i ≡ by_code h at c i
      go zero i k = refl
      go (suc zero) i k = refl
      go (suc (suc zero)) i k = refl
      go (suc (suc (suc c))) i k = length_front i (at + 1) k

  -- a parameter that is whole stays the same whatever follows it
  pub found_front : (at : ℕ) (p : Parameter) → found_at h at ≡ Some p → found_at (h ++ t) at ≡ Some p
  unfolding found_at
  found_front at p e =
      let w = within-found (length h) (parameter_at h at) p e in
      let s : (parameter_at h at).start + (parameter_at h at).size ≤ length h = rw w.0 w.1 in
      let q : parameter_at (h ++ t) at ≡ p = parameter-front at (omega arith) ∙ w.0 in
      rw q (within-is (length (h ++ t)) p (rw length-append (omega (arith, w.1))))

-- ---- names

-- a name matches exactly where both sides are equal without the character set and one leading slash
pub matches-exactly : (data_bytes asked : List ℕ) → (name_matches data_bytes asked ≡ true)
    ↔ (unslashed (drop 1 data_bytes) ≡ unslashed asked)
unfolding name_matches
matches-exactly data_bytes asked = equal-exactly (unslashed (drop 1 data_bytes)) (unslashed asked)

-- the character set plays no part
pub matches-any-set : (set other : ℕ) (name asked : List ℕ) → name_matches (set ∷ name) asked
    ≡ name_matches (other ∷ name) asked
unfolding name_matches
matches-any-set set other name asked = refl

-- a leading slash on either side, once
pub matches-slash : (set : ℕ) (name asked : List ℕ) → (name_matches (set ∷ 0x2F ∷ name) (0x2F ∷ asked) ≡ true)
    ↔ (name ≡ asked)
unfolding unslashed
matches-slash set name asked = matches-exactly (set ∷ 0x2F ∷ name) (0x2F ∷ asked)
