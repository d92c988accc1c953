-- One pass notes exactly what `read_header` says.
use Rattle.std.specs.Prelude.{◌≡◌, Bool, true, false, List, [], ◌∷◌, Option, Some, None, Result, Ok, Err, ℕ, suc, ◌+◌, ◌≤◌, ◌<◌, eqb, ltb, length, get_or, set}
use Rattle.std.proofs.Math.Path.{refl, sym}
use Rattle.std.proofs.Common.{ap, ◌∙◌, subst, arith, lt-ltb, eq-eqb, ne_eqb, ltb-true, length-set, get_or-set_same, get_or-set_other}
use Rattle.std.proofs.Math.Decide.{ℕ_discrete, dec_lt}
use Rattle.std.proofs.lemmas.List.{get_or-replicate}
use Rattle.std.proofs.Math.ListN.{get_or-eq_default}
use Rattle.octets.specs.Octets.{both}
use Rattle.header.specs.declared.Parameter.{Parameter}
use Rattle.header.specs.declared.Notes.{Notes}
use Rattle.header.specs.declared.Fields.{Fields}
use Rattle.header.specs.declared.Refusal.{Refusal}
use Rattle.header.specs.declared.Refusal.TheVariants.{Header, Duplicate}
use Rattle.header.specs.Parameters.{pick, Listed, broken, listed, put, found_at, parameters, parameters_from, width_fits, all_fit, singles, among, single, count, twice, or_else, find, fields_of, judged, read_header}
use Rattle.header.specs.laws.Scan.{either, note, note_all, scanned, unmarked, unnoted, scan_header, Inside}
use Rattle.header.specs.laws.Parameters.{from_end, from_step, Known, Each, EachListed, from-known, priority-inside}

pick_same : {A : Type 0} (t : Bool) (a : A) → pick t a a ≡ a
pick_same true a = refl
pick_same false a = refl

-- ---- a turn of the pass

module _ (h : List ℕ) (at : ℕ) (seen : List Bool) (n : Notes) where
  pub scan-end : length h ≤ at → scanned (parameters_from h at) seen n ≡ Ok n
  unfolding scanned note_all
  scan-end g = rw (from_end h at g)

  pub scan-broken : at < length h → found_at h at ≡ None → scanned (parameters_from h at) seen n ≡ Err Header
  unfolding scanned
  scan-broken g e = rw (from_step h at g, e)

  pub scan-one : (p : Parameter) → at < length h → found_at h at ≡ Some p → scanned (parameters_from h at) seen n
      ≡ pick (width_fits p.identifier p.size)
      (scanned (parameters_from h (p.start + p.size)) (set seen p.identifier true)
      (note n p (get_or seen p.identifier false))) (Err Header)
  unfolding scanned note_all
  scan-one p g e = rw (from_step h at g, e) (on (parameters_from h (p.start + p.size)))
    where
      on : (l : Listed) → scanned (put p l) seen n ≡ pick (width_fits p.identifier p.size)
          (scanned l (set seen p.identifier true) (note n p (get_or seen p.identifier false))) (Err Header)
      on broken = sym (pick_same (width_fits p.identifier p.size) (Err Header))
      on (listed ps) = refl

-- ---- what a pass has noted in the end

-- a single parameter comes whose identifier has come before
repeats_in : List Bool → List Parameter → Bool
repeats_in seen [] = false
repeats_in seen (p ∷ ps) = either (both (get_or seen p.identifier false) (single p.identifier))
    (repeats_in (set seen p.identifier true) ps)

notes_after : List Parameter → List Bool → Notes → Notes
notes_after ps seen n =
    record {
      repeated = either n.repeated (repeats_in seen ps);
      priority = or_else (find 0x0A ps) n.priority;
      name =
          or_else (find 0x0C ps) n.name;
    }

either-assoc : (a b c : Bool) → either (either a b) c ≡ either a (either b c)
either-assoc true b c = refl
either-assoc false b c = refl

either-false : (a : Bool) → either a false ≡ a
either-false true = refl
either-false false = refl

or_else-pick : (f : Option Parameter) (t : Bool) (p : Parameter) (g : Option Parameter) → or_else f (pick t (Some p) g)
    ≡ or_else (or_else f (pick t (Some p) None)) g
or_else-pick None true p g = refl
or_else-pick None false p g = refl
or_else-pick (Some q) true p g = refl
or_else-pick (Some q) false p g = refl

note-turn : (p : Parameter) (ps : List Parameter) (seen : List Bool) (n : Notes)
    → notes_after ps (set seen p.identifier true) (note n p (get_or seen p.identifier false))
    ≡ notes_after (p ∷ ps) seen n
unfolding notes_after repeats_in find note
note-turn p ps seen n =
    let k = p.identifier in
    let r = either-assoc n.repeated (both (get_or seen k false) (single k)) (repeats_in (set seen k true) ps) in
    let a = or_else-pick (find 0x0A ps) (eqb k 0x0A) p n.priority in
    let b = or_else-pick (find 0x0C ps) (eqb k 0x0C) p n.name in
    λ i. record { repeated = r i; priority = a i; name = b i }

note-none : (seen : List Bool) (n : Notes) → notes_after [] seen n ≡ n
unfolding notes_after repeats_in find
note-none seen n = λ i. record { repeated = either-false n.repeated i; priority = n.priority; name = n.name }

note-all-is : (ps : List Parameter) (seen : List Bool) (n : Notes) → note_all ps seen n
    ≡ pick (all_fit ps) (Ok (notes_after ps seen n)) (Err Header)
unfolding note_all all_fit
note-all-is [] seen n = ap Ok (sym (note-none seen n))
note-all-is (p ∷ ps) seen n = go (width_fits p.identifier p.size)
    (note-all-is ps (set seen p.identifier true) (note n p (get_or seen p.identifier false)))
  where
    rest : Result Notes Refusal
    rest = note_all ps (set seen p.identifier true) (note n p (get_or seen p.identifier false))

    go : (t : Bool)
        → rest ≡ pick (all_fit ps)
        (Ok (notes_after ps (set seen p.identifier true) (note n p (get_or seen p.identifier false)))) (Err Header)
        → pick t rest (Err Header)
        ≡ pick (pick t (all_fit ps) false) (Ok (notes_after (p ∷ ps) seen n)) (Err Header)
    go true e = e ∙ ap (λ (m : Notes). pick (all_fit ps) (Ok m) (Err Header)) (note-turn p ps seen n)
    go false e = refl

-- ---- a single parameter comes twice

-- an identifier that has come counts as once
once : Bool → ℕ
once true = 1
once false = 0

-- a single identifier that comes twice, once before or not
Again : List Bool → List Parameter → Type 0
Again seen ps = (k : ℕ) × (single k ≡ true) × (1 < once (get_or seen k false) + count k ps)

pub count_same : (p : Parameter) (ps : List Parameter) (k : ℕ) → p.identifier ≡ k → count k (p ∷ ps) ≡ suc (count k ps)
unfolding count
count_same p ps k e = rw (eq-eqb p.identifier k e)

pub count-other : (p : Parameter) (ps : List Parameter) (k : ℕ) → (p.identifier ≡ k → ⊥) → count k (p ∷ ps)
    ≡ count k ps
unfolding count
count-other p ps k e = rw (ne_eqb p.identifier k e)

both_true : (a b : Bool) → both a b ≡ true → (a ≡ true) × (b ≡ true)
both_true true b e = (refl, e)
both_true false b e = let z : ◌≡◌ {A = ℕ} 0 1 = cc in absurd (omega arith)

abbrev Named : List Parameter → Type 0
Named ps = Each (λ p. p.identifier < 64) ps

-- one identifier is marked: it counts as once more, and the others as before
module _ (p : Parameter) (ps : List Parameter) (seen : List Bool) (l : length seen ≡ 64) (f : p.identifier < 64) where
  again-same : (k : ℕ) → p.identifier ≡ k
      → once (get_or (set seen p.identifier true) k false) + count k ps ≡ count k (p ∷ ps)
  unfolding once
  again-same k e =
      let g : get_or (set seen p.identifier true) k false ≡ true =
      rw (← e) (get_or-set_same seen p.identifier true false (omega arith)) in
      rw g (omega (arith, count_same p ps k e))

  again-other : (k : ℕ) → (p.identifier ≡ k → ⊥) → once (get_or (set seen p.identifier true) k false) + count k ps
      ≡ once (get_or seen k false) + count k (p ∷ ps)
  again-other k e =
      let g : get_or (set seen p.identifier true) k false ≡ get_or seen k false =
      get_or-set_other seen p.identifier k true false (λ d. e (sym d)) in
      rw (g, count-other p ps k e)

once_most : (b : Bool) → once b ≤ 1
unfolding once
once_most true = omega arith
once_most false = omega arith

both_right : (a : Bool) {b : Bool} → b ≡ true → both a b ≡ a
both_right true e = e
both_right false e = refl

repeats-there : (ps : List Parameter) (seen : List Bool) → length seen ≡ 64 → Named ps → repeats_in seen ps ≡ true
    → Again seen ps
unfolding repeats_in Again once
repeats-there [] seen l f e = let z : ◌≡◌ {A = ℕ} 0 1 = cc in absurd (omega arith)
repeats-there (p ∷ ps) seen l f e = go (both (get_or seen i false) (single i)) refl
    (repeats-there ps (set seen i true) (length-set seen i true ∙ l) f.1)
  where
    i : ℕ
    i = p.identifier

    go : (t : Bool) → both (get_or seen i false) (single i) ≡ t
        → (repeats_in (set seen i true) ps ≡ true → Again (set seen i true) ps)
        → Again seen (p ∷ ps)
    go true x r =
        let b = both_true (get_or seen i false) (single i) x in
        (i, b.1, rw b.0 (omega (arith, count_same p ps i refl)))
    go false x r =
        let a = r (rw x at e) in
        (a.0, a.1, on (ℕ_discrete i a.0) a.2)
      where
        on : {k : ℕ} → Dec (i ≡ k) → 1 < once (get_or (set seen i true) k false) + count k ps
            → 1 < once (get_or seen k false) + count k (p ∷ ps)
        on {k} (yes d) g = omega (arith, again-same p ps seen l f.0 k d)
        on {k} (no d) g = omega (arith, again-other p ps seen l f.0 k d)

repeats-back : (ps : List Parameter) (seen : List Bool) → length seen ≡ 64 → Named ps → Again seen ps
    → repeats_in seen ps ≡ true
unfolding repeats_in Again count once
repeats-back [] seen l f a = absurd (omega (arith, once_most (get_or seen a.0 false), a.2))
repeats-back (p ∷ ps) seen l f a = go (both (get_or seen i false) (single i)) refl
    (repeats-back ps (set seen i true) (length-set seen i true ∙ l) f.1)
  where
    i : ℕ
    i = p.identifier

    go : (t : Bool) → both (get_or seen i false) (single i) ≡ t
        → (Again (set seen i true) ps → repeats_in (set seen i true) ps ≡ true)
        → either t (repeats_in (set seen i true) ps) ≡ true
    go true x r = refl
    go false x r = r (a.0, a.1, on (ℕ_discrete i a.0))
      where
        on : Dec (i ≡ a.0) → 1 < once (get_or (set seen i true) a.0 false) + count a.0 ps
        on (yes d) =
            let s : single i ≡ true = rw d a.1 in
            let u : get_or seen a.0 false ≡ false = rw d at (sym (both_right (get_or seen i false) s) ∙ x) in
            let g : 1 < 0 + count a.0 (p ∷ ps) = rw u at a.2 in
            omega (arith, again-same p ps seen l f.0 a.0 d, g)
        on (no d) = omega (arith, again-other p ps seen l f.0 a.0 d, a.2)

pub twice_there : (is : List ℕ) (ps : List Parameter) → twice is ps ≡ true → (k : ℕ) × (among k is ≡ true)
    × (1 < count k ps)
unfolding twice
twice_there [] ps e = let z : ◌≡◌ {A = ℕ} 0 1 = cc in absurd (omega arith)
twice_there (i ∷ is) ps e = go (ltb 1 (count i ps)) refl (twice_there is ps)
  where
    go : (t : Bool) → ltb 1 (count i ps) ≡ t → (twice is ps ≡ true → (k : ℕ) × (among k is ≡ true) × (1 < count k ps))
        → (k : ℕ) × (among k (i ∷ is) ≡ true) × (1 < count k ps)
    go true x r = (i, rw (eq-eqb i i refl), ltb-true 1 (count i ps) x)
    go false x r = let a = r (rw x at e) in (a.0, rw a.1 (pick_same (eqb a.0 i) true), a.2)

pub twice-back : (is : List ℕ) (ps : List Parameter) (k : ℕ) → among k is ≡ true → 1 < count k ps → twice is ps ≡ true
unfolding twice
twice-back [] ps k e g = let z : ◌≡◌ {A = ℕ} 0 1 = cc in absurd (omega arith)
twice-back (i ∷ is) ps k e g = go (ℕ_discrete k i) (twice-back is ps k)
  where
    go : Dec (k ≡ i) → (among k is ≡ true → 1 < count k ps → twice is ps ≡ true) → twice (i ∷ is) ps ≡ true
    go (yes d) r = rw (lt-ltb 1 (count i ps) (rw (← d) g))
    go (no d) r = rw (r (rw (ne_eqb k i d) at e) g) (pick_same (ltb 1 (count i ps)) true)

alike : (a b : Bool) → (a ≡ true → b ≡ true) → (b ≡ true → a ≡ true) → a ≡ b
alike true b f g = sym (f refl)
alike false true f g = g refl
alike false false f g = refl

repeats-is : (ps : List Parameter) (seen : List Bool) → length seen ≡ 64 → ((k : ℕ) → get_or seen k false ≡ false)
    → Named ps → repeats_in seen ps ≡ twice singles ps
unfolding Again single once
repeats-is ps seen l m f =
    alike (repeats_in seen ps) (twice singles ps)
    (λ e. let a = repeats-there ps seen l f e in
    let g : 1 < 0 + count a.0 ps = rw (m a.0) at a.2 in twice-back singles ps a.0 a.1 (omega (arith, g)))
    (λ e. let a = twice_there singles ps e in repeats-back ps seen l f (a.0, a.1, rw (m a.0) (omega (arith, a.2))))

-- ---- the pass and the reading

-- what the notes of a pass come to
abbrev pub outcome : List ℕ → Result Notes Refusal → Result Fields Refusal
outcome h (Err why) = Err why
outcome h (Ok n) = pick n.repeated (Err Duplicate) (Ok (fields_of h n.priority n.name))

no-mark : (k : ℕ) → get_or unmarked k false ≡ false
no-mark k = go (dec_lt k 64)
  where
    go : Dec (k < 64) → get_or unmarked k false ≡ false
    go (yes g) = get_or-replicate 64 k false false g
    go (no g) = get_or-eq_default unmarked false {n = k} (omega arith)

named : (h : List ℕ) (ps : List Parameter) → Each (Known h) ps → Named ps
named h [] k = tt
named h (p ∷ ps) k = (k.0.named, named h ps k.1)

pub or_else-nothing : (f : Option Parameter) → or_else f None ≡ f
or_else-nothing None = refl
or_else-nothing (Some p) = refl

-- what a pass over a whole list has noted
noted : List Parameter → Notes
noted ps = record { repeated = twice singles ps; priority = find 0x0A ps; name = find 0x0C ps }

noted-is : (h : List ℕ) (ps : List Parameter) → Each (Known h) ps → note_all ps unmarked unnoted
    ≡ pick (all_fit ps) (Ok (noted ps)) (Err Header)
unfolding noted notes_after
noted-is h ps k =
    let r = repeats-is ps unmarked refl no-mark (named h ps k) in
    let a = or_else-nothing (find 0x0A ps) in
    let b = or_else-nothing (find 0x0C ps) in
    note-all-is ps unmarked unnoted
    ∙ (λ i. pick (all_fit ps) (Ok (record { repeated = r i; priority = a i; name = b i })) (Err Header))

judged-is : (h : List ℕ) (l : Listed) → EachListed (Known h) l → judged h l ≡ outcome h (scanned l unmarked unnoted)
unfolding judged scanned noted
judged-is h broken k = refl
judged-is h (listed ps) k = on (all_fit ps) ∙ ap (outcome h) (sym (noted-is h ps k))
  where
    on : (t : Bool) → pick t (outcome h (Ok (noted ps))) (Err Header)
        ≡ outcome h (pick t (Ok (noted ps)) (Err Header))
    on true = refl
    on false = refl

-- a reading is what the pass comes to
pub read-scanned : (h : List ℕ) (s : Result Notes Refusal) → scan_header h ≡ s → read_header h ≡ outcome h s
unfolding read_header scan_header
read-scanned h s e = judged-is h (parameters h) (from-known h 7) ∙ ap (outcome h) e

-- where the pass ends well, Priority's byte is inside the header
pub scan-inside : (h : List ℕ) (n : Notes) → scan_header h ≡ Ok n → Inside (length h) n.priority
unfolding scan_header scanned noted
scan-inside h n e = go (parameters h) (from-known h 7) e
  where
    inside : (f : Option Parameter) → ((p : Parameter) → f ≡ Some p → p.start < length h) → Inside (length h) f
    inside None g = tt
    inside (Some p) g = g p refl

    go : (l : Listed) → EachListed (Known h) l → scanned l unmarked unnoted ≡ Ok n → Inside (length h) n.priority
    go broken k x = let z : ◌≡◌ {A = ℕ} 0 1 = cc in absurd (omega arith)
    go (listed ps) k x = on (all_fit ps) refl
      where
        on : (t : Bool) → all_fit ps ≡ t → Inside (length h) n.priority
        on true f =
            let y : Ok (noted ps) ≡ Ok n = sym (rw f at (noted-is h ps k)) ∙ x in
            let m : noted ps ≡ n = cc in
            subst (λ (u : Notes). Inside (length h) u.priority) m
            (inside (find 0x0A ps) (λ p g. (priority-inside h ps p k f g).0))
        on false f =
            let y : Err Header ≡ Ok n = sym (rw f at (noted-is h ps k)) ∙ x in
            let z : ◌≡◌ {A = ℕ} 0 1 = cc in
            absurd (omega arith)
