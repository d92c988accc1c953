-- What is kept is a function of the SET of segments: neither their order nor a repeat matters.
use Rattle.std.specs.Prelude.{◌≡◌, refl, ◌⊎◌, Bool, true, false, Option, Some, None, List, [], ◌∷◌, ℕ, zero, suc, ◌≤◌, max, length, eqb}
use Rattle.std.proofs.Common.{sym, ap, ◌∙◌, inl, inr, arith, eqb-true, ne_eqb}
use Rattle.std.proofs.Math.Decide.{dec_le}
use Rattle.std.proofs.lemmas.Bool.{eqb-false}
use Rattle.cut.specs.laws.Lists.{each_map, each-among, among-each}
use Rattle.cut.specs.Requirement.{Segment, Fits}
use Rattle.cut.specs.declared.Sizes.{Sizes}
use Rattle.cut.specs.declared.Record.{Record}
use Rattle.cut.specs.Kept.{Summary, add_part, add_top, summary, sizes_of, core_of}
use Rattle.cut.specs.laws.Segment.{Numbered, Same, Agree, same-is, among-numbered}
use Rattle.cut.specs.laws.Decision.{SizeIs, EndIs, JoinsAs, Clear}
use Rattle.cut.specs.laws.Object.{fits-passes}
use Rattle.cut.specs.Lists.{pick, Each, Among}

-- ---- what a summary says of a segment that is in

abbrev pub KnowsAs : Bool → ℕ → ℕ → Summary → Type 0
KnowsAs true n k σ = (σ.part.end ≡ suc n) × (σ.part.tail ≡ k)
KnowsAs false n k σ = (suc n ≤ σ.top) × (σ.part.size ≡ k)

unfoldable pub Knows : Summary → Segment → Type 0
Knows σ s = KnowsAs s.last s.number (length s.bytes) σ

-- the summary with one more segment, in numbers
abbrev added : Bool → ℕ → ℕ → Summary → Summary
added b n k σ = record { top = add_top b n σ.top; part = add_part b n k σ.part }

size-more : (k top size n j : ℕ) → SizeIs j top size → suc n ≤ top → size ≡ k → j ≡ k
size-more k zero size n j i h e = absurd (omega arith)
size-more k (suc t) size n j i h e = i ∙ e

end_more : (n k end tail m j : ℕ) → EndIs m j end tail → end ≡ suc n → tail ≡ k → (suc m ≡ suc n) × (j ≡ k)
end_more n k zero tail m j i e f = absurd (omega arith)
end_more n k (suc a) tail m j i e f = (omega arith, i.1 ∙ f)

-- what was known stays
knows_more : (b : Bool) (n k : ℕ) (c : Bool) (m j : ℕ) (σ : Summary) → JoinsAs c m j σ → KnowsAs b n k σ
    → KnowsAs b n k (added c m j σ)
knows_more true n k true m j σ i e = end_more n k σ.part.end σ.part.tail m j i e.0 e.1
knows_more true n k false m j σ i e = e
knows_more false n k true m j σ i e = e
knows_more false n k false m j σ i e = (omega (arith, e.0), size-more k σ.top σ.part.size n j i e.0 e.1)

knows-new : (b : Bool) (n k : ℕ) (σ : Summary) → KnowsAs b n k (added b n k σ)
knows-new true n k σ = (refl, refl)
knows-new false n k σ = (omega arith, refl)

pub knows-each : (ss : List Segment) → Clear ss → Each (Knows (summary ss)) ss
unfolding Knows
knows-each [] c = tt
knows-each (s ∷ ss) c = (
  knows-new s.last s.number (length s.bytes) (summary ss),
  each_map (λ q k. knows_more q.last q.number (length q.bytes) s.last s.number (length s.bytes)
      (summary ss) c.0 k) ss (knows-each ss c.1),
)

-- ---- each number that is kept comes from a segment

abbrev pub EndFrom : List Segment → ℕ → ℕ → Type 0
EndFrom ss zero tail = tail ≡ 0
EndFrom ss (suc n) tail = (q : Segment) × Among q ss × (q.last ≡ true) × (q.number ≡ n) × (length q.bytes ≡ tail)

abbrev pub TopFrom : List Segment → ℕ → ℕ → Type 0
TopFrom ss zero size = size ≡ 0
TopFrom ss (suc t) size = (q : Segment) × Among q ss × (q.last ≡ false) × (q.number ≡ t) × (length q.bytes ≡ size)

end-weak : (s : Segment) (ss : List Segment) (end tail : ℕ) → EndFrom ss end tail → EndFrom (s ∷ ss) end tail
end-weak s ss zero tail h = h
end-weak s ss (suc n) tail h = (h.0, inr h.1, h.2, h.3, h.4)

top-weak : (s : Segment) (ss : List Segment) (top size : ℕ) → TopFrom ss top size → TopFrom (s ∷ ss) top size
top-weak s ss zero size h = h
top-weak s ss (suc t) size h = (h.0, inr h.1, h.2, h.3, h.4)

top-raise : (s : Segment) (ss : List Segment) (top size : ℕ) → s.last ≡ false → SizeIs (length s.bytes) top size
    → TopFrom ss top size → TopFrom (s ∷ ss) (max (suc s.number) top) (length s.bytes)
top-raise s ss zero size e i h = let m : max (suc s.number) 0 ≡ suc s.number = omega arith in
    rw m (s, inl refl, e, refl, refl)
top-raise s ss (suc t) size e i h = go (dec_le t s.number)
  where
    go : Dec (t ≤ s.number) → TopFrom (s ∷ ss) (max (suc s.number) (suc t)) (length s.bytes)
    go (yes g) = let m : max (suc s.number) (suc t) ≡ suc s.number = omega arith in
        rw m (s, inl refl, e, refl, refl)
    go (no g) = let m : max (suc s.number) (suc t) ≡ suc t = omega arith in
        rw m (h.0, inr h.1, h.2, h.3, h.4 ∙ sym i)

end_step : (b : Bool) (s : Segment) (ss : List Segment) (p : Record) → s.last ≡ b → EndFrom ss p.end p.tail
    → EndFrom (s ∷ ss) (add_part b s.number (length s.bytes) p).end
    (add_part b s.number (length s.bytes) p).tail
end_step true s ss p e h = (s, inl refl, e, refl, refl)
end_step false s ss p e h = end-weak s ss p.end p.tail h

top-step : (b : Bool) (s : Segment) (ss : List Segment) (σ : Summary) → s.last ≡ b
    → JoinsAs b s.number (length s.bytes) σ → TopFrom ss σ.top σ.part.size
    → TopFrom (s ∷ ss) (add_top b s.number σ.top) (add_part b s.number (length s.bytes) σ.part).size
top-step true s ss σ e i h = top-weak s ss σ.top σ.part.size h
top-step false s ss σ e i h = top-raise s ss σ.top σ.part.size e i h

pub end-from : (ss : List Segment) → EndFrom ss (summary ss).part.end (summary ss).part.tail
end-from [] = refl
end-from (s ∷ ss) = end_step s.last s ss (summary ss).part refl (end-from ss)

pub top-from : (ss : List Segment) → Clear ss → TopFrom ss (summary ss).top (summary ss).part.size
top-from [] c = refl
top-from (s ∷ ss) c = top-step s.last s ss (summary ss) refl c.0 (top-from ss c.1)

-- ---- two lists with the same segments

pub record SameSet (ss ts : List Segment) : Type 0 where
  pub there : (q : Segment) → Among q ss → Among q ts
  pub back : (q : Segment) → Among q ts → Among q ss

pub knows-last : (σ : Summary) (q : Segment) (n k : ℕ) → q.last ≡ true → q.number ≡ n → length q.bytes ≡ k
    → Knows σ q → (σ.part.end ≡ suc n) × (σ.part.tail ≡ k)
unfolding Knows
knows-last σ q n k e f g h = rw (e, f, g) at h

pub knows-full : (σ : Summary) (q : Segment) (n k : ℕ) → q.last ≡ false → q.number ≡ n → length q.bytes ≡ k
    → Knows σ q → (suc n ≤ σ.top) × (σ.part.size ≡ k)
unfolding Knows
knows-full σ q n k e f g h = rw (e, f, g) at h

-- one of the two lists gives the numbers that the other's summary has
end-at : (ss : List Segment) (end tail : ℕ) (τ : Summary) → EndFrom ss end tail → Each (Knows τ) ss → (end ≡ 0)
    ⊎ ((τ.part.end ≡ end) × (τ.part.tail ≡ tail))
end-at ss zero tail τ h k = inl refl
end-at ss (suc n) tail τ h k =
    inr (knows-last τ h.0 n tail h.2 h.3 h.4 (each-among (Knows τ) h.0 ss k h.1))

top-at : (ss : List Segment) (top size : ℕ) (τ : Summary) → TopFrom ss top size → Each (Knows τ) ss → (top ≡ 0)
    ⊎ ((top ≤ τ.top) × (τ.part.size ≡ size))
top-at ss zero size τ h k = inl refl
top-at ss (suc t) size τ h k =
    inr (knows-full τ h.0 t size h.2 h.3 h.4 (each-among (Knows τ) h.0 ss k h.1))

none_tail : (ss : List Segment) (end tail : ℕ) → EndFrom ss end tail → end ≡ 0 → tail ≡ 0
none_tail ss zero tail h e = h
none_tail ss (suc n) tail h e = absurd (omega arith)

none-size : (ss : List Segment) (top size : ℕ) → TopFrom ss top size → top ≡ 0 → size ≡ 0
none-size ss zero size h e = h
none-size ss (suc t) size h e = absurd (omega arith)

end_same : (ss ts : List Segment) (p q : Record) → EndFrom ss p.end p.tail → EndFrom ts q.end q.tail
    → (p.end ≡ 0) ⊎ ((q.end ≡ p.end) × (q.tail ≡ p.tail)) → (q.end ≡ 0)
    ⊎ ((p.end ≡ q.end) × (p.tail ≡ q.tail)) → (p.end ≡ q.end) × (p.tail ≡ q.tail)
end_same ss ts p q a b (inl x) (inr y) = y
end_same ss ts p q a b (inr x) (inl y) = (sym x.0, sym x.1)
end_same ss ts p q a b (inr x) (inr y) = y
end_same ss ts p q a b (inl x) (inl y) =
    (x ∙ sym y, none_tail ss p.end p.tail a x ∙ sym (none_tail ts q.end q.tail b y))

top-same : (ss ts : List Segment) (t u s r : ℕ) → TopFrom ss t s → TopFrom ts u r → (t ≡ 0) ⊎ ((t ≤ u) × (r ≡ s))
    → (u ≡ 0) ⊎ ((u ≤ t) × (s ≡ r)) → (t ≡ u) × (s ≡ r)
top-same ss ts t u s r a b (inl x) (inl y) = (x ∙ sym y, none-size ss t s a x ∙ sym (none-size ts u r b y))
top-same ss ts t u s r a b (inl x) (inr y) = (omega (arith, y.0), y.1)
top-same ss ts t u s r a b (inr x) (inl y) = (omega (arith, x.0), sym x.1)
top-same ss ts t u s r a b (inr x) (inr y) = (omega (arith, x.0, y.0), y.1)

pub summary-same : (ss ts : List Segment) → SameSet ss ts → Clear ss → Clear ts → summary ss ≡ summary ts
summary-same ss ts h c d =
    λ i. record { top = tops.0 i; part = record { size = tops.1 i; end = ends.0 i; tail = ends.1 i } }
  where
    known : Each (Knows (summary ts)) ss
    known = among-each ss (λ q i. each-among (Knows (summary ts)) q ts (knows-each ts d) (h.there q i))

    known' : Each (Knows (summary ss)) ts
    known' = among-each ts (λ q i. each-among (Knows (summary ss)) q ss (knows-each ss c) (h.back q i))

    ends : ((summary ss).part.end ≡ (summary ts).part.end) × ((summary ss).part.tail ≡ (summary ts).part.tail)
    ends = end_same ss ts (summary ss).part (summary ts).part (end-from ss) (end-from ts)
        (end-at ss (summary ss).part.end (summary ss).part.tail (summary ts) (end-from ss) known)
        (end-at ts (summary ts).part.end (summary ts).part.tail (summary ss) (end-from ts) known')

    tops : ((summary ss).top ≡ (summary ts).top) × ((summary ss).part.size ≡ (summary ts).part.size)
    tops = top-same ss ts (summary ss).top (summary ts).top (summary ss).part.size (summary ts).part.size
        (top-from ss c) (top-from ts d)
        (top-at ss (summary ss).top (summary ss).part.size (summary ts) (top-from ss c) known)
        (top-at ts (summary ts).top (summary ts).part.size (summary ss) (top-from ts d) known')

-- ---- the sizes that segment 0 says

abbrev CoreFrom : List Segment → Option Sizes → Type 0
CoreFrom ss None = ¬ (Numbered 0 ss)
CoreFrom ss (Some sizes) = (q : Segment) × Among q ss × (q.number ≡ 0) × (sizes_of q.bytes ≡ sizes)

core-weak : (s : Segment) (ss : List Segment) (c : Option Sizes) → ¬ (s.number ≡ 0) → CoreFrom ss c
    → CoreFrom (s ∷ ss) c
core-weak s ss None d h = go
  where
    go : Numbered 0 (s ∷ ss) → ⊥
    go (inl e) = d e
    go (inr i) = h i
core-weak s ss (Some sizes) d h = (h.0, inr h.1, h.2, h.3)

core-step : (s : Segment) (ss : List Segment) (b : Bool) → eqb s.number 0 ≡ b → CoreFrom ss (core_of ss)
    → CoreFrom (s ∷ ss) (pick b (Some (sizes_of s.bytes)) (core_of ss))
core-step s ss true e h = (s, inl refl, eqb-true s.number 0 e, refl)
core-step s ss false e h = core-weak s ss (core_of ss) (eqb-false s.number 0 e) h

core-from : (ss : List Segment) → CoreFrom ss (core_of ss)
core-from [] = λ i. absurd i
core-from (s ∷ ss) = core-step s ss (eqb s.number 0) refl (core-from ss)

pub core-absent : (ss : List Segment) → ¬ (Numbered 0 ss) → core_of ss ≡ None
core-absent [] h = refl
core-absent (s ∷ ss) h = rw (ne_eqb s.number 0 (λ e. h (inl e))) (core-absent ss (λ i. h (inr i)))

-- two segments of one number, among segments that agree
pub agree_same : (ss : List Segment) (p q : Segment) → Agree ss → Among p ss → Among q ss → p.number ≡ q.number → p
    ≡ q
agree_same [] p q a i j e = absurd i
agree_same (s ∷ ss) p q a (inl i) (inl j) e = sym i ∙ j
agree_same (s ∷ ss) p q a (inl i) (inr j) e = sym i ∙ same-is s q (each-among (Same s) q ss a.0 j)
    (ap (λ (x : Segment). x.number) i ∙ e)
agree_same (s ∷ ss) p q a (inr i) (inl j) e =
    sym (sym j ∙ same-is s p (each-among (Same s) p ss a.0 i) (ap (λ (x : Segment). x.number) j ∙ sym e))
agree_same (s ∷ ss) p q a (inr i) (inr j) e = agree_same ss p q a.1 i j e

zero_in : (q : Segment) (ss : List Segment) → Among q ss → q.number ≡ 0 → Numbered 0 ss
zero_in q ss i e = rw e at (among-numbered q ss i)

core-as : (ss ts : List Segment) (c d : Option Sizes) → SameSet ss ts → Agree ss → CoreFrom ss c → CoreFrom ts d → c ≡ d
core-as ss ts None None h a x y = refl
core-as ss ts None (Some sizes) h a x y = absurd (x (zero_in y.0 ss (h.back y.0 y.1) y.2))
core-as ss ts (Some sizes) None h a x y = absurd (y (zero_in x.0 ts (h.there x.0 x.1) x.2))
core-as ss ts (Some sizes) (Some sizes') h a x y =
    let e : x.0 ≡ y.0 = agree_same ss x.0 y.0 a x.1 (h.back y.0 y.1) (x.2 ∙ sym y.2) in
    ap Some (sym x.3 ∙ ap (λ (q : Segment). sizes_of q.bytes) e ∙ y.3)

pub core-same : (ss ts : List Segment) → SameSet ss ts → Agree ss → core_of ss ≡ core_of ts
core-same ss ts h a = core-as ss ts (core_of ss) (core_of ts) h a (core-from ss) (core-from ts)

-- all that is kept of segments that fit, from the sets
pub kept_same : (limit : ℕ) (hs hs' bs bs' : List Segment) → SameSet hs hs' → SameSet bs bs' → Fits limit hs bs
    → Fits limit hs' bs' → (core_of hs ≡ core_of hs') × (summary hs ≡ summary hs') × (summary bs ≡ summary bs')
kept_same limit hs hs' bs bs' h b f g =
    let p = fits-passes limit hs bs f in
    let q = fits-passes limit hs' bs' g in (
      core-same hs hs' h p.header_agree,
      summary-same hs hs' h p.header_clear q.header_clear,
      summary-same bs bs' b p.body_clear q.body_clear,
    )
