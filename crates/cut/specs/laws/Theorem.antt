-- The theorem: the decision is exact. Given that the held segments fit, it accepts one of a new number exactly when
-- they and the new one fit some object and cut. One of a number that is in fits exactly when it is the same.
use Rattle.std.specs.Prelude.{◌≡◌, refl, ◌≢◌, ◌⊎◌, ◌↔◌, Bool, true, false, List, [], ◌∷◌, ℕ, zero, suc, ◌≤◌, length, eqb, leb}
use Rattle.std.proofs.Common.{ap, inl, inr, arith, eqb-true, eq-eqb, le-leb}
use Rattle.cut.specs.laws.Lists.{each-among, among-each}
use Rattle.cut.specs.Requirement.{limit_most, Segment, Sends, Fits}
use Rattle.answer.specs.declared.Part.{Part}
use Rattle.answer.specs.declared.Part.TheVariants.{Header, Body}
use Rattle.cut.specs.declared.Record.{Record}
use Rattle.cut.specs.Decision.{core_fits, alone, joins, suits, accepts}
use Rattle.cut.specs.Kept.{bounds_of, some_full, Summary, add_to, summary, core_of}
use Rattle.cut.specs.Lists.{both, Each, Among, Bytes}
use Rattle.cut.specs.laws.Segment.{Numbered, same-is, sends-same, agree-new}
use Rattle.cut.specs.laws.Decision.{JoinsAs, SizeIs, EndIs, both_true, true-both}
use Rattle.cut.specs.laws.Object.{Passes, fits-passes, passes-fits, header-bytes, body-bytes}
use Rattle.cut.specs.Parts.{headers_with, bodies_with, those}

-- nothing at all always fits: a first segment is looked at alone
pub nothing-fits : (limit : ℕ) → limit ≤ limit_most → Fits limit [] []
unfolding suits core_fits bounds_of alone
nothing-fits limit z =
    passes-fits limit [] [] z tt tt
    (record {
      header_agree = tt;
      header_clear = tt;
      body_agree = tt;
      body_clear = tt;
      suit =
          rw (le-leb 0 limit (omega arith)) refl;
    })

-- ---- a segment of a new number

-- the last one's number is in
end_step : (b : Bool) (s : Segment) (σ : Summary) (ss : List Segment) (n : ℕ) → s.last ≡ b
    → (σ.part.end ≡ suc n → Numbered n ss) → (add_to s σ).part.end ≡ suc n → Numbered n (s ∷ ss)
end_step true s σ ss n e r h = let x : suc s.number ≡ suc n = rw e at h in inl (omega arith)
end_step false s σ ss n e r h = inr (r (rw e at h))

pub end-numbered : (ss : List Segment) (n : ℕ) → (summary ss).part.end ≡ suc n → Numbered n ss
end-numbered [] n h = absurd (omega arith)
end-numbered (s ∷ ss) n h = end_step s.last s (summary ss) ss n refl (end-numbered ss n) h

-- a new number: the test says that the segment goes with what is kept
end-joins : (n k end tail : ℕ) → end ≢ suc n → (eqb end 0 ≡ true) ↔ EndIs n k end tail
end-joins n k zero tail d = ((λ e. tt), (λ e. eq-eqb 0 0 refl))
end-joins n k (suc m) tail d = ((λ e. absurd (omega (arith, eqb-true (suc m) 0 e))), (λ e. absurd (d (omega arith))))

size-joins : (k top : ℕ) (p : Record) → (joins (leb 1 top) false k p ≡ true) ↔ SizeIs k top p.size
size-joins k zero p = ((λ e. tt), (λ e. refl))
size-joins k (suc t) p = rw (le-leb 1 (suc t) (omega arith)) (eqb-true k p.size, eq-eqb k p.size)

joins-as : (b : Bool) (n k : ℕ) (σ : Summary) → σ.part.end ≢ suc n → (joins (some_full σ) b k σ.part ≡ true)
    ↔ JoinsAs b n k σ
joins-as true n k σ d = end-joins n k σ.part.end σ.part.tail d
joins-as false n k σ d = size-joins k σ.top σ.part

pub joins-iff : (s : Segment) (ss : List Segment) → ¬ (Numbered s.number ss)
    → (joins (some_full (summary ss)) s.last (length s.bytes) (summary ss).part ≡ true)
    ↔ JoinsAs s.last s.number (length s.bytes) (summary ss)
joins-iff s ss a = joins-as s.last s.number (length s.bytes) (summary ss)
    (λ e. a (end-numbered ss s.number e))

-- a segment is accepted if it joins and the rest suits: each is what a fit gives
accepted-by : {J F : Type 0} {j w : Bool} → (j ≡ true) ↔ J → (J → w ≡ true → F) → (F → J × (w ≡ true))
    → (both j w ≡ true) ↔ F
accepted-by {j = j} {w = w} i there back = (
  (λ e. let r = both_true j w e in there (i.0 r.0) r.1),
  (λ f. let r = back f in true-both j w (i.1 r.0) r.1),
)

accepted-header : (limit : ℕ) (s : Segment) (hs bs : List Segment) → limit ≤ limit_most → Bytes s.bytes
    → Fits limit hs bs → ¬ (Numbered s.number hs)
    → (accepts Header limit (core_of hs) (summary hs) (summary bs) s ≡ true) ↔ Fits limit (s ∷ hs) bs
accepted-header limit s hs bs z y f a =
    let old : Passes limit hs bs = fits-passes limit hs bs f in
    accepted-by (joins-iff s hs a)
    (λ j w. passes-fits limit (s ∷ hs) bs z (y, header-bytes limit hs bs f) (body-bytes limit hs bs f)
    (record {
      header_agree = agree-new s hs a old.header_agree;
      header_clear = (j, old.header_clear);
      body_agree =
          old.body_agree;
      body_clear = old.body_clear;
      suit = w;
    }))
    (λ g. let t = fits-passes limit (s ∷ hs) bs g in (t.header_clear.0, t.suit))

accepted-body : (limit : ℕ) (s : Segment) (hs bs : List Segment) → limit ≤ limit_most → Bytes s.bytes
    → Fits limit hs bs → ¬ (Numbered s.number bs)
    → (accepts Body limit (core_of hs) (summary hs) (summary bs) s ≡ true) ↔ Fits limit hs (s ∷ bs)
accepted-body limit s hs bs z y f a =
    let old : Passes limit hs bs = fits-passes limit hs bs f in
    accepted-by (joins-iff s bs a)
    (λ j w. passes-fits limit hs (s ∷ bs) z (header-bytes limit hs bs f) (y, body-bytes limit hs bs f)
    (record {
      header_agree = old.header_agree;
      header_clear = old.header_clear;
      body_agree =
          agree-new s bs a old.body_agree;
      body_clear = (j, old.body_clear);
      suit = w;
    }))
    (λ g. let t = fits-passes limit hs (s ∷ bs) g in (t.body_clear.0, t.suit))

-- THE THEOREM: a segment of a new number is accepted exactly when it and the held ones fit some object and cut
pub accepted : (kind : Part) (limit : ℕ) (s : Segment) (hs bs : List Segment) → limit ≤ limit_most → Bytes s.bytes
    → Fits limit hs bs → ¬ (Numbered s.number (those kind hs bs))
    → (accepts kind limit (core_of hs) (summary hs) (summary bs) s ≡ true)
    ↔ Fits limit (headers_with kind s hs) (bodies_with kind s bs)
accepted Header limit s hs bs z y f a = accepted-header limit s hs bs z y f a
accepted Body limit s hs bs z y f a = accepted-body limit s hs bs z y f a

-- ---- order and repeats play no part

-- the same object and cut, of other segments that they send
abbrev pub fits-sent : {limit : ℕ} {hs bs : List Segment} (f : Fits limit hs bs) (hs' bs' : List Segment)
    → Each (Sends f.header f.header_cut) hs' → Each (Sends f.body f.body_cut) bs' → Fits limit hs' bs'
fits-sent f hs' bs' h b =
    record {
      header = f.header;
      body = f.body;
      object = f.object;
      header_cut = f.header_cut;
      body_cut = f.body_cut;
      header_cuts = f.header_cuts;
      body_cuts = f.body_cuts;
      header_sent = h;
      body_sent = b;
    }

-- what fits, fits in any order, with repeats, and in part
pub fits-among : (limit : ℕ) (hs hs' bs bs' : List Segment) → ((s : Segment) → Among s hs' → Among s hs)
    → ((s : Segment) → Among s bs' → Among s bs) → Fits limit hs bs → Fits limit hs' bs'
fits-among limit hs hs' bs bs' i j f = fits-sent f hs' bs'
    (among-each hs' (λ s a. each-among (Sends f.header f.header_cut) s hs f.header_sent (i s a)))
    (among-each bs' (λ s a. each-among (Sends f.body f.body_cut) s bs f.body_sent (j s a)))

-- without the newest
abbrev pub fits-less : (part : Part) (limit : ℕ) (s : Segment) (hs bs : List Segment)
    → Fits limit (headers_with part s hs) (bodies_with part s bs) → Fits limit hs bs
fits-less Header limit s hs bs f = fits-sent f hs bs f.header_sent.1 f.body_sent
fits-less Body limit s hs bs f = fits-sent f hs bs f.header_sent f.body_sent.1

-- a segment that is in brings nothing new
pub with-one : (s : Segment) (ss : List Segment) → Among s ss → (t : Segment) → Among t (s ∷ ss) → Among t ss
with-one s ss i t (inl e) = rw e at i
with-one s ss i t (inr j) = j

-- a segment that is in already always fits
pub repeat-fits : (kind : Part) (limit : ℕ) (s : Segment) (hs bs : List Segment) → Fits limit hs bs
    → Among s (those kind hs bs) → Fits limit (headers_with kind s hs) (bodies_with kind s bs)
repeat-fits Header limit s hs bs f i = fits-among limit hs (s ∷ hs) bs bs (with-one s hs i) (λ t j. j) f
repeat-fits Body limit s hs bs f i = fits-among limit hs hs bs (s ∷ bs) (λ t j. j) (with-one s bs i) f

-- one of a number that is in fits only if it is the same segment
pub same-fits : (kind : Part) (limit : ℕ) (s t : Segment) (hs bs : List Segment)
    → Fits limit (headers_with kind s hs) (bodies_with kind s bs) → Among t (those kind hs bs) → s.number ≡ t.number → s
    ≡ t
same-fits Header limit s t hs bs f i e =
    same-is s t (sends-same f.header f.header_cut s t f.header_sent.0
    (each-among (Sends f.header f.header_cut) t hs f.header_sent.1 i)) e
same-fits Body limit s t hs bs f i e =
    same-is s t (sends-same f.body f.body_cut s t f.body_sent.0
    (each-among (Sends f.body f.body_cut) t bs f.body_sent.1 i)) e

-- with other bytes or another flag it never does
pub other-never : (kind : Part) (limit : ℕ) (s t : Segment) (hs bs : List Segment) → Among t (those kind hs bs)
    → s.number ≡ t.number → (s.last ≢ t.last) ⊎ (s.bytes ≢ t.bytes)
    → ¬ (Fits limit (headers_with kind s hs) (bodies_with kind s bs))
other-never kind limit s t hs bs i e (inl d) f =
    d (ap (λ (x : Segment). x.last) (same-fits kind limit s t hs bs f i e))
other-never kind limit s t hs bs i e (inr d) f =
    d (ap (λ (x : Segment). x.bytes) (same-fits kind limit s t hs bs f i e))
