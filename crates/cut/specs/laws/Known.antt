-- What is known of a cut. S follows from a full segment, or from the part's length and its last segment; the bounds
-- alone never give it.
use Rattle.std.specs.Prelude.{◌≡◌, refl, ◌≢◌, ◌⊎◌, true, Option, Some, None, List, [], ◌∷◌, ℕ, zero, suc, ◌+◌, ◌*◌, ◌≤◌, ◌<◌, max, length, replicate, leb}
use Rattle.std.proofs.Common.{subst, mul-le-mul_right, lt_of_mul-lt-mul_right, zero-mul, arith, leb-true, le-leb, eq-eqb, ne_eqb}
use Rattle.std.proofs.Math.Logic.{inl, inr}
use Rattle.std.proofs.Math.Nat.{div-eq_of_eq-mul_left}
use Rattle.std.proofs.Math.Decide.{ℕ_discrete}
use Rattle.cut.specs.laws.Lists.{bytes-zeros}
use Rattle.cut.specs.Requirement.{limit_least, limit_most, size_least, size_most, Segment, Fits}
use Rattle.answer.specs.declared.Part.{Part}
use Rattle.answer.specs.declared.Part.TheVariants.{Header, Body}
use Rattle.cut.specs.declared.Sizes.{Sizes}
use Rattle.cut.specs.declared.Bounds.{Bounds}
use Rattle.cut.specs.Decision.{core_tests, core_fits, alone, largest, suits}
use Rattle.cut.specs.Kept.{bounds_of, derived, settle, summary, record_of, core_of}
use Rattle.cut.specs.laws.Segment.{PartSits, Sits, sends-sits}
use Rattle.cut.specs.laws.Decision.{all_true, TopSits, EndSits, SumSits, sits-sum, sum-sits}
use Rattle.cut.specs.laws.Object.{WithinOf, fits-within, fits-sits, fits-passes, fits-core, sits-object, header-bytes, body-bytes, passes-fits}
use Rattle.cut.specs.Parts.{those, part_of, cut_of}
use Rattle.cut.specs.Lists.{pick, Each}

-- ---- in numbers

-- the size in the record
abbrev size_as : Bounds → ℕ → ℕ → ℕ → ℕ → ℕ
size_as b top size end tail = pick (leb 1 top) size (derived b end tail)

divided-is : (b : Bounds) (S L n tail : ℕ) → WithinOf b S L → suc n * S + tail ≡ L → b.least ≡ b.most
    → derived b (suc (suc n)) tail ≡ S
divided-is b S L n tail w e m =
    rw (eq-eqb b.least b.most m) (div-eq_of_eq-mul_left (omega arith) (omega (arith, w.long, w.short)))

size-full : (b : Bounds) (S L top size end tail : ℕ) → TopSits S L top size → 1 ≤ top → size_as b top size end tail ≡ S
size-full b S L zero size end tail f h = absurd (omega arith)
size-full b S L (suc t) size end tail f h = rw (le-leb 1 (suc t) h) f.0

size-ended : (b : Bounds) (S L top size end tail : ℕ) → WithinOf b S L → TopSits S L top size → EndSits S L end tail
    → b.least ≡ b.most → 2 ≤ end → size_as b top size end tail ≡ S
size-ended b S L zero size zero tail w f e m h = absurd (omega arith)
size-ended b S L zero size (suc zero) tail w f e m h = absurd (omega arith)
size-ended b S L zero size (suc (suc n)) tail w f e m h = divided-is b S L n tail w e.0 m
size-ended b S L (suc t) size end tail w f e m h = size-full b S L (suc t) size end tail f (omega arith)

size-only : (b : Bounds) (top size end tail : ℕ) → size_as b top size end tail ≢ 0 → (1 ≤ top)
    ⊎ ((b.least ≡ b.most) × (2 ≤ end))
size-only b (suc t) size end tail d = inl (omega arith)
size-only b zero size zero tail d = absurd (d refl)
size-only b zero size (suc zero) tail d = absurd (d refl)
size-only b zero size (suc (suc n)) tail d = go (ℕ_discrete b.least b.most)
  where
    go : Dec (b.least ≡ b.most) → (1 ≤ 0) ⊎ ((b.least ≡ b.most) × (2 ≤ suc (suc n)))
    go (yes e) = inr (e, omega arith)
    go (no e) = absurd (d (rw (ne_eqb b.least b.most e) refl))

-- ---- of an object

-- the bounds meet exactly when segment 0 has said the lengths
bounds-seen : (kind : Part) (limit : ℕ) (sizes : Sizes) → (bounds_of kind limit (Some sizes)).least
    ≡ (bounds_of kind limit (Some sizes)).most
unfolding bounds_of
bounds-seen Header limit sizes = refl
bounds-seen Body limit sizes = refl

bounds-unseen : (kind : Part) (limit : ℕ) → limit_least ≤ limit → (bounds_of kind limit None).least
    ≢ (bounds_of kind limit None).most
unfolding bounds_of
bounds-unseen Header limit h e = omega arith
bounds-unseen Body limit h e = omega arith

-- the size in the record of a part
unfoldable pub size_of : Part → ℕ → List Segment → List Segment → ℕ
size_of kind limit hs bs = (record_of (bounds_of kind limit (core_of hs)) (summary (those kind hs bs))).size

module _ (kind : Part) (limit : ℕ) (hs bs : List Segment) (f : Fits limit hs bs) where
  sum : SumSits (cut_of kind f) (length (part_of kind f)) (summary (those kind hs bs))
  sum = (sits-sum (cut_of kind f) (length (part_of kind f)) (those kind hs bs)
      (omega (arith, (fits-within limit hs bs f kind).low)) (fits-sits limit hs bs f kind)).1

  -- a full segment gives S
  pub known-full : 1 ≤ (summary (those kind hs bs)).top → size_of kind limit hs bs ≡ cut_of kind f
  unfolding size_of settle
  known-full h = size-full (bounds_of kind limit (core_of hs)) (cut_of kind f) (length (part_of kind f))
      (summary (those kind hs bs)).top (summary (those kind hs bs)).part.size (summary (those kind hs bs)).part.end
      (summary (those kind hs bs)).part.tail sum.0 h

  -- the part's length and the last segment, of number 1 or more, give S
  pub known-ended : (sizes : Sizes) → core_of hs ≡ Some sizes → 2 ≤ (summary (those kind hs bs)).part.end
      → size_of kind limit hs bs ≡ cut_of kind f
  unfolding size_of settle
  known-ended sizes e h = size-ended (bounds_of kind limit (core_of hs)) (cut_of kind f) (length (part_of kind f))
      (summary (those kind hs bs)).top (summary (those kind hs bs)).part.size (summary (those kind hs bs)).part.end
      (summary (those kind hs bs)).part.tail (fits-within limit hs bs f kind) sum.0 sum.1
      (rw e (bounds-seen kind limit sizes)) h

  -- and nothing else does
  pub known_only : limit_least ≤ limit → size_of kind limit hs bs ≢ 0 → (1 ≤ (summary (those kind hs bs)).top)
      ⊎ ((core_of hs ≢ None) × (2 ≤ (summary (those kind hs bs)).part.end))
  unfolding size_of settle
  known_only l d =
      go (size-only (bounds_of kind limit (core_of hs)) (summary (those kind hs bs)).top
      (summary (those kind hs bs)).part.size (summary (those kind hs bs)).part.end
      (summary (those kind hs bs)).part.tail d)
    where
      go : (1 ≤ (summary (those kind hs bs)).top)
          ⊎ (((bounds_of kind limit (core_of hs)).least ≡ (bounds_of kind limit (core_of hs)).most)
          × (2 ≤ (summary (those kind hs bs)).part.end)) → (1 ≤ (summary (those kind hs bs)).top)
          ⊎ ((core_of hs ≢ None) × (2 ≤ (summary (those kind hs bs)).part.end))
      go (inl h) = inl h
      go (inr h) =
          inr (
            (λ e. bounds-unseen kind limit l
                (subst (λ (c : Option Sizes). (bounds_of kind limit c).least ≡ (bounds_of kind limit c).most) e h.0)),
            h.1,
          )

-- so a size that is known is that of every cut that fits
pub known-cut : (kind : Part) (limit : ℕ) (hs bs : List Segment) → limit_least ≤ limit → size_of kind limit hs bs ≢ 0
    → (f : Fits limit hs bs) → size_of kind limit hs bs ≡ cut_of kind f
known-cut kind limit hs bs l d f = go (core_of hs) refl (known_only kind limit hs bs f l d)
  where
    go : (c : Option Sizes) → core_of hs ≡ c → (1 ≤ (summary (those kind hs bs)).top)
        ⊎ ((core_of hs ≢ None) × (2 ≤ (summary (those kind hs bs)).part.end)) → size_of kind limit hs bs ≡ cut_of kind f
    go None e (inl h) = known-full kind limit hs bs f h
    go (Some sizes) e (inl h) = known-full kind limit hs bs f h
    go None e (inr h) = absurd (h.0 e)
    go (Some sizes) e (inr h) = known-ended kind limit hs bs f sizes e h.1

-- ---- never from the bounds alone

part_at : (b : Bounds) (S L : ℕ) (ss : List Segment) → WithinOf b S L → Each (Sits S L) ss
    → PartSits b.least b.most b.numbers ss
part_at b S L ss w s = record { size = S; long = L; within = w; sits = s }

-- every size and length that suits a part is that of some object and cut that fit
pub size_fits : (kind : Part) (limit : ℕ) (hs bs : List Segment) → limit ≤ limit_most → Fits limit hs bs → (S L : ℕ)
    → WithinOf (bounds_of kind limit (core_of hs)) S L → Each (Sits S L) (those kind hs bs) → (f : Fits limit hs bs)
    × (cut_of kind f ≡ S)
size_fits Header limit hs bs z f S L w s =
    let p = fits-passes limit hs bs f in
    let r = sits-object limit hs bs z (header-bytes limit hs bs f) (body-bytes limit hs bs f) p.header_agree
    p.body_agree (core_of hs) refl (fits-core limit hs bs f) (record { size = S; long = L; within = w; sits = s })
    (part_at (bounds_of Body limit (core_of hs)) f.body_cut (length f.body) bs (fits-within limit hs bs f Body)
    (fits-sits limit hs bs f Body)) in
    (r.0, r.1)
size_fits Body limit hs bs z f S L w s =
    let p = fits-passes limit hs bs f in
    let r = sits-object limit hs bs z (header-bytes limit hs bs f) (body-bytes limit hs bs f) p.header_agree
    p.body_agree (core_of hs) refl (fits-core limit hs bs f)
    (part_at (bounds_of Header limit (core_of hs)) f.header_cut (length f.header) hs
    (fits-within limit hs bs f Header) (fits-sits limit hs bs f Header))
    (record { size = S; long = L; within = w; sits = s }) in
    (r.0, r.2)

-- nothing of a part is in: any size from 1,024 up fits, so at least two do
numbers-reach : (kind : Part) (limit : ℕ) (c : Option Sizes) (S L : ℕ) → limit ≤ limit_most
    → L ≤ (bounds_of kind limit c).most → core_fits limit c ≡ true → 1024 ≤ S → L ≤ (bounds_of kind limit c).numbers * S
unfolding bounds_of core_fits
numbers-reach Header limit None S L z h k g = omega arith
numbers-reach Header limit (Some sizes) S L z h k g = let t = all_true (core_tests limit (Some sizes)) k in
    omega (arith, leb-true)
numbers-reach Body limit None S L z h k g = omega arith
numbers-reach Body limit (Some sizes) S L z h k g = let t = all_true (core_tests limit (Some sizes)) k in
    omega (arith, leb-true)

pub nothing_known : (kind : Part) (limit : ℕ) (hs bs : List Segment) → limit ≤ limit_most → Fits limit hs bs
    → those kind hs bs ≡ [] → (S : ℕ) → 1024 ≤ S → S ≤ size_most → (f : Fits limit hs bs) × (cut_of kind f ≡ S)
nothing_known kind limit hs bs z f e S l m =
    let w = fits-within limit hs bs f kind in
    size_fits kind limit hs bs z f S (length (part_of kind f))
    (record {
      long = w.long;
      short = w.short;
      low = omega arith;
      high = m;
      enough =
          numbers-reach kind limit (core_of hs) S (length (part_of kind f)) z w.short (fits-core limit hs bs f) l;
      any = w.any;
    })
    (rw e tt)

-- a last one that starts within its part does so at every size
start-again : (S T n k : ℕ) → 0 < S → n * S < max 1 (n * S + k) → n * T < max 1 (n * T + k)
start-again S T zero k z h = omega (arith, zero-mul T)
start-again S T (suc n) k z h = omega arith

-- only the last one of a part is in, and the part's length is not known: every size that the bounds leave fits
pub last-known : (kind : Part) (limit : ℕ) (hs bs : List Segment) → limit ≤ limit_most → Fits limit hs bs
    → (summary (those kind hs bs)).top ≡ 0 → (n k : ℕ) → (summary (those kind hs bs)).part.end ≡ suc n
    → (summary (those kind hs bs)).part.tail ≡ k → (S : ℕ) → size_least ≤ S → S ≤ size_most → k ≤ S
    → (bounds_of kind limit (core_of hs)).least ≤ n * S + k → n * S + k ≤ (bounds_of kind limit (core_of hs)).most
    → (f : Fits limit hs bs) × (cut_of kind f ≡ S)
last-known kind limit hs bs z f t n k e g S l m h a b =
    let w = fits-within limit hs bs f kind in
    let s = sum kind limit hs bs f in
    let q : (n * cut_of kind f + k ≡ length (part_of kind f)) × (n * cut_of kind f < max 1 (length (part_of kind f)))
    × (k ≤ cut_of kind f) = rw (e, g) at s.1 in
    let r : n * cut_of kind f < (bounds_of kind limit (core_of hs)).numbers * cut_of kind f =
    omega (arith, q.1, w.enough, w.low, mul-le-mul_right (cut_of kind f) w.any) in
    let i : suc n ≤ (bounds_of kind limit (core_of hs)).numbers = lt_of_mul-lt-mul_right (cut_of kind f) r in
    size_fits kind limit hs bs z f S (n * S + k)
    (record { long = a; short = b; low = l; high = m; enough = omega (arith, mul-le-mul_right S i); any = w.any })
    (sum-sits S (n * S + k) (those kind hs bs)
    (sits-sum (cut_of kind f) (length (part_of kind f)) (those kind hs bs) (omega (arith, w.low))
    (fits-sits limit hs bs f kind)).0 (
      rw t tt,
      rw (e, g) (refl, start-again (cut_of kind f) S n k (omega (arith, w.low)) (omega (arith, q.0, q.1)), h),
    ))

-- and where the bounds leave one size only, the record still does not say it: header number 63, the last one, of 16
-- bytes
abbrev pub only : Segment
only = record { number = 63; last = true; bytes = replicate 16 0 }

pub one_left : (f : Fits 12288 (only ∷ []) []) → (f.header_cut ≡ 16) × (size_of Header 12288 (only ∷ []) [] ≡ 0)
unfolding Sits size_of settle bounds_of
one_left f = let s = sends-sits f.header f.header_cut only f.header_sent.0 in
    (omega (arith, s, f.header_cuts.low, f.object.header_high), refl)

-- that one fits
pub only-fits : Fits 12288 (only ∷ []) []
unfolding suits core_fits bounds_of alone largest
only-fits = passes-fits 12288 (only ∷ []) [] (omega arith) (bytes-zeros 16, tt) tt
    (record { header_agree = (tt, tt); header_clear = (tt, tt); body_agree = tt; body_clear = tt; suit = refl })
