-- The empty last segment: number 0, last, of no bytes. What document 02, Item 2, says of it, a theorem for each
-- sentence; and where it is not among the segments, all is as document 01 has it.
use Rattle.std.specs.Prelude.{◌≡◌, refl, ◌↔◌, Some, List, [], ◌∷◌, ℕ, ◌<◌, length}
use Rattle.std.proofs.Common.{ap, ◌∙◌, inl, inr, arith}
use Rattle.answer.specs.declared.Part.TheVariants.{Body}
use Rattle.cut.specs.Lists.{Each, Among}
use Rattle.cut.specs.laws.Lists.{each_map, each-zip, each-among}
use Rattle.cut.specs.Requirement.{header_numbers, body_numbers, IsObject, IsCut, Segment, IsSegment, empty, Sends, Fits, Finished}
use Rattle.cut.specs.declared.Sizes.{Sizes}
use Rattle.cut.specs.Kept.{core_of}
use Rattle.cut.specs.laws.Segment.{segment-some}
use Rattle.cut.specs.laws.Object.{core_is}
use Rattle.cut.specs.laws.Theorem.{fits-sent, fits-less}
use Rattle.cut.specs.laws.Finished.{whole-empty, finished-every}

-- ---- one part

-- a part of length 0 sends it and nothing else
pub none-sends : (xs : List ℕ) (S : ℕ) → length xs ≡ 0 → (s : Segment) → Sends xs S s ↔ (s ≡ empty)
none-sends xs S e s = (only, (λ f. inr (e, f)))
  where
    only : Sends xs S s → s ≡ empty
    only (inl t) = absurd (omega (arith, t.starts))
    only (inr t) = t.1

-- a part of some bytes sends its segments alone
pub some-sends : (xs : List ℕ) (S : ℕ) → 0 < length xs → (s : Segment) → Sends xs S s ↔ IsSegment xs S s
some-sends xs S h s = (only, (λ t. inl t))
  where
    only : Sends xs S s → IsSegment xs S s
    only (inl t) = t
    only (inr t) = absurd (omega (arith, t.0))

-- one of some bytes is a segment
some-segment : (xs : List ℕ) (S : ℕ) (s : Segment) → 0 < length s.bytes → Sends xs S s → IsSegment xs S s
some-segment xs S s h (inl t) = t
some-segment xs S s h (inr t) = absurd (omega (arith, ap (λ (x : Segment). length x.bytes) t.1))

-- ---- of an object

-- a header never sends it
pub header-never : (limit : ℕ) (hs bs : List Segment) → ¬ (Fits limit (empty ∷ hs) bs)
header-never limit hs bs f = go f.header_sent.0
  where
    go : Sends f.header f.header_cut empty → ⊥
    go (inl t) = omega (arith, segment-some f.header f.header_cut empty f.header_cuts.low t)
    go (inr t) = omega (arith, f.object.header_low, t.0)

module _ (limit : ℕ) (hs bs : List Segment) (f : Fits limit hs bs) (i : Among empty bs) where
  -- where it is in, the body has length 0
  pub body-none : length f.body ≡ 0
  body-none = go (each-among (Sends f.body f.body_cut) empty bs f.body_sent i)
    where
      go : Sends f.body f.body_cut empty → length f.body ≡ 0
      go (inl t) = absurd (omega (arith, segment-some f.body f.body_cut empty f.body_cuts.low t))
      go (inr t) = t.0

  -- so it conflicts with a BodySize above 0
  pub size-zero : (sizes : Sizes) → core_of hs ≡ Some sizes → sizes.body ≡ 0
  size-zero sizes e = (rw e at (core_is f.header f.header_cut hs f.header_cuts.low f.header_sent)).0
      ∙ f.object.says_body ∙ body-none

  -- and with any other body segment
  pub no_other : Each (λ s. s ≡ empty) bs
  no_other = each_map (λ s u. (none-sends f.body f.body_cut body-none s).0 u) bs f.body_sent

-- a body of length 0 has no segments, or that one, and both belong to the same object
pub either : (limit : ℕ) (hs : List Segment) (f : Fits limit hs []) → length f.body ≡ 0
    → (g : Fits limit hs (empty ∷ [])) × (g.header ≡ f.header) × (g.body ≡ f.body)
either limit hs f e = (fits-sent f hs (empty ∷ []) f.header_sent (inr (e, refl), tt), refl, refl)

-- the object is finished without it: with it exactly when it is without
pub finished-either : (limit : ℕ) (hs : List Segment) (f : Fits limit hs []) (g : Fits limit hs (empty ∷ []))
    → Finished g ↔ Finished f
finished-either limit hs f g = (
  (λ w. finished-every limit hs [] (fits-less Body limit empty hs [] g) f
      (record { header = w.header; body = whole-empty g.body g.body_cut [] none })),
  (λ w. record {
    header = (finished-every limit hs [] f (fits-less Body limit empty hs [] g) w).header;
    body = whole-empty g.body g.body_cut (empty ∷ []) none;
  }),
)
  where
    none : length g.body ≡ 0
    none = body-none limit hs (empty ∷ []) g (inl refl)

-- ---- without it

-- document 01's own words: the object's segments, and nothing else
pub record FitsBare (limit : ℕ) (header_segments body_segments : List Segment) : Type 0 where
  pub header : List ℕ
  pub body : List ℕ
  pub object : IsObject limit header body
  pub header_cut : ℕ
  pub body_cut : ℕ
  pub header_cuts : IsCut header_numbers header_cut header
  pub body_cuts : IsCut body_numbers body_cut body
  pub header_has : Each (IsSegment header header_cut) header_segments
  pub body_has : Each (IsSegment body body_cut) body_segments

-- NOTHING CHANGES for segments none of which is empty
pub as_before : (limit : ℕ) (hs bs : List Segment) → Each (λ s. 0 < length s.bytes) hs
    → Each (λ s. 0 < length s.bytes) bs → Fits limit hs bs ↔ FitsBare limit hs bs
as_before limit hs bs h b = (
  (λ f. record {
    header = f.header;
    body = f.body;
    object = f.object;
    header_cut = f.header_cut;
    body_cut = f.body_cut;
    header_cuts = f.header_cuts;
    body_cuts = f.body_cuts;
    header_has = each-zip (λ s o u. some-segment f.header f.header_cut s o u) hs h f.header_sent;
    body_has = each-zip (λ s o u. some-segment f.body f.body_cut s o u) bs b f.body_sent;
  }),
  (λ f. record {
    header = f.header;
    body = f.body;
    object = f.object;
    header_cut = f.header_cut;
    body_cut = f.body_cut;
    header_cuts = f.header_cuts;
    body_cuts = f.body_cuts;
    header_sent = each_map (λ s u. inl u) hs f.header_has;
    body_sent = each_map (λ s u. inl u) bs f.body_has;
  }),
)
