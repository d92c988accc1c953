-- Finished: when every segment is in, that only one object fits then, and that it is the segments joined by number.
use Rattle.std.specs.Prelude.{◌≡◌, ◌↔◌, Bool, true, false, Option, Some, None, List, [], ◌∷◌, length, drop, eqb, leb}
use Rattle.std.proofs.Math.Path.{refl, ap}
use Rattle.std.proofs.Common.{sym, ◌∙◌, subst, inl, inr, mul-le-mul_right, lt_of_mul-lt-mul_right, div-add-mod', mod-lt, take-add, take_all, eqb-true, le-leb}
use Prim.Native.Nat.{ℕ, zero, suc, ◌+◌, ◌-◌, ◌*◌, ◌/◌, ◌%◌, ◌≤◌, ◌<◌}
use Rattle.std.proofs.Math.Nat.{zero-mul}
use Rattle.std.proofs.Math.Decide.{ℕ_discrete, dec_le}
use native.Mathlib.Omega.{arith}
use Rattle.std.proofs.Math.ListN.{take}
use Rattle.std.proofs.lemmas.Bool.{eqb-false}
use Rattle.cut.specs.laws.Lists.{each_map, each-among}
use Rattle.cut.specs.Requirement.{header_numbers, body_numbers, IsCut, Segment, IsSegment, Sends, Fits, Whole, Finished, bytes_of, joined}
use Rattle.cut.specs.declared.Sizes.{Sizes}
use Rattle.cut.specs.Kept.{Summary, add_part, summary, core_of}
use Rattle.cut.specs.laws.Segment.{Numbered, among-numbered, numbered-among, same-is, sends-same, sends-sits, sent-holds, sent-ends, past_end}
use Rattle.cut.specs.laws.Decision.{EndSits, sits-sum}
use Rattle.cut.specs.laws.Object.{CoreIs, core_is, core-unseen}
use Rattle.cut.specs.Lists.{pick, Each, Among}

-- ---- every segment is in: every number is

-- the segment of a number that a part has when cut at a size
abbrev pub segment_of : List ℕ → ℕ → ℕ → Segment
segment_of xs S n = record { number = n; last = leb (length xs) (suc n * S); bytes = take S (drop (n * S) xs) }

pub segment-is : (xs : List ℕ) (S n : ℕ) → n * S < length xs → IsSegment xs S (segment_of xs S n)
segment-is xs S n h = record { starts = h; holds = refl; ends = refl }

pub whole_numbers : (xs : List ℕ) (S : ℕ) (ss : List Segment) → Each (Sends xs S) ss → Whole xs S ss
    ↔ ((n : ℕ) → n * S < length xs → Numbered n ss)
whole_numbers xs S ss t = (
  (λ w n h. among-numbered (segment_of xs S n) ss (w (segment_of xs S n) (segment-is xs S n h))),
  (λ w s u.
      let r = numbered-among s.number ss (w s.number u.starts) in
      let e : r.0 ≡ s = same-is r.0 s
      (sends-same xs S r.0 s (each-among (Sends xs S) r.0 ss t r.1) (inl u)) r.2 in
      subst (λ (x : Segment). Among x ss) e r.1),
)

-- ---- every number is in: the last one's, and all below it

-- a last segment is in: the record has its number
last_step : (b : Bool) (s : Segment) (p : ℕ) (σ : Summary) → s.last ≡ b → (n : ℕ) × (σ.part.end ≡ suc n) → (n : ℕ)
    × ((add_part b s.number p σ.part).end ≡ suc n)
last_step true s p σ e r = (s.number, refl)
last_step false s p σ e r = r

pub last-in : (s : Segment) (ss : List Segment) → Among s ss → s.last ≡ true → (n : ℕ)
    × ((summary ss).part.end ≡ suc n)
last-in s [] i e = absurd i
last-in s (t ∷ ss) (inl i) e = let f : t.last ≡ true = ap (λ (x : Segment). x.last) i ∙ e in rw f (t.number, refl)
last-in s (t ∷ ss) (inr i) e = last_step t.last t (length t.bytes) (summary ss) refl (last-in s ss i e)

-- the numbers of a part that ends with number n
below_end : (S L i n k : ℕ) → n * S + k ≡ L → k ≤ S → i * S < L → i < suc n
below_end S L i n k e f h = let g : i * S < suc n * S = omega arith in lt_of_mul-lt-mul_right S g

-- every number below the end is in, and there is an end
abbrev pub Counted : ℕ → List Segment → Type 0
Counted zero ss = ⊥
Counted (suc n) ss = (i : ℕ) → i < suc n → Numbered i ss

module _ (xs : List ℕ) (S : ℕ) (ss : List Segment) (z : 0 < S) (t : Each (Sends xs S) ss) where
  sums : EndSits S (length xs) (summary ss).part.end (summary ss).part.tail
  sums = (sits-sum S (length xs) ss z (each_map (λ s u. sends-sits xs S s u) ss t)).1.1

  -- the number where the part ends
  ends-in : 0 < length xs → Numbered ((length xs - 1) / S) ss → (n : ℕ) × ((summary ss).part.end ≡ suc n)
  ends-in h i =
      let r = numbered-among ((length xs - 1) / S) ss i in
      let u : Sends xs S r.0 = each-among (Sends xs S) r.0 ss t r.1 in
      let d : (length xs - 1) / S * S + (length xs - 1) % S ≡ length xs - 1 = div-add-mod' (length xs - 1) S in
      let m : (length xs - 1) % S < S = mod-lt (length xs - 1) z in
      let e : r.0.number * S ≡ (length xs - 1) / S * S = ap (λ (n : ℕ). n * S) r.2 in
      last-in r.0 ss r.1 (sent-ends xs S r.0 u ∙ le-leb (length xs) (suc r.0.number * S) (omega arith))

  counted-as : (end tail : ℕ) → (summary ss).part.end ≡ end → EndSits S (length xs) end tail → 0 < length xs
      → ((n : ℕ) → n * S < length xs → Numbered n ss) ↔ Counted end ss
  counted-as zero tail e q h = (
    (λ w.
        let d : (length xs - 1) / S * S + (length xs - 1) % S ≡ length xs - 1 = div-add-mod' (length xs - 1) S in
        let r = ends-in h (w ((length xs - 1) / S) (omega arith)) in
        absurd (omega (arith, r.1))),
    (λ w. absurd w),
  )
  counted-as (suc n) tail e q h = (
    (λ w i g. w i (let l : i ≤ n = omega arith in omega (arith, mul-le-mul_right S l, q.0, q.1))),
    (λ w i g. w i (below_end S (length xs) i n tail q.0 q.2 g)),
  )

  -- a part that is not empty is whole exactly when its last segment is in and every number before it
  pub whole-counted : 0 < length xs → Whole xs S ss ↔ Counted (summary ss).part.end ss
  whole-counted h =
      let a = whole_numbers xs S ss t in
      let b = counted-as (summary ss).part.end (summary ss).part.tail refl sums h in
      ((λ w. b.0 (a.0 w)), (λ w. a.1 (b.1 w)))

-- a part of length 0 has no segments: the empty one need not come
pub whole-empty : (xs : List ℕ) (S : ℕ) (ss : List Segment) → length xs ≡ 0 → Whole xs S ss
whole-empty xs S ss e s u = absurd (omega (arith, u.starts))

-- ---- joined

bytes-step : (b : Bool) (n : ℕ) (s : Segment) (ss : List Segment) (xs : List ℕ) (S : ℕ) → eqb s.number n ≡ b
    → Sends xs S s → (Numbered n ss → bytes_of n ss ≡ take S (drop (n * S) xs)) → Numbered n (s ∷ ss)
    → pick b s.bytes (bytes_of n ss) ≡ take S (drop (n * S) xs)
bytes-step true n s ss xs S e u r i = sent-holds xs S s u
    ∙ ap (λ (m : ℕ). take S (drop (m * S) xs)) (eqb-true s.number n e)
bytes-step false n s ss xs S e u r (inl i) = absurd (eqb-false s.number n e i)
bytes-step false n s ss xs S e u r (inr i) = r i

pub bytes-in : (n : ℕ) (ss : List Segment) (xs : List ℕ) (S : ℕ) → Each (Sends xs S) ss → Numbered n ss → bytes_of n ss
    ≡ take S (drop (n * S) xs)
bytes-in n [] xs S t i = absurd i
bytes-in n (s ∷ ss) xs S t i = bytes-step (eqb s.number n) n s ss xs S refl t.0 (bytes-in n ss xs S t.1) i

-- past the end there are none, and an empty segment that is in adds none
bytes-out : (n : ℕ) (ss : List Segment) (xs : List ℕ) (S : ℕ) → Each (Sends xs S) ss → length xs ≤ n * S → bytes_of n ss
    ≡ []
bytes-out n [] xs S t h = refl
bytes-out n (s ∷ ss) xs S t h = go (eqb s.number n) refl (bytes-out n ss xs S t.1 h)
  where
    go : (b : Bool) → eqb s.number n ≡ b → bytes_of n ss ≡ [] → pick b s.bytes (bytes_of n ss) ≡ []
    go true e r = sent-holds xs S s t.0 ∙ ap (λ (m : ℕ). take S (drop (m * S) xs)) (eqb-true s.number n e)
        ∙ past_end n xs S h
    go false e r = r

module _ (xs : List ℕ) (S : ℕ) (ss : List Segment) (t : Each (Sends xs S) ss) (w : Whole xs S ss) where
  bytes-at : (n : ℕ) → bytes_of n ss ≡ take S (drop (n * S) xs)
  bytes-at n = go (dec_le (suc (n * S)) (length xs))
    where
      go : Dec (n * S < length xs) → bytes_of n ss ≡ take S (drop (n * S) xs)
      go (yes h) = bytes-in n ss xs S t ((whole_numbers xs S ss t).0 w n h)
      go (no h) = bytes-out n ss xs S t (omega arith) ∙ sym (past_end n xs S (omega arith))

  joined-front : (n : ℕ) → joined n ss ≡ take (n * S) xs
  unfolding joined
  joined-front zero = let z : 0 * S ≡ 0 = zero-mul S in rw z refl
  joined-front (suc n) =
      let e : n * S + S ≡ suc n * S = omega arith in
      rw (joined-front n, bytes-at n) (sym (take-add (n * S) S xs) ∙ ap (λ (m : ℕ). take m xs) e)

  -- all segments of a part, joined by number, are the part
  pub part-joined : (numbers : ℕ) → IsCut numbers S xs → joined numbers ss ≡ xs
  part-joined numbers c = joined-front numbers ∙ take_all (numbers * S) xs c.enough

-- ---- the object

core-positive : (ss : List Segment) → Each (λ s. 0 < s.number) ss → Numbered 0 ss → ⊥
core-positive [] e i = i
core-positive (s ∷ ss) e (inl i) = omega (arith, e.0)
core-positive (s ∷ ss) e (inr i) = core-positive ss e.1 i

module _ (limit : ℕ) (hs bs : List Segment) (f : Fits limit hs bs) where
  header-some : 0 < length f.header
  header-some = omega (arith, f.object.header_low)

  header-cut : 0 < f.header_cut
  header-cut = omega (arith, f.header_cuts.low)

  body-cut : 0 < f.body_cut
  body-cut = omega (arith, f.body_cuts.low)

  -- header segment 0 is in, so it says both lengths
  pub finished-core : Finished f → core_of hs ≡ Some (record { body = length f.body; header = length f.header })
  finished-core w = go (core_of hs) refl (core_is f.header f.header_cut hs f.header_cuts.low f.header_sent)
    where
      go : (c : Option Sizes) → core_of hs ≡ c → CoreIs f.header c
          → c ≡ Some (record { body = length f.body; header = length f.header })
      go None e i =
          absurd (core-positive hs (core-unseen hs e)
          ((whole_numbers f.header f.header_cut hs f.header_sent).0 w.header 0
          (omega (arith, zero-mul f.header_cut, header-some))))
      go (Some sizes) e i =
          let b : sizes.body ≡ length f.body = i.0 ∙ f.object.says_body in
          let h : sizes.header ≡ length f.header = i.1 ∙ f.object.says_header in
          rw (b, h) refl

  -- THE OBJECT is its segments joined by number
  pub finished-joined : Finished f → (joined header_numbers hs ≡ f.header) × (joined body_numbers bs ≡ f.body)
  finished-joined w = (
    part-joined f.header f.header_cut hs f.header_sent w.header header_numbers f.header_cuts,
    part-joined f.body f.body_cut bs f.body_sent w.body body_numbers f.body_cuts,
  )

  -- whether it is finished, by what is kept: the lengths that segment 0 says, and the numbers that are in
  pub finished-iff : (sizes : Sizes) → core_of hs ≡ Some sizes → Finished f
      ↔ (Counted (summary hs).part.end hs × ((0 < sizes.body) → Counted (summary bs).part.end bs))
  finished-iff sizes e = (
    (λ w. (
      (whole-counted f.header f.header_cut hs header-cut f.header_sent header-some).0 w.header,
      (λ h. (whole-counted f.body f.body_cut bs body-cut f.body_sent (omega (arith, b))).0 w.body),
    )),
    (λ w. record {
      header = (whole-counted f.header f.header_cut hs header-cut f.header_sent header-some).1
          w.0;
      body = body (ℕ_discrete sizes.body 0) w.1;
    }),
  )
    where
      b : sizes.body ≡ length f.body
      b = (rw e at (core_is f.header f.header_cut hs f.header_cuts.low f.header_sent)).0
          ∙ f.object.says_body

      body : Dec (sizes.body ≡ 0) → ((0 < sizes.body) → Counted (summary bs).part.end bs) → Whole f.body f.body_cut bs
      body (yes z) w = whole-empty f.body f.body_cut bs (omega (arith, b))
      body (no z) w = (whole-counted f.body f.body_cut bs body-cut f.body_sent (omega (arith, b))).1
          (w (omega arith))

-- finished is finished, whichever object and cut it is asked of
pub finished-every : (limit : ℕ) (hs bs : List Segment) (f g : Fits limit hs bs) → Finished f → Finished g
finished-every limit hs bs f g w =
    let c = finished-core limit hs bs f w in
    let sizes : Sizes = record { body = length f.body; header = length f.header } in
    (finished-iff limit hs bs g sizes c).1 ((finished-iff limit hs bs f sizes c).0 w)

-- THE ONLY ONE: once it is finished, every object that fits is this one
pub finished-one : (limit : ℕ) (hs bs : List Segment) (f g : Fits limit hs bs) → Finished f → (g.header ≡ f.header)
    × (g.body ≡ f.body)
finished-one limit hs bs f g w =
    let a = finished-joined limit hs bs f w in
    let b = finished-joined limit hs bs g (finished-every limit hs bs f g w) in
    (sym b.0 ∙ a.0, sym b.1 ∙ a.1)
