-- How much is still missing, of segments that fit an object and a cut: it has exactly that many bytes outside them,
-- whichever fits; none exactly when it is finished; and with one segment more it does not rise, and stays known.
use Rattle.std.specs.Prelude.{◌≡◌, ◌⊎◌, ◌↔◌, Bool, Option, Some, None, List, [], ◌∷◌, eqb}
use Rattle.std.proofs.Math.Path.{refl, ap}
use Rattle.std.proofs.Common.{sym, ◌∙◌, inl, inr, mul-le-mul_right, length-take, length-drop, eqb-true}
use Rattle.std.proofs.Math.Bool.{true, false}
use Prim.Native.Nat.{ℕ, zero, suc, ◌+◌, ◌-◌, ◌*◌, ◌/◌, ◌≤◌, ◌<◌, min}
use Rattle.std.proofs.Math.Nat.{zero-mul}
use Rattle.std.proofs.Math.Decide.{dec_le}
use native.Mathlib.Omega.{arith}
use Rattle.std.proofs.Math.Arith.{digits_div}
use Rattle.std.proofs.Math.ListN.{length, length-append}
use Rattle.answer.specs.declared.Part.{Part}
use Rattle.answer.specs.declared.Part.TheVariants.{Header, Body}
use Rattle.cut.specs.declared.Sizes.{Sizes}
use Rattle.cut.specs.declared.Record.{Record}
use Rattle.cut.specs.Lists.{pick, Each}
use Rattle.cut.specs.Requirement.{limit_most, size_most, header_numbers, body_numbers, IsCut, Segment, Sends, Fits, Whole, Finished, bytes_of, joined}
use Rattle.cut.specs.Parts.{headers_with, bodies_with, those, part_of, cut_of}
use Rattle.cut.specs.Kept.{add_part, add_top, summary, sizes_of, core_of}
use Rattle.cut.specs.Missing.{size_shown, length_by, length_from, length_known, arrived, lacking, missing_of, is_stored, outside, outside_of, amount_kept, amount_of}
use Rattle.cut.specs.MissingKept.{length_in, length_kept, Narrow, Small}
use Rattle.cut.specs.laws.Segment.{Numbered, SitsAs, Sits}
use Rattle.cut.specs.laws.Decision.{TopSits, EndSits, SumSits, EndIs, JoinsAs, sits-sum}
use Rattle.cut.specs.laws.Object.{CoreIs, core_is, fits-within, fits-sits, fits-passes}
use Rattle.cut.specs.laws.Theorem.{fits-less}
use Rattle.cut.specs.laws.Finished.{whole_numbers, finished-core, finished-joined, bytes-in}

-- ---- the numbers that are in

pub stored-numbered : (n : ℕ) (ss : List Segment) → is_stored n ss ≡ true → Numbered n ss
stored-numbered n [] e = let z : ◌≡◌ {A = ℕ} 0 1 = cc in absurd (omega arith)
stored-numbered n (s ∷ ss) e = go (eqb s.number n) refl e (stored-numbered n ss)
  where
    go : (b : Bool) → eqb s.number n ≡ b → pick b true (is_stored n ss) ≡ true
        → (is_stored n ss ≡ true → Numbered n ss) → Numbered n (s ∷ ss)
    go true i f r = inl (eqb-true s.number n i)
    go false i f r = inr (r f)

pub unstored-bytes : (n : ℕ) (ss : List Segment) → is_stored n ss ≡ false → bytes_of n ss ≡ []
unstored-bytes n [] e = refl
unstored-bytes n (s ∷ ss) e = go (eqb s.number n) e (unstored-bytes n ss)
  where
    go : (b : Bool) → pick b true (is_stored n ss) ≡ false → (is_stored n ss ≡ false → bytes_of n ss ≡ [])
        → pick b s.bytes (bytes_of n ss) ≡ []
    go true f r = let z : ◌≡◌ {A = ℕ} 0 1 = cc in absurd (omega arith)
    go false f r = r f

-- ---- a part's bytes have arrived, or are outside

module _ (xs : List ℕ) (S : ℕ) (ss : List Segment) (z : 0 < S) (t : Each (Sends xs S) ss) where
  -- of the bytes of one number, all have arrived or none
  block : (n j : ℕ) → j ≤ S → outside S ss (n * S + j) ≡ outside S ss (n * S) + pick (is_stored n ss) 0 j
  unfolding outside
  block n zero h = let e : n * S + 0 ≡ n * S = omega arith in rw e (nothing (is_stored n ss))
    where
      nothing : (b : Bool) → outside S ss (n * S) ≡ outside S ss (n * S) + pick b 0 0
      nothing true = omega arith
      nothing false = omega arith
  block n (suc j) h =
      let e : n * S + suc j ≡ suc (n * S + j) = omega arith in
      let d : (n * S + j) / S ≡ n = digits_div n (omega arith) in
      rw (e, d, block n j (omega arith)) (more (is_stored n ss))
    where
      more : (b : Bool) → outside S ss (n * S) + pick b 0 j + pick b 0 1 ≡ outside S ss (n * S) + pick b 0 (suc j)
      more true = omega arith
      more false = omega arith

  -- as many bytes as the part has under a number, or none
  piece : (n : ℕ) (b : Bool) → is_stored n ss ≡ b
      → length (bytes_of n ss) + pick b 0 (min S (length xs - n * S)) ≡ min S (length xs - n * S)
  piece n true e =
      let l : length (bytes_of n ss) ≡ min S (length xs - n * S) =
      ap length (bytes-in n ss xs S t (stored-numbered n ss e))
      ∙ simp (length-take, length-drop) in
      omega arith
  piece n false e = let l : length (bytes_of n ss) ≡ 0 = ap length (unstored-bytes n ss e) in omega arith

  grown : (n : ℕ) → length (joined (suc n) ss) ≡ length (joined n ss) + length (bytes_of n ss)
  unfolding joined
  grown n = length-append (joined n ss) (bytes_of n ss)

  -- with the bytes of one number more
  covered_more : (n : ℕ) → length (joined n ss) + outside S ss (min (n * S) (length xs)) ≡ min (n * S) (length xs)
      → Dec (length xs ≤ n * S) → length (joined (suc n) ss) + outside S ss (min (suc n * S) (length xs))
      ≡ min (suc n * S) (length xs)
  covered_more n c (yes h) =
      let e : min (suc n * S) (length xs) ≡ min (n * S) (length xs) = omega arith in
      rw e (omega (arith, grown n, c, piece n (is_stored n ss) refl))
  covered_more n c (no h) =
      let j : ℕ = min S (length xs - n * S) in
      let e : min (suc n * S) (length xs) ≡ n * S + j = omega arith in
      let m : min (n * S) (length xs) ≡ n * S = omega arith in
      let d : length (joined n ss) + outside S ss (n * S) ≡ n * S = rw m at c in
      rw (e, block n j (omega arith)) (omega (arith, grown n, d, piece n (is_stored n ss) refl))

  covered : (n : ℕ) → length (joined n ss) + outside S ss (min (n * S) (length xs)) ≡ min (n * S) (length xs)
  unfolding joined outside
  covered zero = let e : min (0 * S) (length xs) ≡ 0 = omega (arith, zero-mul S) in rw e refl
  covered (suc n) = covered_more n (covered n) (dec_le (length xs) (n * S))

  pub part-covered : (numbers : ℕ) → IsCut numbers S xs → arrived numbers ss + outside S ss (length xs) ≡ length xs
  part-covered numbers c =
      let e : min (numbers * S) (length xs) ≡ length xs = omega (arith, c.enough) in
      rw e at (covered numbers)

-- none is outside: every number is in
none-outside : (S : ℕ) (ss : List Segment) (count : ℕ) → outside S ss count ≡ 0 → (i : ℕ) → i < count
    → is_stored (i / S) ss ≡ true
unfolding outside
none-outside S ss zero e i h = absurd (omega arith)
none-outside S ss (suc count) e i h =
    go (dec_le count i) (is_stored (count / S) ss) refl (none-outside S ss count (omega (arith, e)) i)
  where
    go : Dec (count ≤ i) → (b : Bool) → is_stored (count / S) ss ≡ b → (i < count → is_stored (i / S) ss ≡ true)
        → is_stored (i / S) ss ≡ true
    go (yes l) true f r = let d : i ≡ count = omega arith in rw d f
    go (yes l) false f r =
        let x : outside S ss count + pick (is_stored (count / S) ss) 0 1 ≡ 0 = e in
        let y : outside S ss count + 1 ≡ 0 = rw f at x in
        absurd (omega arith)
    go (no l) b f r = r (omega arith)

-- with one more stored, no more is outside
outside-less : (S : ℕ) (s : Segment) (ss : List Segment) (count : ℕ) → outside S (s ∷ ss) count ≤ outside S ss count
unfolding outside
outside-less S s ss zero = omega arith
outside-less S s ss (suc count) = omega (arith, outside-less S s ss count, one (eqb s.number (count / S)))
  where
    one : (b : Bool) → pick (pick b true (is_stored (count / S) ss)) 0 1 ≤ pick (is_stored (count / S) ss) 0 1
    one true = omega arith
    one false = omega arith

-- ---- a length that is known is the part's

shown-step : (b : Bool) (n k x : ℕ) (p : Record) → x ≡ p.size → pick b x k ≡ (add_part b n k p).size
shown-step true n k x p e = e
shown-step false n k x p e = refl

pub size-shown : (ss : List Segment) → size_shown ss ≡ (summary ss).part.size
size-shown [] = refl
size-shown (s ∷ ss) =
    shown-step s.last s.number (length s.bytes) (size_shown ss) (summary ss).part (size-shown ss)

from_step : (b : Bool) (S n k : ℕ) (x : Option ℕ) (p : Record) → x ≡ length_in S p.end p.tail
    → pick b (length_by S n k) x ≡ length_in S (add_part b n k p).end (add_part b n k p).tail
from_step true S n k x p e = refl
from_step false S n k x p e = e

length-from : (S : ℕ) (ss : List Segment)
    → length_from S ss ≡ length_in S (summary ss).part.end (summary ss).part.tail
length-from S [] = refl
length-from S (s ∷ ss) =
    from_step s.last S s.number (length s.bytes) (length_from S ss) (summary ss).part (length-from S ss)

-- the length that the last segment gives, by what is kept
pub length-summed : (ss : List Segment) → length_from (size_shown ss) ss
    ≡ length_in (summary ss).part.size (summary ss).part.end (summary ss).part.tail
length-summed ss = rw (size-shown ss) (length-from (summary ss).part.size ss)

by-is : (S L size n tail x : ℕ) → EndSits S L (suc n) tail → (size ≡ 0) ⊎ (size ≡ S) → length_by size n tail ≡ Some x
    → x ≡ L
by-is S L size zero tail x e z h = let y : x ≡ tail = cc in omega (arith, e.0, zero-mul S)
by-is S L zero (suc n) tail x e z h = let y : ◌≡◌ {A = ℕ} 0 1 = cc in absurd (omega arith)
by-is S L (suc size) (suc n) tail x e (inl z) h = absurd (omega arith)
by-is S L (suc size) (suc n) tail x e (inr z) h =
    let y : x ≡ suc n * suc size + tail = cc in
    let w : suc n * suc size ≡ suc n * S = ap (λ (k : ℕ). suc n * k) z in
    omega (arith, e.0)

in_is : (S L size end tail x : ℕ) → EndSits S L end tail → (size ≡ 0) ⊎ (size ≡ S) → length_in size end tail ≡ Some x
    → x ≡ L
in_is S L size zero tail x e z h = let y : ◌≡◌ {A = ℕ} 0 1 = cc in absurd (omega arith)
in_is S L size (suc n) tail x e z h = by-is S L size n tail x e z h

size_step : (b : Bool) (n k t : ℕ) (p : Record) → (t ≡ 0 → p.size ≡ 0)
    → add_top b n t ≡ 0 → (add_part b n k p).size ≡ 0
size_step true n k t p r e = r e
size_step false n k t p r e = absurd (omega arith)

pub size_none : (ss : List Segment) → (summary ss).top ≡ 0 → (summary ss).part.size ≡ 0
size_none [] e = refl
size_none (s ∷ ss) e =
    size_step s.last s.number (length s.bytes) (summary ss).top (summary ss).part (size_none ss) e

module _ (kind : Part) (limit : ℕ) (hs bs : List Segment) (f : Fits limit hs bs) where
  some-cut : 0 < cut_of kind f
  some-cut = omega (arith, (fits-within limit hs bs f kind).low)

  summed : SumSits (cut_of kind f) (length (part_of kind f)) (summary (those kind hs bs))
  summed =
      (sits-sum (cut_of kind f) (length (part_of kind f)) (those kind hs bs) some-cut (fits-sits limit hs bs f kind)).1

  size_is : ((summary (those kind hs bs)).part.size ≡ 0) ⊎ ((summary (those kind hs bs)).part.size ≡ cut_of kind f)
  size_is = go (summary (those kind hs bs)).top refl summed.0
    where
      go : (top : ℕ) → (summary (those kind hs bs)).top ≡ top
          → TopSits (cut_of kind f) (length (part_of kind f)) top (summary (those kind hs bs)).part.size
          → ((summary (those kind hs bs)).part.size ≡ 0) ⊎ ((summary (those kind hs bs)).part.size ≡ cut_of kind f)
      go zero e i = inl (size_none (those kind hs bs) e)
      go (suc top) e i = inr i.0

  last-length : (x : ℕ) → length_from (size_shown (those kind hs bs)) (those kind hs bs) ≡ Some x
      → x ≡ length (part_of kind f)
  last-length x e = in_is (cut_of kind f) (length (part_of kind f)) (summary (those kind hs bs)).part.size
      (summary (those kind hs bs)).part.end (summary (those kind hs bs)).part.tail x summed.1 size_is
      (sym (length-summed (those kind hs bs)) ∙ e)

length-as : (kind : Part) (limit : ℕ) (hs bs : List Segment) (f : Fits limit hs bs) (x : ℕ) (c : Option Sizes)
    → CoreIs f.header c → length_known kind c (those kind hs bs) ≡ Some x → x ≡ length (part_of kind f)
length-as Header limit hs bs f x None i h = last-length Header limit hs bs f x h
length-as Body limit hs bs f x None i h = last-length Body limit hs bs f x h
length-as Header limit hs bs f x (Some sizes) i h = let y : x ≡ sizes.header = cc in y ∙ i.1 ∙ f.object.says_header
length-as Body limit hs bs f x (Some sizes) i h = let y : x ≡ sizes.body = cc in y ∙ i.0 ∙ f.object.says_body

pub length-known : (kind : Part) (limit : ℕ) (hs bs : List Segment) (f : Fits limit hs bs) (x : ℕ)
    → length_known kind (core_of hs) (those kind hs bs) ≡ Some x → x ≡ length (part_of kind f)
length-known kind limit hs bs f x h =
    length-as kind limit hs bs f x (core_of hs)
    (core_is f.header f.header_cut hs f.header_cuts.low f.header_sent)
    h

-- ---- how much is missing

pub lacking-known : (a b : Option ℕ) (n x : ℕ) → lacking a b n ≡ Some x → (h : ℕ) × (k : ℕ) × (a ≡ Some h)
    × (b ≡ Some k) × (x ≡ h + k - n)
lacking-known None b n x e = let y : ◌≡◌ {A = ℕ} 0 1 = cc in absurd (omega arith)
lacking-known (Some h) None n x e = let y : ◌≡◌ {A = ℕ} 0 1 = cc in absurd (omega arith)
lacking-known (Some h) (Some k) n x e = (h, k, refl, refl, cc)

module _ (limit : ℕ) (hs bs : List Segment) (f : Fits limit hs bs) where
  header-covered : arrived header_numbers hs + outside f.header_cut hs (length f.header) ≡ length f.header
  header-covered = part-covered f.header f.header_cut hs (omega (arith, f.header_cuts.low)) f.header_sent
      header_numbers f.header_cuts

  body-covered : arrived body_numbers bs + outside f.body_cut bs (length f.body) ≡ length f.body
  body-covered = part-covered f.body f.body_cut bs (omega (arith, f.body_cuts.low)) f.body_sent body_numbers
      f.body_cuts

  -- WHICHEVER FITS has exactly that many bytes outside the segments
  pub missing-outside : (x : ℕ) → missing_of hs bs ≡ Some x → x ≡ outside_of f
  unfolding missing_of
  missing-outside x e =
      let r = lacking-known (length_known Header (core_of hs) hs) (length_known Body (core_of hs) bs)
      (arrived header_numbers hs + arrived body_numbers bs) x e in
      omega (
        arith,
        r.4,
        length-known Header limit hs bs f r.0 r.2,
        length-known Body limit hs bs f r.1 r.3,
        header-covered,
        body-covered,
      )

  whole_by : (kind : Part) → outside (cut_of kind f) (those kind hs bs) (length (part_of kind f)) ≡ 0
      → Each (Sends (part_of kind f) (cut_of kind f)) (those kind hs bs) → 0 < cut_of kind f
      → Whole (part_of kind f) (cut_of kind f) (those kind hs bs)
  whole_by kind e t z = (whole_numbers (part_of kind f) (cut_of kind f) (those kind hs bs) t).1 (λ n h.
      let d : (n * cut_of kind f + 0) / cut_of kind f ≡ n = digits_div n z in
      let g : n * cut_of kind f + 0 < length (part_of kind f) = omega arith in
      stored-numbered n (those kind hs bs)
      (rw d at (none-outside (cut_of kind f) (those kind hs bs) (length (part_of kind f)) e (n * cut_of kind f + 0) g)))

  -- NONE exactly when it is finished
  pub missing-none : (missing_of hs bs ≡ Some 0) ↔ Finished f
  unfolding missing_of
  missing-none = (
    (λ e.
        let o = missing-outside 0 e in
        record {
          header = whole_by Header (omega (arith, o)) f.header_sent (omega (arith, f.header_cuts.low));
          body = whole_by Body (omega (arith, o)) f.body_sent (omega (arith, f.body_cuts.low));
        }),
    (λ w.
        let j = finished-joined limit hs bs f w in
        let h : arrived header_numbers hs ≡ length f.header = ap length j.0 in
        let b : arrived body_numbers bs ≡ length f.body = ap length j.1 in
        let z : length f.header + length f.body - (length f.header + length f.body) ≡ 0 = omega arith in
        rw (finished-core limit hs bs f w, h, b, z) refl),
  )

-- ---- one segment more

-- a length that its last segment gives stays known
by-more : (size n k x : ℕ) → length_by size n k ≡ Some x → (size' : ℕ) → 0 < size' → (y : ℕ) × (length_by size' n k
    ≡ Some y)
by-more size zero k x e size' h = (k, refl)
by-more size (suc n) k x e zero h = absurd (omega arith)
by-more size (suc n) k x e (suc size') h = (suc n * suc size' + k, refl)

in-more : (b : Bool) (n k size end tail x : ℕ) → (b ≡ true → EndIs n k end tail) → (b ≡ false → 0 < k)
    → length_in size end tail ≡ Some x → (y : ℕ)
    × (pick b (length_in size (suc n) k) (length_in k end tail) ≡ Some y)
in-more b n k size zero tail x i h e = let y : ◌≡◌ {A = ℕ} 0 1 = cc in absurd (omega arith)
in-more true n k size (suc m) tail x i h e = let r = i refl in rw (r.0, r.1) (x, e)
in-more false n k size (suc m) tail x i h e = by-more size m tail x e k (h refl)

added-in : (b : Bool) (n k : ℕ) (p : Record) → pick b (length_in p.size (suc n) k) (length_in k p.end p.tail)
    ≡ length_in (add_part b n k p).size (add_part b n k p).end (add_part b n k p).tail
added-in true n k p = refl
added-in false n k p = refl

list-more : (s : Segment) (ss : List Segment) → JoinsAs s.last s.number (length s.bytes) (summary ss)
    → (s.last ≡ false → 0 < length s.bytes) → (x : ℕ) → length_from (size_shown ss) ss ≡ Some x → (y : ℕ)
    × (length_from (size_shown (s ∷ ss)) (s ∷ ss) ≡ Some y)
list-more s ss j h x e =
    let r = in-more s.last s.number (length s.bytes) (summary ss).part.size (summary ss).part.end
    (summary ss).part.tail x (last s.last j) h (sym (length-summed ss) ∙ e) in
    (r.0, length-summed (s ∷ ss) ∙ sym (added-in s.last s.number (length s.bytes) (summary ss).part) ∙ r.1)
  where
    last : (b : Bool) → JoinsAs b s.number (length s.bytes) (summary ss) → b ≡ true
        → EndIs s.number (length s.bytes) (summary ss).part.end (summary ss).part.tail
    last true j e = j
    last false j e = let y : ◌≡◌ {A = ℕ} 0 1 = cc in absurd (omega arith)

-- what the core says is known
seen-known : (part : Part) (sizes : Sizes) (ss : List Segment) → (y : ℕ) × (length_known part (Some sizes) ss ≡ Some y)
seen-known Header sizes ss = (sizes.header, refl)
seen-known Body sizes ss = (sizes.body, refl)

-- with a segment more of the part itself, and header segment 0 saying the same
own-more : (part : Part) (c : Option Sizes) (s : Segment) (ss : List Segment)
    → JoinsAs s.last s.number (length s.bytes) (summary ss) → (s.last ≡ false → 0 < length s.bytes)
    → (x : ℕ) → length_known part c ss ≡ Some x → (y : ℕ) × (length_known part c (s ∷ ss) ≡ Some y)
own-more part (Some sizes) s ss j h x e = seen-known part sizes (s ∷ ss)
own-more Header None s ss j h x e = list-more s ss j h x e
own-more Body None s ss j h x e = list-more s ss j h x e

-- with a header segment more, which may say both lengths
said_more : (part : Part) (b : Bool) (sizes : Sizes) (c : Option Sizes) (ss : List Segment)
    → (y : ℕ) × (length_known part c ss ≡ Some y) → (y : ℕ) × (length_known part (pick b (Some sizes) c) ss ≡ Some y)
said_more part true sizes c ss r = seen-known part sizes ss
said_more part false sizes c ss r = r

lacking-more : (a b : Option ℕ) (n : ℕ) → (y : ℕ) × (a ≡ Some y) → (y : ℕ) × (b ≡ Some y) → (y : ℕ)
    × (lacking a b n ≡ Some y)
lacking-more a b n (h, e) (k, f) = (h + k - n, rw (e, f) refl)

full-some : (S L : ℕ) (s : Segment) → 0 < S → Sits S L s → s.last ≡ false → 0 < length s.bytes
unfolding Sits
full-some S L s z t e = go s.last e t
  where
    go : (b : Bool) → b ≡ false → SitsAs b S L s.number (length s.bytes)
        → 0 < length s.bytes
    go true f u = let y : ◌≡◌ {A = ℕ} 0 1 = cc in absurd (omega arith)
    go false f u = omega (arith, u.0)

-- what is known stays known
known_more : (kind : Part) (limit : ℕ) (s : Segment) (hs bs : List Segment)
    → Fits limit (headers_with kind s hs) (bodies_with kind s bs) → (x : ℕ) → missing_of hs bs ≡ Some x → (y : ℕ)
    × (missing_of (headers_with kind s hs) (bodies_with kind s bs) ≡ Some y)
unfolding missing_of
known_more Header limit s hs bs f x e =
    let r = lacking-known (length_known Header (core_of hs) hs) (length_known Body (core_of hs) bs)
    (arrived header_numbers hs + arrived body_numbers bs) x e in
    let z : 0 < f.header_cut = omega (arith, f.header_cuts.low) in
    let t = fits-sits limit (s ∷ hs) bs f Header in
    let j = (fits-passes limit (s ∷ hs) bs f).header_clear in
    lacking-more (length_known Header (core_of (s ∷ hs)) (s ∷ hs)) (length_known Body (core_of (s ∷ hs)) bs)
    (arrived header_numbers (s ∷ hs) + arrived body_numbers bs)
    (said_more Header (eqb s.number 0) (sizes_of s.bytes) (core_of hs) (s ∷ hs)
    (own-more Header (core_of hs) s hs j.0 (full-some f.header_cut (length f.header) s z t.0) r.0 r.2))
    (said_more Body (eqb s.number 0) (sizes_of s.bytes) (core_of hs) bs (r.1, r.3))
known_more Body limit s hs bs f x e =
    let r = lacking-known (length_known Header (core_of hs) hs) (length_known Body (core_of hs) bs)
    (arrived header_numbers hs + arrived body_numbers bs) x e in
    let z : 0 < f.body_cut = omega (arith, f.body_cuts.low) in
    let t = fits-sits limit hs (s ∷ bs) f Body in
    let j = (fits-passes limit hs (s ∷ bs) f).body_clear in
    lacking-more (length_known Header (core_of hs) hs) (length_known Body (core_of hs) (s ∷ bs))
    (arrived header_numbers hs + arrived body_numbers (s ∷ bs)) (r.0, r.2)
    (own-more Body (core_of hs) s bs j.0 (full-some f.body_cut (length f.body) s z t.0) r.1 r.3)

less-outside : (kind : Part) (limit : ℕ) (s : Segment) (hs bs : List Segment)
    (f : Fits limit (headers_with kind s hs) (bodies_with kind s bs)) → outside_of f
    ≤ outside_of (fits-less kind limit s hs bs f)
less-outside Header limit s hs bs f = omega (arith, outside-less f.header_cut s hs (length f.header))
less-outside Body limit s hs bs f = omega (arith, outside-less f.body_cut s bs (length f.body))

-- IT NEVER RISES: with one segment more, of either part, no more bytes are missing, and the number stays known
pub missing-falls : (kind : Part) (limit : ℕ) (s : Segment) (hs bs : List Segment)
    → Fits limit (headers_with kind s hs) (bodies_with kind s bs) → (x : ℕ) → missing_of hs bs ≡ Some x → (y : ℕ)
    × (missing_of (headers_with kind s hs) (bodies_with kind s bs) ≡ Some y) × (y ≤ x)
missing-falls kind limit s hs bs f x e =
    let r = known_more kind limit s hs bs f x e in
    let p = missing-outside limit (headers_with kind s hs) (bodies_with kind s bs) f r.0 r.1 in
    let q = missing-outside limit hs bs (fits-less kind limit s hs bs f) x e in
    (r.0, r.1, omega (arith, less-outside kind limit s hs bs f))

-- ---- no length is large

pub whole-low : (p : Record) → Small p → 1 ≤ p.end → (p.end - 1) * p.size + p.tail ≤ body_numbers * size_most
whole-low p s h =
    let l : p.end - 1 ≤ 1023 = omega (arith, s.end) in
    omega (arith, mul-le-mul_right p.size l, s.size, s.tail h)

in-low : (size end tail n : ℕ) → length_in size end tail ≡ Some n → (1 ≤ end) × (n ≤ (end - 1) * size + tail)
in-low size zero tail n e = let y : ◌≡◌ {A = ℕ} 0 1 = cc in absurd (omega arith)
in-low size (suc zero) tail n e = let y : n ≡ tail = cc in (omega arith, omega arith)
in-low zero (suc (suc m)) tail n e = let y : ◌≡◌ {A = ℕ} 0 1 = cc in absurd (omega arith)
in-low (suc size) (suc (suc m)) tail n e =
    let y : n ≡ suc m * suc size + tail = cc in
    let d : suc (suc m) - 1 ≡ suc m = omega arith in
    (omega arith, rw d (omega arith))

last-low : (p : Record) → Small p → (n : ℕ) → length_in p.size p.end p.tail ≡ Some n → n < 0x10000000
last-low p s n e = let r = in-low p.size p.end p.tail n e in omega (arith, r.1, whole-low p s r.0)

pub length-low : (part : Part) (core : Option Sizes) (p : Record) → Narrow core → Small p → (n : ℕ)
    → length_kept part core p ≡ Some n → n < 0x10000000
length-low Header None p w s n e = last-low p s n e
length-low Body None p w s n e = last-low p s n e
length-low Header (Some sizes) p w s n e = let y : n ≡ sizes.header = cc in omega (arith, w.1)
length-low Body (Some sizes) p w s n e = let y : n ≡ sizes.body = cc in omega (arith, w.0)

-- ---- as a slot keeps it

pub amount-back : (x : Option ℕ) → amount_of (amount_kept x) ≡ x
amount-back None = refl
amount-back (Some bytes) = refl

outside-most : (S : ℕ) (ss : List Segment) (count : ℕ) → outside S ss count ≤ count
unfolding outside
outside-most S ss zero = omega arith
outside-most S ss (suc count) = omega (arith, outside-most S ss count, one (is_stored (count / S) ss))
  where
    one : (b : Bool) → pick b 0 1 ≤ 1
    one true = omega arith
    one false = omega arith

-- it has 32 bits
pub missing-narrow : (limit : ℕ) (hs bs : List Segment) → limit ≤ limit_most → Fits limit hs bs
    → amount_kept (missing_of hs bs) < 0x100000000
missing-narrow limit hs bs z f = go (missing_of hs bs) refl
  where
    go : (x : Option ℕ) → missing_of hs bs ≡ x → amount_kept x < 0x100000000
    go None e = omega arith
    go (Some n) e =
        omega (
          arith,
          z,
          missing-outside limit hs bs f n e,
          outside-most f.header_cut hs (length f.header),
          outside-most f.body_cut bs (length f.body),
          f.object.header_high,
          f.object.body_high,
        )
