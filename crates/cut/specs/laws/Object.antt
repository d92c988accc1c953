-- Header and body together: only the core fields join the two. Segments fit an object and a cut exactly when they agree
-- and the tests pass.
use Rattle.std.specs.Prelude.{◌≡◌, Bool, true, false, Option, Some, None, List, [], ◌∷◌, ◌++◌, ℕ, ◌-◌, ◌*◌, ◌≤◌, ◌<◌, take, drop, replicate, eqb}
use Rattle.std.proofs.Math.Path.{refl}
use Rattle.std.proofs.Common.{sym, ap, ◌∙◌, zero-mul, arith, length-append}
use Rattle.std.proofs.Math.ListN.{length}
use Rattle.std.proofs.lemmas.List.{length-replicate}
use borrow.Author.Tests.{eqb-true, eqb-false, leb-true, le-leb}
use Rattle.cut.specs.laws.Lists.{each_map, bytes-append, bytes-zeros}
use Rattle.cut.specs.Requirement.{header_least, header_most, limit_most, size_least, header_numbers, body_numbers, body_size, header_size, IsObject, IsCut, Segment, Sends, Fits}
use Rattle.answer.specs.declared.Part.{Part}
use Rattle.answer.specs.declared.Part.TheVariants.{Header, Body}
use Rattle.cut.specs.declared.Sizes.{Sizes}
use Rattle.cut.specs.declared.Bounds.{Bounds}
use Rattle.cut.specs.Decision.{core_tests, core_fits, possible, suit_tests, suits, suits_both}
use Rattle.cut.specs.Kept.{bounds_of, summary, sizes_of, core_of}
use Rattle.cut.specs.laws.Core.{core_bytes, core-body, core-header, core-is-bytes, front-body, front-header}
use Rattle.cut.specs.Parts.{those, part_of, cut_of}
use Rattle.cut.specs.laws.Segment.{Sits, Agree, Within, PartFits, PartSits, sits-fits, sends-agree, sends-sits, sent-holds, sent-bytes, fill, fill-length, fill-bytes, fill-sends, fill-front}
use Rattle.cut.specs.laws.Decision.{Clear, all_true, true-all, sits-possible, possible-sits}
use Rattle.cut.specs.Lists.{pick, Each, Bytes}

-- ---- what header segment 0 says

-- c is what a header says, or nothing
abbrev pub CoreIs : List ℕ → Option Sizes → Type 0
CoreIs xs None = Unit {0}
CoreIs xs (Some sizes) = (sizes.body ≡ body_size xs) × (sizes.header ≡ header_size xs)

sent-core : (xs : List ℕ) (S : ℕ) (s : Segment) → size_least ≤ S → Sends xs S s → s.number ≡ 0
    → (body_size s.bytes ≡ body_size xs) × (header_size s.bytes ≡ header_size xs)
sent-core xs S s g t e =
    let f : s.bytes ≡ take S xs = sent-holds xs S s t
    ∙ ap (λ (n : ℕ). take S (drop n xs)) (ap (λ (n : ℕ). n * S) e ∙ zero-mul S) in
    (ap body_size f ∙ front-body S xs (omega arith), ap header_size f ∙ front-header S xs (omega arith))

core-step : (xs : List ℕ) (S : ℕ) (s : Segment) (c : Option Sizes) → size_least ≤ S → Sends xs S s → CoreIs xs c
    → (b : Bool) → eqb s.number 0 ≡ b → CoreIs xs (pick b (Some (sizes_of s.bytes)) c)
core-step xs S s c g t r true e = sent-core xs S s g t (eqb-true s.number 0 e)
core-step xs S s c g t r false e = r

pub core_is : (xs : List ℕ) (S : ℕ) (ss : List Segment) → size_least ≤ S → Each (Sends xs S) ss → CoreIs xs (core_of ss)
core_is xs S [] g t = tt
core_is xs S (s ∷ ss) g t = core-step xs S s (core_of ss) g t.0 (core_is xs S ss g t.1) (eqb s.number 0) refl

unseen-step : (n : ℕ) (sizes : Sizes) (c : Option Sizes) (b : Bool) → eqb n 0 ≡ b → pick b (Some sizes) c ≡ None
    → (0 < n) × (c ≡ None)
unseen-step n sizes c true e f = let z : ◌≡◌ {A = ℕ} 0 1 = cc in absurd (omega arith)
unseen-step n sizes c false e f = let h : ¬ (n ≡ 0) = eqb-false n 0 e in (omega arith, f)

-- nothing is said: segment 0 is not in
pub core-unseen : (ss : List Segment) → core_of ss ≡ None → Each (λ s. 0 < s.number) ss
core-unseen [] e = tt
core-unseen (s ∷ ss) e =
    let r = unseen-step s.number (sizes_of s.bytes) (core_of ss) (eqb s.number 0) refl e
    in
    (r.0, core-unseen ss r.1)

-- ---- an object's segments pass the tests

-- the segments of each part agree, and what is kept of them suits some object and cut
pub record Passes (limit : ℕ) (hs bs : List Segment) : Type 0 where
  pub header_agree : Agree hs
  pub header_clear : Clear hs
  pub body_agree : Agree bs
  pub body_clear : Clear bs
  pub suit : suits_both limit (core_of hs) (summary hs) (summary bs) ≡ true

-- a size and a length within the bounds of a part
abbrev pub WithinOf : Bounds → ℕ → ℕ → Type 0
WithinOf b S L = Within b.least b.most b.numbers S L

within_of : (b : Bounds) (S : ℕ) (xs : List ℕ) → b.least ≤ length xs → length xs ≤ b.most → 1 ≤ b.numbers
    → IsCut b.numbers S xs → WithinOf b S (length xs)
within_of b S xs l m o c = record { long = l; short = m; low = c.low; high = c.high; enough = c.enough; any = o }

-- the object is within the bounds of each part, whatever its header has said so far
module _ (limit : ℕ) (hs bs : List Segment) (f : Fits limit hs bs) where
  o : IsObject limit f.header f.body
  o = f.object

  within-as : (kind : Part) (c : Option Sizes) → CoreIs f.header c → WithinOf (bounds_of kind limit c) (cut_of kind f)
      (length (part_of kind f))
  unfolding bounds_of
  within-as Header None i = within_of (bounds_of Header limit None) f.header_cut f.header o.header_low
      o.header_high (omega arith) f.header_cuts
  within-as Header (Some sizes) i = let h : sizes.header ≡ length f.header = i.1 ∙ o.says_header in
      within_of (bounds_of Header limit (Some sizes)) f.header_cut f.header (omega arith) (omega arith) (omega arith)
      f.header_cuts
  within-as Body None i = within_of (bounds_of Body limit None) f.body_cut f.body (omega arith) o.body_high
      (omega arith) f.body_cuts
  within-as Body (Some sizes) i = let h : sizes.body ≡ length f.body = i.0 ∙ o.says_body in
      within_of (bounds_of Body limit (Some sizes)) f.body_cut f.body (omega arith) (omega arith) (omega arith)
      f.body_cuts

  core-now : CoreIs f.header (core_of hs)
  core-now = core_is f.header f.header_cut hs f.header_cuts.low f.header_sent

  pub fits-within : (kind : Part) → WithinOf (bounds_of kind limit (core_of hs)) (cut_of kind f) (length (part_of kind f))
  fits-within kind = within-as kind (core_of hs) core-now

  pub fits-sits : (kind : Part) → Each (Sits (cut_of kind f) (length (part_of kind f))) (those kind hs bs)
  fits-sits Header = each_map (λ s u. sends-sits f.header f.header_cut s u) hs f.header_sent
  fits-sits Body = each_map (λ s u. sends-sits f.body f.body_cut s u) bs f.body_sent

  fits-possible : (kind : Part) → Clear (those kind hs bs)
      × (possible (bounds_of kind limit (core_of hs)) (summary (those kind hs bs)).top (summary (those kind hs bs)).part
      ≡ true)
  fits-possible kind = sits-possible (bounds_of kind limit (core_of hs)) (those kind hs bs)
      (record { size = cut_of kind f; long = length (part_of kind f); within = fits-within kind; sits = fits-sits kind })

  core-sits : (c : Option Sizes) → CoreIs f.header c → core_fits limit c ≡ true
  unfolding core_fits
  core-sits None i = refl
  core-sits (Some sizes) i =
      let h : sizes.header ≡ length f.header = i.1 ∙ o.says_header in
      let b : sizes.body ≡ length f.body = i.0 ∙ o.says_body in
      true-all (core_tests limit (Some sizes)) (omega (arith, le-leb, o.header_low, o.header_high, o.body_high))

  pub fits-core : core_fits limit (core_of hs) ≡ true
  fits-core = core-sits (core_of hs) core-now

  pub fits-passes : Passes limit hs bs
  unfolding suits
  fits-passes = record {
    header_agree = sends-agree f.header f.header_cut hs f.header_sent;
    header_clear = (fits-possible Header).0;
    body_agree = sends-agree f.body f.body_cut bs f.body_sent;
    body_clear = (fits-possible Body).0;
    suit = true-all (suit_tests limit (core_of hs) (summary hs).top (summary hs).part (summary bs).top
        (summary bs).part)
        (fits-core, ((fits-possible Header).1, ((fits-possible Body).1, tt)));
  }

  pub header-bytes : Each (λ s. Bytes s.bytes) hs
  header-bytes = each_map (λ s t. sent-bytes f.header f.header_cut s o.header_bytes t) hs f.header_sent

  pub body-bytes : Each (λ s. Bytes s.bytes) bs
  body-bytes = each_map (λ s t. sent-bytes f.body f.body_cut s o.body_bytes t) bs f.body_sent

-- ---- segments that pass them fit an object

is_cut : (least most numbers S : ℕ) (xs : List ℕ) → Within least most numbers S (length xs) → IsCut numbers S xs
is_cut least most numbers S xs w = record { low = w.low; high = w.high; enough = w.enough }

-- an object fits, cut at these sizes
abbrev pub FitsAt : ℕ → List Segment → List Segment → ℕ → ℕ → Type 0
FitsAt limit hs bs S T = (f : Fits limit hs bs) × (f.header_cut ≡ S) × (f.body_cut ≡ T)

-- both sizes are known: each part alone, of its length
fits-seen : (limit : ℕ) (sizes : Sizes) (hs bs : List Segment) → core_of hs ≡ Some sizes → header_least ≤ sizes.header
    → sizes.header ≤ header_most → sizes.body ≤ limit → (f : PartFits sizes.header sizes.header header_numbers hs)
    (g : PartFits sizes.body sizes.body body_numbers bs) → FitsAt limit hs bs f.size g.size
fits-seen limit sizes hs bs e a b c f g =
    let i : CoreIs f.part (Some sizes) = rw e at (core_is f.part f.size hs f.within.low f.sent) in
    let l : length f.part ≡ sizes.header = omega (arith, f.within.long, f.within.short) in
    let m : length g.part ≡ sizes.body = omega (arith, g.within.long, g.within.short) in (
      record {
        header = f.part;
        body = g.part;
        object = record {
          header_low = omega arith;
          header_high = omega arith;
          body_high = omega arith;
          header_bytes =
              f.is_bytes;
          body_bytes = g.is_bytes;
          says_body = sym i.0 ∙ sym m;
          says_header = sym i.1 ∙ sym l;
        };
        header_cut = f.size;
        body_cut = g.size;
        header_cuts = is_cut sizes.header sizes.header header_numbers f.size f.part f.within;
        body_cuts = is_cut sizes.body sizes.body body_numbers g.size g.part g.within;
        header_sent = f.sent;
        body_sent = g.sent;
      },
      refl,
      refl,
    )

-- header segment 0 is not in: the sizes are free, and are written where it will stand
base : ℕ → ℕ → List ℕ
base B L = core_bytes B L 0 0 ++ replicate (L - 7) 0

base-length : (B L : ℕ) → header_least ≤ L → length (base B L) ≡ L
unfolding base core_bytes
base-length B L h = rw (length-append, length-replicate) (omega arith)

base-bytes : (B L : ℕ) → B < 0x10000000 → L < 0x2000 → Bytes (base B L)
unfolding base
base-bytes B L b l = bytes-append (core_bytes B L 0 0) (replicate (L - 7) 0)
    (core-is-bytes B L 0 0 b l (omega arith) (omega arith)) (bytes-zeros (L - 7))

base-body : (B L : ℕ) → B < 0x10000000 → L < 0x2000 → body_size (base B L) ≡ B
unfolding base
base-body B L b l = core-body B L 0 0 (replicate (L - 7) 0) b l (omega arith) (omega arith)

base-header : (B L : ℕ) → B < 0x10000000 → L < 0x2000 → header_size (base B L) ≡ L
unfolding base
base-header B L b l = core-header B L 0 0 (replicate (L - 7) 0) b l (omega arith) (omega arith)

fits-unseen : (limit : ℕ) (hs bs : List Segment) → limit ≤ limit_most → Each (λ s. Bytes s.bytes) hs
    → Each (λ s. 0 < s.number) hs → Agree hs → (f : PartSits header_least header_most header_numbers hs)
    (g : PartFits 0 limit body_numbers bs) → FitsAt limit hs bs f.size g.size
fits-unseen limit hs bs z y u a f g = (
  record {
    header = xs;
    body = g.part;
    object = record {
      header_low = omega (arith, f.within.long, len);
      header_high =
          omega (arith, f.within.short, len);
      body_high = g.within.short;
      header_bytes =
          fill-bytes base' f.size hs (base-bytes B L b l) y;
      body_bytes = g.is_bytes;
      says_body = sb;
      says_header = sh;
    };
    header_cut = f.size;
    body_cut = g.size;
    header_cuts = record { low = f.within.low; high = f.within.high; enough = rw len f.within.enough };
    body_cuts = is_cut 0 limit body_numbers g.size g.part g.within;
    header_sent = fill-sends base' f.size hs o s a;
    body_sent = g.sent;
  },
  refl,
  refl,
)
  where
    B : ℕ
    B = length g.part

    L : ℕ
    L = f.long

    b : B < 0x10000000
    b = omega (arith, g.within.short)

    l : L < 0x2000
    l = omega (arith, f.within.short)

    base' : List ℕ
    base' = base B L

    o : 0 < f.size
    o = omega (arith, f.within.low)

    e : length base' ≡ L
    e = base-length B L f.within.long

    s : Each (Sits f.size (length base')) hs
    s = rw e f.sits

    xs : List ℕ
    xs = fill base' f.size hs

    len : length xs ≡ L
    len = fill-length base' f.size hs o s ∙ e

    front : take header_least xs ≡ take header_least base'
    front = fill-front header_least base' f.size hs o (omega (arith, f.within.low)) s u

    sb : body_size xs ≡ B
    sb = sym (front-body header_least xs (omega arith)) ∙ ap body_size front ∙ front-body header_least base' (omega arith)
        ∙ base-body B L b l

    sh : header_size xs ≡ length xs
    sh = sym (front-header header_least xs (omega arith)) ∙ ap header_size front
        ∙ front-header header_least base' (omega arith) ∙ base-header B L b l ∙ sym len

-- segments that agree fit an object cut at any sizes that suit each part
pub sits-object : (limit : ℕ) (hs bs : List Segment) → limit ≤ limit_most → Each (λ s. Bytes s.bytes) hs
    → Each (λ s. Bytes s.bytes) bs → Agree hs → Agree bs → (c : Option Sizes) → core_of hs ≡ c
    → core_fits limit c ≡ true
    → (p : PartSits (bounds_of Header limit c).least (bounds_of Header limit c).most (bounds_of Header limit c).numbers
    hs) (q : PartSits (bounds_of Body limit c).least (bounds_of Body limit c).most (bounds_of Body limit c).numbers bs)
    → FitsAt limit hs bs p.size q.size
unfolding bounds_of core_fits
sits-object limit hs bs z yh yb ah ab None e k p q =
    let g = sits-fits 0 limit body_numbers bs yb q ab in
    let f = fits-unseen limit hs bs z yh (core-unseen hs e) ah p g.0 in
    (f.0, f.1, f.2 ∙ g.1)
sits-object limit hs bs z yh yb ah ab (Some sizes) e k p q =
    let t = all_true (core_tests limit (Some sizes)) k in
    let h = sits-fits sizes.header sizes.header header_numbers hs yh p ah in
    let g = sits-fits sizes.body sizes.body body_numbers bs yb q ab in
    let f = fits-seen limit sizes hs bs e (leb-true header_least sizes.header t.0)
    (leb-true sizes.header header_most t.1.0) (leb-true sizes.body limit t.1.1.0) h.0 g.0 in
    (f.0, f.1 ∙ h.1, f.2 ∙ g.1)

pub passes-fits : (limit : ℕ) (hs bs : List Segment) → limit ≤ limit_most → Each (λ s. Bytes s.bytes) hs
    → Each (λ s. Bytes s.bytes) bs → Passes limit hs bs → Fits limit hs bs
unfolding suits
passes-fits limit hs bs z yh yb t =
    let r = all_true (suit_tests limit (core_of hs) (summary hs).top (summary hs).part (summary bs).top
    (summary bs).part) t.suit in
    (sits-object limit hs bs z yh yb t.header_agree t.body_agree (core_of hs) refl r.0
    (possible-sits (bounds_of Header limit (core_of hs)) hs t.header_clear r.1.0)
    (possible-sits (bounds_of Body limit (core_of hs)) bs t.body_clear r.1.1.0)).0
