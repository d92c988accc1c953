-- Both parts of a slot that holds segments: what is read off them is what these segments give, the test is exact, and
-- one segment more is held.
use Rattle.std.specs.Prelude.{◌≡◌, refl, ◌↔◌, Bool, true, false, Option, Some, None, List, [], ◌∷◌, ℕ, zero, suc, ◌*◌, ◌≤◌, ◌<◌, max, length, take, get_or, eqb, leb}
use Rattle.std.proofs.Common.{sym, ap, ◌∙◌, subst, inl, inr, zero-mul, arith, length-set, eqb-true, le-leb}
use Rattle.std.proofs.lemmas.Bool.{eqb-false}
use Rattle.answer.specs.declared.Part.{Part}
use Rattle.answer.specs.declared.Part.TheVariants.{Header, Body}
use Rattle.cut.specs.laws.Lists.{each-zip}
use Rattle.cut.specs.Requirement.{header_least, header_numbers, body_numbers, size_least, limit_most, body_size, header_size, Segment, Fits}
use Rattle.cut.specs.declared.Sizes.{Sizes}
use Rattle.cut.specs.declared.Bounds.{Bounds}
use Rattle.cut.specs.declared.Record.{Record}
use Rattle.cut.specs.Kept.{bounds_of, add_part, add_top, summary, some_full, settle, record_of, sizes_of, core_after, core_of}
use Rattle.cut.specs.laws.Core.{front-body, front-header}
use Rattle.cut.specs.laws.Segment.{SitsAs, Sits, Numbered, Agree, sent-number}
use Rattle.cut.specs.laws.Decision.{Clear}
use Rattle.cut.specs.laws.Object.{WithinOf, fits-within, fits-sits, fits-core, fits-passes}
use Rattle.cut.specs.Parts.{headers_with, bodies_with, those, part_of, cut_of}
use Rattle.cut.specs.laws.Order.{core-absent}
use Rattle.cut.specs.laws.Marks.{Marked}
use Rattle.cut.specs.Sums.{full_in}
use Rattle.cut.specs.laws.Sums.{full-kept, settle-again, settle-full, settle-last, taken}
use Rattle.cut.specs.laws.Theorem.{fits-less}
use Rattle.cut.specs.Lists.{pick, Each, Bytes}
use Rattle.part.specs.Memory.{Memory, place_of, segment_at}
use Rattle.part.specs.Moves.{settled, put}
use Rattle.object.specs.Take.{takes_in, parts_with}
use Rattle.part.specs.Asked.{record_with, record_within}
use Rattle.object.specs.laws.Shape.{Shaped}
use Rattle.object.specs.laws.Inside.{bounds-most, share-width}
use Rattle.object.specs.laws.Held.{Gathers}
use Rattle.object.specs.Parts.{Parts, memory_of}
use Rattle.object.specs.Stage.{core_in}
use Rattle.part.specs.laws.Keeps.{LaidAs, Laid, Keeps}
use Rattle.part.specs.laws.Step.{Room, Met, reads, settled-length, settled-keeps, put-length, put_keeps}

-- ---- what a fitting object says of a part

pub fits-room : (part : Part) (limit : ℕ) (ps : Parts) (hs bs : List Segment) (f : Fits limit hs bs) → Shaped limit ps
    → Room (bounds_of part limit (core_of hs)) (cut_of part f) (length (part_of part f)) (memory_of part ps)
    (those part hs bs)
fits-room part limit ps hs bs f h =
    let w = fits-within limit hs bs f part in
    record {
      within = w;
      space = omega (
        arith,
        w.short,
        bounds-most part limit (core_of hs) (fits-core limit hs bs f),
        share-width part limit ps h,
      );
      sits = fits-sits limit hs bs f part;
    }

pub part-keeps : (part : Part) (limit : ℕ) (ps : Parts) (hs bs : List Segment) → Gathers limit ps hs bs
    → Keeps (bounds_of part limit (core_of hs)) (memory_of part ps) (those part hs bs)
part-keeps Header limit ps hs bs g = g.header
part-keeps Body limit ps hs bs g = g.body

pub part-reads : (part : Part) (limit : ℕ) (ps : Parts) (hs bs : List Segment) → Gathers limit ps hs bs
    → Each (λ s. segment_at (memory_of part ps) s.number ≡ s) (those part hs bs)
part-reads part limit ps hs bs g = reads (bounds_of part limit (core_of hs)) (cut_of part g.object)
    (length (part_of part g.object)) (memory_of part ps) (those part hs bs) (part-keeps part limit ps hs bs g)
    (fits-room part limit ps hs bs g.object g.shape)

-- ---- what header segment 0 says, read off the header's share

place-first : (last : Bool) (size width k : ℕ) → place_of last size width 0 k ≡ 0
place-first false size width k = zero-mul size
place-first true zero width k = refl
place-first true (suc size) width k = zero-mul (suc size)

laid-first : (last : Bool) (size n : ℕ) (share bytes : List ℕ) → n ≡ 0 → LaidAs last size share n bytes
    → take (length bytes) share ≡ bytes
laid-first last size n share bytes e p = rw (e, place-first) at p

first-long : (last : Bool) (S L n k : ℕ) → size_least ≤ S → header_least ≤ L → n ≡ 0 → SitsAs last S L n k
    → header_least ≤ k
first-long true S L n k h g e t = let z : n * S ≡ 0 = ap (λ (x : ℕ). x * S) e ∙ zero-mul S in omega (arith, t.0)
first-long false S L n k h g e t = omega (arith, t.0)

-- a segment 0 that is laid says what the share says
abbrev Says : List ℕ → Segment → Type 0
Says share s = s.number ≡ 0 → (body_size s.bytes ≡ body_size share) × (header_size s.bytes ≡ header_size share)

first_says : (S L size : ℕ) (share : List ℕ) (s : Segment) → size_least ≤ S → header_least ≤ L → Sits S L s
    → Laid size share s → Says share s
unfolding Sits Laid
first_says S L size share s h g t p e =
    let f : take (length s.bytes) share ≡ s.bytes = laid-first s.last size s.number share s.bytes e p in
    let l : header_least ≤ length s.bytes = first-long s.last S L s.number (length s.bytes) h g e t in (
      ap body_size (sym f) ∙ front-body (length s.bytes) share l,
      ap header_size (sym f)
          ∙ front-header (length s.bytes) share l,
    )

core-present : (share : List ℕ) (ss : List Segment) → Each (Says share) ss → Numbered 0 ss → core_of ss
    ≡ Some (sizes_of share)
core-present share [] e i = absurd i
core-present share (s ∷ ss) e i = go (eqb s.number 0) refl i (core-present share ss e.1)
  where
    go : (b : Bool) → eqb s.number 0 ≡ b → Numbered 0 (s ∷ ss)
        → (Numbered 0 ss → core_of ss ≡ Some (sizes_of share))
        → pick b (Some (sizes_of s.bytes)) (core_of ss) ≡ Some (sizes_of share)
    go true x j rest = let r = e.0 (eqb-true s.number 0 x) in rw (r.0, r.1) refl
    go false x (inl j) rest = absurd (eqb-false s.number 0 x j)
    go false x (inr j) rest = rest j

-- segments of a part that is long enough, laid in the header's share and marked there, say what is read off it
pub core-laid : (m : Memory) (S L : ℕ) (ss : List Segment) → size_least ≤ S → header_least ≤ L → Each (Sits S L) ss
    → Each (Laid m.kept.size m.share) ss → Marked m.marks ss → core_in m ≡ core_of ss
unfolding core_in
core-laid m S L ss h g t p k = go (get_or m.marks 0 0) (k.marked 0)
  where
    says : Each (Says m.share) ss
    says = each-zip (λ s t p. first_says S L m.kept.size m.share s h g t p) ss t p

    go : (mark : ℕ) → (0 < mark) ↔ Numbered 0 ss
        → pick (leb 1 mark) (Some (sizes_of m.share)) None ≡ core_of ss
    go zero i = sym (core-absent ss (λ j. let z : 0 < 0 = i.1 j in omega arith))
    go (suc mark) i =
        rw (le-leb 1 (suc mark) (omega arith)) (sym (core-present m.share ss says (i.0 (omega arith))))

pub core-read : (limit : ℕ) (ps : Parts) (hs bs : List Segment) → Gathers limit ps hs bs → core_in ps.header
    ≡ core_of hs
core-read limit ps hs bs g =
    let f = g.object in
    core-laid ps.header f.header_cut (length f.header) hs f.header_cuts.low f.object.header_low
    (fits-sits limit hs bs f Header) g.header.laid g.header.marked

-- ---- the records

pass : (limit : ℕ) (hs bs : List Segment) → Fits limit hs bs → (part : Part) → Agree (those part hs bs)
    × Clear (those part hs bs)
pass limit hs bs f Header = let p = fits-passes limit hs bs f in (p.header_agree, p.header_clear)
pass limit hs bs f Body = let p = fits-passes limit hs bs f in (p.body_agree, p.body_clear)

with-as : (last : Bool) (b c : Bounds) (n k top : ℕ) (p : Record)
    → settle c (pick last (leb 1 top) true) (add_part last n k (settle b (leb 1 top) p))
    ≡ settle c (leb 1 (add_top last n top)) (add_part last n k p)
with-as true b c n k top p = settle-last c b (leb 1 top) n k p
with-as false b c n k top p = rw (le-leb 1 (max (suc n) top) (omega arith)) (settle-full c b (leb 1 top) n k p)

module _ (part : Part) (limit : ℕ) (ps : Parts) (hs bs : List Segment) (g : Gathers limit ps hs bs) where
  k : Keeps (bounds_of part limit (core_of hs)) (memory_of part ps) (those part hs bs)
  k = part-keeps part limit ps hs bs g

  pub full-read : full_in (memory_of part ps).kept (memory_of part ps).marks ≡ some_full (summary (those part hs bs))
  full-read =
      let p = pass limit hs bs g.object part in
      rw k.kept
      (full-kept (bounds_of part limit (core_of hs)) (bounds_of part limit (core_of hs)) (memory_of part ps).marks
      (those part hs bs) k.marked p.0 p.1)

  record-with : (c : Bounds) (s : Segment) → record_with c s (memory_of part ps)
      ≡ record_of c (summary (s ∷ those part hs bs))
  unfolding record_with
  record-with c s =
      rw (full-read, k.kept) (with-as s.last (bounds_of part limit (core_of hs)) c s.number (length s.bytes)
      (summary (those part hs bs)).top (summary (those part hs bs)).part)

  record-within : (c : Bounds) → record_within c (memory_of part ps) ≡ record_of c (summary (those part hs bs))
  unfolding record_within
  record-within c =
      rw (full-read, k.kept) (settle-again c (bounds_of part limit (core_of hs)) (some_full (summary (those part hs bs)))
      (summary (those part hs bs)).part)

-- ---- the test is exact

pub takes-fits : (part : Part) (limit : ℕ) (s : Segment) (ps : Parts) (hs bs : List Segment) → limit ≤ limit_most
    → Bytes s.bytes → Gathers limit ps hs bs → ¬ (Numbered s.number (those part hs bs))
    → (takes_in part limit s ps ≡ true) ↔ Fits limit (headers_with part s hs) (bodies_with part s bs)
unfolding takes_in
takes-fits Header limit s ps hs bs z y g a = rw (core-read limit ps hs bs g, g.header.kept, g.body.kept)
    (taken limit hs bs g.object ps.header.marks ps.body.marks g.header.marked g.body.marked Header s
    z y a)
takes-fits Body limit s ps hs bs z y g a = rw (core-read limit ps hs bs g, g.header.kept, g.body.kept)
    (taken limit hs bs g.object ps.header.marks ps.body.marks g.header.marked g.body.marked Body s z
    y a)

-- ---- one segment more

-- what was said stays said, so bounds that have met stay so
after-unseen : (b : Bool) (c d : Option Sizes) (sizes : Sizes) → pick b (Some sizes) c ≡ d → d ≡ None → c ≡ None
after-unseen true c d sizes e f = let z : ◌≡◌ {A = ℕ} 0 1 = cc in absurd (omega arith)
after-unseen false c d sizes e f = e ∙ f

met-as : (part : Part) (limit : ℕ) (c d : Option Sizes) → (d ≡ None → c ≡ None) → Met (bounds_of part limit c)
    → Met (bounds_of part limit d)
unfolding bounds_of
met-as Header limit c (Some sizes) h e = refl
met-as Body limit c (Some sizes) h e = refl
met-as Header limit c None h e = rw (h refl) at e
met-as Body limit c None h e = rw (h refl) at e

met-after : (part : Part) (limit : ℕ) (s : Segment) (c : Option Sizes) → Met (bounds_of part limit c)
    → Met (bounds_of part limit (core_after s c))
met-after part limit s c =
    met-as part limit c (core_after s c)
    (after-unseen (eqb s.number 0) c (core_after s c) (sizes_of s.bytes) refl)

put-marks : (s : Segment) (p : Record) (m : Memory) → length (put s (settled p m)).marks ≡ length m.marks
unfolding put settled
put-marks s p m = length-set m.marks s.number 1

settled-marks : (p : Record) (m : Memory) → (settled p m).marks ≡ m.marks
unfolding settled
settled-marks p m = refl

-- the parts that are left, by the records that the segments give
header-parts : (limit : ℕ) (s : Segment) (ps : Parts) (hs bs : List Segment) → Gathers limit ps hs bs
    → parts_with Header limit s ps
    ≡ record {
      header =
          put s (settled (record_of (bounds_of Header limit (core_of (s ∷ hs))) (summary (s ∷ hs))) ps.header);
      body =
          settled (record_of (bounds_of Body limit (core_of (s ∷ hs))) (summary bs)) ps.body;
    }
unfolding parts_with
header-parts limit s ps hs bs g =
    let c : core_after s (core_in ps.header) ≡ core_of (s ∷ hs) = ap (core_after s) (core-read limit ps hs bs g) in
    let h = ap (λ (x : Option Sizes). record_with (bounds_of Header limit x) s ps.header) c
    ∙ record-with Header limit ps hs bs g (bounds_of Header limit (core_of (s ∷ hs))) s in
    let b = ap (λ (x : Option Sizes). record_within (bounds_of Body limit x) ps.body) c
    ∙ record-within Body limit ps hs bs g (bounds_of Body limit (core_of (s ∷ hs))) in
    λ i. record { header = put s (settled (h i) ps.header); body = settled (b i) ps.body }

body-parts : (limit : ℕ) (s : Segment) (ps : Parts) (hs bs : List Segment) → Gathers limit ps hs bs
    → parts_with Body limit s ps
    ≡ record {
      header = ps.header;
      body =
          put s (settled (record_of (bounds_of Body limit (core_of hs)) (summary (s ∷ bs))) ps.body);
    }
unfolding parts_with
body-parts limit s ps hs bs g =
    let b = ap (λ (x : Option Sizes). record_with (bounds_of Body limit x) s ps.body) (core-read limit ps hs bs g)
    ∙ record-with Body limit ps hs bs g (bounds_of Body limit (core_of hs)) s in
    λ i. record { header = ps.header; body = put s (settled (b i) ps.body) }

header-next : (limit : ℕ) (s : Segment) (ps : Parts) (hs bs : List Segment) → Gathers limit ps hs bs
    → ¬ (Numbered s.number hs) → Fits limit (s ∷ hs) bs → Gathers limit (parts_with Header limit s ps) (s ∷ hs) bs
header-next limit s ps hs bs g a f = subst (λ (x : Parts). Gathers limit x (s ∷ hs) bs)
    (sym (header-parts limit s ps hs bs g)) (record {
      object = f;
      shape = record {
        header_share = put-length b c S L ps.header s hs g.header w room ∙ g.shape.header_share;
        body_share = settled-length b' c' T M ps.body bs g.body room' w' ∙ g.shape.body_share;
        header_marks = put-marks s (record_of c (summary (s ∷ hs))) ps.header ∙ g.shape.header_marks;
        body_marks = rw settled-marks g.shape.body_marks;
      };
      header = put_keeps b c S L ps.header s hs g.header w room a
          (omega (
            arith,
            g.shape.header_marks,
            sent-number header_numbers S f.header s (omega arith) f.header_cuts f.header_sent.0,
          ));
      body = settled-keeps b' c' T M ps.body bs g.body room' w' (met-after Body limit s (core_of hs));
    })
  where
    old : Fits limit hs bs
    old = fits-less Header limit s hs bs f

    S : ℕ
    S = f.header_cut

    L : ℕ
    L = length f.header

    T : ℕ
    T = f.body_cut

    M : ℕ
    M = length f.body

    b : Bounds
    b = bounds_of Header limit (core_of hs)

    c : Bounds
    c = bounds_of Header limit (core_of (s ∷ hs))

    b' : Bounds
    b' = bounds_of Body limit (core_of hs)

    c' : Bounds
    c' = bounds_of Body limit (core_of (s ∷ hs))

    w : WithinOf b S L
    w = fits-within limit hs bs old Header

    w' : WithinOf c' T M
    w' = fits-within limit (s ∷ hs) bs f Body

    room : Room c S L ps.header (s ∷ hs)
    room = fits-room Header limit ps (s ∷ hs) bs f g.shape

    room' : Room b' T M ps.body bs
    room' = fits-room Body limit ps hs bs old g.shape

body-next : (limit : ℕ) (s : Segment) (ps : Parts) (hs bs : List Segment) → Gathers limit ps hs bs
    → ¬ (Numbered s.number bs) → Fits limit hs (s ∷ bs) → Gathers limit (parts_with Body limit s ps) hs (s ∷ bs)
body-next limit s ps hs bs g a f = subst (λ (x : Parts). Gathers limit x hs (s ∷ bs))
    (sym (body-parts limit s ps hs bs g)) (record {
      object = f;
      shape = record {
        header_share = g.shape.header_share;
        body_share = put-length b b T M ps.body s bs g.body w room ∙ g.shape.body_share;
        header_marks = g.shape.header_marks;
        body_marks = put-marks s (record_of b (summary (s ∷ bs))) ps.body ∙ g.shape.body_marks;
      };
      header = g.header;
      body = put_keeps b b T M ps.body s bs g.body w room a
          (omega (
            arith,
            g.shape.body_marks,
            sent-number body_numbers T f.body s (omega arith) f.body_cuts f.body_sent.0,
          ));
    })
  where
    T : ℕ
    T = f.body_cut

    M : ℕ
    M = length f.body

    b : Bounds
    b = bounds_of Body limit (core_of hs)

    w : WithinOf b T M
    w = fits-within limit hs (s ∷ bs) f Body

    room : Room b T M ps.body (s ∷ bs)
    room = fits-room Body limit ps hs (s ∷ bs) f g.shape

-- a segment of a new number that fits is held afterwards, with those that were
pub next-gathers : (part : Part) (limit : ℕ) (s : Segment) (ps : Parts) (hs bs : List Segment) → Gathers limit ps hs bs
    → ¬ (Numbered s.number (those part hs bs)) → Fits limit (headers_with part s hs) (bodies_with part s bs)
    → Gathers limit (parts_with part limit s ps) (headers_with part s hs) (bodies_with part s bs)
next-gathers Header limit s ps hs bs g a f = header-next limit s ps hs bs g a f
next-gathers Body limit s ps hs bs g a f = body-next limit s ps hs bs g a f
