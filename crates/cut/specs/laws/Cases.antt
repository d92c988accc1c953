-- Document 01, "Both sides of the line": its starred cases, one table under one statement, about the requirement
-- itself.
use Rattle.std.specs.Prelude.{◌≡◌, refl, Bool, true, false, not, Option, Some, None, List, [], ◌∷◌, ◌++◌, ℕ, zero, suc, ◌≤◌, ◌<◌, replicate, eqb, leb}
use Rattle.std.proofs.Common.{sym, ◌∙◌, inl, inr, arith, eqb-true, leb-true}
use Rattle.std.proofs.Math.Decide.{ℕ_discrete}
use Rattle.std.proofs.lemmas.Bool.{eqb-false, not-true}
use Rattle.cut.specs.Requirement.{body_size, header_size, content_type, content_sub_type, Segment, Fits, Finished}
use Rattle.answer.specs.declared.Part.{Part}
use Rattle.answer.specs.declared.Part.TheVariants.{Header, Body}
use Rattle.cut.specs.declared.Sizes.{Sizes}
use Rattle.cut.specs.Decision.{core_fits, room, largest, alone, suits, accepts}
use Rattle.cut.specs.Kept.{bounds_of, settle, summary, core_of}
use Rattle.cut.specs.Lists.{pick, both, all, Each, Bytes}
use Rattle.cut.specs.laws.Core.{core_bytes}
use Rattle.cut.specs.laws.Segment.{Numbered}
use Rattle.cut.specs.laws.Decision.{both_true, unless-zero, all_true, false-true}
use Rattle.cut.specs.Parts.{headers_with, bodies_with, those}
use Rattle.cut.specs.laws.Theorem.{nothing-fits, accepted}
use Rattle.cut.specs.laws.Finished.{Counted, finished-iff}
use Rattle.cut.specs.laws.Known.{size_of, known-cut}

abbrev limit : ℕ
limit = 12288

-- what is said of a segment that comes after others
pub data Verdict : Type 0 where
  -- they fit
  fits : Verdict
  -- they fit, and the body's cut is known
  cut_at : (size : ℕ) → Verdict
  -- they fit, and are all of the object
  completes : Verdict
  -- no object and cut fit
  conflicts : Verdict

pub data Case : Type 0 where
  -- what the core fields of a header say
  core : (bytes : List ℕ) (body header type subtype : ℕ) → Case
  -- segments are in, and one more comes
  comes : (held : List (Part × Segment)) (kind : Part) (segment : Segment) (verdict : Verdict) → Case

-- the segments of a list that are of the header, and of the body; the first one comes first
abbrev headers_in : List (Part × Segment) → List Segment → List Segment
headers_in [] hs = hs
headers_in (e ∷ es) hs = headers_in es (headers_with e.0 e.1 hs)

abbrev bodies_in : List (Part × Segment) → List Segment → List Segment
bodies_in [] bs = bs
bodies_in (e ∷ es) bs = bodies_in es (bodies_with e.0 e.1 bs)

abbrev SaysOf : Verdict → List Segment → List Segment → Type 0
SaysOf fits hs bs = Fits limit hs bs
SaysOf (cut_at size) hs bs = Fits limit hs bs × ((f : Fits limit hs bs) → f.body_cut ≡ size)
SaysOf completes hs bs = Fits limit hs bs × ((f : Fits limit hs bs) → Finished f)
SaysOf conflicts hs bs = ¬ (Fits limit hs bs)

-- a case is right: what is held fits, and with the segment more it is as the verdict says
abbrev pub Says : Case → Type 0
Says (core bytes body header type subtype) = (body_size bytes ≡ body) × (header_size bytes ≡ header)
    × (content_type bytes ≡ type) × (content_sub_type bytes ≡ subtype)
Says (comes held kind s verdict) = Fits limit (headers_in held []) (bodies_in held [])
    × SaysOf verdict (headers_with kind s (headers_in held [])) (bodies_with kind s (bodies_in held []))

-- ---- the table

abbrev full : ℕ → List ℕ → Segment
full n bytes = record { number = n; last = false; bytes = bytes }

abbrev last : ℕ → List ℕ → Segment
last n bytes = record { number = n; last = true; bytes = bytes }

-- k bytes of a body
abbrev some : ℕ → List ℕ
some k = replicate k 7

-- a whole header of 7 bytes that says BodySize B
abbrev header : ℕ → Segment
header B = last 0 (core_bytes B 7 0 0)

-- the first 16 bytes of a header that says HeaderSize H and BodySize 0
abbrev front : ℕ → Segment
front H = full 0 (core_bytes 0 H 0 0 ++ replicate 9 0)

abbrev pub table : List Case
table =
    core (0x00 ∷ 0x00 ∷ 0x01 ∷ 0x40 ∷ 0x03 ∷ 0x80 ∷ 0x00 ∷ []) 20 7 0 0
    ∷ core (0x00 ∷ 0x00 ∷ 0x00 ∷ 0x00 ∷ 0x03 ∷ 0x84 ∷ 0x01 ∷ []) 0 7 2 1
    ∷ comes [] Header (last 0 (0x00 ∷ 0x00 ∷ 0x00 ∷ 0x00 ∷ 0x03 ∷ 0x84 ∷ 0x01 ∷ [])) completes
    ∷ comes ((Body, last 3 (some 10)) ∷ []) Header (header 100) (cut_at 30)
    ∷ comes ((Body, last 3 (some 10)) ∷ []) Header (header 99) conflicts
    ∷ comes ((Body, last 3 (some 10)) ∷ []) Header (header 40) conflicts
    ∷ comes ((Body, last 3 (some 10)) ∷ []) Header (header 58) (cut_at 16)
    ∷ comes ((Body, last 3 (some 20)) ∷ []) Header (header 68) conflicts
    ∷ comes ((Header, header 32) ∷ (Body, full 0 (some 16)) ∷ []) Body (full 1 (some 16)) conflicts
    ∷ comes ((Header, header 32) ∷ (Body, full 0 (some 16)) ∷ []) Body (last 1 (some 16)) fits
    ∷ comes [] Header (front 16) conflicts
    ∷ comes [] Header (front 17) fits
    ∷ comes [] Header (last 63 (some 17)) conflicts
    ∷ []

-- the empty last segment, document 02, Item 2: it fits a BodySize of 0, before the header or after it, and nothing else
abbrev pub empties : List Case
empties =
    comes [] Body (last 0 []) fits
    ∷ comes [] Body (last 1 []) conflicts
    ∷ comes [] Body (full 0 []) conflicts
    ∷ comes [] Header (last 0 []) conflicts
    ∷ comes ((Header, header 0) ∷ []) Body (last 0 []) completes
    ∷ comes ((Body, last 0 []) ∷ []) Header (header 0) completes
    ∷ comes ((Body, last 0 []) ∷ []) Header (front 17) fits
    ∷ comes ((Header, header 20) ∷ []) Body (last 0 []) conflicts
    ∷ comes ((Body, last 0 []) ∷ []) Header (header 20) conflicts
    ∷ comes ((Body, last 0 []) ∷ []) Body (last 1 (some 5)) conflicts
    ∷ comes ((Body, last 1 (some 5)) ∷ []) Body (last 0 []) conflicts
    ∷ comes ((Body, last 0 []) ∷ []) Body (full 1 (some 16)) conflicts
    ∷ comes ((Body, full 1 (some 16)) ∷ []) Body (last 0 []) conflicts
    ∷ []

-- ---- what is computed

abbrev is_new : ℕ → List Segment → Bool
is_new n [] = true
is_new n (s ∷ ss) = both (not (eqb s.number n)) (is_new n ss)

abbrev are_bytes : List ℕ → Bool
are_bytes [] = true
are_bytes (b ∷ bs) = both (leb (suc b) 256) (are_bytes bs)

is-new : (n : ℕ) (ss : List Segment) → is_new n ss ≡ true → ¬ (Numbered n ss)
is-new n [] e i = i
is-new n (s ∷ ss) e (inl i) =
    eqb-false s.number n (not-true (eqb s.number n) (both_true (not (eqb s.number n)) (is_new n ss) e).0) i
is-new n (s ∷ ss) e (inr i) = is-new n ss (both_true (not (eqb s.number n)) (is_new n ss) e).1 i

are-bytes : (l : List ℕ) → are_bytes l ≡ true → Bytes l
are-bytes [] e = tt
are-bytes (b ∷ bs) e = let r = both_true (leb (suc b) 256) (are_bytes bs) e in
    (leb-true (suc b) 256 r.0, are-bytes bs r.1)

-- a segment of a new number, of bytes: the decision says whether it fits
abbrev ready : Part → Segment → List Segment → List Segment → Bool
ready kind s hs bs = both (is_new s.number (those kind hs bs)) (are_bytes s.bytes)

abbrev decided : Part → Segment → List Segment → List Segment → Bool
decided kind s hs bs = accepts kind limit (core_of hs) (summary hs) (summary bs) s

module _ (kind : Part) (s : Segment) (hs bs : List Segment) (f : Fits limit hs bs) (r : ready kind s hs bs ≡ true) where
  new : ¬ (Numbered s.number (those kind hs bs))
  new = is-new s.number (those kind hs bs)
      (both_true (is_new s.number (those kind hs bs)) (are_bytes s.bytes) r).0

  bytes : Bytes s.bytes
  bytes = are-bytes s.bytes (both_true (is_new s.number (those kind hs bs)) (are_bytes s.bytes) r).1

  comes-fits : decided kind s hs bs ≡ true → Fits limit (headers_with kind s hs) (bodies_with kind s bs)
  comes-fits e = (accepted kind limit s hs bs (omega arith) bytes f new).0 e

  comes-never : decided kind s hs bs ≡ false → ¬ (Fits limit (headers_with kind s hs) (bodies_with kind s bs))
  comes-never e g = false-true e ((accepted kind limit s hs bs (omega arith) bytes f new).1 g)

-- segments that come one after the other
abbrev runs : List (Part × Segment) → List Segment → List Segment → Bool
runs [] hs bs = true
runs (e ∷ es) hs bs = both (both (ready e.0 e.1 hs bs) (decided e.0 e.1 hs bs))
    (runs es (headers_with e.0 e.1 hs) (bodies_with e.0 e.1 bs))

held_fits : (es : List (Part × Segment)) (hs bs : List Segment) → Fits limit hs bs → runs es hs bs ≡ true
    → Fits limit (headers_in es hs) (bodies_in es bs)
held_fits [] hs bs f r = f
held_fits (e ∷ es) hs bs f r =
    let t = both_true (both (ready e.0 e.1 hs bs) (decided e.0 e.1 hs bs))
    (runs es (headers_with e.0 e.1 hs) (bodies_with e.0 e.1 bs)) r in
    let u = both_true (ready e.0 e.1 hs bs) (decided e.0 e.1 hs bs) t.0 in
    held_fits es (headers_with e.0 e.1 hs) (bodies_with e.0 e.1 bs)
    (comes-fits e.0 e.1 hs bs f u.0 u.1) t.1

-- every number below n is in, or every one up to the last
abbrev are_in : ℕ → List Segment → Bool
are_in zero ss = true
are_in (suc n) ss = both (not (is_new n ss)) (are_in n ss)

abbrev are_all : ℕ → List Segment → Bool
are_all zero ss = false
are_all (suc n) ss = are_in (suc n) ss

not_new : (n : ℕ) (ss : List Segment) → is_new n ss ≡ false → Numbered n ss
not_new n [] e = absurd (false-true e refl)
not_new n (s ∷ ss) e = go (eqb s.number n) refl (not_new n ss)
  where
    go : (b : Bool) → eqb s.number n ≡ b → (is_new n ss ≡ false → Numbered n ss) → Numbered n (s ∷ ss)
    go true g rec = inl (eqb-true s.number n g)
    go false g rec = inr (rec (rw g at e))

are-in : (n : ℕ) (ss : List Segment) → are_in n ss ≡ true → (i : ℕ) → i < n → Numbered i ss
are-in zero ss e i h = absurd (omega arith)
are-in (suc n) ss e i h = go (ℕ_discrete i n) (are-in n ss r.1 i)
  where
    r : (not (is_new n ss) ≡ true) × (are_in n ss ≡ true)
    r = both_true (not (is_new n ss)) (are_in n ss) e

    go : Dec (i ≡ n) → (i < n → Numbered i ss) → Numbered i ss
    go (yes x) rec = rw x (not_new n ss (not-true (is_new n ss) r.0))
    go (no x) rec = rec (omega arith)

are-all : (n : ℕ) (ss : List Segment) → are_all n ss ≡ true → Counted n ss
are-all zero ss e = false-true refl e
are-all (suc n) ss e = are-in (suc n) ss e

abbrev finished_as : Option Sizes → List Segment → List Segment → Bool
finished_as None hs bs = false
finished_as (Some sizes) hs bs = both (are_all (summary hs).part.end hs)
    (pick (eqb sizes.body 0) true (are_all (summary bs).part.end bs))

finished-as : (hs bs : List Segment) (c : Option Sizes) → core_of hs ≡ c → finished_as c hs bs ≡ true
    → (f : Fits limit hs bs) → Finished f
finished-as hs bs None e t f = absurd (false-true refl t)
finished-as hs bs (Some sizes) e t f =
    let r = both_true (are_all (summary hs).part.end hs)
    (pick (eqb sizes.body 0) true (are_all (summary bs).part.end bs)) t in
    (finished-iff limit hs bs f sizes e).1 (
      are-all (summary hs).part.end hs r.0,
      (λ h. are-all (summary bs).part.end bs ((unless-zero sizes.body (are_all (summary bs).part.end bs)).0 r.1 h)),
    )

-- ---- each case

module _ (held : List (Part × Segment)) (kind : Part) (s : Segment) where
  abbrev tests_of : Bool
  tests_of = both (runs held [] []) (ready kind s (headers_in held []) (bodies_in held []))

  abbrev verdict_of : Bool
  verdict_of = decided kind s (headers_in held []) (bodies_in held [])

  abbrev headers_of : List Segment
  headers_of = headers_with kind s (headers_in held [])

  abbrev bodies_of : List Segment
  bodies_of = bodies_with kind s (bodies_in held [])

  abbrev judged : Verdict → Bool
  judged fits = verdict_of
  judged (cut_at size) = both verdict_of (both (leb 1 size) (eqb (size_of Body limit headers_of bodies_of) size))
  judged completes = both verdict_of (finished_as (core_of headers_of) headers_of bodies_of)
  judged conflicts = not verdict_of

  before : tests_of ≡ true → Fits limit (headers_in held []) (bodies_in held [])
  before t = held_fits held [] [] (nothing-fits limit (omega arith))
      (both_true (runs held [] []) (ready kind s (headers_in held []) (bodies_in held [])) t).0

  after : tests_of ≡ true → verdict_of ≡ true → Fits limit headers_of bodies_of
  after t e = comes-fits kind s (headers_in held []) (bodies_in held []) (before t)
      (both_true (runs held [] []) (ready kind s (headers_in held []) (bodies_in held [])) t).1 e

  judged-says : (v : Verdict) → tests_of ≡ true → judged v ≡ true → SaysOf v headers_of bodies_of
  judged-says fits t e = after t e
  judged-says (cut_at size) t e =
      let r = both_true verdict_of (both (leb 1 size) (eqb (size_of Body limit headers_of bodies_of) size)) e in
      let q = both_true (leb 1 size) (eqb (size_of Body limit headers_of bodies_of) size) r.1 in
      let z : 1 ≤ size = leb-true 1 size q.0 in
      let x : size_of Body limit headers_of bodies_of ≡ size = eqb-true (size_of Body limit headers_of bodies_of) size
      q.1 in
      (after t r.0, (λ f. sym (known-cut Body limit headers_of bodies_of (omega arith) (λ y. omega arith) f) ∙ x))
  judged-says completes t e =
      let r = both_true verdict_of (finished_as (core_of headers_of) headers_of bodies_of) e in
      (after t r.0, (λ f. finished-as headers_of bodies_of (core_of headers_of) refl r.1 f))
  judged-says conflicts t e = comes-never kind s (headers_in held []) (bodies_in held []) (before t)
      (both_true (runs held [] []) (ready kind s (headers_in held []) (bodies_in held [])) t).1 (not-true verdict_of e)

abbrev computed : Case → Bool
computed (core bytes body header type subtype) =
    all (eqb (body_size bytes) body ∷ eqb (header_size bytes) header ∷ eqb (content_type bytes) type
    ∷ eqb (content_sub_type bytes) subtype ∷ [])
computed (comes held kind s verdict) = both (tests_of held kind s) (judged held kind s verdict)

says : (c : Case) → computed c ≡ true → Says c
says (core bytes body header type subtype) e =
    let r = all_true (eqb (body_size bytes) body ∷ eqb (header_size bytes) header ∷ eqb (content_type bytes) type
    ∷ eqb (content_sub_type bytes) subtype ∷ []) e in (
      eqb-true (body_size bytes) body r.0,
      eqb-true (header_size bytes) header r.1.0,
      eqb-true (content_type bytes) type r.1.1.0,
      eqb-true (content_sub_type bytes) subtype r.1.1.1.0,
    )
says (comes held kind s verdict) e =
    let r = both_true (tests_of held kind s) (judged held kind s verdict) e in
    (before held kind s r.0, judged-says held kind s verdict r.0 r.1)

abbrev computed_all : List Case → Bool
computed_all [] = true
computed_all (c ∷ cs) = both (computed c) (computed_all cs)

says_all : (cs : List Case) → computed_all cs ≡ true → Each Says cs
says_all [] e = tt
says_all (c ∷ cs) e = let r = both_true (computed c) (computed_all cs) e in (says c r.0, says_all cs r.1)

-- THE STARRED CASES: each is as document 01 says
pub starred : Each Says table
unfolding body_size header_size content_type content_sub_type core_bytes bounds_of core_fits room largest alone settle suits
    size_of
starred = says_all table refl

-- and those of the empty last segment, each as document 02 says
pub emptied : Each Says empties
unfolding body_size header_size content_type content_sub_type core_bytes bounds_of core_fits room largest alone settle suits
    size_of
emptied = says_all empties refl
