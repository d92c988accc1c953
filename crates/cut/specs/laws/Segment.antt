-- A segment in numbers: whether its number, flag and length suit a size and a length of its part; and a part that sends
-- given segments, built from such numbers.
use Rattle.std.specs.Prelude.{◌≡◌, refl, ◌⊎◌, Bool, true, false, List, [], ◌∷◌, ℕ, zero, suc, ◌+◌, ◌-◌, ◌*◌, ◌≤◌, ◌<◌, min, max, length, take, drop, replicate, leb}
use Rattle.std.proofs.Common.{sym, ap, ◌∙◌, inl, inr, mul-le-mul_right, lt_of_mul-lt-mul_right, arith, length-take, length-drop, drop_of_length-le, take_all, leb-true, leb-false, le-leb}
use Rattle.std.proofs.Math.Decide.{ℕ_discrete, dec_le}
use Rattle.std.proofs.lemmas.List.{length-replicate}
use Rattle.std.proofs.Math.Seq.{take-nil}
use Rattle.std.proofs.lemmas.Bool.{lt-leb}
use Rattle.octets.specs.Octets.{over}
use Rattle.octets.specs.laws.Over.{over-length, over-inside, over-after, over-before}
use Rattle.cut.specs.laws.Lists.{each_map, each-zip, each-zip3, bytes_take, bytes_drop, bytes-zeros, over-bytes}
use Rattle.cut.specs.Requirement.{size_least, size_most, IsCut, Segment, segment, IsSegment, empty, Sends}
use Rattle.cut.specs.Lists.{Each, Among, Bytes}

-- ---- one segment, in numbers

-- number n with k bytes is what a part of length L cut at S sends: the last one, empty only as number 0, or a full one
abbrev pub SitsAs : Bool → ℕ → ℕ → ℕ → ℕ → Type 0
SitsAs true S L n k = (n * S + k ≡ L) × (n * S < max 1 L) × (k ≤ S)
SitsAs false S L n k = (k ≡ S) × (suc n * S < L)

unfoldable pub Sits : ℕ → ℕ → Segment → Type 0
Sits S L s = SitsAs s.last S L s.number (length s.bytes)

-- its bytes stand in their place
unfoldable pub Stands : List ℕ → ℕ → Segment → Type 0
Stands xs S s = take (length s.bytes) (drop (s.number * S) xs) ≡ s.bytes

sits-of : (xs : List ℕ) (S n : ℕ) (b : Bool) (k : ℕ) → n * S < length xs → k ≡ length (take S (drop (n * S) xs)) → b
    ≡ leb (length xs) (suc n * S) → SitsAs b S (length xs) n k
sits-of xs S n true k h e f =
    let g : length xs ≤ suc n * S = leb-true (length xs) (suc n * S) (sym f) in
    let e' : k ≡ min S (length xs - n * S) = rw (length-take, length-drop) at e in
    (omega arith, omega arith, omega arith)
sits-of xs S n false k h e f =
    let g : suc n * S < length xs = leb-false (length xs) (suc n * S) (sym f) in
    let e' : k ≡ min S (length xs - n * S) = rw (length-take, length-drop) at e in
    (omega arith, omega arith)

pub sends-sits : (xs : List ℕ) (S : ℕ) (s : Segment) → Sends xs S s → Sits S (length xs) s
unfolding Sits
sends-sits xs S s (inl t) = sits-of xs S s.number s.last (length s.bytes) t.starts (ap length t.holds)
    t.ends
sends-sits xs S s (inr t) = rw (t.1, t.0) (omega arith, omega arith, omega arith)

-- past the end there are no bytes
pub past_end : (n : ℕ) (xs : List ℕ) (S : ℕ) → length xs ≤ n * S → take S (drop (n * S) xs) ≡ []
past_end n xs S h = ap (take S) (drop_of_length-le xs {i = n * S} h) ∙ take-nil S

-- a segment has some bytes
pub segment-some : (xs : List ℕ) (S : ℕ) (s : Segment) → size_least ≤ S → IsSegment xs S s → 0 < length s.bytes
segment-some xs S s z t = rw (t.holds, length-take, length-drop) (omega (arith, t.starts))

-- at its number a part has the bytes of what it sends, and none where it sends the empty one
pub sent-holds : (xs : List ℕ) (S : ℕ) (s : Segment) → Sends xs S s → s.bytes ≡ take S (drop (s.number * S) xs)
sent-holds xs S s (inl t) = t.holds
sent-holds xs S s (inr t) = ap (λ (x : Segment). x.bytes) t.1
    ∙ sym (past_end s.number xs S (omega (arith, t.0)))

-- the flag that a segment bears
flag-of : (b : Bool) (S L n k : ℕ) → SitsAs b S L n k → b ≡ leb L (suc n * S)
flag-of true S L n k s = sym (le-leb L (suc n * S) (omega arith))
flag-of false S L n k s = sym (lt-leb L (suc n * S) s.1)

-- where a segment starts and how long it is
pub record Inside (S L n k : ℕ) : Type 0 where
  pub starts : n * S < max 1 L
  pub ends : n * S + k ≤ L
  pub most : k ≤ S
  pub long : k ≡ min S (L - n * S)

inside-as : (b : Bool) (S L n k : ℕ) → 0 < S → SitsAs b S L n k → Inside S L n k
inside-as true S L n k z s = record {
  starts = omega arith;
  ends = omega arith;
  most = omega arith;
  long = omega arith;
}
inside-as false S L n k z s = record {
  starts = omega arith;
  ends = omega arith;
  most = omega arith;
  long = omega arith;
}

pub inside : (S L : ℕ) (s : Segment) → 0 < S → Sits S L s → Inside S L s.number (length s.bytes)
unfolding Sits
inside S L s z t = inside-as s.last S L s.number (length s.bytes) z t

take-cut : (n k : ℕ) (d : List ℕ) → k ≡ min n (length d) → take k d ≡ take n d
take-cut n k d e = go (dec_le n (length d))
  where
    go : Dec (n ≤ length d) → take k d ≡ take n d
    go (yes h) = let f : k ≡ n = omega arith in ap (λ (m : ℕ). take m d) f
    go (no h) = take_all k d (omega arith) ∙ sym (take_all n d (omega arith))

-- in a part of length 0 there is number 0 alone
pub none_first : (S n : ℕ) → 0 < S → n * S < 1 → n ≡ 0
none_first S zero z h = refl
none_first S (suc n) z h = absurd (omega arith)

none_left : (xs : List ℕ) → length xs ≡ 0 → xs ≡ []
none_left [] e = refl
none_left (x ∷ xs) e = absurd (omega arith)

-- and it is the empty one
sits-empty : (S : ℕ) (n : ℕ) (last : Bool) (bytes : List ℕ) → 0 < S → SitsAs last S 0 n (length bytes)
    → segment n last bytes ≡ empty
sits-empty S n false bytes z t = absurd (omega arith)
sits-empty S n true bytes z t =
    let e : n ≡ 0 = none_first S n z t.1 in
    let f : bytes ≡ [] = none_left bytes (omega arith) in
    λ i. segment (e i) true (f i)

pub sits-sends : (xs : List ℕ) (S : ℕ) (s : Segment) → 0 < S → Sits S (length xs) s → Stands xs S s → Sends xs S s
unfolding Sits Stands
sits-sends xs S s z t h = go (ℕ_discrete (length xs) 0)
  where
    b : Inside S (length xs) s.number (length s.bytes)
    b = inside-as s.last S (length xs) s.number (length s.bytes) z t

    go : Dec (length xs ≡ 0) → Sends xs S s
    go (yes e) = inr (e, sits-empty S s.number s.last s.bytes z (rw e at t))
    go (no d) = inl (record {
      starts = omega (arith, b.starts);
      holds = sym h ∙ take-cut S (length s.bytes) (drop (s.number * S) xs) (rw length-drop b.long);
      ends = flag-of s.last S (length xs) s.number (length s.bytes) t;
    })

pub sent-bytes : (xs : List ℕ) (S : ℕ) (s : Segment) → Bytes xs → Sends xs S s → Bytes s.bytes
sent-bytes xs S s b t =
    rw (sent-holds xs S s t) (bytes_take S (drop (s.number * S) xs) (bytes_drop (s.number * S) xs b))

-- the number is within the bounds
pub sent-number : (numbers S : ℕ) (xs : List ℕ) (s : Segment) → 1 ≤ numbers → IsCut numbers S xs → Sends xs S s
    → s.number < numbers
sent-number numbers S xs s o c (inl t) = let g : s.number * S < numbers * S = omega (arith, c.enough, t.starts) in
    lt_of_mul-lt-mul_right S g
sent-number numbers S xs s o c (inr t) = rw t.1 o

-- ---- segments of one number

-- number n is in
abbrev pub Numbered : ℕ → List Segment → Type 0
Numbered n [] = ⊥
Numbered n (s ∷ ss) = (s.number ≡ n) ⊎ Numbered n ss

pub among-numbered : (s : Segment) (ss : List Segment) → Among s ss → Numbered s.number ss
among-numbered s [] i = absurd i
among-numbered s (t ∷ ss) (inl e) = inl (ap (λ (x : Segment). x.number) e)
among-numbered s (t ∷ ss) (inr i) = inr (among-numbered s ss i)

pub numbered-among : (n : ℕ) (ss : List Segment) → Numbered n ss → (s : Segment) × Among s ss × (s.number ≡ n)
numbered-among n [] i = absurd i
numbered-among n (s ∷ ss) (inl e) = (s, inl refl, e)
numbered-among n (s ∷ ss) (inr i) = let r = numbered-among n ss i in (r.0, inr r.1, r.2)

pub not-numbered : (n : ℕ) (ss : List Segment) → ¬ (Numbered n ss) → Each (λ s. ¬ (n ≡ s.number)) ss
not-numbered n [] h = tt
not-numbered n (s ∷ ss) h = ((λ e. h (inl (sym e))), not-numbered n ss (λ i. h (inr i)))

unfoldable pub Same : Segment → Segment → Type 0
Same s t = s.number ≡ t.number → (s.last ≡ t.last) × (s.bytes ≡ t.bytes)

-- each two of one number are the same
abbrev pub Agree : List Segment → Type 0
Agree [] = Unit {0}
Agree (s ∷ ss) = Each (Same s) ss × Agree ss

pub same-is : (s t : Segment) → Same s t → s.number ≡ t.number → s ≡ t
unfolding Same
same-is s t h e = let r = h e in λ i. record { number = e i; last = r.0 i; bytes = r.1 i }

-- of what it sends, the flag says whether any bytes are left
pub sent-ends : (xs : List ℕ) (S : ℕ) (s : Segment) → Sends xs S s → s.last ≡ leb (length xs) (suc s.number * S)
sent-ends xs S s (inl t) = t.ends
sent-ends xs S s (inr t) = ap (λ (x : Segment). x.last) t.1 ∙ sym (le-leb (length xs) (suc s.number * S)
    (omega (arith, t.0)))

pub sends-same : (xs : List ℕ) (S : ℕ) (s t : Segment) → Sends xs S s → Sends xs S t → Same s t
unfolding Same
sends-same xs S s t a b e = (
  sent-ends xs S s a ∙ ap (λ (n : ℕ). leb (length xs) (suc n * S)) e ∙ sym (sent-ends xs S t b),
  sent-holds xs S s a ∙ ap (λ (n : ℕ). take S (drop (n * S) xs)) e ∙ sym (sent-holds xs S t b),
)

pub sends-agree : (xs : List ℕ) (S : ℕ) (ss : List Segment) → Each (Sends xs S) ss → Agree ss
sends-agree xs S [] t = tt
sends-agree xs S (s ∷ ss) t = (each_map (λ q u. sends-same xs S s q t.0 u) ss t.1, sends-agree xs S ss t.1)

pub agree-new : (s : Segment) (ss : List Segment) → ¬ (Numbered s.number ss) → Agree ss → Agree (s ∷ ss)
unfolding Same
agree-new s ss a b = (each_map (λ q n e. absurd (n e)) ss (not-numbered s.number ss a), b)

-- ---- the segments written over a part

abbrev pub fill : List ℕ → ℕ → List Segment → List ℕ
fill base S [] = base
fill base S (s ∷ ss) = over (fill base S ss) (s.number * S) s.bytes

pub fill-length : (base : List ℕ) (S : ℕ) (ss : List Segment) → 0 < S → Each (Sits S (length base)) ss
    → length (fill base S ss) ≡ length base
fill-length base S [] z t = refl
fill-length base S (s ∷ ss) z t =
    let e : length (fill base S ss) ≡ length base = fill-length base S ss z t.1 in
    let b = inside S (length base) s z t.0 in
    over-length (fill base S ss) (s.number * S) s.bytes (omega (arith, b.ends)) ∙ e

-- another segment stays in place
one-stands : (l : List ℕ) (S : ℕ) (s q : Segment) → 0 < S → Sits S (length l) s → Sits S (length l) q → Same s q
    → Stands l S q → Stands (over l (s.number * S) s.bytes) S q
unfolding Stands Same
one-stands l S s q z a b e h = go (ℕ_discrete s.number q.number) (dec_le s.number q.number)
  where
    i : Inside S (length l) s.number (length s.bytes)
    i = inside S (length l) s z a

    j : Inside S (length l) q.number (length q.bytes)
    j = inside S (length l) q z b

    go : Dec (s.number ≡ q.number) → Dec (s.number ≤ q.number) → Stands (over l (s.number * S) s.bytes) S q
    go (yes f) d = rw (← f, ← (e f).1) (over-inside l (s.number * S) s.bytes i.ends)
    go (no f) (yes g) =
        rw (over-after l (s.number * S) s.bytes i.ends (q.number * S)
        (omega (arith, i, mul-le-mul_right S (less g f)))) h
      where
        less : s.number ≤ q.number → ¬ (s.number ≡ q.number) → s.number < q.number
        less g f = omega arith
    go (no f) (no g) =
        rw (over-before l (s.number * S) s.bytes i.ends (q.number * S) (length q.bytes)
        (omega (arith, j, mul-le-mul_right S (less g)))) h
      where
        less : ¬ (s.number ≤ q.number) → q.number < s.number
        less g = omega arith

stands-new : (l : List ℕ) (S : ℕ) (s : Segment) → s.number * S + length s.bytes ≤ length l
    → Stands (over l (s.number * S) s.bytes) S s
unfolding Stands
stands-new l S s h = over-inside l (s.number * S) s.bytes h

fill-stands : (base : List ℕ) (S : ℕ) (ss : List Segment) → 0 < S → Each (Sits S (length base)) ss → Agree ss
    → Each (Stands (fill base S ss) S) ss
fill-stands base S [] z t a = tt
fill-stands base S (s ∷ ss) z t a = (here, each-zip3 step ss t.1 a.0 (fill-stands base S ss z t.1 a.1))
  where
    e : length (fill base S ss) ≡ length base
    e = fill-length base S ss z t.1

    b : Inside S (length base) s.number (length s.bytes)
    b = inside S (length base) s z t.0

    here : Stands (over (fill base S ss) (s.number * S) s.bytes) S s
    here = stands-new (fill base S ss) S s (omega (arith, e, b))

    step : (q : Segment) → Sits S (length base) q → Same s q → Stands (fill base S ss) S q
        → Stands (over (fill base S ss) (s.number * S) s.bytes) S q
    step q u a' h = one-stands (fill base S ss) S s q z (rw e t.0) (rw e u) a' h

pub fill-sends : (base : List ℕ) (S : ℕ) (ss : List Segment) → 0 < S → Each (Sits S (length base)) ss → Agree ss
    → Each (Sends (fill base S ss) S) ss
fill-sends base S ss z t a =
    let e : length (fill base S ss) ≡ length base = fill-length base S ss z t in
    each-zip (λ s u h. sits-sends (fill base S ss) S s z (rw e u) h) ss t (fill-stands base S ss z t a)

pub fill-bytes : (base : List ℕ) (S : ℕ) (ss : List Segment) → Bytes base → Each (λ s. Bytes s.bytes) ss
    → Bytes (fill base S ss)
fill-bytes base S [] a b = a
fill-bytes base S (s ∷ ss) a b = over-bytes (fill base S ss) (s.number * S) s.bytes (fill-bytes base S ss a b.1)
    b.0

-- what lies before segment 1 stays, where segment 0 is not among them
pub fill-front : (m : ℕ) (base : List ℕ) (S : ℕ) (ss : List Segment) → 0 < S → m ≤ S → Each (Sits S (length base)) ss
    → Each (λ s. 0 < s.number) ss → take m (fill base S ss) ≡ take m base
fill-front m base S [] z g t h = refl
fill-front m base S (s ∷ ss) z g t h =
    let e : length (fill base S ss) ≡ length base = fill-length base S ss z t.1 in
    let b = inside S (length base) s z t.0 in
    over-before (fill base S ss) (s.number * S) s.bytes (omega (arith, b.ends)) 0 m
    (omega (arith, mul-le-mul_right S h.0)) ∙ fill-front m base S ss z g t.1 h.1

-- ---- one part

-- a length and a size within the bounds of a part: its least and most bytes, and how many numbers it has
pub record Within (least most numbers S L : ℕ) : Type 0 where
  pub long : least ≤ L
  pub short : L ≤ most
  pub low : size_least ≤ S
  pub high : S ≤ size_most
  pub enough : L ≤ numbers * S
  pub any : 1 ≤ numbers

-- some part within the bounds, cut at some size, sends every segment
pub record PartFits (least most numbers : ℕ) (ss : List Segment) : Type 0 where
  pub part : List ℕ
  pub size : ℕ
  pub is_bytes : Bytes part
  pub within : Within least most numbers size (length part)
  pub sent : Each (Sends part size) ss

-- the same, in numbers only: a size and a length that suit every segment
pub record PartSits (least most numbers : ℕ) (ss : List Segment) : Type 0 where
  pub size : ℕ
  pub long : ℕ
  pub within : Within least most numbers size long
  pub sits : Each (Sits size long) ss

-- and back: a part that sends them, cut at that size
pub sits-fits : (least most numbers : ℕ) (ss : List Segment) → Each (λ s. Bytes s.bytes) ss
    → (p : PartSits least most numbers ss) → Agree ss → (f : PartFits least most numbers ss) × (f.size ≡ p.size)
sits-fits least most numbers ss b p a =
    let z : List ℕ = replicate p.long 0 in
    let e : length z ≡ p.long = length-replicate p.long 0 in
    let o : 0 < p.size = omega (arith, p.within.low) in
    let t : Each (Sits p.size (length z)) ss = rw e p.sits in (
      record {
        part = fill z p.size ss;
        size = p.size;
        is_bytes = fill-bytes z p.size ss (bytes-zeros p.long) b;
        within = rw (fill-length z p.size ss o t, e) p.within;
        sent = fill-sends z p.size ss o t a;
      },
      refl,
    )
