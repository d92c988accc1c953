-- What is kept says all that matters: a size and a length suit every segment exactly when they suit the summary, and
-- the tests pass exactly when some size and length within the bounds do.
use Rattle.std.specs.Prelude.{◌≡◌, refl, ◌↔◌, Bool, true, false, List, [], ◌∷◌, ℕ, zero, suc, ◌+◌, ◌-◌, ◌*◌, ◌/◌, ◌≤◌, ◌<◌, min, max, length, eqb}
use Rattle.std.proofs.Common.{ap, ◌∙◌, mul-le-mul_right, mul-le-mul_left, lt_of_mul-lt-mul_right, le-div_iff_mul-le, zero-mul, arith, leb-true, le-leb, ne_eqb}
use Rattle.std.proofs.Math.Nat.{mul-div-le}
use Rattle.std.proofs.Math.Decide.{dec_le}
use Rattle.cut.specs.Requirement.{size_most, Segment}
use Rattle.cut.specs.declared.Bounds.{Bounds}
use Rattle.cut.specs.declared.Record.{Record}
use Rattle.cut.specs.Decision.{open_tests, ended_tests, room_as, room, largest, nothing_tests, first_tests, later_tests, alone_tests, alone, possible}
use Rattle.cut.specs.Kept.{Summary, add_part, add_top, summary}
use Rattle.cut.specs.Lists.{both, all, pick, Each}
use Rattle.cut.specs.laws.Segment.{SitsAs, Sits, Within, PartSits}

-- ---- tests

pub false-true : {b : Bool} → b ≡ false → b ≡ true → ⊥
false-true e f = let z : ◌≡◌ {A = ℕ} 0 1 = cc in omega arith

pub both_true : (a b : Bool) → both a b ≡ true → (a ≡ true) × (b ≡ true)
both_true true b e = (refl, e)
both_true false b e = absurd (false-true refl e)

pub true-both : (a b : Bool) → a ≡ true → b ≡ true → both a b ≡ true
true-both a b e f = rw (e, f)

-- a test that is made only where the one before it passes
pub both-then : {a b v : Bool} (c : Bool) → a ≡ true → v ≡ b → b ≡ c → v ≡ both a c
both-then c e f g = rw e (f ∙ g)

pub both-else : {a v : Bool} (c : Bool) → a ≡ false → v ≡ a → v ≡ both a c
both-else c e f = rw e (f ∙ e)

-- a test that is asked of a number above 0 alone
pub unless-zero : (n : ℕ) (b : Bool) → (pick (eqb n 0) true b ≡ true) ↔ (0 < n → b ≡ true)
unless-zero zero b = ((λ e h. absurd (omega arith)), (λ f. refl))
unless-zero (suc n) b = rw (ne_eqb (suc n) 0 (λ e. omega arith)) ((λ e h. e), (λ f. f (omega arith)))

pub all_true : (bs : List Bool) → all bs ≡ true → Each (λ b. b ≡ true) bs
all_true [] e = tt
all_true (b ∷ bs) e = let r = both_true b (all bs) e in (r.0, all_true bs r.1)

pub true-all : (bs : List Bool) → Each (λ b. b ≡ true) bs → all bs ≡ true
true-all [] e = refl
true-all (b ∷ bs) e = true-both b (all bs) e.0 (true-all bs e.1)

-- a test fails: not every one passes
pub some-fails : (bs : List Bool) → ¬ (Each (λ b. b ≡ true) bs) → all bs ≡ false
some-fails bs h = go (all bs) refl
  where
    go : (b : Bool) → all bs ≡ b → b ≡ false
    go true e = absurd (h (all_true bs e))
    go false e = refl

-- a number that is 0 unless every test passes
pub pick-fails : (bs : List Bool) (v : ℕ) → ¬ (Each (λ b. b ≡ true) bs) → 0 ≡ pick (all bs) v 0
pick-fails bs v h = rw (some-fails bs h) refl

pub pick-passes : (bs : List Bool) (v : ℕ) → Each (λ b. b ≡ true) bs → v ≡ pick (all bs) v 0
pick-passes bs v h = rw (true-all bs h) refl

pick_some : (c : Bool) (v t : ℕ) → suc t ≤ pick c v 0 → (c ≡ true) × (suc t ≤ v)
pick_some true v t h = (refl, h)
pick_some false v t h = absurd (omega arith)

some-pick : (c : Bool) (v t : ℕ) → c ≡ true → suc t ≤ v → suc t ≤ pick c v 0
some-pick c v t e h = rw e h

-- ---- a size and a length suit what is kept

abbrev pub TopSits : ℕ → ℕ → ℕ → ℕ → Type 0
TopSits S L zero size = Unit {0}
TopSits S L (suc t) size = (size ≡ S) × (suc t * S < L)

abbrev pub EndSits : ℕ → ℕ → ℕ → ℕ → Type 0
EndSits S L zero tail = Unit {0}
EndSits S L (suc n) tail = (n * S + tail ≡ L) × (n * S < max 1 L) × (tail ≤ S)

abbrev pub SumSits : ℕ → ℕ → Summary → Type 0
SumSits S L σ = TopSits S L σ.top σ.part.size × EndSits S L σ.part.end σ.part.tail

-- a segment does not contradict what is kept: it may be in already
abbrev pub SizeIs : ℕ → ℕ → ℕ → Type 0
SizeIs k zero size = Unit {0}
SizeIs k (suc t) size = k ≡ size

abbrev pub EndIs : ℕ → ℕ → ℕ → ℕ → Type 0
EndIs n k zero tail = Unit {0}
EndIs n k (suc m) tail = (n ≡ m) × (k ≡ tail)

abbrev pub JoinsAs : Bool → ℕ → ℕ → Summary → Type 0
JoinsAs true n k σ = EndIs n k σ.part.end σ.part.tail
JoinsAs false n k σ = SizeIs k σ.top σ.part.size

abbrev pub Clear : List Segment → Type 0
Clear [] = Unit {0}
Clear (s ∷ ss) = JoinsAs s.last s.number (length s.bytes) (summary ss) × Clear ss

-- a full segment more
top-more : (S L n k t size : ℕ) → (k ≡ S) × (suc n * S < L) → TopSits S L t size → SizeIs k t size
    × TopSits S L (max (suc n) t) k
top-more S L n k zero size a b = let e : max (suc n) 0 ≡ suc n = omega arith in (tt, rw e a)
top-more S L n k (suc t) size a b = (omega arith, go (dec_le n t))
  where
    go : Dec (n ≤ t) → TopSits S L (max (suc n) (suc t)) k
    go (yes h) = let e : max (suc n) (suc t) ≡ suc t = omega arith in rw e (a.0, b.1)
    go (no h) = let e : max (suc n) (suc t) ≡ suc n = omega arith in rw e a

top-less : (S L n k t size : ℕ) → SizeIs k t size → TopSits S L (max (suc n) t) k → ((k ≡ S) × (suc n * S < L))
    × TopSits S L t size
top-less S L n k zero size a b = let e : max (suc n) 0 ≡ suc n = omega arith in (rw e at b, tt)
top-less S L n k (suc t) size a b =
    let e : max (suc n) (suc t) ≡ suc (max n t) = omega arith in
    let b' : (k ≡ S) × (suc (max n t) * S < L) = rw e at b in
    let h : n ≤ max n t = omega arith in
    let g : t ≤ max n t = omega arith in (
      (b'.0, omega (arith, b'.1, mul-le-mul_right S h)),
      (omega (arith, b'.0), omega (arith, b'.1, mul-le-mul_right S g)),
    )

-- a last segment more
end_same : (S L n k end tail : ℕ) → 0 < S → SitsAs true S L n k → EndSits S L end tail → EndIs n k end tail
end_same S L n k zero tail z a b = tt
end_same S L n k (suc m) tail z a b = (eq, omega (arith, ap (λ (x : ℕ). x * S) eq))
  where
    below : {x y : ℕ} → x * S < y * S + S → x ≤ y
    below {x} {y} h = let g : x * S < suc y * S = omega arith in omega (arith, lt_of_mul-lt-mul_right S g)

    eq : n ≡ m
    eq = omega (arith, below {x = n} {y = m} (omega arith), below {x = m} {y = n} (omega arith))

end-less : (S L n k end tail : ℕ) → EndIs n k end tail → SitsAs true S L n k → EndSits S L end tail
end-less S L n k zero tail i a = tt
end-less S L n k (suc m) tail i a = rw (← i.0, ← i.1) a

-- the summary, with one segment more
abbrev AddSits : Bool → ℕ → ℕ → ℕ → ℕ → Summary → Type 0
AddSits b S L n k σ = TopSits S L (add_top b n σ.top) (add_part b n k σ.part).size
    × EndSits S L (add_part b n k σ.part).end (add_part b n k σ.part).tail

add-sits : (b : Bool) (S L n k : ℕ) (σ : Summary) → 0 < S → SitsAs b S L n k → SumSits S L σ → JoinsAs b n k σ
    × AddSits b S L n k σ
add-sits true S L n k σ z a s = (end_same S L n k σ.part.end σ.part.tail z a s.1, (s.0, a))
add-sits false S L n k σ z a s = let r = top-more S L n k σ.top σ.part.size a s.0 in (r.0, (r.1, s.1))

sits-add : (b : Bool) (S L n k : ℕ) (σ : Summary) → JoinsAs b n k σ → AddSits b S L n k σ → SitsAs b S L n k
    × SumSits S L σ
sits-add true S L n k σ j s = (s.1, (s.0, end-less S L n k σ.part.end σ.part.tail j s.1))
sits-add false S L n k σ j s = let r = top-less S L n k σ.top σ.part.size j s.0 in (r.0, (r.1, s.1))

pub sits-sum : (S L : ℕ) (ss : List Segment) → 0 < S → Each (Sits S L) ss → Clear ss × SumSits S L (summary ss)
unfolding Sits
sits-sum S L [] z t = (tt, (tt, tt))
sits-sum S L (s ∷ ss) z t =
    let r = sits-sum S L ss z t.1 in
    let q = add-sits s.last S L s.number (length s.bytes) (summary ss) z t.0 r.1 in
    ((q.0, r.0), q.1)

pub sum-sits : (S L : ℕ) (ss : List Segment) → Clear ss → SumSits S L (summary ss) → Each (Sits S L) ss
unfolding Sits
sum-sits S L [] c t = tt
sum-sits S L (s ∷ ss) c t =
    let q = sits-add s.last S L s.number (length s.bytes) (summary ss) c.0 t in
    (q.0, sum-sits S L ss c.1 q.1)

-- ---- the tests on numbers

-- a size and a length within the bounds, that suit what is kept
pub record Suits (b : Bounds) (top size end tail : ℕ) : Type 0 where
  pub cut : ℕ
  pub long : ℕ
  pub within : Within b.least b.most b.numbers cut long
  pub full : TopSits cut long top size
  pub ended : EndSits cut long end tail

below : (S n m : ℕ) → n * S < m * S → n < m
below S n m h = lt_of_mul-lt-mul_right S h

-- the largest size that keeps within the bounds
pub largest-high : (b : Bounds) (n k : ℕ) → (largest b n k ≤ size_most) × (n * largest b n k ≤ b.most - k)
unfolding largest
largest-high b n k =
    let h : largest b n k ≤ (b.most - k) / n = omega arith in
    (omega arith, omega (arith, mul-le-mul_left n h, mul-div-le (b.most - k) n))

largest-most : (b : Bounds) (n k S : ℕ) → 0 < n → S ≤ size_most → n * S + k ≤ b.most → S ≤ largest b n k
unfolding largest
largest-most b n k S z a h =
    let g : S * n ≤ b.most - k = omega arith in
    let f : S ≤ (b.most - k) / n = (le-div_iff_mul-le {k = n} {x = S} {y = b.most - k} z).1 g in
    omega arith

-- the tests pass where a size and a length suit
module _ (b : Bounds) (S L : ℕ) (w : Within b.least b.most b.numbers S L) where
  alone-passes : (end tail : ℕ) → EndSits S L end tail → all (alone_tests b end tail) ≡ true
  alone-passes zero tail e =
      true-all (nothing_tests b) (let h : b.numbers * S ≤ b.numbers * size_most =
      mul-le-mul_left b.numbers w.high in omega (arith, le-leb, w.long, w.short, w.enough, w.any))
  alone-passes (suc zero) tail e = true-all (first_tests b tail) (
      let z : 0 * S ≡ 0 = zero-mul S in
      omega (arith, le-leb, w.long, w.short, w.high, w.any))
  alone-passes (suc (suc n)) tail e = true-all (later_tests b (suc n) tail) (
      let m : S ≤ largest b (suc n) tail = largest-most b (suc n) tail S (omega arith) w.high
      (omega (arith, w.short)) in
      let h : suc n * S ≤ suc n * largest b (suc n) tail = mul-le-mul_left (suc n) m in
      let g : suc n < b.numbers = below S (suc n) b.numbers (omega (arith, w.enough)) in
      omega (arith, le-leb, w.long, w.short, w.low))

  room-passes : (t end tail : ℕ) → suc t * S < L → EndSits S L end tail → suc t ≤ room_as b S end tail
  room-passes t zero tail f e = some-pick (all (open_tests b S)) (min (b.numbers - 1) ((b.most - 1) / S)) t
      (true-all (open_tests b S) (omega (arith, le-leb, w.long, w.short, w.low, w.high, w.enough)))
      (let n : suc t < b.numbers = below S (suc t) b.numbers (omega (arith, w.enough)) in
      let g : suc t ≤ (b.most - 1) / S = (le-div_iff_mul-le {k = S} {x = suc t} {y = b.most - 1}
      (omega (arith, w.low))).1 (omega (arith, w.short)) in
      omega arith)
  room-passes t (suc n) tail f e = some-pick (all (ended_tests b S n tail)) n t
      (true-all (ended_tests b S n tail) (let g : n < b.numbers = below S n b.numbers (omega (arith, w.enough)) in
      omega (arith, le-leb, w.long, w.short, w.low, w.high)))
      (let h : t * S < n * S = omega arith in below S t n h)

suits-possible : (b : Bounds) (top : ℕ) (p : Record) → Suits b top p.size p.end p.tail → possible b top p
    ≡ true
unfolding alone room
suits-possible b zero p s = alone-passes b s.cut s.long s.within p.end p.tail s.ended
suits-possible b (suc t) p s = le-leb (suc t) (room_as b p.size p.end p.tail)
    (rw s.full.0 (room-passes b s.cut s.long s.within t p.end p.tail s.full.1 s.ended))

-- where they pass, a size and a length suit
alone-suits : (b : Bounds) (size end tail : ℕ) → all (alone_tests b end tail) ≡ true → Suits b 0 size end tail
alone-suits b size zero tail e =
    let r = all_true (nothing_tests b) e in
    record {
      cut = size_most;
      long = b.least;
      within =
          record {
            long = omega arith;
            short = omega (arith, leb-true);
            low = omega arith;
            high = omega arith;
            enough = omega (arith, leb-true);
            any = omega (arith, leb-true);
          };
      full = tt;
      ended = tt;
    }
alone-suits b size (suc zero) tail e =
    let r = all_true (first_tests b tail) e in
    let z : 0 * size_most ≡ 0 = zero-mul size_most in
    let n : 1 ≤ b.numbers = omega (arith, leb-true) in
    record {
      cut = size_most;
      long = tail;
      within =
          record {
            long = omega (arith, leb-true);
            short = omega (arith, leb-true);
            low = omega arith;
            high = omega arith;
            enough = omega (arith, leb-true, mul-le-mul_right size_most n);
            any = n;
          };
      full = tt;
      ended =
          (omega arith, omega (arith, leb-true), omega (arith, leb-true));
    }
alone-suits b size (suc (suc n)) tail e =
    let r = all_true (later_tests b (suc n) tail) e in
    let h = largest-high b (suc n) tail in
    let g : suc (suc n) ≤ b.numbers = omega (arith, leb-true) in
    record {
      cut = largest b (suc n) tail;
      long = suc n * largest b (suc n) tail + tail;
      within = record {
        long = omega (arith, leb-true);
        short = omega (arith, leb-true, h.1);
        low =
            omega (arith, leb-true);
        high = h.0;
        enough =
            omega (arith, leb-true, mul-le-mul_right (largest b (suc n) tail) g);
        any = omega arith;
      };
      full = tt;
      ended = (refl, omega (arith, leb-true), omega (arith, leb-true));
    }

room-suits : (b : Bounds) (t size end tail : ℕ) → suc t ≤ room_as b size end tail → Suits b (suc t) size end tail
room-suits b t size zero tail h =
    let p = pick_some (all (open_tests b size)) (min (b.numbers - 1) ((b.most - 1) / size)) t h in
    let r = all_true (open_tests b size) p.0 in
    let z : 0 < size = omega (arith, leb-true) in
    let g : suc t ≤ (b.most - 1) / size = omega (arith, p.1) in
    let f : suc t * size ≤ b.most - 1 = (le-div_iff_mul-le {k = size} {x = suc t} {y = b.most - 1} z).0 g in
    let n : suc (suc t) ≤ b.numbers = omega (arith, p.1) in
    record {
      cut = size;
      long = max b.least (suc (suc t * size));
      within = record {
        long = omega arith;
        short = omega (arith, leb-true);
        low = omega (arith, leb-true);
        high =
            omega (arith, leb-true);
        enough = omega (arith, leb-true, mul-le-mul_right size n);
        any = omega arith;
      };
      full = (refl, omega arith);
      ended = tt;
    }
room-suits b t size (suc n) tail h =
    let p = pick_some (all (ended_tests b size n tail)) n t h in
    let r = all_true (ended_tests b size n tail) p.0 in
    let g : suc n ≤ b.numbers = omega (arith, leb-true) in
    record {
      cut = size;
      long = n * size + tail;
      within = record {
        long = omega (arith, leb-true);
        short = omega (arith, leb-true);
        low = omega (arith, leb-true);
        high = omega (arith, leb-true);
        enough = omega (arith, leb-true, mul-le-mul_right size g);
        any = omega arith;
      };
      full = (refl, omega (arith, leb-true, mul-le-mul_right size p.1));
      ended = (refl, omega (arith, leb-true), omega (arith, leb-true));
    }

possible-suits : (b : Bounds) (top : ℕ) (p : Record) → possible b top p ≡ true
    → Suits b top p.size p.end p.tail
unfolding alone room
possible-suits b zero p e = alone-suits b p.size p.end p.tail e
possible-suits b (suc t) p e = room-suits b t p.size p.end p.tail
    (leb-true (suc t) (room_as b p.size p.end p.tail) e)

-- THE TESTS pass exactly when some size and length within the bounds suit what is kept
pub possible-iff : (b : Bounds) (top : ℕ) (p : Record) → (possible b top p ≡ true)
    ↔ Suits b top p.size p.end p.tail
possible-iff b top p = (possible-suits b top p, suits-possible b top p)

-- ---- one part

pub sits-possible : (b : Bounds) (ss : List Segment) → PartSits b.least b.most b.numbers ss → Clear ss
    × (possible b (summary ss).top (summary ss).part ≡ true)
sits-possible b ss f =
    let r = sits-sum f.size f.long ss (omega (arith, f.within.low)) f.sits in (
      r.0,
      suits-possible b (summary ss).top (summary ss).part
          (record { cut = f.size; long = f.long; within = f.within; full = r.1.0; ended = r.1.1 }),
    )

pub possible-sits : (b : Bounds) (ss : List Segment) → Clear ss → possible b (summary ss).top (summary ss).part ≡ true
    → PartSits b.least b.most b.numbers ss
possible-sits b ss c e =
    let r = possible-suits b (summary ss).top (summary ss).part e in
    record {
      size = r.cut;
      long = r.long;
      within = r.within;
      sits =
          sum-sits r.cut r.long ss c (r.full, r.ended);
    }
