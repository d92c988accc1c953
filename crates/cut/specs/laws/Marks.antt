-- Marks: a list of 0 and 1 that says which numbers of a part are in. Nothing has to be looked for in it: each test that
-- the decision asks is a sum over a range of marks.
use Rattle.std.specs.Prelude.{◌≡◌, refl, ◌≢◌, ◌↔◌, Bool, true, false, Option, Some, None, List, [], ◌∷◌, ℕ, zero, suc, ◌+◌, ◌-◌, ◌*◌, ◌≤◌, ◌<◌, max, length, drop, get_or, eqb, leb}
use Rattle.std.proofs.Common.{sym, ap, ◌∙◌, subst, lt_of_mul-lt-mul_right, arith, get_or-drop, eqb-true, eq-eqb, ne_eqb, le-leb}
use Rattle.std.proofs.Math.Decide.{ℕ_discrete, dec_le}
use Rattle.std.proofs.lemmas.Bool.{eqb-false}
use Rattle.octets.specs.Octets.{sum_of}
use Rattle.cut.specs.laws.Lists.{each-among, each-drop}
use Rattle.cut.specs.Requirement.{Segment, Fits, Finished}
use Rattle.answer.specs.declared.Part.{Part}
use Rattle.answer.specs.declared.Part.TheVariants.{Header, Body}
use Rattle.cut.specs.declared.Sizes.{Sizes}
use Rattle.cut.specs.Decision.{whole, finished}
use Rattle.cut.specs.Kept.{summary, core_of}
use Rattle.cut.specs.Lists.{pick, both, Each, Among}
use Rattle.cut.specs.laws.Segment.{Sits, inside, Numbered, Agree, numbered-among, among-numbered}
use Rattle.cut.specs.laws.Decision.{Clear, EndSits, both_true, true-both, unless-zero, false-true, sits-sum}
use Rattle.cut.specs.laws.Object.{fits-within, fits-sits}
use Rattle.cut.specs.Parts.{those, part_of, cut_of}
use Rattle.cut.specs.laws.Order.{Knows, knows-each, knows-last, knows-full, EndFrom, TopFrom, end-from, top-from, agree_same}
use Rattle.cut.specs.laws.Finished.{Counted, finished-iff, finished-core}

-- 1 + the highest marked number but the last segment's, which is number end - 1, or 0
abbrev pub top_one : ℕ → Bool → ℕ → ℕ
top_one zero last n = 0
top_one (suc m) true n = 0
top_one (suc m) false n = suc n

abbrev pub top_from : ℕ → ℕ → List ℕ → ℕ
top_from end i [] = 0
top_from end i (m ∷ ms) = max (top_one m (eqb (suc i) end) i) (top_from end (suc i) ms)

-- marks are those of the segments that are in
pub record Marked (marks : List ℕ) (ss : List Segment) : Type 0 where
  pub bits : Each (λ m. m ≤ 1) marks
  pub marked : (n : ℕ) → (0 < get_or marks n 0) ↔ Numbered n ss

-- ---- the highest

top-one : (m : ℕ) (l : Bool) (n : ℕ) → 0 < m → l ≡ false → suc n ≤ top_one m l n
top-one zero l n h e = absurd (omega arith)
top-one (suc m) true n h e = absurd (false-true e refl)
top-one (suc m) false n h e = omega arith

shift : (i j : ℕ) → i + suc j ≡ suc i + j
shift i j = omega arith

pub top-high : (end i j : ℕ) (marks : List ℕ) → 0 < get_or marks j 0 → suc (i + j) ≢ end
    → suc (i + j) ≤ top_from end i marks
top-high end i zero [] h d = absurd (omega arith)
top-high end i (suc j) [] h d = absurd (omega arith)
top-high end i zero (m ∷ ms) h d =
    let f : suc i ≡ end → ⊥ = λ x. d (omega arith) in
    omega (arith, top-one m (eqb (suc i) end) i h (ne_eqb (suc i) end f))
top-high end i (suc j) (m ∷ ms) h d =
    let g : suc (suc i + j) ≤ top_from end (suc i) ms = top-high end (suc i) j ms h (rw shift at d) in
    omega (arith, g, shift i j)

top-one-is : (m : ℕ) (l : Bool) (n t : ℕ) → top_one m l n ≡ suc t → (n ≡ t) × (0 < m) × (l ≡ false)
top-one-is zero l n t h = absurd (omega arith)
top-one-is (suc m) true n t h = absurd (omega arith)
top-one-is (suc m) false n t h = (omega arith, omega arith, refl)

-- the highest is marked
pub top-marked : (end i t : ℕ) (marks : List ℕ) → top_from end i marks ≡ suc t → (j : ℕ) × (t ≡ i + j)
    × (0 < get_or marks j 0) × (suc t ≢ end)
top-marked end i t [] h = absurd (omega arith)
top-marked end i t (m ∷ ms) h = go (ℕ_discrete (top_from end (suc i) ms) (suc t)) (λ x. top-marked end (suc i) t ms x)
  where
    go : Dec (top_from end (suc i) ms ≡ suc t)
        → (top_from end (suc i) ms ≡ suc t → (j : ℕ) × (t ≡ suc i + j) × (0 < get_or ms j 0) × (suc t ≢ end)) → (j : ℕ)
        × (t ≡ i + j) × (0 < get_or (m ∷ ms) j 0) × (suc t ≢ end)
    go (yes x) rec = let r = rec x in (suc r.0, omega (arith, r.1), r.2, r.3)
    go (no x) rec =
        let o : top_one m (eqb (suc i) end) i ≡ suc t = omega arith in
        let r = top-one-is m (eqb (suc i) end) i t o in
        (0, omega (arith, r.0), r.1, (λ y. eqb-false (suc i) end r.2 (omega (arith, r.0))))

marked-at : (end t : ℕ) (marks : List ℕ) → top_from end 0 marks ≡ suc t → (0 < get_or marks t 0) × (suc t ≢ end)
marked-at end t marks h =
    let r = top-marked end 0 t marks h in
    let e : r.0 ≡ t = omega (arith, r.1) in
    (subst (λ (j : ℕ). 0 < get_or marks j 0) e r.2, r.3)

-- it is the one that the summary keeps
module _ (marks : List ℕ) (ss : List Segment) (m : Marked marks ss) (a : Agree ss) (c : Clear ss) where
  not_end : (n : ℕ) (q : Segment) (end tail : ℕ) → EndFrom ss end tail → Among q ss → q.last ≡ false → q.number ≡ n
      → suc n ≢ end
  not_end n q zero tail f i l e h = omega arith
  not_end n q (suc j) tail f i l e h =
      let x : q ≡ f.0 = agree_same ss q f.0 a i f.1 (e ∙ omega arith ∙ sym f.3) in
      false-true (sym (ap (λ (s : Segment). s.last) x) ∙ l) f.2

  summary-low : (top size : ℕ) → TopFrom ss top size → top ≤ top_from (summary ss).part.end 0 marks
  summary-low zero size f = omega arith
  summary-low (suc t) size f =
      let h : 0 < get_or marks t 0 = (m.marked t).1 (rw f.3 at (among-numbered f.0 ss f.1)) in
      omega (
        arith,
        top-high (summary ss).part.end 0 t marks h
            (λ e. not_end t f.0 (summary ss).part.end (summary ss).part.tail (end-from ss) f.1 f.2 f.3
            (omega arith)),
      )

  by_flag : (b : Bool) (t : ℕ) (q : Segment) → q.last ≡ b → q.number ≡ t → Knows (summary ss) q
      → suc t ≢ (summary ss).part.end → suc t ≤ (summary ss).top
  by_flag true t q l n k d = absurd (d (sym (knows-last (summary ss) q t (length q.bytes) l n refl k).0))
  by_flag false t q l n k d = (knows-full (summary ss) q t (length q.bytes) l n refl k).0

  summary-high : (t : ℕ) → top_from (summary ss).part.end 0 marks ≡ t → t ≤ (summary ss).top
  summary-high zero e = omega arith
  summary-high (suc t) e =
      let r = marked-at (summary ss).part.end t marks e in
      let q = numbered-among t ss ((m.marked t).0 r.0) in
      by_flag q.0.last t q.0 refl q.2 (each-among (Knows (summary ss)) q.0 ss (knows-each ss c) q.1)
      r.1

  pub top_kept : top_from (summary ss).part.end 0 marks ≡ (summary ss).top
  top_kept = omega (
    arith,
    summary-high (top_from (summary ss).part.end 0 marks) refl,
    summary-low (summary ss).top (summary ss).part.size (top-from ss c),
  )

-- ---- sums

zero_of : (x : ℕ) → ¬ (0 < x) → x ≡ 0
zero_of x h = omega arith

none-total : (l : List ℕ) → ((i : ℕ) → get_or l i 0 ≡ 0) → sum_of l ≡ 0
none-total [] f = refl
none-total (m ∷ ms) f = let x : m ≡ 0 = f 0 in let r = none-total ms (λ i. f (suc i)) in omega arith

total-none : (l : List ℕ) → sum_of l ≡ 0 → (i : ℕ) → get_or l i 0 ≡ 0
total-none [] e zero = refl
total-none [] e (suc i) = refl
total-none (m ∷ ms) e zero = omega arith
total-none (m ∷ ms) e (suc i) = total-none ms (omega arith) i

pub total-some : (l : List ℕ) (i : ℕ) → 0 < get_or l i 0 → 0 < sum_of l
total-some [] zero h = h
total-some [] (suc i) h = h
total-some (m ∷ ms) zero h = omega arith
total-some (m ∷ ms) (suc i) h = omega (arith, total-some ms i h)

-- one mark is set at j: the sum is 1 exactly when no other is
one-total : (l : List ℕ) (j : ℕ) → Each (λ m. m ≤ 1) l → 0 < get_or l j 0 → ((i : ℕ) → 0 < get_or l i 0 → i ≡ j) → sum_of l
    ≡ 1
one-total [] zero e h f = absurd (omega arith)
one-total [] (suc j) e h f = absurd (omega arith)
one-total (m ∷ ms) zero e h f =
    let r : sum_of ms ≡ 0 =
    none-total ms (λ i. zero_of (get_or ms i 0) (λ p. let q : suc i ≡ 0 = f (suc i) p in omega arith)) in
    omega (arith, e.0)
one-total (m ∷ ms) (suc j) e h f =
    let z : ¬ (0 < m) = λ p. (let q : 0 ≡ suc j = f 0 p in omega arith) in
    let r : sum_of ms ≡ 1 = one-total ms j e.1 h (λ i p. let q : suc i ≡ suc j = f (suc i) p in omega arith) in
    omega arith

rest-one : (m : ℕ) (ms : List ℕ) (j : ℕ) → 0 < get_or ms j 0 → m + sum_of ms ≡ 1 → sum_of ms ≡ 1
rest-one m ms j h e = go (ℕ_discrete (sum_of ms) 0)
  where
    go : Dec (sum_of ms ≡ 0) → sum_of ms ≡ 1
    go (yes z) = absurd (omega (arith, total-none ms z j))
    go (no z) = omega arith

total-one : (l : List ℕ) (j : ℕ) → 0 < get_or l j 0 → sum_of l ≡ 1 → (i : ℕ) → 0 < get_or l i 0 → i ≡ j
total-one [] zero h e i p = absurd (omega arith)
total-one [] (suc j) h e i p = absurd (omega arith)
total-one (m ∷ ms) zero h e zero p = refl
total-one (m ∷ ms) zero h e (suc i) p = let z : sum_of ms ≡ 0 = omega arith in absurd (omega (arith, total-none ms z i))
total-one (m ∷ ms) (suc j) h e zero p = let z : sum_of ms ≡ 0 = omega arith in absurd (omega (arith, total-none ms z j))
total-one (m ∷ ms) (suc j) h e (suc i) p = let r : i ≡ j = total-one ms j h (rest-one m ms j h e) i p in omega arith

-- no full segment has a number from b on: only the last one may be marked there
pub top_below : (end b : ℕ) (marks : List ℕ) → (top_from end 0 marks ≤ b)
    ↔ ((n : ℕ) → b ≤ n → 0 < get_or marks n 0 → suc n ≡ end)
top_below end b marks = (there, back)
  where
    there : top_from end 0 marks ≤ b → (n : ℕ) → b ≤ n → 0 < get_or marks n 0 → suc n ≡ end
    there h n g p = go (ℕ_discrete (suc n) end)
      where
        go : Dec (suc n ≡ end) → suc n ≡ end
        go (yes x) = x
        go (no x) = absurd (omega (arith, top-high end 0 n marks p (λ y. x (omega arith))))

    back : ((n : ℕ) → b ≤ n → 0 < get_or marks n 0 → suc n ≡ end) → top_from end 0 marks ≤ b
    back f = go (top_from end 0 marks) refl
      where
        go : (t : ℕ) → top_from end 0 marks ≡ t → top_from end 0 marks ≤ b
        go zero x = omega arith
        go (suc t) x = say (dec_le b t) (marked-at end t marks x)
          where
            say : Dec (b ≤ t) → (0 < get_or marks t 0) × (suc t ≢ end) → top_from end 0 marks ≤ b
            say (yes g) r = absurd (r.1 (f t g r.0))
            say (no g) r = omega arith

-- the last one is not marked: the sum of the marks from b on is 0
pub top-open : (end b : ℕ) (marks : List ℕ) → ((n : ℕ) → suc n ≡ end → get_or marks n 0 ≡ 0) → (top_from end 0 marks ≤ b)
    ↔ (sum_of (drop b marks) ≡ 0)
top-open end b marks u = (
  (λ h. none-total (drop b marks) (λ i. zero_of (get_or (drop b marks) i 0) (λ p.
      let g : 0 < get_or marks (b + i) 0 = rw get_or-drop at p in
      let z : get_or marks (b + i) 0 ≡ 0 = u (b + i) ((top_below end b marks).0 h (b + i) (omega arith) g) in
      omega arith))),
  (λ h. (top_below end b marks).1 (λ n g p. let e : b + (n - b) ≡ n = omega arith in
      absurd (omega (
        arith,
        total-none (drop b marks) h (n - b),
        get_or-drop b marks (n - b) 0,
        ap (λ (k : ℕ). get_or marks k 0) e,
      )))),
)

-- the last one, number j, is marked, from b on: the sum is 1
pub top-ended : (b j : ℕ) (marks : List ℕ) → Each (λ m. m ≤ 1) marks → b ≤ j → 0 < get_or marks j 0
    → (top_from (suc j) 0 marks ≤ b) ↔ (sum_of (drop b marks) ≡ 1)
top-ended b j marks e g m = (
  (λ h. one-total (drop b marks) (j - b) (each-drop (λ m. m ≤ 1) b marks e) mark
      (λ i p. let q : suc (b + i) ≡ suc j = (top_below (suc j) b marks).0 h (b + i) (omega arith) (rw get_or-drop at p) in
      omega arith)),
  (λ h. (top_below (suc j) b marks).1 (λ n l p. let x : n - b ≡ j - b = total-one (drop b marks) (j - b) mark h (n - b)
      (at n l p) in omega arith)),
)
  where
    at : (n : ℕ) → b ≤ n → 0 < get_or marks n 0 → 0 < get_or (drop b marks) (n - b) 0
    at n l p = let x : b + (n - b) ≡ n = omega arith in rw (get_or-drop b marks (n - b) 0, x) p

    mark : 0 < get_or (drop b marks) (j - b) 0
    mark = at j g m

-- ---- counting: every number below the end is marked exactly when the sum says so

total-most : (marks : List ℕ) (end : ℕ) → Each (λ m. m ≤ 1) marks → ((i : ℕ) → 0 < get_or marks i 0 → i < end)
    → sum_of marks ≤ end
total-most [] end b h = omega arith
total-most (m ∷ ms) zero b h =
    let z : ¬ (0 < m) = λ p. (let q : 0 < 0 = h 0 p in omega arith) in
    let r : sum_of ms ≤ 0 = total-most ms zero b.1 (λ i p. let q : suc i < 0 = h (suc i) p in absurd (omega arith)) in
    omega arith
total-most (m ∷ ms) (suc end) b h =
    let r : sum_of ms ≤ end = total-most ms end b.1 (λ i p. let q : suc i < suc end = h (suc i) p in omega arith) in
    omega (arith, b.0)

all-total : (marks : List ℕ) (end : ℕ) → Each (λ m. m ≤ 1) marks → ((i : ℕ) → 0 < get_or marks i 0 → i < end)
    → ((i : ℕ) → i < end → 0 < get_or marks i 0) → sum_of marks ≡ end
all-total [] zero b h a = refl
all-total [] (suc end) b h a = let q : 0 < 0 = a 0 (omega arith) in absurd (omega arith)
all-total (m ∷ ms) zero b h a = let r = total-most (m ∷ ms) zero b h in omega arith
all-total (m ∷ ms) (suc end) b h a =
    let r : sum_of ms ≡ end = all-total ms end b.1 (λ i p. let q : suc i < suc end = h (suc i) p in omega arith)
    (λ i p. a (suc i) (omega arith)) in
    let q : 0 < m = a 0 (omega arith) in
    omega (arith, b.0)

total-all : (marks : List ℕ) (end : ℕ) → Each (λ m. m ≤ 1) marks → ((i : ℕ) → 0 < get_or marks i 0 → i < end)
    → sum_of marks ≡ end → (i : ℕ) → i < end → 0 < get_or marks i 0
total-all [] end b h t i p = let z : end ≡ 0 = sym t in absurd (omega arith)
total-all (m ∷ ms) zero b h t i p = absurd (omega arith)
total-all (m ∷ ms) (suc end) b h t zero p =
    let r : sum_of ms ≤ end = total-most ms end b.1 (λ i p. let q : suc i < suc end = h (suc i) p in omega arith) in
    omega arith
total-all (m ∷ ms) (suc end) b h t (suc i) p =
    let r : sum_of ms ≤ end = total-most ms end b.1 (λ i p. let q : suc i < suc end = h (suc i) p in omega arith) in
    total-all ms end b.1 (λ i p. let q : suc i < suc end = h (suc i) p in omega arith) (omega (arith, b.0)) i
    (omega arith)

-- every number that is in lies below the end, once there is one
below_end : (ss : List Segment) (S L end tail : ℕ) → Each (Sits S L) ss → 0 < S → EndSits S L end tail → end ≢ 0
    → (i : ℕ) → Numbered i ss → i < end
below_end ss S L zero tail s z e d i n = absurd (d refl)
below_end ss S L (suc m) tail s z e d i n =
    let q = numbered-among i ss n in
    let b = inside S L q.0 z (each-among (Sits S L) q.0 ss s q.1) in
    let x : q.0.number * S ≡ i * S = ap (λ (k : ℕ). k * S) q.2 in
    let g : i * S < suc m * S = omega (arith, b.starts) in
    lt_of_mul-lt-mul_right S g

counted-as : (marks : List ℕ) (ss : List Segment) (end tail S L : ℕ) → Marked marks ss → Each (Sits S L) ss → 0 < S
    → EndSits S L end tail → (both (leb 1 end) (eqb (sum_of marks) end) ≡ true) ↔ Counted end ss
counted-as marks ss zero tail S L m s z e = ((λ h. absurd (false-true refl h)), (λ w. absurd w))
counted-as marks ss (suc n) tail S L m s z e = (
  (λ h i g. (m.marked i).0
      (total-all marks (suc n) m.bits low
      (eqb-true (sum_of marks) (suc n) (both_true (leb 1 (suc n)) (eqb (sum_of marks) (suc n)) h).1) i g)),
  (λ w. true-both (leb 1 (suc n)) (eqb (sum_of marks) (suc n)) (le-leb 1 (suc n) (omega arith))
      (eq-eqb (sum_of marks) (suc n) (all-total marks (suc n) m.bits low (λ i g. (m.marked i).1 (w i g))))),
)
  where
    low : (i : ℕ) → 0 < get_or marks i 0 → i < suc n
    low i p = below_end ss S L (suc n) tail s z e (λ x. omega arith) i ((m.marked i).0 p)

-- a part is whole by the sum of its marks
pub whole-marked : (kind : Part) (limit : ℕ) (hs bs : List Segment) (f : Fits limit hs bs) (marks : List ℕ)
    → Marked marks (those kind hs bs) → (whole (sum_of marks) (summary (those kind hs bs)).part ≡ true)
    ↔ Counted (summary (those kind hs bs)).part.end (those kind hs bs)
whole-marked kind limit hs bs f marks m =
    let z : 0 < cut_of kind f = omega (arith, (fits-within limit hs bs f kind).low) in
    let s = fits-sits limit hs bs f kind in
    counted-as marks (those kind hs bs) (summary (those kind hs bs)).part.end (summary (those kind hs bs)).part.tail
    (cut_of kind f) (length (part_of kind f)) m s z
    (sits-sum (cut_of kind f) (length (part_of kind f)) (those kind hs bs) z s).1.1

-- FINISHED, by what is kept: exactly when every segment of the object is in
pub finished-marked : (limit : ℕ) (hs bs : List Segment) (f : Fits limit hs bs) (header_marks body_marks : List ℕ)
    → Marked header_marks hs → Marked body_marks bs
    → (finished (core_of hs) (sum_of header_marks) (summary hs).part (sum_of body_marks) (summary bs).part ≡ true)
    ↔ Finished f
finished-marked limit hs bs f header_marks body_marks mh mb = go (core_of hs) refl
  where
    h : (whole (sum_of header_marks) (summary hs).part ≡ true) ↔ Counted (summary hs).part.end hs
    h = whole-marked Header limit hs bs f header_marks mh

    b : (whole (sum_of body_marks) (summary bs).part ≡ true) ↔ Counted (summary bs).part.end bs
    b = whole-marked Body limit hs bs f body_marks mb

    go : (c : Option Sizes) → core_of hs ≡ c
        → (finished c (sum_of header_marks) (summary hs).part (sum_of body_marks) (summary bs).part ≡ true) ↔ Finished f
    go None e = (
      (λ x. absurd (false-true refl x)),
      (λ w. let x = sym e ∙ finished-core limit hs bs f w in
          let z : ◌≡◌ {A = ℕ} 0 1 = cc in absurd (omega arith)),
    )
    go (Some sizes) e =
        let r = finished-iff limit hs bs f sizes e in
        let u = unless-zero sizes.body (whole (sum_of body_marks) (summary bs).part) in (
          (λ x. let t = both_true (whole (sum_of header_marks) (summary hs).part)
              (pick (eqb sizes.body 0) true (whole (sum_of body_marks) (summary bs).part)) x in
              r.1 (h.0 t.0, (λ y. b.0 (u.0 t.1 y)))),
          (λ w. let t = r.0 w in true-both (whole (sum_of header_marks) (summary hs).part)
              (pick (eqb sizes.body 0) true (whole (sum_of body_marks) (summary bs).part)) (h.1 t.0)
              (u.1 (λ y. b.1 (t.1 y)))),
        )
