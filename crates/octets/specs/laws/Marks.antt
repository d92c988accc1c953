-- Laws of bytes compared, and of what marks add up to. "Each mark is at most 1" is `largest_of l ≤ 1`, as the code asks
-- it.
use Rattle.std.specs.Prelude.{ℕ, zero, suc, ◌+◌, ◌≤◌, ◌<◌, max, ◌≡◌, refl, Bool, true, false, ◌&&◌, List, [], ◌∷◌, ◌++◌, ◌↔◌, length, fold, get_or, set, sum, take, drop}
use Rattle.std.proofs.Common.{sym, ap, ◌∙◌, arith, eqb, take-append-drop, drop-drop, take-add, get_or-set_same, get_or-set_other}
use Rattle.std.proofs.Math.Decide.{ℕ_discrete}
use Rattle.std.proofs.lemmas.List.Sums.{sum_by-cons}
use Rattle.std.proofs.lemmas.Slice.Eq.{compares_Decides}
use Rattle.octets.specs.Octets.{both, equal, largest_of, sum_of, zeros, part}

-- ---- bytes compared

-- `same` answers true exactly for equal lists
pub equal-exactly : (l m : List ℕ) → (equal l m ≡ true) ↔ (l ≡ m)
unfolding equal
equal-exactly = compares_Decides equal
    (record {
      empty = refl;
      shorter = λ b m. refl;
      longer = λ a l. refl;
      heads = λ a b l m. head (eqb a b) (equal l m);
    })
  where
    head : (t u : Bool) → both t u ≡ (t && u)
    head true u = refl
    head false u = refl

-- ---- sums

-- the library's sum
pub sum-is : (l : List ℕ) → sum l ≡ sum_of l
sum-is [] = refl
sum-is (b ∷ l) = rw (sum_by-cons (λ x. x) b l, sum-is l) refl

pub sum-append : (l m : List ℕ) → sum_of (l ++ m) ≡ sum_of l + sum_of m
sum-append [] m = omega arith
sum-append (b ∷ l) m = omega (arith, sum-append l m)

-- two ranges, one after the other
pub sum-ranges : (l : List ℕ) (a n k : ℕ) → sum_of (part l a (n + k)) ≡ sum_of (part l a n) + sum_of (part l (a + n) k)
sum-ranges l a n k = rw (take-add n k (drop a l), sum-append, drop-drop)

-- what is before n and what is from n on
pub sum-split : (l : List ℕ) (n : ℕ) → sum_of l ≡ sum_of (take n l) + sum_of (drop n l)
sum-split l n = sym (sym (sum-append (take n l) (drop n l)) ∙ ap sum_of (take-append-drop n l))

-- no mark is set
pub sum-none : (l : List ℕ) → (sum_of l ≡ 0) ↔ ((i : ℕ) → get_or l i 0 ≡ 0)
sum-none l = (there l, back l)
  where
    there : (l : List ℕ) → sum_of l ≡ 0 → (i : ℕ) → get_or l i 0 ≡ 0
    there [] e zero = refl
    there [] e (suc i) = refl
    there (b ∷ l) e zero = omega arith
    there (b ∷ l) e (suc i) = there l (omega arith) i

    back : (l : List ℕ) → ((i : ℕ) → get_or l i 0 ≡ 0) → sum_of l ≡ 0
    back [] f = refl
    back (b ∷ l) f = omega (arith, f 0, back l (λ i. f (suc i)))

pub sum_bound : (l : List ℕ) → largest_of l ≤ 1 → sum_of l ≤ length l
unfolding largest_of
sum_bound [] h = omega arith
sum_bound (b ∷ l) h = omega (arith, sum_bound l (omega arith))

-- every mark is set
pub sum-all : (l : List ℕ) → largest_of l ≤ 1 → (sum_of l ≡ length l) ↔ ((i : ℕ) → i < length l → get_or l i 0 ≡ 1)
unfolding largest_of
sum-all l h = (there l h, back l)
  where
    there : (l : List ℕ) → largest_of l ≤ 1 → sum_of l ≡ length l → (i : ℕ) → i < length l → get_or l i 0 ≡ 1
    there [] h e i g = absurd (omega arith)
    there (b ∷ l) h e zero g = omega (arith, sum_bound l (omega arith))
    there (b ∷ l) h e (suc i) g = there l (omega arith) (omega (arith, sum_bound l (omega arith))) i (omega arith)

    back : (l : List ℕ) → ((i : ℕ) → i < length l → get_or l i 0 ≡ 1) → sum_of l ≡ length l
    back [] f = refl
    back (b ∷ l) f = omega (arith, f 0 (omega arith), back l (λ i g. f (suc i) (omega arith)))

-- one byte stored
pub sum-set : (l : List ℕ) (i v : ℕ) → i < length l → sum_of (set l i v) + get_or l i 0 ≡ sum_of l + v
sum-set [] i v h = absurd (omega arith)
sum-set (b ∷ l) zero v h = omega arith
sum-set (b ∷ l) (suc i) v h = omega (arith, sum-set l i v (omega arith))

-- one mark more is set
pub sum-marked : (l : List ℕ) (i : ℕ) → i < length l → get_or l i 0 ≡ 0 → sum_of (set l i 1) ≡ suc (sum_of l)
sum-marked l i h e = omega (arith, sum-set l i 1 h)

-- a set mark is the only one exactly when the sum is 1
pub sum_one : (l : List ℕ) (j : ℕ) → j < length l → get_or l j 0 ≡ 1 → (sum_of l ≡ 1) ↔ ((i : ℕ) → 0 < get_or l i 0 → i ≡ j)
sum_one l j h e = (there, back)
  where
    rest : sum_of (set l j 0) + 1 ≡ sum_of l
    rest = omega (arith, sum-set l j 0 h)

    there : sum_of l ≡ 1 → (i : ℕ) → 0 < get_or l i 0 → i ≡ j
    there s i g = go (ℕ_discrete i j)
      where
        go : Dec (i ≡ j) → i ≡ j
        go (yes p) = p
        go (no p) = absurd
            (omega (arith, g, get_or-set_other l j i 0 0 p, (sum-none (set l j 0)).0 (omega (arith, rest)) i))

    back : ((i : ℕ) → 0 < get_or l i 0 → i ≡ j) → sum_of l ≡ 1
    back f = omega (arith, rest, (sum-none (set l j 0)).1 (λ i. none i (ℕ_discrete i j)))
      where
        zero_of : (x : ℕ) → ¬ (0 < x) → x ≡ 0
        zero_of x p = omega arith

        none : (i : ℕ) → Dec (i ≡ j) → get_or (set l j 0) i 0 ≡ 0
        none i (yes p) = rw p (get_or-set_same l j 0 0 h)
        none i (no p) = get_or-set_other l j i 0 0 p ∙ zero_of (get_or l i 0) (λ g. p (f i g))

-- ---- the largest byte

pub largest-each : (l : List ℕ) (b : ℕ) → (largest_of l ≤ b) ↔ ((i : ℕ) → get_or l i 0 ≤ b)
unfolding largest_of
largest-each l b = (there l, back l)
  where
    there : (l : List ℕ) → largest_of l ≤ b → (i : ℕ) → get_or l i 0 ≤ b
    there [] h zero = omega arith
    there [] h (suc i) = omega arith
    there (x ∷ l) h zero = omega arith
    there (x ∷ l) h (suc i) = there l (omega arith) i

    back : (l : List ℕ) → ((i : ℕ) → get_or l i 0 ≤ b) → largest_of l ≤ b
    back [] f = omega arith
    back (x ∷ l) f = omega (arith, f 0, back l (λ i. f (suc i)))

pub largest-append : (l m : List ℕ) → largest_of (l ++ m) ≡ max (largest_of l) (largest_of m)
unfolding largest_of
largest-append [] m = omega arith
largest-append (b ∷ l) m = omega (arith, largest-append l m)

-- the library's fold
pub largest-folded : (l : List ℕ) (top : ℕ) → fold (λ (t b : ℕ). max t b) top l ≡ max top (largest_of l)
unfolding largest_of
largest-folded [] top = omega arith
largest-folded (b ∷ l) top = omega (arith, largest-folded l (max top b))

pub largest-part : (l : List ℕ) (a k : ℕ) → largest_of (part l a k) ≤ largest_of l
largest-part l a k =
    let d : largest_of (drop a l) ≤ largest_of l =
    omega (arith, largest-append (take a l) (drop a l), ap largest_of (take-append-drop a l)) in
    omega (arith, largest-append (part l a k) (drop k (drop a l)), ap largest_of (take-append-drop k (drop a l)))

pub largest-set : (l : List ℕ) (i v b : ℕ) → largest_of l ≤ b → v ≤ b → largest_of (set l i v) ≤ b
unfolding largest_of
largest-set [] zero v b h g = omega arith
largest-set [] (suc i) v b h g = omega arith
largest-set (x ∷ l) zero v b h g = omega arith
largest-set (x ∷ l) (suc i) v b h g = omega (arith, largest-set l i v b (omega arith) g)

-- ---- cleared marks

pub zeros-sum : (n : ℕ) → sum_of (zeros n) ≡ 0
unfolding zeros
zeros-sum zero = refl
zeros-sum (suc n) = omega (arith, zeros-sum n)

pub zeros-largest : (n : ℕ) → largest_of (zeros n) ≡ 0
unfolding zeros largest_of
zeros-largest zero = refl
zeros-largest (suc n) = omega (arith, zeros-largest n)
