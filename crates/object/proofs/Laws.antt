-- Laws that the proofs of the code share.
-- Assumes nothing.
use Rattle.std.specs.Prelude.{Option}
use mathlib.Core.Path.{◌≡◌, refl, sym, ap, ◌∙◌}
use mathlib.Core.Bool.{Bool, true}
use mathlib.Core.List.{List, [], ◌∷◌, ◌++◌, append-nil}
use Prim.Native.Nat.{ℕ, ◌-◌, ◌≤◌}
use native.Mathlib.Decide.{ℕ_discrete, dec_le}
use native.Mathlib.Omega.{arith}
use lib.ListN.{length, take, drop, length-drop, drop_of_length-le}
use borrow.Rule.Slice.PartMut.{put_mid}
use lib.Dec.{leb, eqb}
use borrow.Author.Tests.{le-leb, lt-leb, leb-true, eq-eqb, ne_eqb}
use Rattle.octets.specs.Octets.{sum_of, largest_of}
use Rattle.answer.specs.declared.Part.{Part}
use Rattle.answer.specs.declared.Part.TheVariants.{Header, Body}
use Rattle.cut.specs.declared.Sizes.{Sizes}
use Rattle.cut.specs.Requirement.{header_numbers}
use Rattle.cut.specs.Kept.{bounds_of}
use Rattle.part.specs.Asked.{Counted}
use Rattle.cut.specs.laws.Decision.{both_true}
use Rattle.object.specs.Sound.{marks_right}
use Rattle.object.specs.laws.Inside.{bounds-numbers, numbers-most, marks-length, marks-bits}
use Rattle.object.specs.declared.Tally.{Tally}
use Rattle.object.specs.Asked.{total_in, Summed}
use Rattle.object.specs.Parts.{marks_of}

-- ---- a part's marks

summed-in : (part : Part) (tally : Tally) (marks : List ℕ) → Summed Header tally.headers tally.bodies marks
    → total_in part tally ≡ sum_of (marks_of part marks)
summed-in Header tally marks s = s.ours
summed-in Body tally marks s = s.theirs

pub counted : (part : Part) (limit : ℕ) (core : Option Sizes) (tally : Tally) (marks : List ℕ)
    → Summed Header tally.headers tally.bodies marks → largest_of marks ≤ 1
    → Counted (bounds_of part limit core) (total_in part tally) (marks_of part marks)
counted part limit core tally marks s bits = record {
  numbers = marks-length part marks s.long ∙ sym (bounds-numbers part limit core);
  few = omega (arith, bounds-numbers part limit core, numbers-most part);
  bits = marks-bits part marks bits;
  sum = summed-in part tally marks s;
}

-- marks that are right are 0 or 1
pub right-bits : (marks : List ℕ) (b : Bool) → b ≡ marks_right marks → b ≡ true → largest_of marks ≤ 1
right-bits marks b e t =
    leb-true (largest_of marks) 1 (both_true (leb (largest_of marks) 1) (leb 1 (sum_of marks)) (sym e ∙ t)).0

-- the body's marks, back among all
pub back_whole : (l m : List ℕ) → header_numbers ≤ length l → put_mid header_numbers (length l - header_numbers) l m
    ≡ take header_numbers l ++ m
back_whole l m h = ap (λ (r : List ℕ). take header_numbers l ++ r)
    (ap (λ (r : List ℕ). m ++ r)
    (drop_of_length-le (drop header_numbers l) {i = length l - header_numbers} (rw length-drop (omega arith)))
    ∙ append-nil m)

-- some mark is set exactly where the largest is 1
largest-sum : (marks : List ℕ) → largest_of marks ≤ sum_of marks
unfolding largest_of
largest-sum [] = omega arith
largest-sum (b ∷ marks) = omega (arith, largest-sum marks)

largest-none : (marks : List ℕ) → largest_of marks ≡ 0 → sum_of marks ≡ 0
unfolding largest_of
largest-none [] h = refl
largest-none (b ∷ marks) h = omega (arith, largest-none marks (omega (arith, h)), h)

pub right_largest : (marks : List ℕ) → eqb (largest_of marks) 1 ≡ marks_right marks
right_largest marks = go (dec_le (largest_of marks) 1)
  where
    some : largest_of marks ≤ 1 → Dec (largest_of marks ≡ 1) → eqb (largest_of marks) 1 ≡ leb 1 (sum_of marks)
    some h (yes d) =
        rw (eq-eqb (largest_of marks) 1 d, le-leb 1 (sum_of marks) (omega (arith, largest-sum marks, d))) refl
    some h (no d) = rw (
      ne_eqb (largest_of marks) 1 d,
      lt-leb 1 (sum_of marks) (omega (arith, largest-none marks (omega (arith, h, d)))),
    )
        refl

    go : Dec (largest_of marks ≤ 1) → eqb (largest_of marks) 1 ≡ marks_right marks
    go (yes h) = rw (le-leb (largest_of marks) 1 h) (some h (ℕ_discrete (largest_of marks) 1))
    go (no h) =
        rw (ne_eqb (largest_of marks) 1 (λ d. h (omega arith)), lt-leb (largest_of marks) 1 (omega arith)) refl
