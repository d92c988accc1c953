-- The decision as code asks it: of a record and of sums of marks.
use Rattle.std.specs.Prelude.{Bool, true, false, Option, List, [], ◌∷◌, ℕ, suc, min, drop, eqb, leb}
use Rattle.octets.specs.Octets.{sum_of}
use Rattle.answer.specs.declared.Part.{Part}
use Rattle.cut.specs.declared.Sizes.{Sizes}
use Rattle.cut.specs.declared.Bounds.{Bounds}
use Rattle.cut.specs.declared.Record.{Record}
use Rattle.cut.specs.Parts.{other_part}
use Rattle.cut.specs.Decision.{core_fits, room, alone, joins}
use Rattle.cut.specs.Kept.{bounds_of, add_part}
use Rattle.cut.specs.Lists.{both, all, pick}

-- 1 if the last one is in, else 0
abbrev pub ended : Record → ℕ
ended p = min 1 p.end

-- a full segment is in, of so many that are, or of those that are marked
abbrev pub full_by : Record → ℕ → Bool
full_by p total = leb (suc (ended p)) total

abbrev pub full_in : Record → List ℕ → Bool
full_in p marks = full_by p (sum_of marks)

-- what is marked can be: STATE asks this of each part
unfoldable pub possible_in : Bounds → Record → List ℕ → Bool
possible_in b p marks =
    pick (eqb (sum_of marks) (ended p)) (alone b p) (eqb (sum_of (drop (room b p) marks)) (ended p))

-- what is marked and one more, number n, can be: p is the record with it, the mark is not set yet
abbrev pub accepts_in : Bool → ℕ → Bounds → Record → List ℕ → Bool
accepts_in true n b p marks = pick (eqb (sum_of marks) 0) (alone b p) (eqb (sum_of (drop (room b p) marks)) 0)
accepts_in false n b p marks = both (leb (suc n) (room b p)) (eqb (sum_of (drop (room b p) marks)) (ended p))

-- one more, number n of k bytes, whose mark is not set: it goes with those that are in, and with them within the bounds
unfoldable pub fits_in : Bounds → Record → List ℕ → Bool → ℕ → ℕ → Bool
fits_in b p marks last n k = both (joins (full_in p marks) last k p) (accepts_in last n b (add_part last n k p) marks)

-- THE DECISION, of the record and the marks of its part and of the other: a segment of a part whose number is not
-- marked fits, c being what header segment 0 says with it in
abbrev pub takes : Part → ℕ → Option Sizes → Record → List ℕ → Record → List ℕ → Bool → ℕ → ℕ → Bool
takes part limit c p marks q others last n k = all
    (core_fits limit c
    ∷ fits_in (bounds_of part limit c) p marks last n k
    ∷ possible_in (bounds_of (other_part part) limit c) q others
    ∷ [])
