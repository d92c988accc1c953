-- The decision, numbers only: whether what is kept of the segments of an object suits some object and cut, whether one
-- more segment fits, and whether every one is in.
use Rattle.std.specs.Prelude.{Bool, true, false, Option, Some, None, List, [], ◌∷◌, ℕ, zero, suc, ◌+◌, ◌-◌, ◌*◌, ◌/◌, min, length, eqb, leb}
use Rattle.cut.specs.Requirement.{header_least, header_most, size_least, size_most, Segment}
use Rattle.answer.specs.declared.Part.{Part}
use Rattle.answer.specs.declared.Part.TheVariants.{Header, Body}
use Rattle.cut.specs.declared.Sizes.{Sizes}
use Rattle.cut.specs.declared.Bounds.{Bounds}
use Rattle.cut.specs.declared.Record.{Record}
use Rattle.cut.specs.Lists.{pick, both, all}
use Rattle.cut.specs.Kept.{bounds_of, Summary, add_to, some_full, core_after}

-- ---- the core

-- the sizes that the header says are within the bounds
abbrev pub core_tests : ℕ → Option Sizes → List Bool
core_tests limit None = []
core_tests limit (Some sizes) = leb header_least sizes.header ∷ leb sizes.header header_most ∷ leb sizes.body limit
    ∷ []

unfoldable pub core_fits : ℕ → Option Sizes → Bool
core_fits limit c = all (core_tests limit c)

-- ---- one part

-- full segments of a size can be: the last one is not in, or is number n with tail bytes
abbrev pub open_tests : Bounds → ℕ → List Bool
open_tests b size = leb size_least size ∷ leb size size_most ∷ leb b.least b.most
    ∷ leb b.least (b.numbers * size) ∷ []

abbrev pub ended_tests : Bounds → ℕ → ℕ → ℕ → List Bool
ended_tests b size n tail = leb size_least size ∷ leb size size_most ∷ leb 1 tail ∷ leb tail size
    ∷ leb (suc n) b.numbers ∷ leb (n * size + tail) b.most ∷ leb b.least (n * size + tail) ∷ []

-- how many numbers they may have, from 0: one more byte and one more number come after each; the last one comes after
-- all
abbrev pub room_open : Bounds → ℕ → ℕ
room_open b size = pick (all (open_tests b size)) (min (b.numbers - 1) ((b.most - 1) / size)) 0

abbrev pub room_ended : Bounds → ℕ → ℕ → ℕ → ℕ
room_ended b size n tail = pick (all (ended_tests b size n tail)) n 0

abbrev pub room_as : Bounds → ℕ → ℕ → ℕ → ℕ
room_as b size zero tail = room_open b size
room_as b size (suc n) tail = room_ended b size n tail

unfoldable pub room : Bounds → Record → ℕ
room b p = room_as b p.size p.end p.tail

-- the largest size at which a part that ends with number n and tail bytes keeps within its bounds
unfoldable pub largest : Bounds → ℕ → ℕ → ℕ
largest b n tail = min size_most ((b.most - tail) / n)

-- no full segment is in: nothing is, or the last one alone, as number 0, where it may be empty, or as a later number n
abbrev pub nothing_tests : Bounds → List Bool
nothing_tests b = leb 1 b.numbers ∷ leb b.least b.most ∷ leb b.least (b.numbers * size_most) ∷ []

abbrev pub first_tests : Bounds → ℕ → List Bool
first_tests b tail = leb tail size_most ∷ leb 1 b.numbers ∷ leb b.least tail ∷ leb tail b.most ∷ []

abbrev pub later_tests : Bounds → ℕ → ℕ → List Bool
later_tests b n tail = leb 1 tail ∷ leb tail b.most ∷ leb (suc n) b.numbers ∷ leb size_least (largest b n tail)
    ∷ leb tail (largest b n tail) ∷ leb b.least (n * largest b n tail + tail) ∷ []

abbrev pub alone_tests : Bounds → ℕ → ℕ → List Bool
alone_tests b zero tail = nothing_tests b
alone_tests b (suc zero) tail = first_tests b tail
alone_tests b (suc (suc n)) tail = later_tests b (suc n) tail

unfoldable pub alone : Bounds → Record → Bool
alone b p = all (alone_tests b p.end p.tail)

-- some length and size within the bounds suit what is in
abbrev pub possible : Bounds → ℕ → Record → Bool
possible b zero p = alone b p
possible b (suc t) p = leb (suc t) (room b p)

-- a segment of a new number goes with what is kept: there is one last one, and full ones have one length
abbrev pub joins : Bool → Bool → ℕ → Record → Bool
joins full true k p = eqb p.end 0
joins false false k p = true
joins true false k p = eqb k p.size

-- so many numbers are in: every one of them, up to the last
abbrev pub whole : ℕ → Record → Bool
whole count p = both (leb 1 p.end) (eqb count p.end)

-- ---- the object

-- what is kept of the header, top and record, and of the body suits some object and cut
abbrev pub suit_tests : ℕ → Option Sizes → ℕ → Record → ℕ → Record → List Bool
suit_tests limit c h p b q = core_fits limit c ∷ possible (bounds_of Header limit c) h p
    ∷ possible (bounds_of Body limit c) b q ∷ []

unfoldable pub suits : ℕ → Option Sizes → ℕ → Record → ℕ → Record → Bool
suits limit c h p b q = all (suit_tests limit c h p b q)

abbrev pub suits_both : ℕ → Option Sizes → Summary → Summary → Bool
suits_both limit c σ τ = suits limit c σ.top σ.part τ.top τ.part

-- THE DECISION: a segment of a new number fits what is kept
abbrev pub accepts : Part → ℕ → Option Sizes → Summary → Summary → Segment → Bool
accepts Header limit c σ τ s = both (joins (some_full σ) s.last (length s.bytes) σ.part)
    (suits_both limit (core_after s c) (add_to s σ) τ)
accepts Body limit c σ τ s = both (joins (some_full τ) s.last (length s.bytes) τ.part)
    (suits_both limit c σ (add_to s τ))

-- every segment of the object is in: h numbers of the header are, and b of the body, which may have none
abbrev pub finished : Option Sizes → ℕ → Record → ℕ → Record → Bool
finished None h p b q = false
finished (Some sizes) h p b q = both (whole h p) (pick (eqb sizes.body 0) true (whole b q))
