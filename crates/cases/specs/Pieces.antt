-- A segment given as numbers, or none, with what is kept of a part.
use Rattle.std.specs.Prelude.{Bool, true, Option, Some, None, ℕ, ◌+◌, ltb}
use Rattle.cut.specs.Decision.{joins, suits, finished}
use Rattle.cut.specs.Kept.{add_part, add_top}
use Rattle.cut.specs.declared.Record.{Record}
use Rattle.cut.specs.declared.Sizes.{Sizes}
use Rattle.cut.specs.Lists.{pick}
use Rattle.cases.specs.declared.Piece.{Piece}
use Rattle.cases.specs.declared.Verdict.{Verdict}
use Rattle.cases.specs.declared.Verdict.TheVariants.{Conflicts, Fits, Completes}

abbrev pub count_of : Option Piece → ℕ
count_of None = 0
count_of (Some s) = 1

abbrev pub kept_with : Option Piece → Record → Record
kept_with None p = p
kept_with (Some s) p = add_part s.last s.number s.length p

abbrev pub top_with : Option Piece → ℕ → ℕ
top_with None t = t
top_with (Some s) t = add_top s.last s.number t

abbrev pub goes_with : Option Piece → ℕ → Record → Bool
goes_with None t p = true
goes_with (Some s) t p = joins (ltb 0 t) s.last s.length p

-- ---- what the decision makes of a header segment and two body segments, the second one new

abbrev pub verdict_by : Bool → Bool → Verdict
verdict_by suit whole = pick suit (pick whole Completes Fits) Conflicts

abbrev nothing : Record
nothing = record { size = 0; end = 0; tail = 0 }

unfoldable pub verdict_of : ℕ → Option Sizes → Option Piece → Option Piece → Option Piece → Verdict
verdict_of limit core header first second =
    pick
    (goes_with second (top_with first 0) (kept_with first nothing))
    (verdict_by
    (suits limit core (top_with header 0) (kept_with header nothing) (top_with second (top_with first 0))
    (kept_with second (kept_with first nothing)))
    (finished core (count_of header) (kept_with header nothing) (count_of first + count_of second)
    (kept_with second (kept_with first nothing))))
    Conflicts
