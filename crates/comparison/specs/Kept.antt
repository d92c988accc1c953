-- What is kept of segments, from numbers, and the decision of crate `cut` on it.
use Rattle.std.specs.Prelude.{Bool, cond, Option, Some, None, ℕ, eqb, ltb}
use Rattle.answer.specs.declared.Part.{Part}
use Rattle.answer.specs.declared.Part.TheVariants.{Header, Body}
use Rattle.cut.specs.Requirement.{Segment}
use Rattle.cut.specs.declared.Sizes.{Sizes}
use Rattle.cut.specs.Decision.{accepts}
use Rattle.cut.specs.Kept.{Summary, add_part, add_top}
use Rattle.cut.specs.Lists.{both, pick}
use Rattle.comparison.specs.declared.decision.Kept.{Kept}

abbrev pub part_of : ℕ → Part
part_of part = pick (eqb part 0) Header Body

abbrev pub core_said : Bool → ℕ → ℕ → Option Sizes
core_said seen body header = pick seen (Some (record { body = body; header = header })) None

abbrev pub kept_of : ℕ → ℕ → ℕ → ℕ → Kept
kept_of top size end tail = record { top = top; part = record { size = size; end = end; tail = tail } }

abbrev pub summary_of : Kept → Summary
summary_of k = record { top = k.top; part = k.part }

-- a segment number has 15 bits; with one of more, nothing is a segment
abbrev pub is_number : ℕ → Bool
is_number n = ltb n 32768

-- what is kept, with one segment more
abbrev pub kept_with : Bool → ℕ → ℕ → Kept → Kept
kept_with last number length k =
    record { top = add_top last number k.top; part = add_part last number length k.part }

abbrev pub kept_after : Bool → ℕ → ℕ → Kept → Kept
kept_after last number length k = pick (is_number number) (kept_with last number length k) k

abbrev pub accepts_of : Part → ℕ → Option Sizes → Kept → Kept → Segment → Bool
accepts_of part limit c h b s = both (is_number s.number) (accepts part limit c (summary_of h) (summary_of b) s)

unfoldable pub kept_field : Kept → ℕ → ℕ
kept_field k field =
    cond (eqb field 0) k.top
    (cond (eqb field 1) k.part.size
    (cond (eqb field 2) k.part.end
    (cond (eqb field 3) k.part.tail 0)))
