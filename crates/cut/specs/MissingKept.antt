-- How much is still missing, by what is kept: what header segment 0 says, the two records, and how many segments of
-- each part are in.
use Rattle.std.specs.Prelude.{Option, Some, None, ℕ, zero, suc, ◌+◌, ◌-◌, ◌*◌, ◌≤◌, ◌<◌}
use Rattle.answer.specs.declared.Part.{Part}
use Rattle.answer.specs.declared.Part.TheVariants.{Header, Body}
use Rattle.cut.specs.declared.Sizes.{Sizes}
use Rattle.cut.specs.declared.Record.{Record}
use Rattle.cut.specs.Requirement.{size_most, body_numbers}
use Rattle.cut.specs.Missing.{length_by, lacking}

-- the length that a record gives
abbrev pub length_in : ℕ → ℕ → ℕ → Option ℕ
length_in size zero tail = None
length_in size (suc n) tail = length_by size n tail

abbrev pub length_kept : Part → Option Sizes → Record → Option ℕ
length_kept part None p = length_in p.size p.end p.tail
length_kept Header (Some sizes) p = Some sizes.header
length_kept Body (Some sizes) p = Some sizes.body

-- the full ones have the size, and the last one its tail
abbrev pub arrived_in : ℕ → ℕ → ℕ → ℕ → ℕ
arrived_in total size zero tail = total * size
arrived_in total size (suc n) tail = (total - 1) * size + tail

abbrev pub arrived_kept : ℕ → Record → ℕ
arrived_kept total p = arrived_in total p.size p.end p.tail

-- h segments of the header are in, of which p is kept, and b of the body, of which q is
unfoldable pub missing_by : Option Sizes → ℕ → Record → ℕ → Record → Option ℕ
missing_by core h p b q =
    lacking (length_kept Header core p) (length_kept Body core q) (arrived_kept h p + arrived_kept b q)

-- the sizes that header segment 0 says have the widths of their fields
abbrev pub Narrow : Option Sizes → Type 0
Narrow None = Unit {0}
Narrow (Some sizes) = (sizes.body < 0x10000000) × (sizes.header < 0x10000)

-- a record's numbers are those of some part
pub record Small (p : Record) : Type 0 where
  pub size : p.size ≤ size_most
  pub end : p.end ≤ body_numbers
  pub tail : 1 ≤ p.end → p.tail ≤ size_most
