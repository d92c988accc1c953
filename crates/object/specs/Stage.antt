-- What follows from the two parts of an object: what header segment 0 says, the stage, and how many bytes are still to
-- come.
use Rattle.std.specs.Prelude.{Bool, true, false, Option, Some, None, List, ℕ, leb, get_or}
use Rattle.octets.specs.Octets.{sum_of}
use Rattle.cut.specs.declared.Record.{Record}
use Rattle.cut.specs.declared.Sizes.{Sizes}
use Rattle.cut.specs.Decision.{finished}
use Rattle.cut.specs.Kept.{sizes_of}
use Rattle.cut.specs.MissingKept.{missing_by}
use Rattle.cut.specs.Lists.{pick}
use Rattle.part.specs.Memory.{Memory}
use Rattle.object.specs.declared.Stage.{Stage}
use Rattle.object.specs.Parts.{Parts}

-- what header segment 0 says, once it is in
abbrev pub core_from : List ℕ → List ℕ → Option Sizes
core_from marks share = pick (leb 1 (get_or marks 0 0)) (Some (sizes_of share)) None

unfoldable pub core_in : Memory → Option Sizes
core_in m = core_from m.marks m.share

-- finished with the two lengths that the core says, once every segment is in
abbrev pub stage_by : Bool → Option Sizes → Stage
stage_by false core = Stage.Gathering
stage_by true None = Stage.Gathering
stage_by true (Some sizes) = Stage.Finished sizes.header sizes.body

-- of so many segments of the header and of the body, and their records
abbrev pub stage_from : Option Sizes → ℕ → Record → ℕ → Record → Stage
stage_from core headers header bodies body = stage_by (finished core headers header bodies body) core

unfoldable pub stage_of : Parts → Stage
stage_of ps =
    stage_from (core_in ps.header)
    (sum_of ps.header.marks) ps.header.kept (sum_of ps.body.marks) ps.body.kept

-- how many bytes are still to come (document 02, Item 4)
unfoldable pub missing_in : Parts → Option ℕ
missing_in ps =
    missing_by (core_in ps.header)
    (sum_of ps.header.marks) ps.header.kept (sum_of ps.body.marks) ps.body.kept
