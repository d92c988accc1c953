-- The number of bytes still to come of a slot that holds segments: it is the one that they give.
use Rattle.std.specs.Prelude.{◌≡◌, List, ℕ}
use Rattle.std.proofs.Common.{arith}
use Rattle.cut.specs.Requirement.{Segment}
use Rattle.cut.specs.Missing.{missing_of}
use Rattle.cut.specs.laws.Arrived.{missing-kept}
use Rattle.object.specs.laws.Held.{Gathers}
use Rattle.object.specs.laws.HeldSlot.{core-read}
use Rattle.object.specs.Parts.{Parts}
use Rattle.object.specs.Stage.{missing_in}

-- the number that the parts give is the one that the segments give
pub missing-right : (limit : ℕ) (ps : Parts) (hs bs : List Segment) → Gathers limit ps hs bs
    → missing_in ps ≡ missing_of hs bs
unfolding missing_in
missing-right limit ps hs bs g =
    rw (core-read limit ps hs bs g, g.header.kept, g.body.kept)
    (missing-kept limit hs bs g.object ps.header.marks ps.body.marks g.header.marked g.body.marked
    (omega (arith, g.shape.header_marks)) (omega (arith, g.shape.body_marks)))
