-- Whether a held slot is sound: the test on numbers that every call makes.
use Rattle.std.specs.Prelude.{Bool, true, false, List, [], ◌∷◌, ℕ, eqb, leb}
use Rattle.octets.specs.Octets.{sum_of, largest_of}
use Rattle.answer.specs.declared.Part.TheVariants.{Header, Body}
use Rattle.cut.specs.Decision.{core_fits}
use Rattle.cut.specs.Kept.{bounds_of}
use Rattle.cut.specs.Lists.{both, all}
use Rattle.cut.specs.Missing.{amount_kept}
use Rattle.part.specs.Asked.{sound_part}
use Rattle.object.specs.declared.Slot.{Slot}
use Rattle.object.specs.declared.Stage.{Stage}
use Rattle.object.specs.declared.Stage.TheVariants.{Free, Gathering, Finished}
use Rattle.object.specs.Parts.{Lent, Parts, parts_of}
use Rattle.object.specs.Stage.{core_in, stage_of, missing_in}

abbrev pub same_stage : Stage → Stage → Bool
same_stage Free Free = true
same_stage Free Gathering = false
same_stage Free (Finished header body) = false
same_stage Gathering Free = false
same_stage Gathering Gathering = true
same_stage Gathering (Finished header body) = false
same_stage (Finished header body) Free = false
same_stage (Finished header body) Gathering = false
same_stage (Finished header body) (Finished header' body') = both (eqb header header') (eqb body body')

-- the sizes that segment 0 says, each part and the stage
unfoldable pub sound_parts : ℕ → Stage → Parts → Bool
sound_parts limit stage ps = all
    (core_fits limit (core_in ps.header)
    ∷ sound_part (bounds_of Header limit (core_in ps.header)) ps.header.kept ps.header.marks
    ∷ sound_part (bounds_of Body limit (core_in ps.header)) ps.body.kept ps.body.marks
    ∷ same_stage stage (stage_of ps)
    ∷ [])

-- each mark is 0 or 1 and some are 1
abbrev pub marks_right : List ℕ → Bool
marks_right marks = both (leb (largest_of marks) 1) (leb 1 (sum_of marks))

-- and the records and the stage are those that the marked segments give, which fit some object and cut, and so is the
-- number of bytes still to come
unfoldable pub sound_slot : ℕ → Slot → Lent → Bool
sound_slot limit slot lent = all
    (marks_right lent.marks
    ∷ sound_parts limit slot.stage (parts_of slot lent)
    ∷ eqb slot.missing (amount_kept (missing_in (parts_of slot lent)))
    ∷ [])
