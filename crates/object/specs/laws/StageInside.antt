-- The stage of a slot that passes the test is the one that its parts give; the header of a finished object has its
-- core, and its two lengths lie inside the shares.
use Rattle.std.specs.Prelude.{◌≡◌, refl, Bool, true, false, Option, Some, None, [], ◌∷◌, ℕ, ◌≤◌, eqb}
use Rattle.std.proofs.Common.{sym, arith, eqb-true, leb-true}
use Rattle.octets.specs.Octets.{sum_of}
use Rattle.answer.specs.declared.Part.TheVariants.{Header, Body}
use Rattle.cut.specs.Requirement.{header_least, header_most}
use Rattle.cut.specs.declared.Sizes.{Sizes}
use Rattle.cut.specs.Decision.{core_tests, core_fits, finished}
use Rattle.cut.specs.Kept.{bounds_of}
use Rattle.cut.specs.laws.Decision.{both_true, all_true, false-true}
use Rattle.object.specs.declared.Stage.{Stage}
use Rattle.object.specs.declared.Stage.TheVariants.{Free, Gathering, Finished}
use Rattle.object.specs.Sound.{same_stage, sound_parts}
use Rattle.part.specs.Asked.{sound_part}
use Rattle.object.specs.laws.Inside.{sound-right}
use Rattle.object.specs.Parts.{Parts}
use Rattle.object.specs.Stage.{core_in, stage_by, stage_of}

pub same-stage : (x y : Stage) → same_stage x y ≡ true → x ≡ y
same-stage Free Free e = refl
same-stage Free Gathering e = absurd (false-true refl e)
same-stage Free (Finished h b) e = absurd (false-true refl e)
same-stage Gathering Free e = absurd (false-true refl e)
same-stage Gathering Gathering e = refl
same-stage Gathering (Finished h b) e = absurd (false-true refl e)
same-stage (Finished h b) Free e = absurd (false-true refl e)
same-stage (Finished h b) Gathering e = absurd (false-true refl e)
same-stage (Finished h b) (Finished h' b') e = let r = both_true (eqb h h') (eqb b b') e in
    rw (eqb-true h h' r.0, eqb-true b b' r.1) refl

-- the stage of a sound slot is the one that its parts give
pub sound-stage : (limit : ℕ) (stage : Stage) (ps : Parts) → sound_parts limit stage ps ≡ true → stage ≡ stage_of ps
unfolding sound_parts
sound-stage limit stage ps e =
    let c : Option Sizes = core_in ps.header in
    let t = all_true
    (core_fits limit c
    ∷ sound_part (bounds_of Header limit c) ps.header.kept ps.header.marks
    ∷ sound_part (bounds_of Body limit c) ps.body.kept ps.body.marks
    ∷ same_stage stage (stage_of ps)
    ∷ []) e in
    same-stage stage (stage_of ps) t.1.1.1.0

finished-core : (done : Bool) (c : Option Sizes) (h b : ℕ) → stage_by done c ≡ Finished h b
    → c ≡ Some (record { body = b; header = h })
finished-core false c h b e = let z : ◌≡◌ {A = ℕ} 0 1 = cc in absurd (omega arith)
finished-core true None h b e = let z : ◌≡◌ {A = ℕ} 0 1 = cc in absurd (omega arith)
finished-core true (Some sizes) h b e = let x : sizes.header ≡ h = cc in let y : sizes.body ≡ b = cc in rw (x, y) refl

-- the two lengths of a finished object: its header has its core, and both lie inside the shares
pub record Lengths (limit h b : ℕ) : Type 0 where
  pub core : header_least ≤ h
  pub header : h ≤ header_most
  pub body : b ≤ limit

core-lengths : (limit : ℕ) (sizes : Sizes) → core_fits limit (Some sizes) ≡ true → Lengths limit sizes.header sizes.body
unfolding core_fits
core-lengths limit sizes e =
    let t = all_true (core_tests limit (Some sizes)) e in
    record {
      core = leb-true header_least sizes.header t.0;
      header = leb-true sizes.header header_most t.1.0;
      body = leb-true sizes.body limit t.1.1.0;
    }

pub finished-inside : (limit h b : ℕ) (ps : Parts) → sound_parts limit (Finished h b) ps ≡ true → Lengths limit h b
unfolding stage_of
finished-inside limit h b ps e =
    let sizes : Sizes = record { body = b; header = h } in
    let c : core_in ps.header ≡ Some sizes =
    finished-core
    (finished (core_in ps.header) (sum_of ps.header.marks) ps.header.kept (sum_of ps.body.marks)
    ps.body.kept) (core_in ps.header) h b (sym (sound-stage limit (Finished h b) ps e)) in
    core-lengths limit sizes (rw c at (sound-right Header limit (Finished h b) ps e).core)
