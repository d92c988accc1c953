-- `object::soundness_of` meets its contract, test by test.
-- Assumes nothing.
use mathlib.Core.Path.{◌≡◌, refl, sym, ◌∙◌}
use mathlib.Core.Bool.{Bool, true, false}
use mathlib.Core.List.{List, [], ◌∷◌}
use Rattle.std.specs.Prelude.{None, Some}
use Rattle.std.specs.Bool.{then_some}
use Rattle.std.proofs.Common.{rules}
use Rattle.answer.specs.declared.Part.TheVariants.{Header, Body}
use Rattle.cut.specs.Decision.{core_fits}
use Rattle.cut.specs.Kept.{bounds_of}
use Rattle.cut.specs.Missing.{amount_kept}
use Rattle.cut.specs.MissingKept.{missing_by}
use lib.Dec.{eqb}
use Rattle.cut.specs.Lists.{both, all, pick}
use Rattle.cut.specs.laws.Decision.{false-true, all_true, both-then, both-else}
use Rattle.part.specs.Asked.{sound_part}
use Rattle.object.specs.declared.Tally.{Tally}
use Rattle.object.specs.Sound.{same_stage, sound_parts, sound_slot}
use Rattle.object.specs.Asked.{tally_of, soundness}
use Rattle.object.proofs.Laws.{right-bits}
use Rattle.object.specs.Parts.{marks_of, parts_of}
use Rattle.object.specs.Stage.{core_in, stage_from, stage_of, missing_in}
use Rattle.object.specs.laws.Inside.{marks-bits, right-small}
use Rattle.object.proofs.soundness_of.Goals.{then-sound, else-sound, then-eq, else-eq}
use Rattle.object.proofs.soundness_of.Goals as goal

pub missing-requires : goal.missing-requires
missing-requires c =
    let a = c.args in
    let core = c.tally_of-held.result.core in
    let header = marks_of Header a.marks.now in
    let body = marks_of Body a.marks.now in
    let bits = right-bits _ _ c.marks_right.ensures c.if-not-marks_right.false in
    let tests : List Bool = core_fits a.limit core
    ∷ sound_part (bounds_of Header a.limit core) a.slot.header header
    ∷ sound_part (bounds_of Body a.limit core) a.slot.body body ∷ [] in
    elim c.if-sound.branch [
      | then-sound w ↦ let t = all_true tests (sym c.sound.ensures ∙ w.if-sound.true) in (
        c.tally_of-held.ensures.1,
        right-small Header a.limit core a.slot.header header (marks-bits Header a.marks.now bits) t.1.0,
        right-small Body a.limit core a.slot.body body (marks-bits Body a.marks.now bits) t.1.1.0,
      )
      | else-sound w ↦ absurd (false-true (w.value-is ∙ w.if-sound.false) c.if-eq.true)
    ]

told : (f h b s m : Bool) (tally : Tally) → then_some (both (both (all (f ∷ h ∷ b ∷ [])) s) m) tally
    ≡ pick (all (true ∷ all (f ∷ h ∷ b ∷ s ∷ []) ∷ m ∷ [])) (Some tally) None
told false h b s m tally = refl
told true false b s m tally = refl
told true true false s m tally = refl
told true true true false m tally = refl
told true true true true false tally = refl
told true true true true true tally = refl

pub returns : goal.returns
unfolding soundness sound_slot sound_parts parts_of core_in stage_of missing_in
returns c =
    let a = c.args in
    let tally : Tally = tally_of a.header.now a.marks.now in
    let f : Bool = core_fits a.limit tally.core in
    let h : Bool = sound_part (bounds_of Header a.limit tally.core) a.slot.header (marks_of Header a.marks.now) in
    let b : Bool = sound_part (bounds_of Body a.limit tally.core) a.slot.body (marks_of Body a.marks.now) in
    let s : Bool = same_stage a.slot.stage
    (stage_from tally.core tally.headers a.slot.header tally.bodies a.slot.body) in
    let m : Bool = eqb a.slot.missing
    (amount_kept (missing_by tally.core tally.headers a.slot.header tally.bodies a.slot.body)) in
    let parts : c.sound.result ≡ all (f ∷ h ∷ b ∷ []) = rw c.tally_of-held.ensures.0 at c.sound.ensures in
    let stages : c.if-sound.value ≡ both (all (f ∷ h ∷ b ∷ [])) s = elim c.if-sound.branch [
      | then-sound w ↦
          let same : w.eq.result ≡ same_stage a.slot.stage w.stage_from.result = search rules in
          both-then s (sym parts ∙ w.if-sound.true) w.value-is
          (rw (w.stage_from.ensures, c.tally_of-held.ensures.0) at same)
      | else-sound w ↦ both-else s (sym parts ∙ w.if-sound.false) (w.value-is ∙ parts)
    ] in
    let every : c.if-eq.sound ≡ both c.if-sound.value m = elim c.if-eq.branch [
      | then-eq w ↦ both-then m w.if-eq.true w.sound-is (rw (w.missing.ensures, c.tally_of-held.ensures.0) refl)
      | else-eq w ↦ both-else m w.if-eq.false w.sound-is
    ] in
    rw (
      c.then_some.ensures,
      every,
      stages,
      c.tally_of-held.ensures.0,
      sym c.marks_right.ensures ∙ c.if-not-marks_right.false,
    ) (told f h b s m tally)
