-- The test that every call makes of a held slot passes exactly when the slot is sound.
use Rattle.std.specs.Prelude.{◌≡◌, refl, ◌⊎◌, ◌↔◌, true, List, [], ◌∷◌, ℕ, zero, suc, ◌≤◌, ◌<◌, length, take, drop, get_or, eqb, leb}
use Rattle.std.proofs.Common.{sym, ap, ◌∙◌, subst, inl, inr, arith, take-append-drop, le-leb, eq-eqb}
use Rattle.octets.specs.Octets.{sum_of, largest_of}
use Rattle.octets.specs.laws.Marks.{sum-split, largest-each}
use Rattle.answer.specs.declared.Part.{Part}
use Rattle.answer.specs.declared.Part.TheVariants.{Header, Body}
use Rattle.cut.specs.laws.Lists.{each_map, each_take, each-drop, each_append}
use Rattle.cut.specs.Requirement.{limit_most, header_numbers, Segment}
use Rattle.cut.specs.laws.Decision.{true-both, true-all}
use Rattle.cut.specs.laws.Segment.{Numbered}
use Rattle.cut.specs.Parts.{those, part_of, cut_of}
use Rattle.cut.specs.Kept.{bounds_of, summary, record_of, core_of}
use Rattle.cut.specs.laws.Marks.{total-some}
use Rattle.cut.specs.Missing.{amount_kept}
use Rattle.cut.specs.Lists.{Each}
use Rattle.object.specs.declared.Slot.{Slot}
use Rattle.object.specs.declared.Stage.{Stage}
use Rattle.part.specs.Memory.{held_in}
use Rattle.object.specs.Sound.{marks_right, sound_parts, sound_slot}
use Rattle.object.specs.laws.Shape.{IsLent, Shaped}
use Rattle.object.specs.laws.Inside.{lent-shaped, lent-bits, sound-slot}
use Rattle.part.specs.laws.Inside.{each-bit}
use Rattle.object.specs.laws.StageInside.{sound-stage}
use Rattle.object.specs.laws.Held.{Gathers, Holds}
use Rattle.object.specs.State.{StageFor, marked_segments, Sound}
use Rattle.part.specs.laws.Keeps.{Keeps}
use Rattle.part.specs.laws.Held.{held_reads, held-marked}
use Rattle.part.specs.laws.Step.{reads-keeps}
use Rattle.object.specs.laws.HeldSlot.{fits-room, part-keeps}
use Rattle.object.specs.laws.StepStage.{stage-right, stage-one}
use Rattle.object.specs.laws.StepMissing.{missing-right}
use Rattle.object.specs.laws.StateParts.{sound-gathers, gathers-passes}
use Rattle.object.specs.Parts.{Lent, Parts, parts_of, memory_of}
use Rattle.object.specs.Stage.{stage_of, missing_in}

-- ---- marks

each-largest : (l : List ℕ) → Each (λ m. m ≤ 1) l → largest_of l ≤ 1
unfolding largest_of
each-largest [] e = omega arith
each-largest (m ∷ l) e = omega (arith, e.0, each-largest l e.1)

bit_is : (m : ℕ) → m ≤ 1 → (m ≡ 0) ⊎ (m ≡ 1)
bit_is zero h = inl refl
bit_is (suc m) h = inr (omega arith)

bit-most : (m : ℕ) → (m ≡ 0) ⊎ (m ≡ 1) → m ≤ 1
bit-most m (inl e) = omega arith
bit-most m (inr e) = omega arith

some-mark : (l : List ℕ) → 1 ≤ sum_of l → (n : ℕ) × (0 < get_or l n 0)
some-mark [] h = absurd (omega arith)
some-mark (zero ∷ l) h = let r = some-mark l (omega arith) in (suc r.0, r.1)
some-mark (suc m ∷ l) h = (0, omega arith)

-- ---- a sound slot holds its marked segments

pub sound-holds : (limit : ℕ) (slot : Slot) (lent : Lent) → limit ≤ limit_most → IsLent limit lent
    → sound_slot limit slot lent ≡ true → Holds limit slot lent (marked_segments Header slot lent)
    (marked_segments Body slot lent)
unfolding parts_of
sound-holds limit slot lent z l e =
    let ps : Parts = parts_of slot lent in
    let t = sound-slot limit slot lent e in
    let g : Gathers limit ps (held_in ps.header) (held_in ps.body) =
    sound-gathers limit slot.stage ps z
    (lent-shaped limit slot lent l.header_length l.body_length l.marks_length) (lent-bits slot lent t.0)
    l.header_bytes l.body_bytes t.2 in
    record {
      gathers = g;
      stage = subst (λ (x : Stage). StageFor g.object x)
          (sym (sound-stage limit slot.stage ps t.2))
          (stage-right limit ps (held_in ps.header) (held_in ps.body) g g.object);
      missing = t.3 ∙ ap amount_kept (missing-right limit ps (held_in ps.header) (held_in ps.body) g);
    }

-- ---- a slot that holds segments, one at least, passes

parts-largest : (slot : Slot) (lent : Lent) → Each (λ m. m ≤ 1) (parts_of slot lent).header.marks
    → Each (λ m. m ≤ 1) (parts_of slot lent).body.marks → largest_of lent.marks ≤ 1
unfolding parts_of
parts-largest slot lent h b =
    each-largest lent.marks
    (subst (λ (l : List ℕ). Each (λ m. m ≤ 1) l) (take-append-drop header_numbers lent.marks)
    (each_append (λ m. m ≤ 1) (take header_numbers lent.marks) (drop header_numbers lent.marks) h b))

parts-sum : (slot : Slot) (lent : Lent) (part : Part) (n : ℕ) → 0 < get_or (memory_of part (parts_of slot lent)).marks n 0
    → 1 ≤ sum_of lent.marks
unfolding parts_of
parts-sum slot lent Header n h =
    omega (arith, sum-split lent.marks header_numbers, total-some (take header_numbers lent.marks) n h)
parts-sum slot lent Body n h =
    omega (arith, sum-split lent.marks header_numbers, total-some (drop header_numbers lent.marks) n h)

holds-passes : (limit : ℕ) (slot : Slot) (lent : Lent) (hs bs : List Segment) → Holds limit slot lent hs bs
    → 1 ≤ sum_of lent.marks → sound_slot limit slot lent ≡ true
unfolding sound_slot
holds-passes limit slot lent hs bs h some =
    true-all
    (marks_right lent.marks
    ∷ sound_parts limit slot.stage (parts_of slot lent)
    ∷ eqb slot.missing (amount_kept (missing_in (parts_of slot lent)))
    ∷ []) (
      true-both (leb (largest_of lent.marks) 1) (leb 1 (sum_of lent.marks))
          (le-leb (largest_of lent.marks) 1
          (parts-largest slot lent g.header.marked.bits g.body.marked.bits))
          (le-leb 1 (sum_of lent.marks) some),
      (
        gathers-passes limit slot.stage (parts_of slot lent) hs bs g stage,
        (eq-eqb slot.missing (amount_kept (missing_in (parts_of slot lent))) missing, tt),
      ),
    )
  where
    g : Gathers limit (parts_of slot lent) hs bs
    g = h.gathers

    stage : slot.stage ≡ stage_of (parts_of slot lent)
    stage = stage-one limit hs bs g.object slot.stage (stage_of (parts_of slot lent)) h.stage
        (stage-right limit (parts_of slot lent) hs bs g g.object)

    missing : slot.missing ≡ amount_kept (missing_in (parts_of slot lent))
    missing = h.missing ∙ ap amount_kept (sym (missing-right limit (parts_of slot lent) hs bs g))

pub holds-sound : (limit : ℕ) (slot : Slot) (lent : Lent) (hs bs : List Segment) → Holds limit slot lent hs bs
    → (part : Part) (n : ℕ) → Numbered n (those part hs bs) → sound_slot limit slot lent ≡ true
holds-sound limit slot lent hs bs h part n i =
    holds-passes limit slot lent hs bs h
    (parts-sum slot lent part n (((part-keeps part limit (parts_of slot lent) hs bs h.gathers).marked.marked n).1 i))

-- ---- THE STATE of a held slot, decided

passes-sound : (limit : ℕ) (slot : Slot) (lent : Lent) → limit ≤ limit_most → IsLent limit lent
    → sound_slot limit slot lent ≡ true → Sound limit slot lent
unfolding parts_of
passes-sound limit slot lent z l e =
    let t = sound-slot limit slot lent e in
    let h = sound-holds limit slot lent z l e in
    let n = some-mark lent.marks t.1 in
    record {
      marks = each_map bit_is lent.marks (each-bit lent.marks t.0);
      some = (n.0, omega (arith, n.1, (largest-each lent.marks 1).0 t.0 n.0));
      object = h.gathers.object;
      header = h.gathers.header.kept;
      body = h.gathers.body.kept;
      stage = h.stage;
      missing = h.missing;
    }

sound-bits : (part : Part) (slot : Slot) (lent : Lent) → Each (λ m. (m ≡ 0) ⊎ (m ≡ 1)) lent.marks
    → Each (λ m. m ≤ 1) (memory_of part (parts_of slot lent)).marks
unfolding parts_of
sound-bits Header slot lent e = each_take (λ m. m ≤ 1) header_numbers lent.marks (each_map bit-most lent.marks e)
sound-bits Body slot lent e = each-drop (λ m. m ≤ 1) header_numbers lent.marks (each_map bit-most lent.marks e)

sound-kept : (part : Part) (limit : ℕ) (slot : Slot) (lent : Lent) → Sound limit slot lent
    → (memory_of part (parts_of slot lent)).kept
    ≡ record_of (bounds_of part limit (core_of (marked_segments Header slot lent)))
    (summary (marked_segments part slot lent))
unfolding parts_of
sound-kept Header limit slot lent d = d.header
sound-kept Body limit slot lent d = d.body

sound-passes : (limit : ℕ) (slot : Slot) (lent : Lent) → IsLent limit lent → Sound limit slot lent
    → sound_slot limit slot lent ≡ true
sound-passes limit slot lent l d =
    holds-passes limit slot lent hs bs
    (record {
      gathers = record { object = d.object; shape = shape; header = keeps Header; body = keeps Body };
      stage = d.stage;
      missing = d.missing;
    }) (total-some lent.marks d.some.0 (omega (arith, d.some.1)))
  where
    hs : List Segment
    hs = marked_segments Header slot lent

    bs : List Segment
    bs = marked_segments Body slot lent

    ps : Parts
    ps = parts_of slot lent

    shape : Shaped limit ps
    shape = lent-shaped limit slot lent l.header_length l.body_length l.marks_length

    these : (part : Part) → those part hs bs ≡ marked_segments part slot lent
    these Header = refl
    these Body = refl

    keeps : (part : Part) → Keeps (bounds_of part limit (core_of hs)) (memory_of part ps) (marked_segments part slot lent)
    keeps part = reads-keeps (bounds_of part limit (core_of hs)) (cut_of part d.object)
        (length (part_of part d.object)) (memory_of part ps) (marked_segments part slot lent)
        (sound-kept part limit slot lent d) (held_reads (memory_of part ps))
        (held-marked (memory_of part ps) (sound-bits part slot lent d.marks))
        (rw these at (fits-room part limit ps hs bs d.object shape))

-- THE TEST is exact
pub sound-exactly : (limit : ℕ) (slot : Slot) (lent : Lent) → limit ≤ limit_most → IsLent limit lent
    → (sound_slot limit slot lent ≡ true) ↔ Sound limit slot lent
sound-exactly limit slot lent z l = (passes-sound limit slot lent z l, sound-passes limit slot lent l)
