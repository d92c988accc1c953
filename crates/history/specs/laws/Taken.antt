-- A segment is offered to a slot: the slot keeps its number and is not free afterwards; the first segment of a slot
-- that a number has just taken is stored where it fits alone.
use Rattle.std.specs.Prelude.{◌≡◌, refl, ◌≢◌, ◌↔◌, Bool, true, false, List, [], ℕ, zero, suc, ◌≤◌, length}
use Rattle.std.proofs.Common.{sym, ap, ◌∙◌, arith}
use Rattle.octets.specs.Octets.{zeros, sum_of}
use Rattle.octets.specs.laws.Over.{zeros-length}
use Rattle.octets.specs.laws.Marks.{zeros-sum}
use Rattle.answer.specs.declared.Part.{Part}
use Rattle.answer.specs.declared.Part.TheVariants.{Header, Body}
use Rattle.cut.specs.laws.Lists.{bytes-zeros}
use Rattle.cut.specs.Requirement.{header_most, limit_most, Segment, Fits}
use Rattle.cut.specs.Parts.{headers_with, bodies_with}
use Rattle.cut.specs.Lists.{Bytes}
use Rattle.object.specs.declared.Slot.{Slot}
use Rattle.object.specs.declared.Stage.{Stage}
use Rattle.object.specs.declared.Outcome.{Outcome}
use Rattle.object.specs.declared.Outcome.TheVariants.{Stored, Complete, Repeat, Conflict}
use Rattle.object.specs.declared.Decided.{Decided}
use Rattle.object.specs.Take.{decided, parts_with, slot_with, outcome_by, Taken, taken_by, take_into}
use Rattle.object.specs.laws.Decided.{if_new}
use Rattle.object.specs.Sound.{sound_slot}
use Rattle.object.specs.laws.Shape.{IsLent}
use Rattle.object.specs.State.{marked_segments, StageFor}
use Rattle.object.specs.laws.Held.{Gathers, Holds, Vacant, Added}
use Rattle.object.specs.laws.Step.{Tells, outcome-tells, conflict-exactly}
use Rattle.object.specs.laws.StepSound.{vacant-gathers}
use Rattle.object.specs.laws.StateExact.{sound-holds}
use Rattle.object.specs.Parts.{Lent, parts_of}
use Rattle.object.specs.Stage.{stage_of}
use Rattle.slots.specs.Stores.{slot_marks, fresh_slot}
use Rattle.slots.specs.Find.{free_stage, is_free}
use Rattle.slots.specs.Alone.{fits_alone}
use Rattle.slots.specs.State.{right_slot}
use Rattle.slots.specs.laws.Fresh.{fresh-taken}

-- a slot that holds segments is not free
pub holds-held : (limit : ℕ) (slot : Slot) (lent : Lent) (hs bs : List Segment) → Holds limit slot lent hs bs
    → is_free slot ≡ false
unfolding is_free
holds-held limit slot lent hs bs h = go slot.stage h.stage
  where
    go : (stage : Stage) → StageFor h.gathers.object stage → free_stage stage ≡ false
    go Stage.Free w = absurd w
    go Stage.Gathering w = refl
    go (Stage.Finished header body) w = refl

-- a sound slot is right
pub sound-right : (limit : ℕ) (slot : Slot) (lent : Lent) → limit ≤ limit_most → IsLent limit lent
    → sound_slot limit slot lent ≡ true → right_slot limit slot lent ≡ true
unfolding right_slot
sound-right limit slot lent z l e =
    rw (holds-held limit slot lent (marked_segments Header slot lent) (marked_segments Body slot lent)
    (sound-holds limit slot lent z l e)) e

-- whatever is taken, the slot keeps its number
pub taken-number : (part : Part) (limit : ℕ) (segment : Segment) (slot : Slot) (lent : Lent)
    → (take_into part limit segment slot lent).slot.number ≡ slot.number
unfolding take_into slot_with
taken-number part limit segment slot lent = go (decided part limit segment (parts_of slot lent))
  where
    go : (d : Decided) → (taken_by d part limit segment slot lent).slot.number ≡ slot.number
    go Decided.Repeat = refl
    go Decided.Conflict = refl
    go (Decided.Fits core) = refl

-- ---- a slot that a number has just taken

module _ (part : Part) (limit number : ℕ) (segment : Segment) (lent : Lent) (z : limit ≤ limit_most)
    (y : Bytes segment.bytes) (l : IsLent limit lent) (none : sum_of lent.marks ≡ 0) where
  pub fresh-vacant : Vacant limit (fresh_slot number) lent
  unfolding fresh_slot
  fresh-vacant = record { lends = l; header = refl; body = refl; marks = none }

  pub fresh-gathers : Gathers limit (parts_of (fresh_slot number) lent) [] []
  fresh-gathers = vacant-gathers limit (fresh_slot number) lent z fresh-vacant

  -- its first segment, where it fits alone, is stored
  pub fresh_added : fits_alone part limit segment ≡ true
      → Added part limit segment (fresh_slot number) [] [] (take_into part limit segment (fresh_slot number) lent)
  fresh_added a = go part x.outcome
      (outcome-tells part limit segment (fresh_slot number) lent [] [] z y fresh-gathers x.outcome refl)
      (taken x.outcome refl)
    where
      x : Taken
      x = take_into part limit segment (fresh_slot number) lent

      never : (count : ℕ) (stage : Stage) → outcome_by count stage ≢ Conflict
      never count Stage.Free e = let d : ◌≡◌ {A = ℕ} 0 1 = cc in absurd (omega arith)
      never count Stage.Gathering e = let d : ◌≡◌ {A = ℕ} 0 1 = cc in absurd (omega arith)
      never zero (Stage.Finished header body) e = let d : ◌≡◌ {A = ℕ} 0 1 = cc in absurd (omega arith)
      never (suc count) (Stage.Finished header body) e = let d : ◌≡◌ {A = ℕ} 0 1 = cc in absurd (omega arith)

      taken : (o : Outcome) → x.outcome ≡ o → o ≢ Conflict
      taken o e c =
          let f : x ≡ if_new true part limit segment (fresh_slot number) lent =
          rw a at (fresh-taken part limit number segment lent none) in
          never (length segment.bytes) (stage_of (parts_with part limit segment (parts_of (fresh_slot number) lent)))
          (sym (ap (λ (t : Taken). t.outcome) f) ∙ e ∙ c)

      go : (p : Part) (o : Outcome) → Tells o p limit segment (fresh_slot number) lent [] [] x → o ≢ Conflict
          → Added p limit segment (fresh_slot number) [] [] x
      go p Stored w d = w.0
      go p Complete w d = w.0
      go Header Repeat w d = absurd w.0
      go Body Repeat w d = absurd w.0
      go p Conflict w d = absurd (d refl)

-- ---- a segment fits alone exactly when some object and cut send it

-- shares of zeros
abbrev blank : ℕ → Lent
blank limit = record { header = zeros header_most; body = zeros limit; marks = zeros slot_marks }

blank-lent : (limit : ℕ) → IsLent limit (blank limit)
unfolding zeros
blank-lent limit = record {
  header_length = zeros-length header_most;
  body_length = zeros-length limit;
  marks_length = zeros-length slot_marks;
  header_bytes = bytes-zeros header_most;
  body_bytes = bytes-zeros limit;
}

pub alone-fits : (part : Part) (limit : ℕ) (segment : Segment) → limit ≤ limit_most → Bytes segment.bytes
    → (fits_alone part limit segment ≡ true) ↔ Fits limit (headers_with part segment []) (bodies_with part segment [])
alone-fits part limit segment z y = (
  (λ a. (fresh_added part limit 0 segment (blank limit) z y (blank-lent limit) none a).holds.gathers.object),
  (λ f. go f (fits_alone part limit segment) refl),
)
  where
    none : sum_of (blank limit).marks ≡ 0
    none = zeros-sum slot_marks

    go : Fits limit (headers_with part segment []) (bodies_with part segment []) → (b : Bool)
        → fits_alone part limit segment ≡ b → fits_alone part limit segment ≡ true
    go f true e = e
    go f false e =
        let refused : (take_into part limit segment (fresh_slot 0) (blank limit)).outcome ≡ Conflict =
        ap (λ (t : Taken). t.outcome) (rw e at (fresh-taken part limit 0 segment (blank limit) none)) in
        absurd ((conflict-exactly part limit segment (fresh_slot 0) (blank limit) [] [] z y
        (fresh-gathers part limit 0 segment (blank limit) z y (blank-lent limit) none)).0 refused f)
