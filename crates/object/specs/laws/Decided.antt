-- What is decided of a segment, case by case, and what the decision asks.
use Rattle.std.proofs.Math.Path.{◌≡◌, refl, ap}
use Rattle.std.specs.Prelude.{None, Some, is_some, Bool, List, length, Option}
use Rattle.std.proofs.Math.Bool.{true, false}
use Prim.Native.Nat.{ℕ, zero, suc, ◌<◌}
use Rattle.std.proofs.Common.{arith}
use Rattle.std.proofs.Math.ListN.{get_or}
use Rattle.octets.specs.Octets.{sum_of}
use borrow.Author.Tests.{leb-true, leb-false}
use Rattle.answer.specs.declared.Part.{Part}
use Rattle.answer.specs.declared.Part.TheVariants.{Header, Body}
use Rattle.cut.specs.Requirement.{Segment}
use Rattle.cut.specs.declared.Sizes.{Sizes}
use Rattle.cut.specs.Parts.{other_part}
use Rattle.cut.specs.Kept.{core_with}
use Rattle.cut.specs.Sums.{takes}
use Rattle.cut.specs.Lists.{pick}
use Rattle.part.specs.Memory.{memory, segment_at}
use Rattle.part.specs.Asked.{mark_of, held_at, same_segment, Held}
use Rattle.object.specs.declared.Slot.{Slot}
use Rattle.object.specs.declared.Tally.{Tally}
use Rattle.object.specs.declared.Decided.TheVariants.{Fits}
use Rattle.object.specs.Sound.{sound_slot}
use Rattle.object.specs.Take.{Taken, takes_in, decided_held, decided_new, decided_by, decided, taken_by, take_into}
use Rattle.object.specs.Asked.{tally_of, total_in, soundness, Readable, Offered, Fitting}
use Rattle.object.specs.laws.Inside.{marked-inside, lent-shaped, lent-bits}
use Rattle.object.specs.Parts.{Lent, parts_of, kept_of, marks_of, share_of, memory_of}
use Rattle.object.specs.Stage.{core_in}

-- ---- what is taken: of a number that is not marked, of one that is, and by the mark

abbrev pub if_new : Bool → Part → ℕ → Segment → Slot → Lent → Taken
if_new fits part limit s slot lent = taken_by (decided_new fits (core_with part s (core_in (parts_of slot lent).header)))
    part limit s slot lent

abbrev pub if_held : Bool → Part → ℕ → Segment → Slot → Lent → Taken
if_held same part limit s slot lent = taken_by (decided_held same) part limit s slot lent

abbrev pub by_mark : ℕ → Part → ℕ → Segment → Slot → Lent → Taken
by_mark zero part limit s slot lent = if_new (takes_in part limit s (parts_of slot lent)) part limit s slot lent
by_mark (suc mark) part limit s slot lent =
    if_held (same_segment s (segment_at (memory_of part (parts_of slot lent)) s.number)) part limit s slot lent

pub take-by-mark : (part : Part) (limit : ℕ) (s : Segment) (slot : Slot) (lent : Lent) → take_into part limit s slot lent
    ≡ by_mark (get_or (memory_of part (parts_of slot lent)).marks s.number 0) part limit s slot lent
unfolding take_into decided
take-by-mark part limit s slot lent = go (get_or (memory_of part (parts_of slot lent)).marks s.number 0)
  where
    go : (mark : ℕ)
        → taken_by (decided_by mark (same_segment s (segment_at (memory_of part (parts_of slot lent)) s.number))
        (decided_new (takes_in part limit s (parts_of slot lent)) (core_with part s (core_in (parts_of slot lent).header))))
        part limit s slot lent ≡ by_mark mark part limit s slot lent
    go zero = refl
    go (suc mark) = refl

-- ---- what is decided, of the records, the marks and the shares

-- a slot's part, of its records, its marks and its shares
pub memory-is : (part : Part) (slot : Slot) (lent : Lent) → memory_of part (parts_of slot lent)
    ≡ memory (kept_of part slot) (marks_of part lent.marks) (share_of part lent)
unfolding parts_of
memory-is Header slot lent = refl
memory-is Body slot lent = refl

-- how many are in, by the tally
pub tallied-total : (part : Part) (tally : Tally) (header marks : List ℕ) → tally ≡ tally_of header marks
    → total_in part tally ≡ sum_of (marks_of part marks)
tallied-total Header tally header marks t = ap (λ (x : Tally). x.headers) t
tallied-total Body tally header marks t = ap (λ (x : Tally). x.bodies) t

module _ (part : Part) (limit : ℕ) (s : Segment) (slot : Slot) (lent : Lent) where
  abbrev pub said : Option Sizes
  said = core_with part s (core_in (parts_of slot lent).header)

  pub decided-held : (same : Bool) → mark_of (marks_of part lent.marks) s.number ≡ true
      → same ≡ same_segment s (held_at (kept_of part slot) (share_of part lent) s.number)
      → decided_held same ≡ decided part limit s (parts_of slot lent)
  unfolding decided segment_at
  decided-held same h e =
      rw (memory-is part slot lent) (go (get_or (marks_of part lent.marks) s.number 0) (leb-true 1 _ h))
    where
      go : (mark : ℕ) → 0 < mark → decided_held same
          ≡ decided_by mark (same_segment s (held_at (kept_of part slot) (share_of part lent) s.number))
          (decided_new (takes_in part limit s (parts_of slot lent)) said)
      go zero m = absurd (omega arith)
      go (suc mark) m = ap decided_held e

  pub decided-new : (fits : Bool) → mark_of (marks_of part lent.marks) s.number ≡ false
      → fits ≡ takes part limit said (kept_of part slot) (marks_of part lent.marks) (kept_of (other_part part) slot)
      (marks_of (other_part part) lent.marks) s.last s.number (length s.bytes)
      → decided_new fits said ≡ decided part limit s (parts_of slot lent)
  unfolding decided takes_in
  decided-new fits h e = rw (memory-is part slot lent, memory-is (other_part part) slot lent, none)
      (ap (λ (f : Bool). decided_new f said) e)
    where
      none : get_or (marks_of part lent.marks) s.number 0 ≡ 0
      none = omega (arith, leb-false 1 (get_or (marks_of part lent.marks) s.number 0) h)

  -- one that fits can be stored
  pub decided-fits : (tally : Tally) (core : Option Sizes) → Offered limit slot lent → tally
      ≡ tally_of lent.header lent.marks → decided part limit s (parts_of slot lent) ≡ Fits core
      → Fitting tally part limit core s slot lent
  unfolding decided
  decided-fits tally core offered t e = go (get_or (memory_of part (parts_of slot lent)).marks s.number 0)
      (same_segment s (segment_at (memory_of part (parts_of slot lent)) s.number))
      (takes_in part limit s (parts_of slot lent)) refl refl e
    where
      go : (mark : ℕ) (same fits : Bool) → get_or (memory_of part (parts_of slot lent)).marks s.number 0 ≡ mark
          → takes_in part limit s (parts_of slot lent) ≡ fits
          → decided_by mark same (decided_new fits said) ≡ Fits core → Fitting tally part limit core s slot lent
      go (suc mark) true fits m f d = let z : ◌≡◌ {A = ℕ} 0 1 = cc in absurd (omega arith)
      go (suc mark) false fits m f d = let z : ◌≡◌ {A = ℕ} 0 1 = cc in absurd (omega arith)
      go zero same false m f d = let z : ◌≡◌ {A = ℕ} 0 1 = cc in absurd (omega arith)
      go zero same true m f d =
          let c : core ≡ said = cc in
          record {
            header = offered.header;
            body = offered.body;
            marks = offered.marks;
            tallied = t;
            bits = offered.bits;
            unmarked = rw (memory-is part slot lent) at m;
            said = c;
            sound = offered.sound;
            fits = f;
          }

-- a slot that is offered a segment can be asked what comes of it
pub offered-readable : (tally : Tally) (part : Part) (n limit : ℕ) (slot : Slot) (lent : Lent) → Offered limit slot lent
    → tally ≡ tally_of lent.header lent.marks → Readable tally part n slot lent
unfolding parts_of
offered-readable tally part n limit slot lent offered t =
    record { marks = offered.marks; bits = offered.bits; tallied = t; held = held part }
  where
    inside : (p : Part) → 0 < get_or (memory_of p (parts_of slot lent)).marks n 0
        → Held (memory_of p (parts_of slot lent)).kept n (memory_of p (parts_of slot lent)).share
    inside p h = (marked-inside p limit slot.stage (parts_of slot lent)
        (lent-shaped limit slot lent offered.header offered.body offered.marks)
        (lent-bits slot lent offered.bits) offered.sound n h).product

    held : (p : Part) → 0 < get_or (marks_of p lent.marks) n 0 → Held (kept_of p slot) n (share_of p lent)
    held Header = inside Header
    held Body = inside Body

-- ---- whether a slot is sound, by what is told of it

pub is-sound : (limit : ℕ) (slot : Slot) (lent : Lent) → is_some (soundness limit slot lent)
    ≡ sound_slot limit slot lent
unfolding soundness
is-sound limit slot lent = go (sound_slot limit slot lent)
  where
    go : (b : Bool) → is_some (pick b (Some (tally_of lent.header lent.marks)) None) ≡ b
    go true = refl
    go false = refl
