-- Which bytes and marks change when a segment is taken: its own place and mark, and the place of a last one that is
-- copied. All others stay, whatever the outcome.
use Rattle.std.specs.Prelude.{◌≡◌, refl, Bool, true, false, List, ℕ, zero, suc, ◌+◌, ◌-◌, ◌*◌, ◌≤◌, ◌<◌, length, take, drop, get_or}
use Rattle.std.proofs.Common.{sym, ap, ◌∙◌, add-zero, arith, length-set, get_or-take, get_or-drop, get_or-set_other}
use Rattle.std.proofs.Math.Decide.{dec_le}
use Rattle.octets.specs.Octets.{over}
use Rattle.octets.specs.laws.Over.{over-length, over-past, over-before}
use Rattle.answer.specs.declared.Part.{Part}
use Rattle.answer.specs.declared.Part.TheVariants.{Header, Body}
use Rattle.cut.specs.Requirement.{header_numbers, body_numbers, Segment}
use Rattle.cut.specs.declared.Record.{Record}
use Rattle.cut.specs.Kept.{bounds_of, core_after}
use Rattle.object.specs.declared.Slot.{Slot}
use Rattle.part.specs.Memory.{Memory, place_of, segment_at}
use Rattle.part.specs.Moves.{moved_as, settled, put}
use Rattle.object.specs.Take.{takes_in, parts_with, slot_with, take_into, record_after}
use Rattle.object.specs.laws.Decided.{if_new, if_held, by_mark, take-by-mark}
use Rattle.part.specs.Asked.{record_within, same_segment}
use Rattle.object.specs.laws.Shape.{Shaped, Copied, Written, Leaves}
use Rattle.part.specs.laws.Inside.{Placed, Moves}
use Rattle.object.specs.laws.Step.{parts-back}
use Rattle.part.specs.laws.Bytes.{tail-length}
use Rattle.object.specs.laws.Inside.{takes-inside, settled-inside, body-inside}
use Rattle.object.specs.Parts.{Lent, Parts, parts_of, lent_of, memory_of, kept_of, share_of}
use Rattle.object.specs.Stage.{core_in}

-- ---- one byte under a run that is laid over a list

module _ (l : List ℕ) (at : ℕ) (run : List ℕ) (fits : at + length run ≤ length l) (i : ℕ) where
  first : (r : List ℕ) → get_or (take 1 (drop i r)) 0 0 ≡ get_or r i 0
  first r = rw (get_or-take 1 (drop i r) 0 0 (omega arith), get_or-drop i r 0 0, add-zero)

  over-early : i < at → get_or (over l at run) i 0 ≡ get_or l i 0
  over-early h = sym (first (over l at run))
      ∙ ap (λ (r : List ℕ). get_or r 0 0) (over-before l at run fits i 1 (omega arith)) ∙ first l

  over-other : ¬ ((at ≤ i) × (i < at + length run)) → get_or (over l at run) i 0 ≡ get_or l i 0
  over-other h = go (dec_le at i) (dec_le (at + length run) i)
    where
      go : Dec (at ≤ i) → Dec (at + length run ≤ i) → get_or (over l at run) i 0 ≡ get_or l i 0
      go (no x) y = over-early (omega arith)
      go (yes x) (yes y) = over-past l at run fits i y
      go (yes x) (no y) = absurd (h (x, omega arith))

-- ---- the two moves

-- where the last one moves, it does so inside the share
abbrev MovesIn : ℕ → Record → Record → Type 0
MovesIn width old new = old.size ≡ 0 → 0 < new.size → 2 ≤ old.end → Moves width old new

moved_other : (old new : Record) (share : List ℕ) (i : ℕ) → MovesIn (length share) old new → ¬ (Copied old new i)
    → (length (moved_as old.size new.size old.end old.tail share) ≡ length share)
    × (get_or (moved_as old.size new.size old.end old.tail share) i 0 ≡ get_or share i 0)
moved_other old new share i m c = go old.size new.size old.end refl refl refl
  where
    go : (x y e : ℕ) → old.size ≡ x → new.size ≡ y → old.end ≡ e
        → (length (moved_as x y e old.tail share) ≡ length share)
        × (get_or (moved_as x y e old.tail share) i 0 ≡ get_or share i 0)
    go (suc x) y e p q r = (refl, refl)
    go zero zero e p q r = (refl, refl)
    go zero (suc y) zero p q r = (refl, refl)
    go zero (suc y) (suc zero) p q r = (refl, refl)
    go zero (suc y) (suc (suc n)) p q r =
        let u = m p (omega arith) (omega arith) in
        let d : old.end - 1 ≡ suc n = omega arith in
        let w : suc n * suc y + old.tail ≤ length share = rw (d, q) at u.place in
        let t : length (take old.tail (drop (length share - old.tail) share)) ≡ old.tail =
        tail-length old.tail share u.tail in (
          over-length share (suc n * suc y) (take old.tail (drop (length share - old.tail) share)) (omega arith),
          over-other share (suc n * suc y) (take old.tail (drop (length share - old.tail) share)) (omega arith) i
              (λ h. c (record {
                unknown = p;
                known = omega arith;
                later = omega arith;
                from = rw (d, q) h.0;
                before =
                    rw (d, q) (omega (arith, h.1));
              })),
        )

settled-other : (new : Record) (m : Memory) (i : ℕ) → MovesIn (length m.share) m.kept new
    → ¬ (Copied m.kept new i) → (length (settled new m).share ≡ length m.share)
    × (get_or (settled new m).share i 0 ≡ get_or m.share i 0)
unfolding settled
settled-other new m i h c = moved_other m.kept new m.share i h c

put_other : (s : Segment) (new : Record) (m : Memory) (i numbers : ℕ) → MovesIn (length m.share) m.kept new
    → Placed (length m.share) numbers s.last new.size s.number (length s.bytes)
    → ¬ (Copied m.kept new i) → ¬ (Written s new.size (length m.share) i)
    → get_or (put s (settled new m)).share i 0 ≡ get_or m.share i 0
unfolding put settled
put_other s new m i numbers h p c w =
    let r = moved_other m.kept new m.share i h c in
    let sh : List ℕ = moved_as m.kept.size new.size m.kept.end m.kept.tail m.share in
    let e : length sh ≡ length m.share = r.0 in
    let f : place_of s.last new.size (length sh) s.number (length s.bytes)
    ≡ place_of s.last new.size (length m.share) s.number (length s.bytes) =
    ap (λ (x : ℕ). place_of s.last new.size x s.number (length s.bytes)) e in
    over-other sh (place_of s.last new.size (length sh) s.number (length s.bytes)) s.bytes
    (omega (arith, p.place)) i (λ x. w (record { from = omega (arith, x.0); before = omega (arith, x.1) }))
    ∙ r.1

-- ---- both parts

parts-other : (part : Part) (limit : ℕ) (s : Segment) (ps : Parts) → Shaped limit ps → takes_in part limit s ps ≡ true
    → (p : Part) (i : ℕ) → ¬ (Copied (memory_of p ps).kept (memory_of p (parts_with part limit s ps)).kept i)
    → (p ≡ part → ¬ (Written s (memory_of p (parts_with part limit s ps)).kept.size (length (memory_of p ps).share) i))
    → get_or (memory_of p (parts_with part limit s ps)).share i 0 ≡ get_or (memory_of p ps).share i 0
unfolding parts_with put settled
parts-other Header limit s ps h e Header i c w = put_other s (record_after Header limit s ps) ps.header i
    header_numbers (λ x y g. settled-inside Header limit s ps h e g) (takes-inside Header limit s ps h e) c (w refl)
parts-other Header limit s ps h e Body i c w =
    (settled-other (record_within (bounds_of Body limit (core_after s (core_in ps.header))) ps.body) ps.body i
    (λ x y g. body-inside limit s ps h e x y g) c).1
parts-other Body limit s ps h e Header i c w = refl
parts-other Body limit s ps h e Body i c w = put_other s (record_after Body limit s ps) ps.body i body_numbers
    (λ x y g. settled-inside Body limit s ps h e g) (takes-inside Body limit s ps h e) c (w refl)

parts-marks : (part : Part) (limit : ℕ) (s : Segment) (ps : Parts) (p : Part) (n : ℕ) → ¬ ((p ≡ part) × (n ≡ s.number))
    → get_or (memory_of p (parts_with part limit s ps)).marks n 0 ≡ get_or (memory_of p ps).marks n 0
unfolding parts_with put settled
parts-marks Header limit s ps Header n d = get_or-set_other ps.header.marks s.number n 1 0 (λ e. d (refl, e))
parts-marks Header limit s ps Body n d = refl
parts-marks Body limit s ps Header n d = refl
parts-marks Body limit s ps Body n d = get_or-set_other ps.body.marks s.number n 1 0 (λ e. d (refl, e))

parts-length : (part : Part) (limit : ℕ) (s : Segment) (ps : Parts) → length (parts_with part limit s ps).header.marks
    ≡ length ps.header.marks
unfolding parts_with put settled
parts-length Header limit s ps = length-set ps.header.marks s.number 1
parts-length Body limit s ps = refl

-- ---- the slot

slot_kept : (p : Part) (number : ℕ) (ps : Parts) → kept_of p (slot_with number ps) ≡ (memory_of p ps).kept
unfolding slot_with
slot_kept Header number ps = refl
slot_kept Body number ps = refl

lent-share : (p : Part) (ps : Parts) → share_of p (lent_of ps) ≡ (memory_of p ps).share
unfolding lent_of
lent-share Header ps = refl
lent-share Body ps = refl

parts-kept : (p : Part) (slot : Slot) (lent : Lent) → (memory_of p (parts_of slot lent)).kept ≡ kept_of p slot
unfolding parts_of
parts-kept Header slot lent = refl
parts-kept Body slot lent = refl

parts_share : (p : Part) (slot : Slot) (lent : Lent) → (memory_of p (parts_of slot lent)).share ≡ share_of p lent
unfolding parts_of
parts_share Header slot lent = refl
parts_share Body slot lent = refl

new-leaves : (b : Bool) (part : Part) (limit : ℕ) (s : Segment) (slot : Slot) (lent : Lent)
    → Shaped limit (parts_of slot lent) → takes_in part limit s (parts_of slot lent) ≡ b
    → Leaves part s slot lent (if_new b part limit s slot lent)
new-leaves false part limit s slot lent h e = record { bytes = λ p i c w. refl; marks = λ p n d. refl }
new-leaves true part limit s slot lent h e = record {
  bytes = λ p i c w. ap (λ (l : List ℕ). get_or l i 0) (lent-share p qs)
      ∙ parts-other part limit s ps h e p i (rw (parts-kept, ← (slot_kept p slot.number qs)) c)
      (λ x. rw (← (slot_kept p slot.number qs), parts_share) (w x))
      ∙ ap (λ (l : List ℕ). get_or l i 0) (parts_share p slot lent);
  marks = λ p n d. rw (parts-back slot.number qs (parts-length part limit s ps ∙ h.header_marks))
      (parts-marks part limit s ps p n d);
}
  where
    ps : Parts
    ps = parts_of slot lent

    qs : Parts
    qs = parts_with part limit s ps

held-leaves : (b : Bool) (part : Part) (limit : ℕ) (s : Segment) (slot : Slot) (lent : Lent)
    → Leaves part s slot lent (if_held b part limit s slot lent)
held-leaves true part limit s slot lent = record { bytes = λ p i c w. refl; marks = λ p n d. refl }
held-leaves false part limit s slot lent = record { bytes = λ p i c w. refl; marks = λ p n d. refl }

pub taken-leaves : (part : Part) (limit : ℕ) (s : Segment) (slot : Slot) (lent : Lent)
    → Shaped limit (parts_of slot lent) → Leaves part s slot lent (take_into part limit s slot lent)
taken-leaves part limit s slot lent h = rw (take-by-mark part limit s slot lent)
    (go (get_or (memory_of part (parts_of slot lent)).marks s.number 0))
  where
    go : (mark : ℕ) → Leaves part s slot lent (by_mark mark part limit s slot lent)
    go zero = new-leaves (takes_in part limit s (parts_of slot lent)) part limit s slot lent h refl
    go (suc mark) = held-leaves (same_segment s (segment_at (memory_of part (parts_of slot lent)) s.number)) part limit s
        slot lent
