-- Everything that is read or written in a share lies inside it: the segments that are marked, one that is taken, and
-- one that is copied once the size is known.
use Rattle.std.specs.Prelude.{◌≡◌, true, Option, Some, None, List, [], ◌∷◌, ℕ, suc, ◌+◌, ◌≤◌, ◌<◌, length, take, drop, get_or, leb}
use Rattle.std.proofs.Math.Path.{refl}
use Rattle.std.proofs.Common.{ap, arith, length-take, length-drop, take_all, leb-true, eqb-true}
use Rattle.std.proofs.Math.Bool.{Bool}
use Rattle.std.proofs.Math.Dec.{eqb}
use Rattle.octets.specs.Octets.{sum_of, largest_of}
use Rattle.octets.specs.laws.Marks.{largest-part}
use Rattle.answer.specs.declared.Part.{Part}
use Rattle.answer.specs.declared.Part.TheVariants.{Header, Body}
use Rattle.cut.specs.Requirement.{header_most, header_numbers, body_numbers, Segment}
use Rattle.cut.specs.declared.Sizes.{Sizes}
use Rattle.cut.specs.declared.Bounds.{Bounds}
use Rattle.cut.specs.declared.Record.{Record}
use Rattle.cut.specs.Decision.{core_tests, core_fits}
use Rattle.cut.specs.Kept.{bounds_of, core_after, core_with}
use Rattle.cut.specs.laws.Decision.{Suits, both_true, all_true}
use Rattle.cut.specs.Parts.{other_part}
use Rattle.cut.specs.Sums.{possible_in, fits_in}
use Rattle.cut.specs.Missing.{amount_kept}
use Rattle.cut.specs.MissingKept.{Small}
use Rattle.cut.specs.Lists.{Each}
use Rattle.object.specs.declared.Slot.{Slot}
use Rattle.object.specs.declared.Stage.{Stage}
use Rattle.part.specs.Memory.{Memory, memory, length_of}
use Rattle.object.specs.Take.{takes_in, record_after}
use Rattle.part.specs.Asked.{sound_part, record_with, record_within, record_right}
use Rattle.part.specs.laws.Inside.{Placed, Moves, sits-before, each-bit, top_in, right-suits, size-known, marked-sits, sits-number, placed, fits-placed, fits_moves, fits-suited, within-moves, within-suited, right-suited, suited-small}
use Rattle.object.specs.Sound.{marks_right, same_stage, sound_parts, sound_slot}
use Rattle.object.specs.laws.Shape.{width_of, numbers_of, Shaped, Bits}
use Rattle.object.specs.Parts.{marks_of, Lent, Parts, parts_of, memory_of}
use Rattle.object.specs.Stage.{core_in, stage_of, missing_in}

-- ---- the bounds of a part are those of its share

pub bounds-numbers : (part : Part) (limit : ℕ) (c : Option Sizes) → (bounds_of part limit c).numbers ≡ numbers_of part
unfolding bounds_of
bounds-numbers Header limit None = refl
bounds-numbers Header limit (Some sizes) = refl
bounds-numbers Body limit None = refl
bounds-numbers Body limit (Some sizes) = refl

pub bounds-most : (part : Part) (limit : ℕ) (c : Option Sizes) → core_fits limit c ≡ true
    → (bounds_of part limit c).most ≤ width_of part limit
unfolding bounds_of core_fits
bounds-most Header limit None e = omega arith
bounds-most Header limit (Some sizes) e = let t = all_true (core_tests limit (Some sizes)) e in
    omega (arith, leb-true)
bounds-most Body limit None e = omega arith
bounds-most Body limit (Some sizes) e = let t = all_true (core_tests limit (Some sizes)) e in
    omega (arith, leb-true)

pub share-width : (part : Part) (limit : ℕ) (ps : Parts) → Shaped limit ps → length (memory_of part ps).share
    ≡ width_of part limit
share-width Header limit ps h = h.header_share
share-width Body limit ps h = h.body_share

-- ---- of both parts

-- the tests that a segment of a part has passed
pub record Passed (part : Part) (limit : ℕ) (s : Segment) (ps : Parts) : Type 0 where
  pub core : core_fits limit (core_with part s (core_in ps.header)) ≡ true
  pub own : fits_in (bounds_of part limit (core_with part s (core_in ps.header))) (memory_of part ps).kept
      (memory_of part ps).marks s.last s.number (length s.bytes) ≡ true
  pub other : possible_in (bounds_of (other_part part) limit (core_with part s (core_in ps.header)))
      (memory_of (other_part part) ps).kept (memory_of (other_part part) ps).marks ≡ true

passed : (part : Part) (limit : ℕ) (s : Segment) (ps : Parts) → takes_in part limit s ps ≡ true → Passed part limit s ps
unfolding takes_in
passed part limit s ps e =
    let c : Option Sizes = core_with part s (core_in ps.header) in
    let t = all_true
    (core_fits limit c
    ∷ fits_in (bounds_of part limit c) (memory_of part ps).kept (memory_of part ps).marks s.last s.number
    (length s.bytes)
    ∷ possible_in (bounds_of (other_part part) limit c) (memory_of (other_part part) ps).kept
    (memory_of (other_part part) ps).marks
    ∷ []) e in
    record { core = t.0; own = t.1.0; other = t.1.1.0 }

-- a segment that is taken has a number of its part, and lies inside the share
pub takes-inside : (part : Part) (limit : ℕ) (s : Segment) (ps : Parts) → Shaped limit ps → takes_in part limit s ps
    ≡ true → Placed (length (memory_of part ps).share) (numbers_of part) s.last (record_after part limit s ps).size
    s.number (length s.bytes)
unfolding record_with
takes-inside part limit s ps h e =
    let c : Option Sizes = core_with part s (core_in ps.header) in
    let t = passed part limit s ps e in
    let w : (bounds_of part limit c).most ≤ length (memory_of part ps).share =
    omega (arith, bounds-most part limit c t.core, share-width part limit ps h) in
    let r = fits-placed (bounds_of part limit c) (memory_of part ps).kept (memory_of part ps).marks s.last s.number
    (length s.bytes) t.own (length (memory_of part ps).share) w in
    record { number = omega (arith, r.number, bounds-numbers part limit c); product = r.product; place = r.place }

-- the last one that a new segment of its part gives a place
pub settled-inside : (part : Part) (limit : ℕ) (s : Segment) (ps : Parts) → Shaped limit ps → takes_in part limit s ps
    ≡ true → 2 ≤ (memory_of part ps).kept.end → Moves (length (memory_of part ps).share) (memory_of part ps).kept
    (record_after part limit s ps)
unfolding record_with
settled-inside part limit s ps h e g =
    let c : Option Sizes = core_with part s (core_in ps.header) in
    let t = passed part limit s ps e in
    let w : (bounds_of part limit c).most ≤ length (memory_of part ps).share =
    omega (arith, bounds-most part limit c t.core, share-width part limit ps h) in
    fits_moves (bounds_of part limit c) (memory_of part ps).kept (memory_of part ps).marks s.last s.number
    (length s.bytes) t.own (length (memory_of part ps).share) w g

-- the body's last one, that a header segment gives a place
pub body-inside : (limit : ℕ) (s : Segment) (ps : Parts) → Shaped limit ps → takes_in Header limit s ps ≡ true
    → ps.body.kept.size ≡ 0 → 0 < (record_within (bounds_of Body limit (core_after s (core_in ps.header)))
    ps.body).size → 2 ≤ ps.body.kept.end → Moves (length ps.body.share) ps.body.kept
    (record_within (bounds_of Body limit (core_after s (core_in ps.header))) ps.body)
unfolding record_within
body-inside limit s ps h e z g t =
    let c : Option Sizes = core_after s (core_in ps.header) in
    let w : (bounds_of Body limit c).most ≤ length ps.body.share =
    omega (arith, bounds-most Body limit c (passed Header limit s ps e).core, h.body_share) in
    within-moves (bounds_of Body limit c) ps.body.kept ps.body.marks (length ps.body.share) w
    (passed Header limit s ps e).other z g t

-- ---- a segment that is marked

-- what a part of a sound slot has passed
pub record Right (part : Part) (limit : ℕ) (ps : Parts) : Type 0 where
  pub core : core_fits limit (core_in ps.header) ≡ true
  pub right : record_right (bounds_of part limit (core_in ps.header)) (memory_of part ps).kept (memory_of part ps).marks
      ≡ true
  pub can : possible_in (bounds_of part limit (core_in ps.header)) (memory_of part ps).kept (memory_of part ps).marks
      ≡ true

pub sound-right : (part : Part) (limit : ℕ) (stage : Stage) (ps : Parts) → sound_parts limit stage ps ≡ true
    → Right part limit ps
unfolding sound_parts sound_part
sound-right part limit stage ps e =
    let c : Option Sizes = core_in ps.header in
    let t = all_true
    (core_fits limit c
    ∷ sound_part (bounds_of Header limit c) ps.header.kept ps.header.marks
    ∷ sound_part (bounds_of Body limit c) ps.body.kept ps.body.marks
    ∷ same_stage stage (stage_of ps)
    ∷ []) e in
    by part t.0 t.1.0 t.1.1.0
  where
    Passes : Part → Type 0
    Passes part = sound_part (bounds_of part limit (core_in ps.header)) (memory_of part ps).kept
        (memory_of part ps).marks ≡ true

    of : (part : Part) → core_fits limit (core_in ps.header) ≡ true → Passes part → Right part limit ps
    of part k p =
        let b : Bounds = bounds_of part limit (core_in ps.header) in
        let t = both_true (record_right b (memory_of part ps).kept (memory_of part ps).marks)
        (possible_in b (memory_of part ps).kept (memory_of part ps).marks) p in
        record { core = k; right = t.0; can = t.1 }

    by : (part : Part) → core_fits limit (core_in ps.header) ≡ true → Passes Header → Passes Body → Right part limit ps
    by Header k h b = of Header k h
    by Body k h b = of Body k b

pub part-bits : (part : Part) (ps : Parts) → Bits ps → Each (λ x. x ≤ 1) (memory_of part ps).marks
part-bits Header ps h = each-bit ps.header.marks h.0
part-bits Body ps h = each-bit ps.body.marks h.1

pub numbers-most : (part : Part) → numbers_of part ≤ body_numbers
numbers-most Header = omega arith
numbers-most Body = omega arith

module _ (part : Part) (limit : ℕ) (stage : Stage) (ps : Parts) (h : Shaped limit ps) (bits : Bits ps)
    (sound : sound_parts limit stage ps ≡ true) where
  b : Bounds
  b = bounds_of part limit (core_in ps.header)

  r : Right part limit ps
  r = sound-right part limit stage ps sound

  most : b.most ≤ length (memory_of part ps).share
  unfolding b
  most = omega (arith, bounds-most part limit (core_in ps.header) r.core, share-width part limit ps h)

  numbers : b.numbers ≡ numbers_of part
  unfolding b
  numbers = bounds-numbers part limit (core_in ps.header)

  -- a marked segment lies inside the share
  pub marked-inside : (n : ℕ) → 0 < get_or (memory_of part ps).marks n 0 → Placed (length (memory_of part ps).share)
      (numbers_of part) (eqb (suc n) (memory_of part ps).kept.end) (memory_of part ps).kept.size n
      (length_of (eqb (suc n) (memory_of part ps).kept.end) (memory_of part ps).kept)
  unfolding b
  marked-inside n g =
      let m : Memory = memory_of part ps in
      let last : Bool = eqb (suc n) m.kept.end in
      let u : Suits b (top_in m) m.kept.size m.kept.end m.kept.tail =
      right-suits b m (part-bits part ps bits) r.right r.can in
      let t = marked-sits b m (part-bits part ps bits) r.right r.can last n refl g in
      let e = sits-before last u.cut u.long m.kept.size n (length_of last m.kept) t
      (size-known b m (part-bits part ps bits) r.right r.can) in
      placed last (length m.share) (numbers_of part) m.kept.size n (length_of last m.kept)
      (omega (arith, sits-number last b u.cut u.long n (length_of last m.kept) u.within t, numbers))
      (omega (arith, e, u.within.short, most))

-- ---- of a slot and what is lent for it

pub marks-length : (part : Part) (marks : List ℕ) → length marks ≡ header_numbers + body_numbers
    → length (marks_of part marks) ≡ numbers_of part
marks-length Header marks h = simp length-take (omega arith)
marks-length Body marks h = simp length-drop (omega arith)

pub lent-shaped : (limit : ℕ) (slot : Slot) (lent : Lent) → length lent.header ≡ header_most → length lent.body
    ≡ limit → length lent.marks ≡ header_numbers + body_numbers → Shaped limit (parts_of slot lent)
unfolding parts_of
lent-shaped limit slot lent h b m =
    record {
      header_share = h;
      body_share = b;
      header_marks = simp length-take (omega arith);
      body_marks =
          simp length-drop (omega arith);
    }

-- what a sound slot has passed
pub sound-slot : (limit : ℕ) (slot : Slot) (lent : Lent) → sound_slot limit slot lent ≡ true
    → (largest_of lent.marks ≤ 1) × (1 ≤ sum_of lent.marks)
    × (sound_parts limit slot.stage (parts_of slot lent) ≡ true)
    × (slot.missing ≡ amount_kept (missing_in (parts_of slot lent)))
unfolding sound_slot
sound-slot limit slot lent e =
    let t = all_true
    (marks_right lent.marks
    ∷ sound_parts limit slot.stage (parts_of slot lent)
    ∷ eqb slot.missing (amount_kept (missing_in (parts_of slot lent)))
    ∷ []) e in
    let m = both_true (leb (largest_of lent.marks) 1) (leb 1 (sum_of lent.marks)) t.0 in (
      leb-true (largest_of lent.marks) 1 m.0,
      leb-true 1 (sum_of lent.marks) m.1,
      t.1.0,
      eqb-true slot.missing (amount_kept (missing_in (parts_of slot lent))) t.1.1.0,
    )

pub marks-bits : (p : Part) (marks : List ℕ) → largest_of marks ≤ 1 → largest_of (marks_of p marks) ≤ 1
marks-bits Header marks h = omega (arith, largest-part marks 0 header_numbers)
marks-bits Body marks h =
    let n : ℕ = length (drop header_numbers marks) in
    let e : take n (drop header_numbers marks) ≡ drop header_numbers marks =
    take_all n (drop header_numbers marks) (omega arith) in
    omega (arith, largest-part marks header_numbers n, ap largest_of e)

pub lent-bits : (slot : Slot) (lent : Lent) → largest_of lent.marks ≤ 1 → Bits (parts_of slot lent)
unfolding parts_of
lent-bits slot lent h = (marks-bits Header lent.marks h, marks-bits Body lent.marks h)

-- ---- the numbers of a record are those of some part

bounds-few : (part : Part) (limit : ℕ) (c : Option Sizes) → (bounds_of part limit c).numbers ≤ body_numbers
bounds-few part limit c = omega (arith, bounds-numbers part limit c, numbers-most part)

-- of one that is right
pub right-small : (part : Part) (limit : ℕ) (c : Option Sizes) (p : Record) (marks : List ℕ) → largest_of marks ≤ 1
    → sound_part (bounds_of part limit c) p marks ≡ true → Small p
unfolding sound_part
right-small part limit c p marks bits e =
    let b : Bounds = bounds_of part limit c in
    let t = both_true (record_right b p marks) (possible_in b p marks) e in
    suited-small b p (bounds-few part limit c)
    (right-suited b (memory p marks []) (each-bit marks bits) t.0 t.1)

-- of the one with a segment that fits
pub after_small : (part : Part) (limit : ℕ) (s : Segment) (ps : Parts) → takes_in part limit s ps ≡ true
    → Small (record_after part limit s ps)
unfolding record_with
after_small part limit s ps e =
    let c : Option Sizes = core_with part s (core_in ps.header) in
    suited-small (bounds_of part limit c) (record_after part limit s ps) (bounds-few part limit c)
    (fits-suited (bounds_of part limit c) (memory_of part ps).kept (memory_of part ps).marks s.last s.number
    (length s.bytes) (passed part limit s ps e).own)

-- and of the body's, with a header segment that fits
pub still-small : (limit : ℕ) (s : Segment) (ps : Parts) → takes_in Header limit s ps ≡ true
    → Small (record_within (bounds_of Body limit (core_with Header s (core_in ps.header))) ps.body)
unfolding record_within
still-small limit s ps e =
    let c : Option Sizes = core_with Header s (core_in ps.header) in
    suited-small (bounds_of Body limit c) (record_within (bounds_of Body limit c) ps.body) (bounds-few Body limit c)
    (within-suited (bounds_of Body limit c) ps.body.kept ps.body.marks (passed Header limit s ps e).other)

-- and of a sound slot's header
pub header-small : (limit : ℕ) (stage : Stage) (ps : Parts) → Bits ps → sound_parts limit stage ps ≡ true
    → Small ps.header.kept
header-small limit stage ps bits e =
    let r = sound-right Header limit stage ps e in
    let b : Bounds = bounds_of Header limit (core_in ps.header) in
    suited-small b ps.header.kept (bounds-few Header limit (core_in ps.header))
    (right-suited b ps.header (each-bit ps.header.marks bits.0) r.right r.can)
