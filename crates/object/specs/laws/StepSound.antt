-- A slot stays sound: what is stored in it leaves it so, and so does what it refuses; a slot that holds nothing yet
-- takes its first segment the same way.
use Rattle.std.specs.Prelude.{◌≡◌, refl, true, None, List, [], ◌∷◌, ℕ, zero, suc, ◌-◌, ◌*◌, ◌≤◌, length, take, drop}
use Rattle.std.proofs.Common.{inl, arith, length-drop}
use Rattle.octets.specs.Octets.{sum_of}
use Rattle.octets.specs.laws.Marks.{sum-split, sum-none}
use Rattle.answer.specs.declared.Part.{Part}
use Rattle.answer.specs.declared.Part.TheVariants.{Header, Body}
use Rattle.cut.specs.laws.Lists.{bytes_take, bytes_drop, over-bytes}
use Rattle.cut.specs.Requirement.{header_numbers, limit_most, Segment}
use Rattle.cut.specs.declared.Bounds.{Bounds}
use Rattle.cut.specs.declared.Record.{Record}
use Rattle.cut.specs.Kept.{bounds_of, settle, core_after}
use Rattle.cut.specs.laws.Segment.{Numbered}
use Rattle.cut.specs.Parts.{headers_with, bodies_with, those}
use Rattle.cut.specs.laws.Theorem.{nothing-fits}
use Rattle.cut.specs.laws.Marks.{Marked}
use Rattle.cut.specs.Lists.{Each, Bytes}
use Rattle.object.specs.declared.Slot.{Slot}
use Rattle.object.specs.declared.Outcome.{Outcome}
use Rattle.object.specs.declared.Outcome.TheVariants.{Stored, Complete, Repeat, Conflict}
use Rattle.part.specs.Memory.{Memory, place_of}
use Rattle.part.specs.Moves.{moved_as, settled, put}
use Rattle.object.specs.Take.{parts_with, Taken, unchanged, decided, taken_by, take_into}
use Rattle.object.specs.declared.Decided.{Decided}
use Rattle.part.specs.Asked.{record_with, record_within}
use Rattle.object.specs.Sound.{sound_slot}
use Rattle.object.specs.laws.Shape.{IsLent, Shaped}
use Rattle.object.specs.laws.Inside.{lent-shaped}
use Rattle.object.specs.laws.Held.{Gathers, Vacant, Added}
use Rattle.part.specs.laws.Keeps.{Keeps}
use Rattle.object.specs.laws.Step.{Tells, outcome-tells}
use Rattle.object.specs.laws.StateExact.{holds-sound}
use Rattle.object.specs.Parts.{Lent, Parts, parts_of, lent_of}
use Rattle.object.specs.Stage.{core_in}

-- ---- a slot that holds nothing yet

none-marked : (marks : List ℕ) → sum_of marks ≡ 0 → Marked marks []
none-marked marks e =
    record {
      bits = zeros marks e;
      marked =
          λ n. ((λ h. absurd (omega (arith, (sum-none marks).0 e n))), (λ i. absurd i));
    }
  where
    zeros : (l : List ℕ) → sum_of l ≡ 0 → Each (λ m. m ≤ 1) l
    zeros [] e = tt
    zeros (m ∷ l) e = (omega arith, zeros l (omega arith))

none_kept : (b : Bounds) (m : Memory) → m.kept ≡ record { size = 0; end = 0; tail = 0 } → sum_of m.marks ≡ 0
    → Keeps b m []
unfolding settle
none_kept b m e s = record { kept = e; laid = tt; marked = none-marked m.marks s }

pub vacant-gathers : (limit : ℕ) (slot : Slot) (lent : Lent) → limit ≤ limit_most → Vacant limit slot lent
    → Gathers limit (parts_of slot lent) [] []
unfolding parts_of
vacant-gathers limit slot lent z v = record {
  object = nothing-fits limit z;
  shape = lent-shaped limit slot lent v.lends.header_length v.lends.body_length v.lends.marks_length;
  header = none_kept (bounds_of Header limit None) (parts_of slot lent).header v.header
      (omega (arith, sum-split lent.marks header_numbers, v.marks));
  body = none_kept (bounds_of Body limit None) (parts_of slot lent).body v.body
      (omega (arith, sum-split lent.marks header_numbers, v.marks));
}

-- ---- what is lent stays what it has to be

moved-bytes : (old new end tail : ℕ) (share : List ℕ) → Bytes share → Bytes (moved_as old new end tail share)
moved-bytes (suc old) new end tail share y = y
moved-bytes zero zero end tail share y = y
moved-bytes zero (suc new) zero tail share y = y
moved-bytes zero (suc new) (suc zero) tail share y = y
moved-bytes zero (suc new) (suc (suc n)) tail share y =
    over-bytes share (suc n * suc new) (take tail (drop (length share - tail) share)) y
    (bytes_take tail (drop (length share - tail) share) (bytes_drop (length share - tail) share y))

settled-bytes : (p : Record) (m : Memory) → Bytes m.share → Bytes (settled p m).share
unfolding settled
settled-bytes p m y = moved-bytes m.kept.size p.size m.kept.end m.kept.tail m.share y

put-bytes : (s : Segment) (m : Memory) → Bytes s.bytes → Bytes m.share → Bytes (put s m).share
unfolding put
put-bytes s m x y =
    over-bytes m.share (place_of s.last m.kept.size (length m.share) s.number (length s.bytes))
    s.bytes y x

parts-bytes : (part : Part) (limit : ℕ) (s : Segment) (ps : Parts) → Bytes s.bytes → Bytes ps.header.share
    → Bytes ps.body.share → Bytes (parts_with part limit s ps).header.share
    × Bytes (parts_with part limit s ps).body.share
unfolding parts_with
parts-bytes Header limit s ps y h b = (
  put-bytes s (settled (record_with (bounds_of Header limit (core_after s (core_in ps.header))) s ps.header)
      ps.header) y
      (settled-bytes (record_with (bounds_of Header limit (core_after s (core_in ps.header))) s ps.header)
      ps.header
      h),
  settled-bytes (record_within (bounds_of Body limit (core_after s (core_in ps.header))) ps.body) ps.body b,
)
parts-bytes Body limit s ps y h b = (
  h,
  put-bytes s (settled (record_with (bounds_of Body limit (core_in ps.header)) s ps.body) ps.body) y
      (settled-bytes (record_with (bounds_of Body limit (core_in ps.header)) s ps.body) ps.body b),
)

taken-bytes : (part : Part) (limit : ℕ) (s : Segment) (slot : Slot) (lent : Lent) → Bytes s.bytes
    → Bytes lent.header → Bytes lent.body → Bytes (take_into part limit s slot lent).lent.header
    × Bytes (take_into part limit s slot lent).lent.body
unfolding take_into parts_of lent_of
taken-bytes part limit s slot lent y h b = go (decided part limit s (parts_of slot lent))
  where
    go : (d : Decided) → Bytes (taken_by d part limit s slot lent).lent.header
        × Bytes (taken_by d part limit s slot lent).lent.body
    go Decided.Repeat = (h, b)
    go Decided.Conflict = (h, b)
    go (Decided.Fits core) = parts-bytes part limit s (parts_of slot lent) y h b

shaped-lent : (limit : ℕ) (slot : Slot) (lent : Lent) → Shaped limit (parts_of slot lent) → Bytes lent.header
    → Bytes lent.body → IsLent limit lent
unfolding parts_of
shaped-lent limit slot lent h x y = record {
  header_length = h.header_share;
  body_length = h.body_share;
  marks_length = omega (arith, h.body_marks, length-drop header_numbers lent.marks);
  header_bytes = x;
  body_bytes = y;
}

-- ---- the step

module _ (part : Part) (limit : ℕ) (s : Segment) (slot : Slot) (lent : Lent) (hs bs : List Segment)
    (z : limit ≤ limit_most) (y : Bytes s.bytes) (l : IsLent limit lent) (g : Gathers limit (parts_of slot lent) hs bs)
  where
    -- what is lent is as it has to be afterwards, whatever the outcome
    pub taken-lent : IsLent limit (take_into part limit s slot lent).lent
    taken-lent = go (take_into part limit s slot lent).outcome
        (outcome-tells part limit s slot lent hs bs z y g (take_into part limit s slot lent).outcome refl)
      where
        t : Taken
        t = take_into part limit s slot lent

        bytes : Bytes t.lent.header × Bytes t.lent.body
        bytes = taken-bytes part limit s slot lent y l.header_bytes l.body_bytes

        same : (o : Outcome) → t ≡ unchanged o slot lent → IsLent limit t.lent
        same o e = rw e l

        go : (o : Outcome) → Tells o part limit s slot lent hs bs t → IsLent limit t.lent
        go Stored w = shaped-lent limit t.slot t.lent w.0.holds.gathers.shape bytes.0 bytes.1
        go Complete w = shaped-lent limit t.slot t.lent w.0.holds.gathers.shape bytes.0 bytes.1
        go Repeat w = same Repeat w.1
        go Conflict w = same Conflict w.1

-- a slot in which a segment was stored is sound, also where it was the first
pub added-sound : (part : Part) (limit : ℕ) (s : Segment) (slot : Slot) (hs bs : List Segment) (t : Taken)
    → Added part limit s slot hs bs t → sound_slot limit t.slot t.lent ≡ true
added-sound part limit s slot hs bs t w = holds-sound limit t.slot t.lent (headers_with part s hs)
    (bodies_with part s bs) w.holds part s.number (first part)
  where
    first : (part : Part) → Numbered s.number (those part (headers_with part s hs) (bodies_with part s bs))
    first Header = inl refl
    first Body = inl refl
