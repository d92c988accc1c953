-- A segment that fits can be stored, and what storing leaves is what is taken.
use Rattle.std.specs.Prelude.{◌≡◌, Option, ℕ, ◌+◌, ◌≤◌, ◌<◌, take, drop, set}
use Rattle.std.proofs.Math.Path.{refl, ap}
use Rattle.std.proofs.Common.{sym, ◌∙◌, length-append, length-set, take_at, drop_at}
use mathlib.Core.List.{List, [], ◌++◌}
use native.Mathlib.Omega.{arith}
use Rattle.std.proofs.Math.ListN.{length, length-take}
use Rattle.octets.specs.Octets.{sum_of, largest_of}
use Rattle.octets.specs.laws.Marks.{sum_bound, sum-marked}
use Rattle.answer.specs.declared.Part.{Part}
use Rattle.answer.specs.declared.Part.TheVariants.{Header, Body}
use Rattle.cut.specs.Requirement.{header_numbers, body_numbers, Segment}
use Rattle.cut.specs.declared.Sizes.{Sizes}
use Rattle.cut.specs.declared.Record.{Record}
use Rattle.cut.specs.Kept.{bounds_of, core_with}
use Rattle.part.specs.Memory.{Memory, memory}
use Rattle.part.specs.Moves.{moved_as, settled, put}
use Rattle.part.specs.Asked.{record_adding, record_with, record_settled, record_within, CanMove, CanPut}
use Rattle.object.specs.declared.Slot.{Slot}
use Rattle.object.specs.declared.Tally.{Tally}
use Rattle.object.specs.declared.Took.{Took}
use Rattle.object.specs.Take.{slot_with, parts_with, left, took_of, stored_as, record_after}
use Rattle.object.specs.Asked.{total_in, Summed, Fitting}
use Rattle.object.specs.laws.Shape.{numbers_of, Shaped}
use Rattle.object.specs.laws.Inside.{numbers-most, marks-length, takes-inside, settled-inside, body-inside, lent-shaped, lent-bits}
use Rattle.object.specs.laws.Decided.{memory-is, tallied-total}
use Rattle.object.specs.Parts.{Lent, shares, parts_by, parts_of, lent_of, kept_of, marks_of, memory_of}
use Rattle.object.specs.Stage.{core_in, stage_of, missing_in}

-- ---- what the code asks of a segment that fits

module _ (tally : Tally) (limit : ℕ) (core : Option Sizes) (s : Segment) (slot : Slot) (lent : Lent) where
  module _ (part : Part) (f : Fitting tally part limit core s slot lent) where
    shaped : Shaped limit (parts_of slot lent)
    shaped = lent-shaped limit slot lent f.header f.body f.marks

    own_is : total_in part tally ≡ sum_of (marks_of part lent.marks)
    own_is = tallied-total part tally lent.header lent.marks f.tallied

    -- the record with it, as it is asked of numbers
    pub record_is : record_adding (bounds_of part limit core) (kept_of part slot) (total_in part tally) s.last
        s.number (length s.bytes) ≡ record_after part limit s (parts_of slot lent)
    unfolding record_with
    record_is = rw (f.said, own_is, memory-is part slot lent) refl

    pub number_small : s.number < 32768
    number_small = omega (
      arith,
      (takes-inside part limit s (parts_of slot lent) shaped f.fits).number,
      numbers-most part,
    )

    -- it has a place, and so has the last one, once the size is known
    pub can-move : CanMove (memory_of part (parts_of slot lent)).kept (record_after part limit s (parts_of slot lent))
        (memory_of part (parts_of slot lent)).share
    can-move = record {
      inside = λ unknown known later. (settled-inside part limit s (parts_of slot lent) shaped f.fits
          later).place;
    }

    pub can-put : CanPut (record_after part limit s (parts_of slot lent)) s.number (length s.bytes)
        (memory_of part (parts_of slot lent)).share (memory_of part (parts_of slot lent)).marks
    can-put =
        let placed = takes-inside part limit s (parts_of slot lent) shaped f.fits in
        record { number = omega (arith, placed.number, marks-long part); inside = placed.product }
      where
        marks-long : (p : Part) → length (memory_of p (parts_of slot lent)).marks ≡ numbers_of p
        marks-long Header = shaped.header_marks
        marks-long Body = shaped.body_marks

    -- with it one more of its part is in
    pub one_more : sum_of (set (marks_of part lent.marks) s.number 1) ≡ total_in part tally + 1
    one_more =
        let placed = takes-inside part limit s (parts_of slot lent) shaped f.fits in
        omega (
          arith,
          sum-marked (marks_of part lent.marks) s.number
              (omega (arith, placed.number, marks-length part lent.marks f.marks)) f.unmarked,
          own_is,
        )

    pub own-small : total_in part tally ≤ body_numbers
    unfolding parts_of
    own-small = omega (
      arith,
      own_is,
      sum_bound (marks_of part lent.marks) (few part),
      marks-length part lent.marks f.marks,
      numbers-most part,
    )
      where
        few : (p : Part) → largest_of (marks_of p lent.marks) ≤ 1
        few Header = (lent-bits slot lent f.bits).0
        few Body = (lent-bits slot lent f.bits).1

  -- the body's record with header segment 0, and the place of its last one
  module _ (f : Fitting tally Header limit core s slot lent) where
    pub still-is : record_settled (bounds_of Body limit core) slot.body tally.bodies
        ≡ record_within (bounds_of Body limit (core_with Header s (core_in (parts_of slot lent).header)))
        (parts_of slot lent).body
    unfolding record_within
    still-is = rw (f.said, ap (λ (t : Tally). t.bodies) f.tallied, memory-is Body slot lent) refl

    pub still-move : CanMove (parts_of slot lent).body.kept
        (record_within (bounds_of Body limit (core_with Header s (core_in (parts_of slot lent).header)))
        (parts_of slot lent).body) (parts_of slot lent).body.share
    still-move =
        record {
          inside = λ unknown known later. (body-inside limit s (parts_of slot lent) (shaped Header f) f.fits
              unknown known later).place;
        }

-- the marks of two parts, one after the other
marks-apart : (h b : List ℕ) → length h ≡ header_numbers → (take header_numbers (h ++ b) ≡ h)
    × (drop header_numbers (h ++ b) ≡ b)
marks-apart h b e = (take_at h b header_numbers e, drop_at h b header_numbers e)

-- how many are in once a segment is put
module _ (tally : Tally) (limit : ℕ) (core : Option Sizes) (s : Segment) (slot : Slot) (lent : Lent)
    (marks : List ℕ) where
  pub summed-header : Fitting tally Header limit core s slot lent → marks
      ≡ set (marks_of Header lent.marks) s.number 1 → Summed Header (tally.headers + 1) tally.bodies
      (marks ++ marks_of Body lent.marks)
  summed-header f e =
      let long : length marks ≡ header_numbers = ap length e ∙ length-set (marks_of Header lent.marks) s.number 1
      ∙ marks-length Header lent.marks f.marks in
      let a = marks-apart marks (marks_of Body lent.marks) long in
      record {
        long = simp length-append (omega (arith, marks-length Body lent.marks f.marks));
        ours = rw a.0 (sym (ap sum_of e ∙ one_more tally limit core s slot lent Header f));
        theirs = rw a.1 (ap (λ (t : Tally). t.bodies) f.tallied);
      }

  pub summed-body : Fitting tally Body limit core s slot lent → marks ≡ set (marks_of Body lent.marks) s.number 1
      → Summed Header tally.headers (tally.bodies + 1) (marks_of Header lent.marks ++ marks)
  summed-body f e =
      let long : length marks ≡ numbers_of Body = ap length e ∙ length-set (marks_of Body lent.marks) s.number 1
      ∙ marks-length Body lent.marks f.marks in
      let a = marks-apart (marks_of Header lent.marks) marks (marks-length Header lent.marks f.marks) in
      record {
        long = simp length-append (omega (arith, marks-length Header lent.marks f.marks));
        ours = rw a.0 (ap (λ (t : Tally). t.headers) f.tallied);
        theirs = rw a.1 (sym (ap sum_of e ∙ one_more tally limit core s slot lent Body f));
      }

-- ---- what storing leaves

-- two parts, where the stage is worked out from their marks
left_is : (count number : ℕ) (h b : Memory) → length h.marks ≡ header_numbers
    → left (took_of count number (parts_by h.kept b.kept (shares h.share [] (h.marks ++ b.marks))))
    (shares h.share b.share (h.marks ++ b.marks))
    ≡ stored_as count number (record { header = h; body = b })
unfolding slot_with stage_of missing_in core_in lent_of
left_is count number h b e =
    rw ((marks-apart h.marks b.marks e).0, (marks-apart h.marks b.marks e).1) refl

module _ (limit : ℕ) (s : Segment) (slot : Slot) (lent : Lent)
    (long : length lent.marks ≡ header_numbers + body_numbers) where
  -- a header segment put, and the body settled
  pub stored-header : (r : Took) (new still : Record) (marks header body : List ℕ)
      → new ≡ record_after Header limit s (parts_of slot lent)
      → still ≡ record_within (bounds_of Body limit (core_with Header s (core_in (parts_of slot lent).header)))
      (parts_of slot lent).body
      → memory new marks header
      ≡ put s (settled new (memory slot.header (marks_of Header lent.marks) lent.header))
      → body ≡ moved_as slot.body.size still.size slot.body.end slot.body.tail lent.body
      → r ≡ took_of (length s.bytes) slot.number
      (parts_by new still (shares header [] (marks ++ marks_of Body lent.marks)))
      → left r (shares header body (marks ++ marks_of Body lent.marks))
      ≡ stored_as (length s.bytes) slot.number (parts_with Header limit s (parts_of slot lent))
  unfolding parts_with settled parts_of
  stored-header r new still marks header body e f g h i =
      let b : Memory = memory still (marks_of Body lent.marks) body in
      let m : Memory = memory new marks header in
      let apart : length marks ≡ header_numbers = ap (λ (x : Memory). length x.marks) g
      ∙ put-long (settled new (memory slot.header (marks_of Header lent.marks) lent.header))
      ∙ simp length-take (omega arith) in
      ap (λ (x : Took). left x (shares header body (marks ++ marks_of Body lent.marks))) i
      ∙ left_is (length s.bytes) slot.number m b apart
      ∙ ap (stored_as (length s.bytes) slot.number) (rw (g, h, e, f) refl)
    where
      put-long : (x : Memory) → length (put s x).marks ≡ length x.marks
      put-long x = unfold put in (length-set x.marks s.number 1)

  -- a body segment put
  pub stored-body : (r : Took) (new : Record) (marks whole body : List ℕ)
      → new ≡ record_after Body limit s (parts_of slot lent)
      → memory new marks body ≡ put s (settled new (memory slot.body (marks_of Body lent.marks) lent.body))
      → whole ≡ marks_of Header lent.marks ++ marks
      → r ≡ took_of (length s.bytes) slot.number
      (parts_by slot.header new (shares lent.header [] whole))
      → left r (shares lent.header body whole)
      ≡ stored_as (length s.bytes) slot.number (parts_with Body limit s (parts_of slot lent))
  unfolding parts_with settled parts_of
  stored-body r new marks whole body e g h i =
      let b : Memory = memory new marks body in
      let m : Memory = memory slot.header (marks_of Header lent.marks) lent.header in
      let apart : length (marks_of Header lent.marks) ≡ header_numbers = simp length-take (omega arith) in
      let put : left (took_of (length s.bytes) slot.number
      (parts_by slot.header new (shares lent.header [] whole)))
      (shares lent.header body whole)
      ≡ stored_as (length s.bytes) slot.number (record { header = m; body = b }) =
      rw h (left_is (length s.bytes) slot.number m b apart) in
      ap (λ (x : Took). left x (shares lent.header body whole)) i
      ∙ put
      ∙ ap (stored_as (length s.bytes) slot.number) (rw (g, e) refl)
