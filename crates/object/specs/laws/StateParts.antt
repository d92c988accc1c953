-- The tests on the parts of a slot pass exactly when its marked segments fit and give its records and stage.
use Rattle.std.specs.Prelude.{◌≡◌, refl, Bool, true, Option, Some, None, List, [], ◌∷◌, ℕ, zero, suc, ◌≤◌, length, drop, get_or, eqb, leb}
use Rattle.std.proofs.Common.{arith, eq-eqb, leb-true, le-leb}
use Rattle.answer.specs.declared.Part.{Part}
use Rattle.answer.specs.declared.Part.TheVariants.{Header, Body}
use Rattle.cut.specs.laws.Lists.{each_map, bytes_take, bytes_drop}
use Rattle.cut.specs.Requirement.{header_least, limit_most, Segment}
use Rattle.cut.specs.declared.Sizes.{Sizes}
use Rattle.cut.specs.declared.Bounds.{Bounds}
use Rattle.cut.specs.Decision.{core_tests, core_fits, possible, suit_tests, suits}
use Rattle.cut.specs.Kept.{some_full, bounds_of, derived, settle, summary, record_of, core_of}
use Rattle.cut.specs.laws.Segment.{Sits, among-numbered}
use Rattle.cut.specs.laws.Decision.{Clear, all_true, true-all, true-both, sits-possible}
use Rattle.cut.specs.laws.Object.{WithinOf, Passes, passes-fits}
use Rattle.cut.specs.Parts.{those}
use Rattle.cut.specs.laws.Order.{SameSet, EndFrom, end-from}
use Rattle.cut.specs.laws.Marks.{Marked}
use Rattle.cut.specs.Sums.{full_in, possible_in}
use Rattle.cut.specs.laws.Sums.{core-suits, part-suits}
use Rattle.cut.specs.Lists.{pick, Each, Bytes}
use Rattle.object.specs.declared.Stage.{Stage}
use Rattle.object.specs.declared.Stage.TheVariants.{Free, Gathering, Finished}
use Rattle.part.specs.Memory.{Memory, place_of, length_of, segment_as, segment_at, held_in}
use Rattle.object.specs.Sound.{same_stage, sound_parts}
use Rattle.part.specs.Asked.{end_right, record_right, sound_part}
use Rattle.object.specs.laws.Shape.{Shaped, Bits}
use Rattle.object.specs.laws.Inside.{Right, sound-right, part-bits, bounds-most, share-width}
use Rattle.object.specs.laws.Held.{Gathers}
use Rattle.part.specs.laws.Keeps.{Laid, Keeps}
use Rattle.part.specs.laws.Held.{held_reads, held-marked, reads_same, reads-agree}
use Rattle.object.specs.laws.HeldSlot.{part-keeps, part-reads, core-laid, core-read, full-read}
use Rattle.object.specs.Parts.{Parts, memory_of}
use Rattle.object.specs.Stage.{core_in, stage_of}
use Rattle.part.specs.laws.Sound.{cut, long, within, held-sits, held-laid, held-record}

-- ---- the tests pass: the marked segments are held

-- the bytes of a segment are those of the share
as_bytes : (last : Bool) (m : Memory) (n : ℕ) → Bytes m.share → Bytes (segment_as last m n).bytes
as_bytes last m n y =
    bytes_take (length_of last m.kept)
    (drop (place_of last m.kept.size (length m.share) n (length_of last m.kept)) m.share)
    (bytes_drop (place_of last m.kept.size (length m.share) n (length_of last m.kept)) m.share y)

at-bytes : (m : Memory) (n : ℕ) → Bytes m.share → Bytes (segment_at m n).bytes
unfolding segment_at
at-bytes m n y = as_bytes (eqb (suc n) m.kept.end) m n y

held_bytes : (m : Memory) → Bytes m.share → Each (λ s. Bytes s.bytes) (held_in m)
held_bytes m y = each_map (λ s e. rw e at (at-bytes m s.number y)) (held_in m) (held_reads m)

bounds-least : (limit : ℕ) (c : Option Sizes) → core_fits limit c ≡ true
    → header_least ≤ (bounds_of Header limit c).least
unfolding bounds_of core_fits
bounds-least limit None e = omega arith
bounds-least limit (Some sizes) e = let t = all_true (core_tests limit (Some sizes)) e in
    omega (arith, leb-true)

module _ (limit : ℕ) (stage : Stage) (ps : Parts) (z : limit ≤ limit_most) (h : Shaped limit ps) (bits : Bits ps)
    (yh : Bytes ps.header.share) (yb : Bytes ps.body.share) (sound : sound_parts limit stage ps ≡ true) where
  b : Part → Bounds
  b part = bounds_of part limit (core_in ps.header)

  right : (part : Part) → Right part limit ps
  right part = sound-right part limit stage ps sound

  space : (part : Part) → (b part).most ≤ length (memory_of part ps).share
  unfolding b
  space part =
      omega (arith, bounds-most part limit (core_in ps.header) (right part).core, share-width part limit ps h)

  size_of : Part → ℕ
  unfolding b
  size_of part = cut (b part) (memory_of part ps) (part-bits part ps bits) (right part).right (right part).can
      (space part)

  long_of : Part → ℕ
  unfolding b
  long_of part = long (b part) (memory_of part ps) (part-bits part ps bits) (right part).right (right part).can
      (space part)

  in_bounds : (part : Part) → WithinOf (b part) (size_of part) (long_of part)
  unfolding b size_of long_of
  in_bounds part = within (b part) (memory_of part ps) (part-bits part ps bits) (right part).right (right part).can
      (space part)

  sits : (part : Part) → Each (Sits (size_of part) (long_of part)) (held_in (memory_of part ps))
  unfolding b size_of long_of
  sits part = held-sits (b part) (memory_of part ps) (part-bits part ps bits) (right part).right (right part).can
      (space part)

  laid : (part : Part) → Each (Laid (memory_of part ps).kept.size (memory_of part ps).share)
      (held_in (memory_of part ps))
  unfolding b
  laid part = held-laid (b part) (memory_of part ps) (part-bits part ps bits) (right part).right (right part).can
      (space part)

  recorded : (part : Part) → (memory_of part ps).kept ≡ record_of (b part) (summary (held_in (memory_of part ps)))
  unfolding b
  recorded part = held-record (b part) (memory_of part ps) (part-bits part ps bits) (right part).right (right part).can
      (space part)

  hs : List Segment
  hs = held_in ps.header

  bs : List Segment
  bs = held_in ps.body

  core_is : core_in ps.header ≡ core_of hs
  unfolding b hs
  core_is = core-laid ps.header (size_of Header) (long_of Header) (held_in ps.header) (in_bounds Header).low
      (omega (arith, bounds-least limit (core_in ps.header) (right Header).core, (in_bounds Header).long))
      (sits Header) (laid Header) (held-marked ps.header (part-bits Header ps bits))

  can-be : (part : Part) → Clear (held_in (memory_of part ps))
      × (possible (b part) (summary (held_in (memory_of part ps))).top (summary (held_in (memory_of part ps))).part
      ≡ true)
  can-be part = sits-possible (b part) (held_in (memory_of part ps))
      (record { size = size_of part; long = long_of part; within = in_bounds part; sits = sits part })

  passes : Passes limit hs bs
  unfolding suits b hs bs
  passes = record {
    header_agree = reads-agree ps.header hs (held_reads ps.header);
    header_clear = (can-be Header).0;
    body_agree = reads-agree ps.body bs (held_reads ps.body);
    body_clear = (can-be Body).0;
    suit = rw (← core_is)
        (true-all (suit_tests limit (core_in ps.header) (summary hs).top (summary hs).part (summary bs).top
        (summary bs).part) ((right Header).core, ((can-be Header).1, ((can-be Body).1, tt))));
  }

  pub sound-gathers : Gathers limit ps (held_in ps.header) (held_in ps.body)
  unfolding b hs bs
  sound-gathers = record {
    object = passes-fits limit hs bs z (held_bytes ps.header yh) (held_bytes ps.body yb) passes;
    shape = h;
    header = record {
      kept = rw (← core_is) (recorded Header);
      laid = laid Header;
      marked =
          held-marked ps.header (part-bits Header ps bits);
    };
    body = record {
      kept = rw (← core_is) (recorded Body);
      laid = laid Body;
      marked =
          held-marked ps.body (part-bits Body ps bits);
    };
  }

-- ---- segments are held: the tests pass

end-passes : (ss : List Segment) (marks : List ℕ) (end tail : ℕ) → Marked marks ss → EndFrom ss end tail
    → end_right end tail marks ≡ true
end-passes ss marks zero tail k f = eq-eqb tail 0 f
end-passes ss marks (suc n) tail k f =
    le-leb 1 (get_or marks n 0) ((k.marked n).1 (rw f.3 at (among-numbered f.0 ss f.1)))

size-passes : (top size other : ℕ) → pick (leb 1 top) true (eqb (pick (leb 1 top) size other) other) ≡ true
size-passes zero size other = eq-eqb other other refl
size-passes (suc t) size other = rw (le-leb 1 (suc t) (omega arith)) refl

keeps-right : (b : Bounds) (m : Memory) (ss : List Segment) → Keeps b m ss → full_in m.kept m.marks
    ≡ some_full (summary ss) → record_right b m.kept m.marks ≡ true
unfolding record_right settle
keeps-right b m ss k e =
    rw (e, k.kept)
    (true-both (end_right (summary ss).part.end (summary ss).part.tail m.marks)
    (pick (some_full (summary ss)) true
    (eqb (record_of b (summary ss)).size (derived b (summary ss).part.end (summary ss).part.tail)))
    (end-passes ss m.marks (summary ss).part.end (summary ss).part.tail k.marked (end-from ss))
    (size-passes (summary ss).top (summary ss).part.size
    (derived b (summary ss).part.end (summary ss).part.tail)))

stage-same : (x : Stage) → same_stage x x ≡ true
stage-same Free = refl
stage-same Gathering = refl
stage-same (Finished h b) = true-both (eqb h h) (eqb b b) (eq-eqb h h refl) (eq-eqb b b refl)

pub gathers-passes : (limit : ℕ) (stage : Stage) (ps : Parts) (hs bs : List Segment) → Gathers limit ps hs bs → stage
    ≡ stage_of ps → sound_parts limit stage ps ≡ true
unfolding sound_parts sound_part
gathers-passes limit stage ps hs bs g e = true-all
    (core_fits limit (core_in ps.header)
    ∷ sound_part (bounds_of Header limit (core_in ps.header)) ps.header.kept ps.header.marks
    ∷ sound_part (bounds_of Body limit (core_in ps.header)) ps.body.kept ps.body.marks
    ∷ same_stage stage (stage_of ps)
    ∷ []) (
      rw said (core-suits limit hs bs g.object ps.header.marks ps.body.marks g.header.marked
          g.body.marked),
      (sound Header, (sound Body, (rw e (stage-same (stage_of ps)), tt))),
    )
  where
    said : core_in ps.header ≡ core_of hs
    said = core-read limit ps hs bs g

    can : (part : Part) → possible_in (bounds_of part limit (core_of hs)) (memory_of part ps).kept
        (memory_of part ps).marks ≡ true
    can Header =
        rw g.header.kept
        (part-suits limit hs bs g.object ps.header.marks ps.body.marks g.header.marked g.body.marked
        Header)
    can Body = rw g.body.kept
        (part-suits limit hs bs g.object ps.header.marks ps.body.marks g.header.marked g.body.marked
        Body)

    sound : (part : Part) → sound_part (bounds_of part limit (core_in ps.header)) (memory_of part ps).kept
        (memory_of part ps).marks ≡ true
    sound part = rw said
        (true-both (record_right (bounds_of part limit (core_of hs)) (memory_of part ps).kept (memory_of part ps).marks)
        (possible_in (bounds_of part limit (core_of hs)) (memory_of part ps).kept (memory_of part ps).marks)
        (keeps-right (bounds_of part limit (core_of hs)) (memory_of part ps) (those part hs bs)
        (part-keeps part limit ps hs bs g) (full-read part limit ps hs bs g))
        (can part))

-- ---- what a slot holds are its marked segments

pub part_same : (part : Part) (limit : ℕ) (ps : Parts) (hs bs : List Segment) → Gathers limit ps hs bs
    → SameSet (those part hs bs) (held_in (memory_of part ps))
part_same part limit ps hs bs g =
    let k = part-keeps part limit ps hs bs g in
    reads_same (memory_of part ps) (those part hs bs) (held_in (memory_of part ps)) (part-reads part limit ps hs bs g)
    (held_reads (memory_of part ps)) k.marked (held-marked (memory_of part ps) k.marked.bits)
