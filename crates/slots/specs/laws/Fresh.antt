-- A slot that a transport number has just taken can be offered its first segment.
use Rattle.std.specs.Prelude.{◌≡◌, Bool, Option, None, ℕ, ◌+◌, ◌≤◌, length, take, drop, get_or}
use Rattle.std.proofs.Math.Path.{refl, sym}
use Rattle.std.proofs.Common.{ap, ◌∙◌, arith}
use Rattle.std.proofs.Math.Bool.{true, false}
use mathlib.Core.List.{List, [], ◌∷◌}
use borrow.Author.Tests.{le-leb}
use Rattle.octets.specs.Octets.{sum_of, largest_of}
use Rattle.octets.specs.laws.Marks.{sum-split, sum-none}
use Rattle.answer.specs.declared.Part.{Part}
use Rattle.answer.specs.declared.Part.TheVariants.{Header, Body}
use Rattle.cut.specs.Requirement.{header_numbers, body_numbers, Segment}
use Rattle.cut.specs.declared.Sizes.{Sizes}
use Rattle.cut.specs.declared.Bounds.{Bounds}
use Rattle.cut.specs.declared.Record.{Record}
use Rattle.cut.specs.Parts.{other_part}
use Rattle.cut.specs.Decision as Decision
use Rattle.cut.specs.Decision.{core_fits, room}
use Rattle.cut.specs.Kept.{bounds_of, add_part, core_with}
use Rattle.cut.specs.Sums.{possible_in, fits_in, takes}
use Rattle.part.specs.Memory.{Memory}
use Rattle.part.specs.Asked.{record_right, sound_part}
use Rattle.object.specs.declared.Stage.TheVariants.{Gathering}
use Rattle.object.specs.Take.{takes_in, decided, decided_new, take_into}
use Rattle.object.specs.Sound.{sound_parts}
use Rattle.object.specs.Asked.{tally_of, Readable, Offered}
use Rattle.object.specs.laws.Decided.{memory-is, if_new, by_mark, take-by-mark}
use Rattle.object.specs.Parts.{Lent, shares, parts_of, kept_of, marks_of, memory_of}
use Rattle.object.specs.Stage.{core_from, core_in, stage_of}
use Rattle.slots.specs.Stores.{Stores, lent_at, no_record, fresh_slot}
use Rattle.slots.specs.Alone.{is_fits, fits_alone}
use Rattle.slots.specs.Take.{OpenAt}
use Rattle.slots.specs.laws.Shares.{lent-wide}

-- no mark is set in a part of them
first-none : (n : ℕ) (marks : List ℕ) → sum_of marks ≡ 0 → sum_of (take n marks) ≡ 0
first-none n marks e = omega (arith, sum-split marks n)

rest-none : (n : ℕ) (marks : List ℕ) → sum_of marks ≡ 0 → sum_of (drop n marks) ≡ 0
rest-none n marks e = omega (arith, sum-split marks n)

largest-sum : (l : List ℕ) → largest_of l ≤ sum_of l
unfolding largest_of
largest-sum [] = omega arith
largest-sum (b ∷ l) = omega (arith, largest-sum l)

-- header segment 0 is not in
core-none : (m : Memory) → sum_of m.marks ≡ 0 → core_in m ≡ None
unfolding core_in
core-none m e = rw ((sum-none m.marks).0 e 0) refl

module _ (limit number : ℕ) (lent : Lent) (none : sum_of lent.marks ≡ 0) where
  header-none : sum_of (take header_numbers lent.marks) ≡ 0
  header-none = first-none header_numbers lent.marks none

  body-none : sum_of (drop header_numbers lent.marks) ≡ 0
  body-none = rest-none header_numbers lent.marks none

  pub fresh-core : core_in (parts_of (fresh_slot number) lent).header ≡ None
  unfolding parts_of fresh_slot
  fresh-core = core-none (parts_of (fresh_slot number) lent).header header-none

  -- it is as sound as one that holds nothing can be
  pub fresh-sound : sound_parts limit Gathering (parts_of (fresh_slot number) lent) ≡ true
  unfolding sound_parts sound_part record_right possible_in Decision.alone core_fits bounds_of stage_of parts_of fresh_slot
  fresh-sound = rw (fresh-core, header-none, body-none, le-leb 0 limit (omega arith)) refl

pub fresh-offered : (limit i number : ℕ) (stores : Stores) → OpenAt limit i stores
    → Offered limit (fresh_slot number) (lent_at limit i stores)
unfolding fresh_slot
fresh-offered limit i number stores opened =
    let wide = lent-wide limit i stores opened.inside in
    record {
      header = wide.header;
      body = wide.body;
      marks = wide.marks;
      bits = omega (arith, largest-sum (lent_at limit i stores).marks, opened.unmarked);
      sound = fresh-sound limit number (lent_at limit i stores) opened.unmarked;
    }

-- ---- its first segment is taken exactly when it fits alone

-- marks of which none is set are as good as none at all
module _ (b : Bounds) (p : Record) (marks : List ℕ) (none : sum_of marks ≡ 0) where
  possible-none : possible_in b p marks ≡ possible_in b p []
  unfolding possible_in
  possible-none = rw (none, rest-none (room b p) marks none, rest-none (room b p) [] refl) refl

  fits-none : (last : Bool) (n k : ℕ) → fits_in b p marks last n k ≡ fits_in b p [] last n k
  unfolding fits_in
  fits-none true n k = rw none refl
  fits-none false n k =
      rw (none, rest-none (room b (add_part false n k p)) marks none, rest-none (room b (add_part false n k p)) [] refl)
      refl

-- the decision where nothing is in yet
abbrev alone : Part → ℕ → Segment → Bool
alone part limit s = takes part limit (core_with part s None) no_record [] no_record [] s.last s.number
    (length s.bytes)

module _ (part : Part) (limit number : ℕ) (s : Segment) (lent : Lent) (none : sum_of lent.marks ≡ 0) where
  marks-none : (p : Part) → sum_of (marks_of p lent.marks) ≡ 0
  marks-none Header = header-none limit number lent none
  marks-none Body = body-none limit number lent none

  kept-none : (p : Part) → kept_of p (fresh_slot number) ≡ no_record
  unfolding fresh_slot
  kept-none Header = refl
  kept-none Body = refl

  fresh-fits : takes_in part limit s (parts_of (fresh_slot number) lent) ≡ alone part limit s
  unfolding takes_in
  fresh-fits =
      rw (
        fresh-core limit number lent none,
        memory-is part (fresh_slot number) lent,
        memory-is (other_part part) (fresh_slot number) lent,
        kept-none part,
        kept-none (other_part part),
        fits-none (bounds_of part limit (core_with part s None)) no_record (marks_of part lent.marks) (marks-none part)
            s.last s.number (length s.bytes),
        possible-none (bounds_of (other_part part) limit (core_with part s None)) no_record
            (marks_of (other_part part) lent.marks) (marks-none (other_part part)),
      )

  unmarked : get_or (memory_of part (parts_of (fresh_slot number) lent)).marks s.number 0 ≡ 0
  unmarked = rw (memory-is part (fresh_slot number) lent)
      ((sum-none (marks_of part lent.marks)).0 (marks-none part) s.number)

  fresh-alone : is_fits (decided part limit s (parts_of (fresh_slot number) lent)) ≡ alone part limit s
  unfolding decided
  fresh-alone =
      rw unmarked (new-fits (takes_in part limit s (parts_of (fresh_slot number) lent))
      (core_with part s (core_in (parts_of (fresh_slot number) lent).header)) ∙ fresh-fits)
    where
      new-fits : (fits : Bool) (core : Option Sizes) → is_fits (decided_new fits core) ≡ fits
      new-fits true core = refl
      new-fits false core = refl

  -- nothing is in yet, so the tally is this, and there is no segment to read
  pub fresh-readable : length lent.marks ≡ header_numbers + body_numbers
      → Readable (record { core = None; headers = 0; bodies = 0 }) part s.number (fresh_slot number) lent
  fresh-readable h = record {
    marks = h;
    bits = omega (arith, largest-sum lent.marks, none);
    tallied = tallied;
    held = λ m. absurd (omega (arith, (sum-none (marks_of part lent.marks)).0 (marks-none part) s.number, m));
  }
    where
      core : core_from (marks_of Header lent.marks) lent.header ≡ None
      core = rw ((sum-none (marks_of Header lent.marks)).0 (marks-none Header) 0) refl

      tallied : record { core = None; headers = 0; bodies = 0 } ≡ tally_of lent.header lent.marks
      tallied = rw (core, marks-none Header, marks-none Body) refl

module _ (part : Part) (limit number : ℕ) (s : Segment) (lent : Lent) (none : sum_of lent.marks ≡ 0) where
  -- what is decided of it, whatever bytes the shares have, tells whether it fits alone
  pub fresh-decided : is_fits (decided part limit s (parts_of (fresh_slot number) lent)) ≡ fits_alone part limit s
  unfolding fits_alone
  fresh-decided = fresh-alone part limit number s lent none ∙ sym (fresh-alone part limit 0 s (shares [] [] []) refl)

  pub fresh-taken : take_into part limit s (fresh_slot number) lent ≡ if_new (fits_alone part limit s) part limit s
      (fresh_slot number) lent
  fresh-taken =
      take-by-mark part limit s (fresh_slot number) lent
      ∙ ap (λ (m : ℕ). by_mark m part limit s (fresh_slot number) lent) (unmarked part limit number s lent none)
      ∙ ap (λ (f : Bool). if_new f part limit s (fresh_slot number) lent) (fresh-fits part limit number s lent none
      ∙ sym (fresh-alone part limit number s lent none) ∙ fresh-decided)
