-- Runs of bytes laid over a memory one behind the other are one run.
use Rattle.std.specs.Prelude.{◌≡◌, refl, Bool, true, false, ℕ, ◌+◌, ◌≤◌, ◌<◌, leb}
use Rattle.std.proofs.Math.Path.{sym, ap}
use Rattle.std.proofs.Common.{◌∙◌, add_assoc, arith, length-take, leb-true, leb-false}
use mathlib.Core.List.{List, [], ◌++◌, append_assoc, append-nil}
use Rattle.std.proofs.Math.ListN.{length, take, drop, drop_of_length-le, length-append}
use Rattle.std.proofs.Math.Seq.{take_all, take_at, drop_at, drop-drop}
use Rattle.octets.specs.Octets.{over}
use Rattle.octets.specs.laws.Over.{over_none}

-- no bytes leave the memory as it was
pub over_nothing : (l : List ℕ) (at : ℕ) → l ≡ over l at []
over_nothing l at = over_none l at []

-- a memory that a run is laid over, and beyond it what was there
record Laid (l m : List ℕ) (at : ℕ) (run : List ℕ) : Type 0 where
  front : take (at + length run) m ≡ take at l ++ run
  back : (count : ℕ) → drop (at + length run + count) m ≡ drop (at + length run + count) l

-- it takes the next one
continued : (l m : List ℕ) (at : ℕ) (run next : List ℕ) → Laid l m at run
    → over m (at + length run) next ≡ over l at (run ++ next)
unfolding over
continued l m at run next laid =
    rw (
      laid.front,
      laid.back (length next),
      length-append,
      ← add_assoc at (length run) (length next),
      append_assoc (take at l) run next,
    )

module _ (l : List ℕ) (at : ℕ) (run : List ℕ) where
  -- the run starts in the memory, or at its end
  starts-within : at ≤ length l → Laid l (over l at run) at run
  unfolding over
  starts-within h =
      let long : length (take at l ++ run) ≡ at + length run = simp (length-append, length-take) (omega arith) in
      let rest = drop_at (take at l ++ run) (drop (at + length run) l) (at + length run) long in
      record {
        front = take_at (take at l ++ run) (drop (at + length run) l) (at + length run) long;
        back = λ count.
            sym (drop-drop count (at + length run) (over l at run)) ∙ ap (drop count) rest ∙ drop-drop count
            (at + length run) l;
      }

  -- it starts beyond, and there is nothing behind it
  starts-beyond : length l < at → Laid l (over l at run) at run
  unfolding over
  starts-beyond h =
      let all : take at l ≡ l = take_all at l (omega arith) in
      let none : drop (at + length run) l ≡ [] = drop_of_length-le l {i = at + length run} (omega arith) in
      let long : length (l ++ run) ≤ at + length run = simp length-append (omega arith) in
      record {
        front = rw (none, all, append-nil (l ++ run)) (take_all (at + length run) (l ++ run) long);
        back = λ count.
            rw (none, all, append-nil (l ++ run))
            (drop_of_length-le (l ++ run) {i = at + length run + count} (omega arith) ∙ sym
            (drop_of_length-le l {i = at + length run + count} (omega arith)));
      }

  -- wherever the run starts
  pub over-on : (next : List ℕ) → over (over l at run) (at + length run) next ≡ over l at (run ++ next)
  over-on next = continued l (over l at run) at run next (laid (leb at (length l)) refl)
    where
      laid : (within : Bool) → within ≡ leb at (length l) → Laid l (over l at run) at run
      laid true e = starts-within (leb-true at (length l) (sym e))
      laid false e = starts-beyond (leb-false at (length l) (sym e))

  module _ (fits : at + length run ≤ length l) where
    -- everything up to the run's end
    pub over-front : take (at + length run) (over l at run) ≡ take at l ++ run
    over-front = (starts-within (omega arith)).front

    pub over-joined : (next : List ℕ) → over (over l at run) (at + length run) next ≡ over l at (run ++ next)
    over-joined next = over-on next
