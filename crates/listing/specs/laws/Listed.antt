-- The input's characters listed, a piece at a time as `gather` takes them, and a chunk after the other.
use Rattle.std.proofs.Math.Path.{◌≡◌, sym, ap}
use Rattle.std.specs.Prelude.{refl, true, false, ℕ, suc, ◌+◌, ◌-◌, ◌≤◌, ◌<◌, take}
use Rattle.std.proofs.Common.{◌∙◌, drop_of_length-le, length-append, drop-drop, ne_eqb, lt-ltb, le-ltb}
use mathlib.Core.List.{List, [], ◌∷◌, ◌++◌}
use Rattle.std.proofs.Math.Decide.{ℕ_discrete}
use native.Mathlib.Omega.{arith}
use Rattle.std.proofs.Math.ListN.{length, drop, length-drop}
use Rattle.std.proofs.Math.Seq.{take-nil}
use Rattle.slots.specs.Stores.{Stores}
use Rattle.listing_input.specs.declared.Gathered.{Gathered}
use Rattle.listing_input.specs.Split.{newline}
use Rattle.listing_input.specs.Gather.{most, before, room_for, line_end, gathered, line_after}
use Rattle.listing_input.specs.laws.Run.{over_nothing, over-on}
use Rattle.listing_input.specs.laws.Chunks.{before-newline, before-other, front-joined, ends-in, goes-past}
use Rattle.listing.specs.declared.Held.{Held}
use Rattle.listing.specs.Listed.{Listed, listed_as, served_line, next_of, numbered, line_listed, piece_listed, input_listed, end_listed, left_of, Reads}

-- ---- a line's end

pub line-listed : (l m : Listed) (number : ℕ) → number ≡ next_of l.listing.lines → m.line ≡ l.line
    → left_of m ≡ served_line l
    → listed_as (record { lines = number; kept = 0; held = m.listing.held }) m.line m.group m.stores ≡ line_listed l
unfolding line_listed
line-listed l m number counts keeps serves =
    rw (counts, keeps) (ap (numbered (next_of l.listing.lines) l.line) serves)

-- ---- pieces of a line

room_joined : (kept : ℕ) (first then : List ℕ)
    → room_for most kept (first ++ then)
    ≡ room_for most kept first ++ room_for most (kept + length (room_for most kept first)) then
unfolding room_for
room_joined kept first then =
    let room = length (take (most - kept) first) in
    let less : most - kept - room ≡ most - (kept + room) = omega arith in
    front-joined (most - kept) first then ∙ ap (λ (n : ℕ). take (most - kept) first ++ take n then) less

same_kept : (lines : ℕ) {kept more : ℕ} (held : Held) {line after : List ℕ} (group : List ℕ) (stores : Stores)
    → kept ≡ more → line ≡ after
    → listed_as (record { lines = lines; kept = kept; held = held }) line group stores
    ≡ listed_as (record { lines = lines; kept = more; held = held }) after group stores
same_kept lines held group stores k e = rw (k, e)

module _ (l : Listed) where
  piece-none : piece_listed [] l ≡ l
  unfolding piece_listed room_for
  piece-none =
      let kept = l.listing.kept in
      let none : ◌≡◌ {A = List ℕ} (take (most - kept) []) [] = take-nil (most - kept) in
      same_kept l.listing.lines l.listing.held l.group l.stores (rw none (omega arith))
      (rw none (sym (over_nothing l.line kept)))

  piece-joined : (first then : List ℕ) → piece_listed (first ++ then) l ≡ piece_listed then (piece_listed first l)
  unfolding piece_listed
  piece-joined first then =
      let kept = l.listing.kept in
      let parts = room_joined kept first then in
      let room = room_for most kept first in
      let rest = room_for most (kept + length room) then in
      let more : kept + length (room_for most kept (first ++ then)) ≡ kept + length room + length rest =
      rw (parts, length-append) (omega arith) in
      same_kept l.listing.lines l.listing.held l.group l.stores more
      (rw parts (sym (over-on l.line kept room rest)))

-- ---- one character more

module _ (character : ℕ) (input : List ℕ) (l : Listed) where
  pub listed-newline : character ≡ newline → input_listed (character ∷ input) l ≡ input_listed input (line_listed l)
  unfolding input_listed
  listed-newline e = rw e

  pub listed-other : (character ≡ newline → ⊥)
      → input_listed (character ∷ input) l ≡ input_listed input (piece_listed (character ∷ []) l)
  unfolding input_listed
  listed-other n = rw (ne_eqb character newline n)

pub input_none : (l : Listed) → input_listed [] l ≡ l
unfolding input_listed
input_none l = refl

-- ---- the input in two parts

pub input-joined : (first then : List ℕ) (l : Listed)
    → input_listed (first ++ then) l ≡ input_listed then (input_listed first l)
input-joined [] then l = sym (ap (input_listed then) (input_none l))
input-joined (character ∷ first) then l =
    one (ℕ_discrete character newline) (input-joined first then (line_listed l))
    (input-joined first then (piece_listed (character ∷ []) l))
  where
    one : Dec (character ≡ newline)
        → input_listed (first ++ then) (line_listed l) ≡ input_listed then (input_listed first (line_listed l))
        → input_listed (first ++ then) (piece_listed (character ∷ []) l)
        ≡ input_listed then (input_listed first (piece_listed (character ∷ []) l))
        → input_listed (character ∷ (first ++ then)) l ≡ input_listed then (input_listed (character ∷ first) l)
    one (yes p) e f = listed-newline character (first ++ then) l p ∙ e ∙ sym
        (ap (input_listed then) (listed-newline character first l p))
    one (no n) e f = listed-other character (first ++ then) l n ∙ f ∙ sym
        (ap (input_listed then) (listed-other character first l n))

-- ---- up to a newline, or to the end

input-ends : (input : List ℕ) (l : Listed) → length (before input) < length input
    → input_listed input l ≡ input_listed (drop (length (before input) + 1) input)
    (line_listed (piece_listed (before input) l))
input-ends [] l h = absurd (omega arith)
input-ends (character ∷ input) l h =
    one (ℕ_discrete character newline) (input-ends input (piece_listed (character ∷ []) l))
  where
    one : Dec (character ≡ newline)
        → (length (before input) < length input
        → input_listed input (piece_listed (character ∷ []) l)
        ≡ input_listed (drop (length (before input) + 1) input)
        (line_listed (piece_listed (before input) (piece_listed (character ∷ []) l))))
        → input_listed (character ∷ input) l
        ≡ input_listed (drop (length (before (character ∷ input)) + 1) (character ∷ input))
        (line_listed (piece_listed (before (character ∷ input)) l))
    one (yes p) next = rw (listed-newline character input l p, before-newline character input p, piece-none l)
    one (no n) next =
        let within : length (before input) < length input = let e = ap length (before-other character input n) in
        omega arith in
        let more : suc (length (before input)) + 1 ≡ suc (length (before input) + 1) = omega arith in
        rw (listed-other character input l n, before-other character input n)
        (next within ∙ rw (more, piece-joined l (character ∷ []) (before input)))

input-goes : (input : List ℕ) (l : Listed) → length input ≤ length (before input)
    → input_listed input l ≡ piece_listed (before input) l
unfolding before
input-goes [] l h = input_none l ∙ sym (piece-none l)
input-goes (character ∷ input) l h =
    one (ℕ_discrete character newline) (input-goes input (piece_listed (character ∷ []) l))
  where
    one : Dec (character ≡ newline)
        → (length input ≤ length (before input)
        → input_listed input (piece_listed (character ∷ []) l)
        ≡ piece_listed (before input) (piece_listed (character ∷ []) l))
        → input_listed (character ∷ input) l ≡ piece_listed (before (character ∷ input)) l
    one (yes p) next = let e = ap length (before-newline character input p) in absurd (omega arith)
    one (no n) next =
        let all : length input ≤ length (before input) = let e = ap length (before-other character input n) in
        omega arith in
        rw (listed-other character input l n, before-other character input n)
        (next all ∙ sym (piece-joined l (character ∷ []) (before input)))

-- ---- a turn of the loop over a chunk

-- what is carried after a call of `gather`
abbrev kept_listed : ℕ → List ℕ → Listed → Listed
kept_listed kept line l = listed_as (record { lines = l.listing.lines; kept = kept; held = l.listing.held }) line
    l.group l.stores

module _ (chunk : List ℕ) (from : ℕ) (l : Listed) (got : Gathered) (line : List ℕ)
    (gathers : got ≡ gathered chunk from l.listing.kept)
    (keeps : line ≡ line_after chunk from l.line l.listing.kept) where
  kept_piece : kept_listed got.kept line l ≡ piece_listed (before (drop from chunk)) l
  unfolding gathered line_after piece_listed
  kept_piece = rw (gathers, keeps)

  -- a newline ended the line
  pub turn-ended : (then : Listed) → got.whole ≡ true → then ≡ line_listed (kept_listed got.kept line l)
      → input_listed (drop got.next chunk) then ≡ input_listed (drop from chunk) l
  unfolding line_end
  turn-ended then whole lists =
      let input = drop from chunk in
      let ends = ends-in chunk from l.listing.kept (ap (λ (g : Gathered). g.whole) (sym gathers) ∙ whole) in
      let within : length (before input) < length input = omega (arith, ends.0, length-drop from chunk) in
      let place : from + (length (before input) + 1) ≡ from + length (before input) + 1 = omega arith in
      let next : drop got.next chunk ≡ drop (length (before input) + 1) input =
      rw (gathers, ends.1) (ap (λ (at : ℕ). drop at chunk) (sym place) ∙ sym
      (drop-drop (length (before input) + 1) from chunk)) in
      rw (next, lists, kept_piece) (sym (input-ends input l within))

  -- the chunk ended first, and nothing is left of it
  pub turn-kept : got.whole ≡ false
      → input_listed (drop got.next chunk) (kept_listed got.kept line l) ≡ input_listed (drop from chunk) l
  unfolding line_end gathered
  turn-kept part =
      let input = drop from chunk in
      let some = ap (λ (g : Gathered). g.whole) (sym gathers) ∙ part in
      let past = goes-past chunk from l.listing.kept some in
      let all : length input ≤ length (before input) = omega (arith, length-drop from chunk) in
      let none : drop got.next chunk ≡ [] =
      rw gathers (drop_of_length-le chunk {i = (gathered chunk from l.listing.kept).next} (rw some past)) in
      rw (none, kept_piece) (input_none (piece_listed (before input) l) ∙ sym (input-goes input l all))

-- ---- the input's end

module _ (l : Listed) where
  pub end-some : 0 < l.listing.kept → end_listed l ≡ line_listed l
  unfolding end_listed
  end-some h = rw (lt-ltb 0 l.listing.kept h)

  pub end_none : l.listing.kept ≤ 0 → end_listed l ≡ l
  unfolding end_listed
  end_none h = rw (le-ltb 0 l.listing.kept h)

-- ---- reads, one after the other

pub reads_none : (l : Listed) → Reads l l
reads_none l = record { input = []; left = sym (input_none l) }

pub reads_on : {l m n : Listed} (input : List ℕ) → Reads l m → n ≡ input_listed input m → Reads l n
reads_on {l} input reads lists = record {
  input = reads.input ++ input;
  left = lists ∙ ap (input_listed input) reads.left ∙ sym (input-joined reads.input input l);
}
