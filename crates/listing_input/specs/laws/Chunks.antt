-- The lines that are handed out are the input split at newlines, whatever the chunks are that it comes in.
use Rattle.std.specs.Prelude.{◌≡◌, refl, Bool, true, false, cond, ℕ, zero, suc, ◌+◌, ◌-◌, ◌≤◌, ◌<◌, ltb, take}
use Rattle.std.proofs.Common.{sym, ap₂, ◌∙◌, length-append}
use Rattle.std.proofs.Math.Path.{ap}
use mathlib.Core.List.{List, [], ◌∷◌, ◌++◌, map, append_assoc, append-nil}
use Rattle.std.proofs.Math.Decide.{ℕ_discrete}
use native.Mathlib.Omega.{arith}
use Rattle.std.proofs.Math.ListN.{length, drop, length-take, length-drop}
use Rattle.std.proofs.Math.Seq.{drop-drop}
use borrow.Author.Tests.{ltb-true, ltb-false, ne_eqb}
use Rattle.octets.specs.Octets.{over}
use Rattle.octets.specs.laws.Over.{over-length}
use Rattle.listing_input.specs.laws.Run.{over-front}
use Rattle.listing_input.specs.Split.{newline, ended, behind, unended, lines_of}
use Rattle.listing_input.specs.Gather.{most, before, room_for, line_end, gathered, line_after}

-- ---- what is asked

-- the chunks, one behind the other
abbrev pub joined : List (List ℕ) → List ℕ
joined [] = []
joined (chunk ∷ chunks) = chunk ++ joined chunks

-- `gather` called over the chunks, one call after the other: at a place in the first chunk, with the line's memory
-- and how much of it is kept. A line that a newline ended is handed out, and the next one has nothing kept; at a
-- chunk's end the next chunk follows; at the input's end what is kept, if anything, is handed out
pub data Hands : List (List ℕ) → ℕ → List ℕ → ℕ → List (List ℕ) → Type 0 where
  finished : {from kept : ℕ} {line : List ℕ} → Hands [] from line kept (unended (take kept line))
  handed : {chunk : List ℕ} {chunks lines : List (List ℕ)} {from kept : ℕ} {line : List ℕ}
      → (gathered chunk from kept).whole ≡ true
      → Hands (chunk ∷ chunks) (gathered chunk from kept).next (line_after chunk from line kept) 0 lines
      → Hands (chunk ∷ chunks) from line kept
      (take (gathered chunk from kept).kept (line_after chunk from line kept) ∷ lines)
  followed : {chunk : List ℕ} {chunks lines : List (List ℕ)} {from kept : ℕ} {line : List ℕ}
      → (gathered chunk from kept).whole ≡ false
      → Hands chunks 0 (line_after chunk from line kept) (gathered chunk from kept).kept lines
      → Hands (chunk ∷ chunks) from line kept lines

-- ---- one character more

module _ (character : ℕ) (begun input : List ℕ) where
  pub ended-newline : character ≡ newline → ended begun (character ∷ input) ≡ begun ∷ ended [] input
  unfolding ended
  ended-newline e = rw e

  pub ended-other : (character ≡ newline → ⊥)
      → ended begun (character ∷ input) ≡ ended (begun ++ (character ∷ [])) input
  unfolding ended
  ended-other n = rw (ne_eqb character newline n)

  pub behind-newline : character ≡ newline → behind begun (character ∷ input) ≡ behind [] input
  unfolding behind
  behind-newline e = rw e

  pub behind-other : (character ≡ newline → ⊥)
      → behind begun (character ∷ input) ≡ behind (begun ++ (character ∷ [])) input
  unfolding behind
  behind-other n = rw (ne_eqb character newline n)

module _ (character : ℕ) (input : List ℕ) where
  pub before-newline : character ≡ newline → before (character ∷ input) ≡ []
  unfolding before
  before-newline e = rw e

  pub before-other : (character ≡ newline → ⊥) → before (character ∷ input) ≡ character ∷ before input
  unfolding before
  before-other n = rw (ne_eqb character newline n)

-- ---- the input in two parts

pub ended-joined : (begun first then : List ℕ)
    → ended begun (first ++ then) ≡ ended begun first ++ ended (behind begun first) then
unfolding ended behind
ended-joined begun [] then = refl
ended-joined begun (character ∷ first) then =
    one (ℕ_discrete character newline) (ended-joined [] first then)
    (ended-joined (begun ++ (character ∷ [])) first then)
  where
    one : Dec (character ≡ newline) → ended [] (first ++ then) ≡ ended [] first ++ ended (behind [] first) then
        → ended (begun ++ (character ∷ [])) (first ++ then)
        ≡ ended (begun ++ (character ∷ [])) first ++ ended (behind (begun ++ (character ∷ [])) first) then
        → ended begun (character ∷ (first ++ then))
        ≡ ended begun (character ∷ first) ++ ended (behind begun (character ∷ first)) then
    one (yes p) e f =
        ended-newline character begun (first ++ then) p
        ∙ ap (λ (lines : List (List ℕ)). begun ∷ lines) e
        ∙ sym (ap₂ (λ (lines : List (List ℕ)) (rest : List ℕ). lines ++ ended rest then)
        (ended-newline character begun first p) (behind-newline character begun first p))
    one (no n) e f =
        ended-other character begun (first ++ then) n
        ∙ f
        ∙ sym (ap₂ (λ (lines : List (List ℕ)) (rest : List ℕ). lines ++ ended rest then)
        (ended-other character begun first n) (behind-other character begun first n))

pub behind-joined : (begun first then : List ℕ) → behind begun (first ++ then) ≡ behind (behind begun first) then
unfolding behind
behind-joined begun [] then = refl
behind-joined begun (character ∷ first) then =
    one (ℕ_discrete character newline) (behind-joined [] first then)
    (behind-joined (begun ++ (character ∷ [])) first then)
  where
    one : Dec (character ≡ newline) → behind [] (first ++ then) ≡ behind (behind [] first) then
        → behind (begun ++ (character ∷ [])) (first ++ then) ≡ behind (behind (begun ++ (character ∷ [])) first) then
        → behind begun (character ∷ (first ++ then)) ≡ behind (behind begun (character ∷ first)) then
    one (yes p) e f =
        behind-newline character begun (first ++ then) p ∙ e ∙ sym
        (ap (λ (rest : List ℕ). behind rest then) (behind-newline character begun first p))
    one (no n) e f =
        behind-other character begun (first ++ then) n ∙ f ∙ sym
        (ap (λ (rest : List ℕ). behind rest then) (behind-other character begun first n))

-- ---- a line that goes on, up to a newline or to the end

-- the line ends in the input, and what follows comes next
record Ends (begun input : List ℕ) : Type 0 where
  lines : ended begun input ≡ (begun ++ before input) ∷ ended [] (drop (length (before input) + 1) input)
  rest : behind begun input ≡ behind [] (drop (length (before input) + 1) input)

line-ends : (begun input : List ℕ) → length (before input) < length input → Ends begun input
line-ends begun [] h = absurd (omega arith)
line-ends begun (character ∷ input) h = one (ℕ_discrete character newline) (line-ends (begun ++ (character ∷ [])) input)
  where
    one : Dec (character ≡ newline) → (length (before input) < length input → Ends (begun ++ (character ∷ [])) input)
        → Ends begun (character ∷ input)
    one (yes p) next = record {
      lines = rw (ended-newline character begun input p, before-newline character input p, append-nil begun);
      rest = rw (behind-newline character begun input p, before-newline character input p);
    }
    one (no n) next =
        let within : length (before input) < length input = let e = ap length (before-other character input n) in
        omega arith in
        let further : drop (length (before (character ∷ input)) + 1) (character ∷ input)
        ≡ drop (length (before input) + 1) input =
        let more : suc (length (before input)) + 1 ≡ suc (length (before input) + 1) = omega arith in
        rw (before-other character input n) (ap (λ (k : ℕ). drop k (character ∷ input)) more) in
        record {
          lines = ended-other character begun input n ∙ (next within).lines
              ∙ rw (further, before-other character input n, append_assoc begun (character ∷ []) (before input));
          rest = behind-other character begun input n ∙ (next within).rest ∙ rw further;
        }

-- no line ends in the input
record Goes (begun input : List ℕ) : Type 0 where
  lines : ended begun input ≡ []
  rest : behind begun input ≡ begun ++ before input

line-goes : (begun input : List ℕ) → length input ≤ length (before input) → Goes begun input
unfolding ended behind before
line-goes begun [] h = record { lines = refl; rest = sym (append-nil begun) }
line-goes begun (character ∷ input) h = one (ℕ_discrete character newline) (line-goes (begun ++ (character ∷ [])) input)
  where
    one : Dec (character ≡ newline) → (length input ≤ length (before input) → Goes (begun ++ (character ∷ [])) input)
        → Goes begun (character ∷ input)
    one (yes p) next = let e = ap length (before-newline character input p) in absurd (omega arith)
    one (no n) next =
        let none : length input ≤ length (before input) = let e = ap length (before-other character input n) in
        omega arith in
        record {
          lines = ended-other character begun input n ∙ (next none).lines;
          rest = behind-other character begun input n ∙ (next none).rest
              ∙ rw (before-other character input n, append_assoc begun (character ∷ []) (before input));
        }

-- ---- what is kept of a line

-- the memory holds what the line has so far, as far as it is kept
pub record Holds (line : List ℕ) (kept : ℕ) (begun : List ℕ) : Type 0 where
  pub long : length line ≡ most
  pub counted : kept ≡ length (take most begun)
  pub held : take kept line ≡ take most begun

pub holds-nothing : (line : List ℕ) → length line ≡ most → Holds line 0 []
holds-nothing line h = record { long = h; counted = refl; held = refl }

pub front-joined : (room : ℕ) (first then : List ℕ)
    → take room (first ++ then) ≡ take room first ++ take (room - length (take room first)) then
front-joined zero first then = refl
front-joined (suc room) [] then = let all : suc room - 0 ≡ suc room = omega arith in rw all
front-joined (suc room) (character ∷ first) then =
    let less : suc room - suc (length (take room first)) ≡ room - length (take room first) = omega arith in
    ap (λ (rest : List ℕ). character ∷ rest) (front-joined room first then ∙ rw less)

module _ {line begun : List ℕ} {kept : ℕ} (holds : Holds line kept begun) (piece : List ℕ) where
  front-held : take most (begun ++ piece) ≡ take most begun ++ room_for most kept piece
  unfolding room_for
  front-held = front-joined most begun piece ∙ rw (← holds.counted)

  piece-fits : kept + length (room_for most kept piece) ≤ length line
  unfolding room_for
  piece-fits = omega (arith, holds.long, holds.counted, length-take most begun, length-take (most - kept) piece)

  pub holds_more : Holds (over line kept (room_for most kept piece)) (kept + length (room_for most kept piece))
      (begun ++ piece)
  holds_more = record {
    long = over-length line kept (room_for most kept piece) piece-fits ∙ holds.long;
    counted = rw (front-held, length-append)
        (ap (λ (count : ℕ). count + length (room_for most kept piece)) holds.counted);
    held = over-front line kept (room_for most kept piece) piece-fits ∙ rw holds.held (sym front-held);
  }

-- ---- the theorem

-- the input from a place in the first chunk on
abbrev pub from-there : ℕ → List (List ℕ) → List ℕ
from-there from [] = []
from-there from (chunk ∷ chunks) = drop from chunk ++ joined chunks

from_start : (chunks : List (List ℕ)) → from-there 0 chunks ≡ joined chunks
from_start [] = refl
from_start (chunk ∷ chunks) = refl

-- the lines of an input of which the first has begun
abbrev lines_from : List ℕ → List ℕ → List (List ℕ)
lines_from begun input = ended begun input ++ unended (behind begun input)

-- of each line what is kept
abbrev pub fronts : List (List ℕ) → List (List ℕ)
fronts lines = map (take most) lines

last-front : (begun : List ℕ) → unended (take most begun) ≡ fronts (unended begun)
last-front [] = refl
last-front (character ∷ begun) = refl

module _ (chunk : List ℕ) (from : ℕ) (begun then : List ℕ) where
  line-handed : line_end chunk from < length chunk
      → lines_from begun (drop from chunk ++ then)
      ≡ (begun ++ before (drop from chunk)) ∷ lines_from [] (drop (line_end chunk from + 1) chunk ++ then)
  unfolding line_end
  line-handed h =
      let input = drop from chunk in
      let within : length (before input) < length input = omega (arith, length-drop from chunk) in
      let cut = line-ends begun input within in
      let place : from + (length (before input) + 1) ≡ from + length (before input) + 1 = omega arith in
      let next : drop (length (before input) + 1) input ≡ drop (from + length (before input) + 1) chunk =
      drop-drop (length (before input) + 1) from chunk ∙ ap (λ (at : ℕ). drop at chunk) place in
      rw (
        ended-joined begun input then,
        behind-joined begun input then,
        cut.lines,
        cut.rest,
        next,
        ended-joined [] (drop (from + length (before input) + 1) chunk) then,
        behind-joined [] (drop (from + length (before input) + 1) chunk) then,
      )

  line-followed : length chunk ≤ line_end chunk from
      → lines_from begun (drop from chunk ++ then) ≡ lines_from (begun ++ before (drop from chunk)) then
  unfolding line_end
  line-followed h =
      let input = drop from chunk in
      let all : length input ≤ length (before input) = omega (arith, length-drop from chunk) in
      let cut = line-goes begun input all in
      rw (ended-joined begun input then, behind-joined begun input then, cut.lines, cut.rest)

module _ (chunk : List ℕ) (from kept : ℕ) where
  pub ends-in : (gathered chunk from kept).whole ≡ true → (line_end chunk from < length chunk)
      × ((gathered chunk from kept).next ≡ line_end chunk from + 1)
  unfolding gathered
  ends-in e = (ltb-true (line_end chunk from) (length chunk) e, rw e)

  pub goes-past : (gathered chunk from kept).whole ≡ false → length chunk ≤ line_end chunk from
  unfolding gathered
  goes-past e = ltb-false (line_end chunk from) (length chunk) e

from-before : (chunk : List ℕ) (from : ℕ) → from ≤ line_end chunk from
unfolding line_end
from-before chunk from = omega arith

-- each call gets further in a chunk of which something is left
pub further : (chunk : List ℕ) (from kept : ℕ) → from < length chunk → from < (gathered chunk from kept).next
unfolding gathered
further chunk from kept h = past (ltb (line_end chunk from) (length chunk)) refl
  where
    past : (whole : Bool) → whole ≡ ltb (line_end chunk from) (length chunk)
        → from < cond whole (line_end chunk from + 1) (line_end chunk from)
    past true e = omega (arith, from-before chunk from)
    past false e = let all = ltb-false (line_end chunk from) (length chunk) (sym e) in omega arith

gathered-holds : (chunk : List ℕ) (from : ℕ) {line begun : List ℕ} {kept : ℕ} → Holds line kept begun
    → Holds (line_after chunk from line kept) (gathered chunk from kept).kept (begun ++ before (drop from chunk))
unfolding gathered line_after
gathered-holds chunk from holds = holds_more holds (before (drop from chunk))

pub handed_out : {chunks lines : List (List ℕ)} {from kept : ℕ} {line begun : List ℕ}
    → Hands chunks from line kept lines → Holds line kept begun
    → lines ≡ fronts (lines_from begun (from-there from chunks))
unfolding ended behind
handed_out {begun = begun} finished holds = rw holds.held (last-front begun)
handed_out {begun = begun} (handed {chunk} {chunks} {lines} {from} {kept} {line} whole next) holds =
    let ends = ends-in chunk from kept whole in
    let now = gathered-holds chunk from holds in
    let rest = handed_out {begun = []} next (holds-nothing (line_after chunk from line kept) now.long) in
    ap₂ (λ (first : List ℕ) (others : List (List ℕ)). first ∷ others) now.held
    (rest ∙ ap (λ (at : ℕ). fronts (lines_from [] (drop at chunk ++ joined chunks))) ends.1)
    ∙ sym (ap fronts (line-handed chunk from begun (joined chunks) ends.0))
handed_out {begun = begun} (followed {chunk} {chunks} {lines} {from} {kept} {line} whole next) holds =
    handed_out next (gathered-holds chunk from holds)
    ∙ ap (λ (input : List ℕ). fronts (lines_from (begun ++ before (drop from chunk)) input)) (from_start chunks)
    ∙ sym (ap fronts (line-followed chunk from begun (joined chunks) (goes-past chunk from kept whole)))

-- from the start of the input on: each line is handed out once, in order, by its first 16,433 characters
pub lines-handed-out : {chunks lines : List (List ℕ)} {line : List ℕ} → length line ≡ most → Hands chunks 0 line 0 lines
    → lines ≡ fronts (lines_of (joined chunks))
unfolding lines_of
lines-handed-out {chunks} {lines} {line} long hands =
    handed_out hands (holds-nothing line long) ∙ ap (λ (input : List ℕ). fronts (lines_from [] input))
    (from_start chunks)

-- ---- there is such a run, for all chunks

sure : (test : Bool) → Dec (test ≡ true)
sure true = yes refl
sure false = no (λ e. let z : ◌≡◌ {A = ℕ} 0 1 = cc in omega arith)

not-whole : (test : Bool) → (test ≡ true → ⊥) → test ≡ false
not-whole true n = absurd (n refl)
not-whole false n = refl

module _ (chunk : List ℕ) (chunks : List (List ℕ))
    (then : (kept : ℕ) (line : List ℕ) → (lines : List (List ℕ)) × Hands chunks 0 line kept lines) where
  over-chunk : (turns from kept : ℕ) (line : List ℕ) → length chunk - from < turns → (lines : List (List ℕ))
      × Hands (chunk ∷ chunks) from line kept lines
  over-chunk zero from kept line h = absurd (omega arith)
  over-chunk (suc turns) from kept line h =
      turn (sure (gathered chunk from kept).whole)
      (over-chunk turns (gathered chunk from kept).next 0 (line_after chunk from line kept))
    where
      turn : Dec ((gathered chunk from kept).whole ≡ true)
          → (length chunk - (gathered chunk from kept).next < turns → (lines : List (List ℕ))
          × Hands (chunk ∷ chunks) (gathered chunk from kept).next (line_after chunk from line kept) 0 lines)
          → (lines : List (List ℕ)) × Hands (chunk ∷ chunks) from line kept lines
      turn (yes whole) again =
          let ends = ends-in chunk from kept whole in
          let rest = again (omega (arith, ends.0, ends.1, from-before chunk from)) in
          (_, handed whole rest.1)
      turn (no part) again =
          let rest = then (gathered chunk from kept).kept (line_after chunk from line kept) in
          (_, followed (not-whole _ part) rest.1)

pub run : (chunks : List (List ℕ)) (kept : ℕ) (line : List ℕ) → (lines : List (List ℕ)) × Hands chunks 0 line kept lines
run [] kept line = (_, finished)
run (chunk ∷ chunks) kept line = over-chunk chunk chunks (run chunks) (suc (length chunk)) 0 kept line (omega arith)
