-- `listing_input::gather` meets its contract: a newline ends the line, or the chunk does.
-- Assumes nothing.
use Rattle.std.proofs.Common.{◌≡◌, refl, sym, ap, ◌∙◌, true, false, ℕ, ◌+◌, ◌-◌, ◌≤◌, ◌<◌, List, length, take, drop, length-drop, arith, lt-ltb, le-ltb, rules}
use Rattle.octets.specs.Octets.{over}
use Rattle.listing_input.specs.declared.Gathered.{Gathered}
use Rattle.listing_input.specs.Gather.{most, before, room_for, line_end, gathered, line_after}
use Rattle.listing_input.proofs.Pieces.{front_at, newline-found, no-newline, rest_is}
use Rattle.listing_input.proofs.gather.Goals as goal

-- what `gather` leaves, by the piece of the line
record Leaves (chunk : List ℕ) (from : ℕ) (line : List ℕ) (kept : ℕ) (result : Gathered) (after : List ℕ) : Type 0 where
  value : result ≡ gathered chunk from kept
  line_after : after ≡ line_after chunk from line kept

module _ (chunk : List ℕ) (from : ℕ) (line : List ℕ) (kept room : ℕ) (rest piece after : List ℕ) (now : ℕ)
    (is : rest ≡ drop from chunk) (long : room ≡ most)
    (keeps : now ≡ kept + length (room_for room kept piece))
    (lays : after ≡ over line kept (room_for room kept piece)) where
  leaves-whole : (count : ℕ) → count ≡ length (before rest) → count < length rest → piece ≡ take count rest
      → Leaves chunk from line kept (record { next = from + count + 1; kept = now; whole = true }) after
  unfolding gathered line_after line_end
  leaves-whole count counts within cut =
      let same : piece ≡ before (drop from chunk) = cut ∙ rw (counts, is) (front_at (drop from chunk)) in
      let place : count ≡ length (before (drop from chunk)) = counts ∙ ap (λ (l : List ℕ). length (before l)) is in
      let short : from + length (before (drop from chunk)) < length chunk =
      omega (arith, place, within, ap length is, length-drop from chunk) in
      record {
        value = rw (place, lt-ltb _ _ short, keeps, long, same);
        line_after = lays ∙ rw (long, same);
      }

  leaves-part : before rest ≡ rest → piece ≡ rest
      → Leaves chunk from line kept (record { next = from + length rest; kept = now; whole = false }) after
  unfolding gathered line_after line_end
  leaves-part all cut =
      let same : piece ≡ before (drop from chunk) = cut ∙ sym all ∙ ap before is in
      let place : length rest ≡ length (before (drop from chunk)) = ap length (sym all ∙ ap before is) in
      let past : length chunk ≤ from + length (before (drop from chunk)) =
      omega (arith, place, ap length is, length-drop from chunk) in
      record {
        value = rw (place, le-ltb _ _ past, keeps, long, same);
        line_after = lays ∙ rw (long, same);
      }

pub returns-in-Some : goal.returns-in-Some
returns-in-Some c =
    let chunk = c.args.chunk.now in
    let from = c.args.from in
    let line = c.args.line.now in
    let at = c.min.result in
    let rest = take (length chunk - at) (drop at chunk) in
    let long : length line ≡ most = search rules in
    let found = newline-found rest c.in-Some.length c.in-Some.ensures in
    let piece = take c.in-Some.length rest in
    let leaves = leaves-whole chunk from line c.args.kept (length line) rest piece c.keep.new.line c.keep.result
    (rest_is chunk from at c.min.ensures) long c.keep.ensures.value c.keep.ensures.line_after c.in-Some.length found.0
    found.1 refl in
    record { value = leaves.value; line_after = leaves.line_after }

pub returns-in-None : goal.returns-in-None
returns-in-None c =
    let chunk = c.args.chunk.now in
    let from = c.args.from in
    let line = c.args.line.now in
    let at = c.min.result in
    let rest = take (length chunk - at) (drop at chunk) in
    let long : length line ≡ most = search rules in
    let leaves = leaves-part chunk from line c.args.kept (length line) rest rest c.keep-in-None.new.line
    c.keep-in-None.result (rest_is chunk from at c.min.ensures) long c.keep-in-None.ensures.value
    c.keep-in-None.ensures.line_after (no-newline rest c.in-None.ensures) refl in
    record { value = leaves.value; line_after = leaves.line_after }
