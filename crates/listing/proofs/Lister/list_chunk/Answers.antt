-- `listing::Lister::list_chunk` meets its contract: what is left of the chunk makes the same of what the program has as
-- the chunk made of what it had at first. Each call of `gather` gets further in the chunk. Assumes nothing.
use mathlib.Core.Path.{◌≡◌, sym, ◌∙◌}
use mathlib.Core.List.{List}
use Prim.Native.Nat.{ℕ, ◌-◌, ◌<◌, ◌≤◌}
use native.Mathlib.Omega.{arith}
use lib.ListN.{length, drop, drop_of_length-le}
use Rattle.listing_input.specs.declared.Gathered.{Gathered}
use Rattle.listing_input.specs.Gather.{gathered}
use Rattle.listing_input.specs.laws.Chunks.{further}
use Rattle.listing.specs.Listed.{Listed, listed, input_listed}
use Rattle.listing.specs.laws.Listed.{input_none, turn-ended, turn-kept}
use Rattle.listing.proofs.Lister.list_chunk.Goals as goal

-- less of the chunk is left after a call
less-left : (chunk : List ℕ) (from kept : ℕ) (got : Gathered) → got ≡ gathered chunk from kept → from < length chunk
    → length chunk - got.next < length chunk - from
less-left chunk from kept got e some = rw e (omega (arith, further chunk from kept some))

pub loop-from-smaller-then-gathered : goal.loop-from-smaller-then-gathered
loop-from-smaller-then-gathered c = less-left _ _ _ _ c.gather-gathered.ensures.value c.loop-from-test.true

pub loop-from-smaller : goal.loop-from-smaller
loop-from-smaller c = less-left _ _ _ _ c.gather-gathered.ensures.value c.loop-from-test.true

pub loop-from-preserved-then-gathered : goal.loop-from-preserved-then-gathered
loop-from-preserved-then-gathered c =
    let loop = c.loop-from in
    let got = c.gather-gathered.ensures in
    turn-ended c.args.chunk.now loop.from (listed loop.self) _ _ got.value got.line_after _ c.if-gathered.true
    c.list_line.ensures ∙ loop.invariant

pub loop-from-preserved : goal.loop-from-preserved
loop-from-preserved c =
    let loop = c.loop-from in
    let got = c.gather-gathered.ensures in
    turn-kept c.args.chunk.now loop.from (listed loop.self) _ _ got.value got.line_after c.if-gathered.false
    ∙ loop.invariant

past_all : (chunk : List ℕ) (from : ℕ) (l m : Listed) → length chunk ≤ from → input_listed (drop from chunk) l ≡ m
    → l ≡ m
past_all chunk from l m past e = sym (input_none l) ∙ rw (← drop_of_length-le chunk {i = from} past) e

pub returns : goal.returns
returns c = past_all c.args.chunk.now c.loop-from.from _ _ c.loop-from-test.false c.loop-from.invariant
