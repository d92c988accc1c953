-- `listing::Lister::list_chunk` meets its contract: what is left of the chunk makes the same of what the program has as
-- the chunk made of what it had at first. Each call of `gather` gets further in the chunk. Assumes nothing.
use Rattle.std.proofs.Common.{◌≡◌, ◌-◌, length, drop}
use Rattle.listing.specs.Listed.{listed, input_listed}
use Rattle.listing.proofs.Lister.list_chunk.Given as goal

abbrev pub invariant-loop-from : goal.invariant-loop-from
invariant-loop-from l =
    input_listed (drop l.from l.chunk) (listed l.self) ≡ input_listed l.chunk (listed l.initial.self)

abbrev pub decreases-loop-from : goal.decreases-loop-from
decreases-loop-from l = length l.chunk - l.from
