-- `listing::Lister::list_all` meets its contract: what the reads so far brought, one behind the other, made what the
-- program has. Assumes nothing.
use Rattle.listing.specs.Listed.{listed, Reads}
use Rattle.listing.proofs.Lister.list_all.Given as goal

abbrev pub invariant-loop : goal.invariant-loop
invariant-loop l = Reads (listed l.initial.self) (listed l.self)
