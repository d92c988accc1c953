-- `listing::Lister::list_all` meets its contract: what the reads so far brought, one behind the other, made what the
-- program has. Assumes nothing.
use Rattle.listing.specs.laws.Listed.{reads_none, reads_on}
use Rattle.listing.proofs.Lister.list_all.Goals as goal

pub loop-init : goal.loop-init
loop-init c = reads_none _

pub loop-preserved : goal.loop-preserved
loop-preserved c = reads_on _ c.loop.invariant c.list_some.ensures.listing_after

pub returns-then-list_some-eq0 : goal.returns-then-list_some-eq0
returns-then-list_some-eq0 c = reads_on _ c.loop.invariant c.list_some.ensures.listing_after
