-- `Tallied::gathered` meets its contract: a part's marks are counted within its bounds.
-- Assumes nothing.
use Rattle.object.proofs.Laws.{counted}
use Rattle.object.proofs.Tallied.gathered.Goals as goal

pub invariant_of-result : goal.invariant_of-result
invariant_of-result c =
    let slot = c.args.self.now in
    record {
      counted = rw (c.bounds_of.ensures, c.total_in.ensures, c.marks_of.ensures)
          (counted c.args.part slot.limit c.args.core slot.tally slot.marks.now slot.summed slot.bits);
    }
