-- `listing_output::Line::put_name` meets its contract: no name is longer than its room.
-- Assumes nothing.
use Rattle.std.proofs.Common.{arith, ℕ, length-append}
use Rattle.answer.specs.laws.Table.{name-short}
use Rattle.listing_output.proofs.Line.put_name.Goals as goal

pub put-requires : goal.put-requires
put-requires c = rw (c.as_bytes.ensures.value, c.name_of.ensures) (omega (arith, name-short c.args.answer))

pub returns-clause-upper_bound : goal.returns-clause-upper_bound
returns-clause-upper_bound c =
    let put = rw (c.as_bytes.ensures.value, c.name_of.ensures) at c.put.ensures in
    omega (arith, put.ends, length-append {A = ℕ}, name-short c.args.answer)
