-- `listing_output::Line::push` meets its contract: one character more is stored.
-- Assumes nothing.
use Rattle.std.proofs.Common.{refl}
use lib.ListN.{length-set}
use Rattle.octets.specs.laws.Over.{over-one}
use Rattle.listing_output.proofs.Line.push.Goals as goal

pub returns : goal.returns
returns c =
    let line = c.args.self.now in record {
      lent = refl;
      long = length-set line.out.now line.at c.args.character;
      ends = refl;
      laid = over-one line.out.now line.at c.args.character c.requires;
    }
