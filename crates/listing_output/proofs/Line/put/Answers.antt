-- `listing_output::Line::put` meets its contract: the field is copied in, and what ends it is stored behind it.
-- Assumes nothing.
use Rattle.std.proofs.Common.{refl, ap, ◌∙◌, ◌-◌, ℕ, length, arith}
use borrow.Rule.Slice.PartMut.{put_mid}
use Rattle.octets.specs.laws.Over.{over-start, over-length}
use Rattle.listing_output.specs.laws.Put.{Put, put_then}
use Rattle.listing_output.proofs.Line.put.Goals as goal

pub returns : goal.returns
returns c =
    let line = c.args.self.now in
    let out = line.out.now in
    let field = c.args.field.now in
    let room = length out - line.at in
    let laid = ap (put_mid line.at room out) c.copy_in.ensures ∙ over-start out line.at room field (omega arith)
    (omega arith) in
    let copied : Put line _ field = record {
      lent = refl;
      long = ap (length {A = ℕ}) laid ∙ over-length out line.at field (omega arith);
      ends = refl;
      laid = laid;
    } in
    put_then copied c.push.ensures (omega arith)
