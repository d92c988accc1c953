-- `listing_input::keep` meets its contract: no room, or room for the front of the piece.
-- Assumes nothing.
use Rattle.std.proofs.Common.{ap, ◌∙◌, ◌-◌, length, take, arith, length-take}
use borrow.Rule.Slice.PartMut.{put_mid}
use Rattle.octets.specs.laws.Over.{over-start}
use Rattle.listing_input.specs.laws.Run.{over_nothing}
use Rattle.listing_input.proofs.Pieces.{no_room, room-for-count}
use Rattle.listing_input.proofs.keep.Goals as goal

pub returns-then-line-kept-clause-line_after : goal.returns-then-line-kept-clause-line_after
returns-then-line-kept-clause-line_after c =
    let line = c.args.line.now in
    rw (no_room (length line) c.args.kept c.args.piece.now c.if-line-kept.true) (over_nothing line c.args.kept)

pub returns-clause-line_after : goal.returns-clause-line_after
returns-clause-line_after c =
    let line = c.args.line.now in
    let kept = c.args.kept in
    let room = length line - kept in
    let piece = take c.min-count.result c.args.piece.now in
    rw (room-for-count (length line) kept c.args.piece.now c.min-count.result c.min-count.ensures)
    (ap (put_mid kept room line) c.copy_in.ensures ∙ over-start line kept room piece
    (simp length-take (omega arith)) (omega arith))
