-- `listing_input::add_check` meets its contract: the check word's two bytes are laid behind those that it covers.
-- Assumes nothing.
use Rattle.std.proofs.Common.{◌≡◌, ap, ◌∙◌, ℕ, ◌-◌, ◌/◌, ◌%◌, ◌<◌, List, [], ◌∷◌, length, arith}
use borrow.Rule.Slice.PartMut.{put_mid}
use Rattle.octets.specs.Octets.{over}
use Rattle.octets.specs.laws.Over.{over-start}
use Rattle.listing_input.specs.Line.{check_of}
use Rattle.listing_input.proofs.add_check.Goals as goal

-- the high byte of a word is all that is over its low byte
two-bytes : (word : ℕ) (bytes : List ℕ) → word < 65536 → bytes ≡ word / 256 % 256 ∷ word % 256 ∷ []
    → bytes ≡ word / 256 ∷ word % 256 ∷ []
two-bytes word bytes h e = let high : word / 256 % 256 ≡ word / 256 = omega arith in e ∙ rw high

pub returns-clause-group_after : goal.returns-clause-group_after
unfolding check_of
returns-clause-group_after c =
    let group = c.args.group.now in
    let count = c.args.count in
    let room = length group - count in
    ap (put_mid count room group) c.copy_in.ensures ∙ over-start group count room _ (omega arith) (omega arith)
    ∙ rw (← c.check_word.ensures)
    (ap (over group count) (two-bytes c.check_word.result _ c.check_word.type_inv c.to_be_bytes-check.ensures))
