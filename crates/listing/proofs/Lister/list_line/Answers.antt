-- `listing::Lister::list_line` meets its contract.
-- Assumes nothing.
use Rattle.std.proofs.Common.{◌≡◌, ap, ◌∙◌, ℕ, ◌+◌, ◌-◌, ◌^◌, ◌<◌, arith}
use Rattle.std.specs.Prelude.{min}
use Rattle.std.proofs.lemmas.Bool.Decides.{nat_tests}
use Rattle.listing.specs.Listed.{listed, next_of}
use Rattle.listing.specs.laws.Listed.{line-listed}
use Rattle.listing.proofs.Lister.list_line.Goals as goal

next_is : (number next : ℕ) → number < 2 ^ 64 → next ≡ min (number + 1) (2 ^ 64 - 1) → next ≡ next_of number
next_is number next h e = grind (arith, nat_tests)

pub returns : goal.returns
returns c =
    let serves = c.serve-answer.ensures in
    line-listed (listed c.args.self.now) (listed c.serve-answer.new.self) _
    (next_is _ _ (omega arith) c.saturating_add-self.ensures ∙ ap next_of serves.lines) serves.line serves.left
