-- `queries::find` meets its contract: STATE, then the search.
-- Assumes nothing.
use mathlib.Core.Path.{◌≡◌, refl, sym, ap, ◌∙◌}
use Rattle.std.specs.Prelude.{Option, Some, None, ℕ}
use Rattle.std.specs.Option.{ok_or}
use Rattle.answer.specs.declared.Reason.{Reason}
use Rattle.collector.specs.State.{lent_state}
use Rattle.queries.specs.Questions.{sought_as, find}
use Rattle.queries.specs.laws.Theorems.{cores-searched}
use Rattle.queries.proofs.find.Goals as goal

pub returns-then-not-is_sound : goal.returns-then-not-is_sound
unfolding find
returns-then-not-is_sound c = rw (sym c.is_sound.ensures ∙ c.if-not-is_sound.true)

pub find-found-requires : goal.find-found-requires
find-found-requires c =
    let a = c.args in
    let good = sym c.is_sound.ensures ∙ c.if-not-is_sound.false in
    cores-searched (lent_state a.lent.now) good

-- what the library makes of none is what the definition says
or-sought : (held : Option ℕ) → ok_or held Reason.NotFound ≡ sought_as held
or-sought (Some number) = refl
or-sought None = refl

pub returns : goal.returns
unfolding find
returns c =
    let good = sym c.is_sound.ensures ∙ c.if-not-is_sound.false in
    rw good (c.ok_or.ensures.value ∙ or-sought c.find-found.result ∙ ap sought_as c.find-found.ensures)
