-- `queries::parameters` meets its contract: where the object is, then what its header says, which has its core.
-- Assumes nothing.
use mathlib.Core.Path.{◌≡◌, sym, ap, ◌∙◌}
use Rattle.std.specs.Prelude.{Result, Ok, Err, MatchResult, IsErrAnd}
use Rattle.answer.specs.declared.Reason.{Reason}
use Rattle.header.specs.declared.Fields.{Fields}
use Rattle.header.specs.declared.Refusal.{Refusal}
use Rattle.std.proofs.lemmas.Result.{err_from_is_err_and}
use Rattle.header.specs.Parameters.{read_header}
use Rattle.collector.specs.State.{lent_state}
use Rattle.collector.specs.Calls.{show}
use Rattle.queries.specs.Questions.{parameters}
use Rattle.queries.specs.laws.Theorems.{core-shown}
use Rattle.queries.specs.Said.{reason_of, asked_as}
use Rattle.queries.proofs.parameters.Goals as goal

pub read-requires : goal.read-requires
unfolding show
read-requires c =
    let a = c.args in
    let s = lent_state a.lent.now in
    let there = sym c.locate.ensures ∙ c.in_ok-i.was in
    rw c.shown_at.ensures (rw there at (core-shown a.number _ s there))

pub returns-in_err-i : goal.returns-in_err-i
unfolding parameters
returns-in_err-i c =
    let p = err_from_is_err_and c.from_residual.result c.from_residual.ensures.1 in
    rw (p.1, p.2, sym c.locate.ensures ∙ c.in_err-i.was)

-- what the library makes of a refusal is what the definition says
mapped-asked : (reading : Result Fields Refusal) (told : Result Fields Reason)
    → MatchResult reading (λ fields. told ≡ Ok fields) (λ why. IsErrAnd told (λ reason. reason ≡ reason_of why))
    → told ≡ asked_as reading
mapped-asked (Ok fields) told h = h
mapped-asked (Err why) told h = let p = err_from_is_err_and told h in p.1 ∙ ap Err p.2

pub returns : goal.returns
unfolding parameters show
returns c =
    rw (sym c.locate.ensures ∙ c.in_ok-i.was)
    (mapped-asked c.read.result c.map_err.result c.map_err.ensures.cases
    ∙ ap asked_as (c.read.ensures ∙ ap read_header c.shown_at.ensures))
