-- A turn takes one parameter of the list, and the laws say what the rest then comes to.
use mathlib.Core.Path.{◌≡◌, sym, ap, ◌∙◌}
use Rattle.std.proofs.lemmas.Result.{err_from_is_err_and}
use Rattle.header.specs.declared.Notes.{Notes}
use Rattle.header.specs.declared.Refusal.TheVariants.{Header}
use Rattle.header.specs.Parameters.{parameters}
use Rattle.header.specs.laws.Scan.{scanned, unmarked, unnoted, scan_header}
use Rattle.header.specs.laws.Parameters.{found-known, found-on}
use Rattle.header.specs.laws.Exact.{scan-end, scan-broken, scan-one}
use native.Mathlib.Omega.{arith}
use Rattle.header.proofs.note_all.Goals as goal

pub loop-at-init : goal.loop-at-init
unfolding scan_header
loop-at-init c =
    let d = c.default-notes.ensures in
    let nothing : c.default-notes.result ≡ unnoted =
    λ i. record { repeated = d.0 i; priority = d.1.0 i; name = d.1.1 i } in
    ap (λ (n : Notes). scanned (parameters c.args.header.now) unmarked n) nothing

pub returns-in_err-parameter : goal.returns-in_err-parameter
returns-in_err-parameter c =
    let s = c.loop-at in
    let none = c.in_err-parameter.ensures.ok_part in
    let refused = err_from_is_err_and c.from_residual.result c.from_residual.ensures.1 in
    let value = rw none at c.in_err-parameter.ensures.value in
    let why : c.in_err-parameter.field-0.0 ≡ Header = cc in
    let end = scan-broken _ s.at s.seen s.notes c.loop-at-test.true (sym c.parameter_at.ensures ∙ none) in
    rw (refused.1, refused.2, why) (sym end ∙ s.invariant)

pub returns-then-not-width_fits : goal.returns-then-not-width_fits
returns-then-not-width_fits c =
    let s = c.loop-at in
    let found = sym c.parameter_at.ensures ∙ c.in_ok-parameter.ensures.ok_part in
    let one = scan-one _ s.at s.seen s.notes _ c.loop-at-test.true found in
    sym (rw (← c.if-not-width_fits.ensures) at one) ∙ s.invariant

pub bounds-seen-identifier : goal.bounds-seen-identifier
bounds-seen-identifier c =
    let found = sym c.parameter_at.ensures ∙ c.in_ok-parameter.ensures.ok_part in
    rw c.from-identifier.ensures (found-known _ _ _ found).named

pub bounds-seen-identifier-in-loop-at : goal.bounds-seen-identifier-in-loop-at
bounds-seen-identifier-in-loop-at c =
    let found = sym c.parameter_at.ensures ∙ c.in_ok-parameter.ensures.ok_part in
    rw c.from-identifier.ensures (found-known _ _ _ found).named

pub overflow_add-at : goal.overflow_add-at
overflow_add-at c =
    let found = sym c.parameter_at.ensures ∙ c.in_ok-parameter.ensures.ok_part in
    omega (arith, (found-known _ _ _ found).inside)

pub loop-at-smaller : goal.loop-at-smaller
loop-at-smaller c =
    let found = sym c.parameter_at.ensures ∙ c.in_ok-parameter.ensures.ok_part in
    omega (arith, found-on _ _ _ found)

pub loop-at-preserved : goal.loop-at-preserved
loop-at-preserved c =
    let s = c.loop-at in
    let found = sym c.parameter_at.ensures ∙ c.in_ok-parameter.ensures.ok_part in
    let one = scan-one _ s.at s.seen s.notes _ c.loop-at-test.true found in
    rw (c.noted-notes.ensures, c.from-identifier.ensures)
    (sym (rw (← c.if-not-width_fits.ensures) at one) ∙ s.invariant)

pub returns : goal.returns
returns c =
    let s = c.loop-at in
    sym (scan-end _ s.at s.seen s.notes c.loop-at-test.false) ∙ s.invariant
