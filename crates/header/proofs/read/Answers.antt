-- What the pass has noted decides.
use mathlib.Core.Path.{sym}
use Rattle.std.proofs.lemmas.Result.{err_from_is_err_and}
use Rattle.header.specs.laws.Exact.{read-scanned, scan-inside}
use native.Mathlib.Omega.{arith}
use Rattle.header.proofs.read.Goals as goal

pub returns-in_err-notes : goal.returns-in_err-notes
returns-in_err-notes c =
    let refused = err_from_is_err_and c.from_residual.result c.from_residual.ensures.1 in
    rw (refused.1, refused.2) (sym (read-scanned _ _ (sym c.in_err-notes.ensures)))

pub returns-then-notes : goal.returns-then-notes
returns-then-notes c = rw (read-scanned _ _ (sym c.in_ok-notes.ensures), c.if-notes.true)

pub fields_of-requires : goal.fields_of-requires
fields_of-requires c = (omega arith, scan-inside _ _ (sym c.in_ok-notes.ensures))

pub returns : goal.returns
returns c = rw (read-scanned _ _ (sym c.in_ok-notes.ensures), c.if-notes.false, c.fields_of.ensures)
