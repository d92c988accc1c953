-- Past the header's end no parameter begins.
use mathlib.Core.Path.{sym}
use Rattle.header.specs.laws.Parameters.{found-past}
use Rattle.header.proofs.parameter_at.Goals as goal

pub returns-in_err-first : goal.returns-in_err-first
returns-in_err-first c = rw c.from_residual.ensures (sym (found-past _ _ c.in_err-first.ensures.lookup.3))
