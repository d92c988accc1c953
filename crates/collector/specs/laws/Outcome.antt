-- One outcome: a contract that is one equation, with a function of what a call is given, determines all that the call
-- returns and leaves.
use Rattle.std.specs.Prelude.{◌≡◌}
use Rattle.std.proofs.Common.{sym, ap, ◌∙◌}

-- any two outcomes that meet it are equal
pub one-outcome : {Outcome : Type 0} (given first second : Outcome) → first ≡ given → second ≡ given → first ≡ second
one-outcome given first second p q = p ∙ sym q

-- and so is each part of them: what is returned, and each lent memory afterwards
pub one-part : {Outcome Part : Type 0} (part : Outcome → Part) (given first second : Outcome)
    → first ≡ given → second ≡ given → part first ≡ part second
one-part part given first second p q = ap part (one-outcome given first second p q)
