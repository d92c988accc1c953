-- What `array::from_fn` makes, of a closure that each call leaves as it was.
use Rattle.std.proofs.Common.{◌≡◌, ℕ, zero, suc, ◌+◌, ◌<◌, List, get_or, ◌∙◌, subst, arith}
use Rattle.std.specs.Array.{IsFromFnResultFrom}
use Rattle.std.specs.Fn.{Called}
use denote.Param.Members.{Mut}

-- what is made is what the calls give
pub made-by : {F B : Type 0} (g : Mut F (ℕ × Unit {0}) B) (f : F) (each : ℕ → B) (made : List B) (n i : ℕ) (d : B)
    → ((x : ℕ) (y : B) (q : F) → Called g f (x, tt) y q → (q ≡ f) × (y ≡ each x))
    → IsFromFnResultFrom g f made i n → (k j : ℕ) → k < n → i + k ≡ j → get_or made j d ≡ each j
made-by g f each made zero i d calls result k j h e = absurd (omega arith)
made-by g f each made (suc n) i d calls result zero j h e =
    let here : i ≡ j = omega arith in rw (← here) (result.2.1 d ∙ (calls i result.1 result.0 result.3).1)
made-by {F} {B} g f each made (suc n) i d calls result (suc k) j h e =
    made-by g f each made n (i + 1) d calls
    (subst (λ (q : F). IsFromFnResultFrom g q made (i + 1) n) (calls i result.1 result.0 result.3).0 result.4) k j
    (omega arith) (omega arith)
