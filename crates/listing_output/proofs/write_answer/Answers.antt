-- `listing_output::write_answer` meets its contract: number, name and values, one behind the other.
-- Assumes nothing.
use Rattle.std.proofs.Common.{◌≡◌, refl, ap, List, [], ◌∷◌, ◌++◌, ℕ, arith}
use Rattle.answer.specs.declared.Returned.{Returned}
use Rattle.answer.specs.declared.Returned.TheVariants.{Sent, Segment, Number, Nothing}
use Rattle.answer.specs.Letters.{letters}
use Rattle.answer.specs.Table.{name_of, returned_with}
use Rattle.listing_output.specs.Number.{decimal}
use Rattle.listing_output.specs.laws.Put.{put_same, put_then, put_whole}
use Rattle.listing_output.specs.Text.{space, text_of, values_of, answer_text}
use Rattle.listing_output.proofs.write_answer.Goals as goal

-- there are values, whatever is returned
with_values : (number name : List ℕ) (returned : Returned)
    → (number ++ (space ∷ [])) ++ ((name ++ (space ∷ [])) ++ text_of (values_of returned))
    ≡ text_of (number ∷ name ∷ values_of returned)
with_values number name (Sent heard repetition) = refl
with_values number name (Segment heard) = refl
with_values number name (Number value) = refl
with_values number name Nothing = refl

pub returns : goal.returns
unfolding answer_text
returns c =
    let number = c.put_decimal.ensures in
    let name = c.put_name.ensures in
    let values = put_same c.put_returned.ensures.put
    (ap (λ (returned : Returned). text_of (values_of returned)) c.returned_with.ensures) in
    let whole = put_whole
    (put_same (put_then number.put (put_then name.put values (omega arith)) (omega arith))
    (with_values (decimal c.args.line) (letters (name_of c.args.answer)) (returned_with c.args.answer)))
    refl (omega arith) in
    record { value = whole.0; out_after = whole.1.0; upper_bound = whole.1.1 }
