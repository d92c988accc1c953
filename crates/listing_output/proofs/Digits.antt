-- Laws of decimal digits: they are those that the standard library writes.
-- Assumes nothing.
use Rattle.std.proofs.Common.{◌≡◌, refl, sym, ap, ◌∙◌, ℕ, zero, suc, ◌+◌, ◌/◌, ◌%◌, ◌^◌, ◌≤◌, ◌<◌, List, [], ◌∷◌, ◌++◌, length, arith, ne_eqb}
use Rattle.std.specs.Fmt.{decimal as shown}
use Rattle.std.proofs.lemmas.Fmt.{AppendsLastDigit, decimal_from_appends, decimal_digit, decimal_step, length-decimal-le}
use Rattle.listing_output.specs.Number.{digits_of, decimal}

none_left : (places : ℕ) → digits_of places 0 ≡ []
unfolding digits_of
none_left zero = refl
none_left (suc places) = refl

-- the digits in so many places; 0 has one
written : ℕ → ℕ → List ℕ
written zero number = []
written (suc places) number = digits_of places (number / 10) ++ ((0x30 + number % 10) ∷ [])

written_some : (places number : ℕ) → 0 < number → digits_of places number ≡ written places number
unfolding digits_of written
written_some zero number h = refl
written_some (suc places) number h = rw (ne_eqb number 0 (omega arith))

appends : AppendsLastDigit written
unfolding written
appends = record {
  one = λ places number h.
      let front : number / 10 ≡ 0 = omega arith in
      let last : number % 10 ≡ number = omega arith in
      rw (front, last, none_left places);
  more = λ places number h. rw (written_some places (number / 10) (omega arith));
}

module _ (number : ℕ) (fits : number < 2 ^ 64) where
  as_shown : decimal number ≡ shown number
  unfolding decimal written
  as_shown = decimal_from_appends written appends 20 number fits
      (length-decimal-le 20 number (omega arith) (omega arith) fits)

  pub decimal-short : length (decimal number) ≤ 20
  decimal-short = rw as_shown (length-decimal-le 20 number (omega arith) (omega arith) fits)

  pub decimal-one : number < 10 → decimal number ≡ (0x30 + number) ∷ []
  decimal-one h = as_shown ∙ decimal_digit number h

pub decimal-more : (number : ℕ) → number < 2 ^ 64 → 10 ≤ number
    → decimal number ≡ decimal (number / 10) ++ ((0x30 + number % 10) ∷ [])
decimal-more number fits h =
    as_shown number fits ∙ decimal_step number h fits
    ∙ ap (λ (front : List ℕ). front ++ ((0x30 + number % 10) ∷ [])) (sym (as_shown (number / 10) (omega arith)))
