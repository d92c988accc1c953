-- `listing_input::read` meets its contract: the line is well formed, or fails one of the tests.
-- Assumes nothing.
use Rattle.std.proofs.Common.{◌≡◌, refl, sym, ap, ◌∙◌, ℕ, ◌-◌, List, length, take, drop, length-drop, take_all, get_or, arith}
use Rattle.listing_input.specs.Hex.{is_hex}
use Rattle.listing_input.specs.laws.Run.{over_nothing}
use Rattle.listing_input.specs.laws.Theorems.{too_long}
use Rattle.listing_input.proofs.Cases.{too_short, untabbed, no-hex, well-formed}
use Rattle.listing_input.proofs.read.Goals as goal

-- everything behind the tab
to_the_end : (line : List ℕ) → take (length line - 2) (drop 2 line) ≡ drop 2 line
to_the_end line = take_all (length line - 2) (drop 2 line) (rw length-drop (omega arith))

pub returns-in-9 : goal.returns-in-9
returns-in-9 c =
    let line = c.args.line.now in
    let hex = ap is_hex (sym (to_the_end line)) ∙ sym c.is_hex.ensures ∙ c.if-is_hex.true in
    let tab : get_or line 1 0 ≡ 9 = omega arith in
    rw (well-formed line c.if-line-le-LINE_MOST.true tab hex)
    (record {
      value = rw (← to_the_end line) c.asked.ensures.value;
      group_after = rw (← to_the_end line) c.asked.ensures.group_after;
    })

pub returns-in_default : goal.returns-in_default
returns-in_default c =
    rw (too_short c.args.line.now c.in_default.len_below) (record { value = refl; group_after = over_nothing _ 0 })

pub returns-in_default-2 : goal.returns-in_default-2
returns-in_default-2 c =
    let line = c.args.line.now in
    let tab : get_or line 1 0 ≡ 9 = omega arith in
    rw (no-hex line c.if-line-le-LINE_MOST.true tab
    (ap is_hex (sym (to_the_end line)) ∙ sym c.is_hex.ensures ∙ c.if-is_hex.false))
    (record { value = refl; group_after = over_nothing _ 0 })

pub returns-in_default-3 : goal.returns-in_default-3
returns-in_default-3 c =
    rw (too_long c.args.line.now c.if-line-le-LINE_MOST.false) (record { value = refl; group_after = over_nothing _ 0 })

pub returns-in_default-4 : goal.returns-in_default-4
returns-in_default-4 c =
    let line = c.args.line.now in
    let other : get_or line 1 0 ≡ 9 → ⊥ = λ tab. omega arith in
    rw (untabbed line other) (record { value = refl; group_after = over_nothing _ 0 })
