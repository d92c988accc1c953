-- `listing_input::asked` meets its contract: each arm is one of the letters, or none of them.
-- Assumes nothing.
use Rattle.std.proofs.Common.{◌≡◌, refl, sym, ap, ◌∙◌, ℕ, ◌+◌, ◌≤◌, List, ◌++◌, zero-add, arith, length, take, length-append}
use Rattle.octets.specs.Octets.{over}
use Rattle.octets.specs.laws.Over.{over-inside}
use Rattle.listing_input.specs.declared.Line.TheVariants.{Group, Drop}
use Rattle.listing_input.specs.Hex.{bytes_of}
use Rattle.listing_input.specs.Line.{check_of}
use Rattle.listing_input.specs.laws.Run.{over_nothing, over-joined}
use Rattle.listing_input.specs.laws.Theorems.{bytes-length}
use Rattle.listing_input.proofs.Hex.{word-decoded}
use Rattle.listing_input.proofs.Cases.{asks-whole, asks-unchecked, asks-drop, asks-other-count, asks-other-letter}
use Rattle.listing_input.proofs.asked.Goals as goal

pub returns-in-71-default : goal.returns-in-71-default
returns-in-71-default c =
    rw (asks-whole c.args.letter c.args.digits.now c.in-71-default.is-0)
    (record { value = ap Group c.decode.ensures.value; group_after = c.decode.ensures.group_after })

pub add_check-requires : goal.add_check-requires
add_check-requires c =
    omega (arith, bytes-length c.args.digits.now, c.decode-count.ensures.value, c.decode-count.auto.group)

-- the check word, laid behind the bytes that it is of
unchecked : (group bytes decoded checked : List ℕ) (count : ℕ) → count ≡ length bytes → decoded ≡ over group 0 bytes
    → checked ≡ over decoded count (check_of (take count decoded)) → 0 + length bytes ≤ length group
    → checked ≡ over group 0 (bytes ++ check_of bytes)
unchecked group bytes decoded checked count c d e h =
    e ∙ rw (d, c) (rw (over-inside group 0 bytes h)
    (rw (← zero-add (length bytes)) (over-joined group 0 bytes h (check_of bytes))))

pub returns-in-66-default : goal.returns-in-66-default
unfolding check_of
returns-in-66-default c =
    let digits = c.args.digits.now in
    let group = c.args.group.now in
    let counted = c.decode-count.ensures.value in
    rw (asks-unchecked c.args.letter digits c.in-66-default.is-0) (record {
      value = ap Group (c.add_check.ensures.value ∙ rw counted
          (sym (length-append (bytes_of digits) (check_of (bytes_of digits)))));
      group_after = unchecked group (bytes_of digits) _ _ _ counted c.decode-count.ensures.group_after
          c.add_check.ensures.group_after (omega (arith, bytes-length digits));
    })

pub returns-in-68-len4 : goal.returns-in-68-len4
returns-in-68-len4 c =
    rw (asks-drop c.args.letter c.args.digits.now c.in-68-len4.is-0 (omega arith))
    (record {
      value = ap Drop (c.from_be_bytes.ensures ∙ rw (c.byte.ensures, c.byte-in-68-len4.ensures)
          (sym (word-decoded c.args.digits.now (omega arith))));
      group_after = over_nothing _ 0;
    })

pub returns-in_default : goal.returns-in_default
returns-in_default c =
    rw (asks-other-count c.args.letter c.args.digits.now c.in_default.is-0 (omega arith))
    (record { value = refl; group_after = over_nothing _ 0 })

pub returns-in_default-2 : goal.returns-in_default-2
returns-in_default-2 c =
    rw (asks-other-count c.args.letter c.args.digits.now c.in_default.is-0 (omega arith))
    (record { value = refl; group_after = over_nothing _ 0 })

pub returns-in_default-3 : goal.returns-in_default-3
returns-in_default-3 c =
    let other = c.in_default.is-0 in
    rw (asks-other-letter c.args.letter c.args.digits.now other.0.0.1 other.0.1 other.1)
    (record { value = refl; group_after = over_nothing _ 0 })
