-- `crc::check_word` meets its contract: what is left of the bytes, divided on from the remainder so far, gives what
-- the whole gives from all ones. The table's rule is tested once, over all its entries.
use Rattle.std.proofs.Common.{arith, ℕ, List, ◌≡◌, refl, ◌+◌, ◌-◌, ◌*◌, ◌/◌, ◌%◌, ◌<◌, ap, sym, ◌∙◌, length, drop, map, get_or, drop_of_length-le}
use Rattle.std.specs.Int.Bits.{bit_xor}
use Rattle.std.specs.List.{range_with_len}
use Rattle.std.proofs.lemmas.List.FromFn.{get_or-map-range_with_len}
use Rattle.std.proofs.lemmas.Nat.{xor_lt}
use Rattle.crc.specs.CheckWord.{step, divided, check_word}
use Rattle.crc.specs.laws.Remainders.{steps, byte-entered, divided-on}
use Rattle.crc.specs.declared.TheConstants.{TABLE}
use Rattle.crc.proofs.check_word.Goals as goal

table-ruled : TABLE ≡ map (λ high. steps 8 (high * 0x100)) (range_with_len 0 256)
unfolding steps step
table-ruled = refl

-- one byte more has entered
next-divided : (bytes : List ℕ) (i remainder : ℕ) → i < length bytes → remainder < 0x10000 → get_or bytes i 0 < 0x100
    → divided (drop (i + 1) bytes)
    (bit_xor (remainder * 0x100 % 0x10000) (get_or TABLE (bit_xor (remainder / 0x100) (get_or bytes i 0)) 0))
    ≡ divided (drop i bytes) remainder
next-divided bytes i remainder within small byte_small =
    let high = bit_xor (remainder / 0x100) (get_or bytes i 0) in
    let place : high < 0x100 = xor_lt 8 (remainder / 0x100) (get_or bytes i 0) (omega arith) byte_small in
    let entry : get_or TABLE high 0 ≡ steps 8 (high * 0x100) =
    rw table-ruled (get_or-map-range_with_len (λ (h : ℕ). steps 8 (h * 0x100)) 0 256 high high 0 place (omega arith)) in
    ap (λ (r : ℕ). divided (drop (i + 1) bytes) r)
    (ap (bit_xor (remainder * 0x100 % 0x10000)) entry
    ∙ sym (byte-entered (get_or bytes i 0) remainder byte_small small))
    ∙ sym (divided-on bytes i remainder within)

pub loop-byte-preserved : goal.loop-byte-preserved
loop-byte-preserved c =
    let bytes = c.args.bytes.now in
    let i = c.loop-byte.byte-index in
    next-divided bytes i c.loop-byte.remainder (omega arith) (omega arith) (omega (arith, c.type_inv.bytes i))
    ∙ c.loop-byte.invariant

pub returns : goal.returns
unfolding check_word divided
returns c =
    ap (λ (r : ℕ). 0xFFFF - r)
    (ap (λ (rest : List ℕ). divided rest c.loop-byte.remainder)
    (sym (drop_of_length-le c.args.bytes.now c.loop-byte-test.false)) ∙ c.loop-byte.invariant)
