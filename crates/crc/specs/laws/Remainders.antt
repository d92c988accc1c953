-- Laws of the division: it is linear, so the bits that enter may be taken together, one, four, eight at a time.
-- Whatever way of working out the check word is chosen, `bits-together` and `high-and-low` are what it is proved by.
use Rattle.std.specs.Prelude.{◌≡◌, refl, List, [], ◌∷◌, ℕ, zero, suc, ◌+◌, ◌*◌, ◌/◌, ◌%◌, ◌^◌, ◌≤◌, ◌<◌, length, drop, get_or}
use Rattle.std.proofs.Common.{sym, ap, ap₂, ◌∙◌, subst, mul-le-mul_left, mul_assoc, add-zero, mul-one, pow-suc, mul_comm, add-mul, zero-mul, mod-lt, div-add-mod', add-one, one-add, arith, drop-cons, pow_pos, pow-add, shl_lt}
use Rattle.std.proofs.Math.Nat.{mod-one}
use Rattle.std.proofs.Math.Arith.{bin_ind}
use Rattle.std.proofs.lemmas.Nat.{mod-pow-add, xor_shr, xor_mod, xor_block, xor_comm, xor_lt}
use Rattle.std.specs.Int.Bits.{bit_xor, differ, xor_step, xor_shifted, xor_zero_r}
use Rattle.crc.specs.CheckWord.{polynomial, step, entered, bits_entered, divided, check_word}

-- ---- bits that differ

differ-bit : (x y : ℕ) → x < 2 → y < 2 → differ x y < 2
differ-bit zero y a b = b
differ-bit (suc zero) zero a b = a
differ-bit (suc zero) (suc zero) a b = omega arith
differ-bit (suc zero) (suc (suc y)) a b = absurd (omega arith)
differ-bit (suc (suc x)) y a b = absurd (omega arith)

differ-grouped : (x y z : ℕ) → x < 2 → y < 2 → z < 2 → differ (differ x y) z ≡ differ x (differ y z)
differ-grouped zero y z a b c = refl
differ-grouped (suc zero) zero z a b c = refl
differ-grouped (suc zero) (suc zero) zero a b c = refl
differ-grouped (suc zero) (suc zero) (suc zero) a b c = refl
differ-grouped (suc zero) (suc zero) (suc (suc z)) a b c = absurd (omega arith)
differ-grouped (suc zero) (suc (suc y)) z a b c = absurd (omega arith)
differ-grouped (suc (suc x)) y z a b c = absurd (omega arith)

bit : (n : ℕ) → n % 2 < 2
bit n = omega arith

split : (n q d : ℕ) → n ≡ q * 2 + d → d < 2 → (n / 2 ≡ q) × (n % 2 ≡ d)
split n q d e h = (omega arith, omega arith)

xor-split : (a b : ℕ) → (bit_xor a b / 2 ≡ bit_xor (a / 2) (b / 2)) × (bit_xor a b % 2 ≡ differ (a % 2) (b % 2))
xor-split a b = split (bit_xor a b) (bit_xor (a / 2) (b / 2)) (differ (a % 2) (b % 2)) (xor_step a b)
    (differ-bit (a % 2) (b % 2) (bit a) (bit b))

pub xor-grouped : (a b c : ℕ) → bit_xor (bit_xor a b) c ≡ bit_xor a (bit_xor b c)
xor-grouped = bin_ind (λ (a : ℕ). (b c : ℕ) → bit_xor (bit_xor a b) c ≡ bit_xor a (bit_xor b c)) (λ b c. refl) next
  where
    next : (a : ℕ) → ((b c : ℕ) → bit_xor (bit_xor (a / 2) b) c ≡ bit_xor (a / 2) (bit_xor b c)) → (b c : ℕ)
        → bit_xor (bit_xor a b) c ≡ bit_xor a (bit_xor b c)
    next a below b c =
        xor_step (bit_xor a b) c
        ∙ ap₂ (λ (x y : ℕ). bit_xor x (c / 2) * 2 + differ y (c % 2)) (xor-split a b).0 (xor-split a b).1
        ∙ ap₂ (λ (x y : ℕ). x * 2 + y) (below (b / 2) (c / 2))
        (differ-grouped (a % 2) (b % 2) (c % 2) (bit a) (bit b) (bit c))
        ∙ ap₂ (λ (x y : ℕ). bit_xor (a / 2) x * 2 + differ (a % 2) y) (sym (xor-split b c).0) (sym (xor-split b c).1)
        ∙ sym (xor_step a (bit_xor b c))

xor-paired : (a b c d : ℕ) → bit_xor (bit_xor a b) (bit_xor c d) ≡ bit_xor (bit_xor a c) (bit_xor b d)
xor-paired a b c d =
    xor-grouped a b (bit_xor c d)
    ∙ ap (bit_xor a) (sym (xor-grouped b c d) ∙ ap (λ (x : ℕ). bit_xor x d) (xor_comm b c) ∙ xor-grouped c b d)
    ∙ sym (xor-grouped a c (bit_xor b d))

-- ---- one step is linear

xor-doubled : (a b : ℕ) → bit_xor a b * 2 ≡ bit_xor (a * 2) (b * 2)
xor-doubled a b =
    sym (add-zero (bit_xor a b * 2)) ∙ sym (xor_block 1 a b 0 0 (omega arith) (omega arith))
    ∙ ap₂ bit_xor (add-zero (a * 2)) (add-zero (b * 2))

-- the polynomial is taken away by both or by neither
xor-taken : (x y : ℕ) → x < 2 → y < 2 → bit_xor x y * polynomial ≡ bit_xor (x * polynomial) (y * polynomial)
xor-taken zero y a b = refl
xor-taken (suc zero) zero a b = refl
xor-taken (suc zero) (suc zero) a b = refl
xor-taken (suc zero) (suc (suc y)) a b = absurd (omega arith)
xor-taken (suc (suc x)) y a b = absurd (omega arith)

pub step_small : (r : ℕ) → r < 0x10000 → step r < 0x10000
unfolding step
step_small r h = xor_lt 16 (r * 2 % 0x10000) (r / 0x8000 * polynomial) (omega arith) (omega arith)

pub step-linear : (a b : ℕ) → a < 0x10000 → b < 0x10000 → step (bit_xor a b) ≡ bit_xor (step a) (step b)
unfolding step
step-linear a b h g =
    ap₂ bit_xor
    (ap (λ (x : ℕ). x % 0x10000) (xor-doubled a b) ∙ xor_mod (a * 2) (b * 2) 16)
    (ap (λ (x : ℕ). x * polynomial) (xor_shr a b 15) ∙ xor-taken (a / 0x8000) (b / 0x8000) (omega arith) (omega arith))
    ∙ xor-paired (a * 2 % 0x10000) (b * 2 % 0x10000) (a / 0x8000 * polynomial) (b / 0x8000 * polynomial)

-- nothing leaves at the top
pub step-low : (r : ℕ) → r < 0x8000 → step r ≡ r * 2
unfolding step
step-low r h =
    let top : r / 0x8000 * polynomial ≡ 0 = omega arith in
    let moved : r * 2 % 0x10000 ≡ r * 2 = omega arith in
    ap₂ bit_xor moved top ∙ xor_zero_r (r * 2)

-- ---- several steps

unfoldable pub steps : ℕ → ℕ → ℕ
steps zero r = r
steps (suc count) r = steps count (step r)

pub steps-linear : (count a b : ℕ) → a < 0x10000 → b < 0x10000 → steps count (bit_xor a b)
    ≡ bit_xor (steps count a) (steps count b)
unfolding steps
steps-linear zero a b h g = refl
steps-linear (suc count) a b h g = ap (steps count) (step-linear a b h g)
    ∙ steps-linear count (step a) (step b) (step_small a h) (step_small b g)

pub steps-small : (count r : ℕ) → r < 0x10000 → steps count r < 0x10000
unfolding steps
steps-small zero r h = h
steps-small (suc count) r h = steps-small count (step r) (step_small r h)

doubled-first : (r p : ℕ) → r * (p * 2) ≡ r * 2 * p
doubled-first r p = ap (λ (x : ℕ). r * x) (mul_comm p 2) ∙ sym (mul_assoc r 2 p)

power-doubled : (r count : ℕ) → r * 2 ^ suc count ≡ r * 2 * 2 ^ count
power-doubled r count = ap (λ (x : ℕ). r * x) (pow-suc 2 count) ∙ doubled-first r (2 ^ count)

at_least : (r p : ℕ) → 0 < p → r ≤ r * p
at_least r p h = subst (λ (x : ℕ). x ≤ r * p) (mul-one r) (mul-le-mul_left r h)

pub steps_low : (count r : ℕ) → r * 2 ^ count < 0x10000 → steps count r ≡ r * 2 ^ count
unfolding steps
steps_low zero r h = sym (mul-one r)
steps_low (suc count) r h =
    let below : r * 2 * 2 ^ count < 0x10000 = rw power-doubled at h in
    let low : r < 0x8000 = omega (arith, at_least (r * 2) (2 ^ count) (pow_pos count)) in
    ap (steps count) (step-low r low) ∙ steps_low count (r * 2) below ∙ sym (power-doubled r count)

-- ---- bits taken together

-- the top bit, and the bits below it
bits-split : (count number : ℕ) → number % 2 ^ suc count ≡ number / 2 ^ count % 2 * 2 ^ count + number % 2 ^ count
bits-split count number = ap (λ (k : ℕ). number % 2 ^ k) (sym (one-add count)) ∙ mod-pow-add number 1 count

shifted-small : (low count rest whole : ℕ) → count + rest ≡ whole → low < 2 ^ count → low * 2 ^ rest < 2 ^ whole
shifted-small low count rest whole e h = subst (λ (k : ℕ). low * 2 ^ rest < 2 ^ k) e (shl_lt count rest h)

shifted_sum : (high low count rest : ℕ) → count + rest ≡ 15 → (high * 2 ^ count + low) * 2 ^ rest
    ≡ high * 0x8000 + low * 2 ^ rest
shifted_sum high low count rest e =
    add-mul (high * 2 ^ count) low (2 ^ rest)
    ∙ ap (λ (x : ℕ). x + low * 2 ^ rest)
    (mul_assoc high (2 ^ count) (2 ^ rest)
    ∙ ap (λ (x : ℕ). high * x) (sym (pow-add 2 count rest) ∙ ap (λ (k : ℕ). 2 ^ k) e))

-- `count` bits that enter one by one do what they do when they join the remainder's top at once
pub bits-together : (count rest number remainder : ℕ) → count + rest ≡ 16 → remainder < 0x10000
    → bits_entered count number remainder ≡ steps count (bit_xor remainder (number % 2 ^ count * 2 ^ rest))
unfolding bits_entered entered steps
bits-together zero rest number remainder e h =
    sym (ap (bit_xor remainder) (ap (λ (x : ℕ). x * 2 ^ rest) (mod-one number) ∙ zero-mul (2 ^ rest))
    ∙ xor_zero_r remainder)
bits-together (suc count) rest number remainder e h =
    bits-together count (suc rest) number (step joined) (omega arith) (step_small joined joined_small)
    ∙ ap (steps count)
    (sym (ap step (ap (bit_xor remainder) entering ∙ sym (xor-grouped remainder (top * 0x8000) low))
    ∙ step-linear joined low joined_small (omega (arith, low_small)) ∙ ap (bit_xor (step joined)) low-moved))
  where
    top : ℕ
    top = number / 2 ^ count % 2

    low : ℕ
    low = number % 2 ^ count * 2 ^ rest

    joined : ℕ
    joined = bit_xor remainder (top * 0x8000)

    bits : count + rest ≡ 15
    bits = omega arith

    low_small : low < 0x8000
    low_small = shifted-small (number % 2 ^ count) count rest 15 bits (mod-lt number (pow_pos count))

    joined_small : joined < 0x10000
    joined_small = xor_lt 16 remainder (top * 0x8000) h (omega (arith, bit (number / 2 ^ count)))

    entering : number % 2 ^ suc count * 2 ^ rest ≡ bit_xor (top * 0x8000) low
    entering =
        ap (λ (x : ℕ). x * 2 ^ rest) (bits-split count number)
        ∙ shifted_sum top (number % 2 ^ count) count rest bits
        ∙ sym (xor_shifted top 15 low low_small)

    low-moved : step low ≡ number % 2 ^ count * 2 ^ suc rest
    low-moved = step-low low low_small ∙ mul_assoc (number % 2 ^ count) (2 ^ rest) 2
        ∙ ap (λ (x : ℕ). number % 2 ^ count * x) (sym (pow-suc 2 rest))

-- `count` steps, from what the bits above `rest` give by themselves and the bits below moved up
pub high-and-low : (count rest high low : ℕ) → count + rest ≡ 16 → high < 2 ^ count → low < 2 ^ rest
    → steps count (high * 2 ^ rest + low) ≡ bit_xor (steps count (high * 2 ^ rest)) (low * 2 ^ count)
high-and-low count rest high low e h g =
    ap (steps count) (sym (xor_shifted high rest low g))
    ∙ steps-linear count (high * 2 ^ rest) low (shifted-small high count rest 16 e h)
    (omega (arith, moved, at_least low (2 ^ count) (pow_pos count)))
    ∙ ap (bit_xor (steps count (high * 2 ^ rest))) (steps_low count low moved)
  where
    moved : low * 2 ^ count < 0x10000
    moved = shifted-small low rest count 16 (omega arith) g

-- ---- a whole byte, by what the table holds for it

-- the remainder after a byte: the low byte moved up, and eight steps from the high byte that the byte has joined
pub byte-entered : (byte remainder : ℕ) → byte < 0x100 → remainder < 0x10000
    → bits_entered 8 byte remainder
    ≡ bit_xor (remainder * 0x100 % 0x10000) (steps 8 (bit_xor (remainder / 0x100) byte * 0x100))
byte-entered byte remainder h g =
    bits-together 8 8 byte remainder refl g
    ∙ ap (steps 8) joined
    ∙ high-and-low 8 8 (bit_xor high byte) low refl (xor_lt 8 high byte (omega arith) h) (omega arith)
    ∙ ap (bit_xor (steps 8 (bit_xor high byte * 0x100))) (omega arith)
    ∙ xor_comm (steps 8 (bit_xor high byte * 0x100)) (remainder * 0x100 % 0x10000)
  where
    high : ℕ
    high = remainder / 0x100

    low : ℕ
    low = remainder % 0x100

    joined : bit_xor remainder (byte % 0x100 * 0x100) ≡ bit_xor high byte * 0x100 + low
    joined =
        ap₂ bit_xor (sym (div-add-mod' remainder 0x100)) (omega arith)
        ∙ xor_block 8 high byte low 0 (omega arith) (omega arith)
        ∙ ap (λ (x : ℕ). bit_xor high byte * 0x100 + x) (xor_zero_r low)

-- ---- a list of bytes, one byte further on

pub divided-on : (bytes : List ℕ) (i remainder : ℕ) → i < length bytes
    → divided (drop i bytes) remainder ≡ divided (drop (i + 1) bytes) (bits_entered 8 (get_or bytes i 0) remainder)
unfolding divided
divided-on bytes i remainder h = rw (add-one, drop-cons bytes i 0)

-- ---- the three values of document 01

pub no_bytes : check_word [] ≡ 0x0000
unfolding check_word divided
no_bytes = refl

pub all_ones : check_word (0xFF ∷ []) ≡ 0x00FF
unfolding check_word divided bits_entered entered step
all_ones = refl

pub all-zeros : check_word (0x00 ∷ []) ≡ 0x1E0F
unfolding check_word divided bits_entered entered step
all-zeros = refl
