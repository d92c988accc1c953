-- What holds of every line: a group that it asks for fits the memory that is lent for it, and what is kept of a line
-- asks for the same as the whole line.
use Rattle.std.specs.Prelude.{◌≡◌, refl, Bool, true, false, ◌&&◌, cond, List, [], ◌∷◌, ◌++◌, map, ℕ, ◌/◌, ◌≤◌, ◌<◌, eqb, leb, length, take, drop, get_or}
use Rattle.std.proofs.Common.{sym, ap, ap₂, ◌∙◌, arith, length-append, length-take, length-drop, take_all, leb-true, leb-false}
use Rattle.std.proofs.lemmas.Bool.{lt-leb}
use Rattle.listing_input.specs.Hex.{is_hex, bytes_of}
use Rattle.listing_input.specs.Line.{Asked, dropping, neither, check_of, word_of, asked_by, asked_of, left}
use Rattle.listing_input.specs.Split.{lines_of}
use Rattle.listing_input.specs.Gather.{most}
use Rattle.listing_input.specs.laws.Chunks.{joined, Hands, fronts, lines-handed-out}

-- two digits to a byte
pub bytes-length : (text : List ℕ) → length (bytes_of text) ≡ length text / 2
unfolding bytes_of
bytes-length [] = refl
bytes-length (alone ∷ []) = refl
bytes-length (high ∷ low ∷ text) = omega (arith, bytes-length text)

-- ---- 8,217 bytes hold every group that a line asks for: 8,215 and the CRC

picked : (test : Bool) (a b : Asked) (room : ℕ) → length (left a) ≤ room → length (left b) ≤ room
    → length (left (cond test a b)) ≤ room
picked true a b room h g = h
picked false a b room h g = g

by-letter : (letter : ℕ) (digits : List ℕ) → length digits ≤ 16430 → length (left (asked_by letter digits)) ≤ 8217
unfolding asked_by check_of
by-letter letter digits h =
    let whole : length (bytes_of digits) ≤ 8217 = omega (arith, bytes-length digits) in
    let checked : length (bytes_of digits ++ check_of (bytes_of digits)) ≤ 8217 =
    omega (arith, bytes-length digits, length-append (bytes_of digits) (check_of (bytes_of digits))) in
    picked (eqb letter 0x47) _ _ 8217 whole
    (picked (eqb letter 0x42) _ _ 8217 checked
    (picked (eqb letter 0x44 && eqb (length digits) 4) (dropping (word_of (bytes_of digits))) neither 8217 (omega arith)
    (omega arith)))

pub group-fits : (line : List ℕ) → length (left (asked_of line)) ≤ 8217
unfolding asked_of
group-fits line = fits (leb (length line) 16432) refl
  where
    fits : (short : Bool) → short ≡ leb (length line) 16432
        → length (left (cond (short && eqb (get_or line 1 0) 0x09 && is_hex (drop 2 line))
        (asked_by (get_or line 0 0) (drop 2 line)) neither)) ≤ 8217
    fits false e = omega arith
    fits true e =
        let short = leb-true (length line) 16432 (sym e) in
        picked (eqb (get_or line 1 0) 0x09 && is_hex (drop 2 line)) (asked_by (get_or line 0 0) (drop 2 line)) neither 8217
        (by-letter (get_or line 0 0) (drop 2 line) (rw length-drop (omega arith))) (omega arith)

-- ---- what is kept of a line is enough

pub too_long : (line : List ℕ) → 16432 < length line → asked_of line ≡ neither
unfolding asked_of
too_long line h = rw (lt-leb (length line) 16432 h)

pub front-asks : (line : List ℕ) → asked_of (take most line) ≡ asked_of line
front-asks line = asks (leb (length line) 16432) refl
  where
    asks : (short : Bool) → short ≡ leb (length line) 16432 → asked_of (take most line) ≡ asked_of line
    asks true e = let short = leb-true (length line) 16432 (sym e) in ap asked_of (take_all most line (omega arith))
    asks false e =
        let long = leb-false (length line) 16432 (sym e) in
        too_long (take most line) (rw length-take (omega arith)) ∙ sym (too_long line long)

fronts-ask : (lines : List (List ℕ)) → map asked_of (fronts lines) ≡ map asked_of lines
fronts-ask [] = refl
fronts-ask (line ∷ lines) = ap₂ (λ (first : Asked) (others : List Asked). first ∷ others) (front-asks line)
    (fronts-ask lines)

-- whatever the chunks, what is asked for is what the lines of the input ask for, line by line
pub input-asks : {chunks lines : List (List ℕ)} {line : List ℕ} → length line ≡ most → Hands chunks 0 line 0 lines
    → map asked_of lines ≡ map asked_of (lines_of (joined chunks))
input-asks {chunks} long hands = ap (map asked_of) (lines-handed-out long hands) ∙ fronts-ask (lines_of (joined chunks))
