-- The bytes of a share under the two moves: each segment stays in its place, or gets to it once the size is known.
use Rattle.std.specs.Prelude.{◌≡◌, refl, ◌≢◌, ◌⊎◌, Bool, true, false, List, ℕ, zero, suc, ◌+◌, ◌-◌, ◌*◌, ◌≤◌, ◌<◌, length, take, drop}
use Rattle.std.proofs.Common.{ap, ◌∙◌, inl, inr, mul-le-mul_right, zero-mul, arith, length-take, length-drop}
use Rattle.std.proofs.Math.Decide.{dec_le}
use Rattle.octets.specs.Octets.{over}
use Rattle.octets.specs.laws.Over.{over-length, over-inside, over-after, over-before}
use Rattle.cut.specs.laws.Segment.{SitsAs}
use Rattle.cut.specs.laws.Decision.{EndSits}
use Rattle.part.specs.Memory.{place_of}
use Rattle.part.specs.Moves.{moved_as}
use Rattle.part.specs.laws.Keeps.{LaidAs}

-- once the size is known, a segment stands at its number times the size
pub place-known : (last : Bool) (size width n k : ℕ) → 0 < size → place_of last size width n k ≡ n * size
place-known false size width n k z = refl
place-known true zero width n k z = absurd (omega arith)
place-known true (suc size) width n k z = refl

-- ---- the size becomes known

pub tail-length : (tail : ℕ) (share : List ℕ) → tail ≤ length share
    → length (take tail (drop (length share - tail) share)) ≡ tail
tail-length tail share h = simp (length-take, length-drop) (omega arith)

pub moved_length : (old new S L end tail : ℕ) (share : List ℕ) → EndSits S L end tail → L ≤ length share → (new ≡ 0)
    ⊎ (new ≡ S) → length (moved_as old new end tail share) ≡ length share
moved_length (suc old) new S L end tail share e h d = refl
moved_length zero zero S L end tail share e h d = refl
moved_length zero (suc new) S L zero tail share e h d = refl
moved_length zero (suc new) S L (suc zero) tail share e h d = refl
moved_length zero (suc new) S L (suc (suc n)) tail share e h (inl d) = absurd (omega arith)
moved_length zero (suc new) S L (suc (suc n)) tail share e h (inr d) =
    let x : suc n * suc new ≡ suc n * S = ap (λ (y : ℕ). suc n * y) d in
    over-length share (suc n * suc new) (take tail (drop (length share - tail) share))
    (omega (arith, tail-length tail share (omega arith)))

-- the last segment, that stood at the end of the share
moved-last : (place : ℕ) (share bytes : List ℕ) → place + length bytes ≤ length share
    → take (length bytes) (drop (length share - length bytes) share) ≡ bytes
    → take (length bytes)
    (drop place (over share place (take (length bytes) (drop (length share - length bytes) share)))) ≡ bytes
moved-last place share bytes h e = rw e (over-inside share place bytes h)

-- a segment is in its place, under the size that is known now
pub moved-laid : (last : Bool) (old new S L end tail n : ℕ) (share bytes : List ℕ) → SitsAs last S L n (length bytes)
    → L ≤ length share → (old ≡ 0) ⊎ (old ≡ S) → new ≡ S
    → (old ≡ 0 → (last ≡ true) × (end ≡ suc n) × (tail ≡ length bytes)) → LaidAs last old share n bytes
    → LaidAs last new (moved_as old new end tail share) n bytes
moved-laid last (suc old) new S L end tail n share bytes t h (inl d) e u p = absurd (omega arith)
moved-laid last (suc old) new S L end tail n share bytes t h (inr d) e u p = let q : new ≡ suc old = omega arith in
    rw q p
moved-laid last zero zero S L end tail n share bytes t h d e u p = p
moved-laid false zero (suc new) S L end tail n share bytes t h d e u p = let a = u refl in let y : ◌≡◌ {A = ℕ} 0 1 =
    cc in absurd (omega arith)
moved-laid true zero (suc new) S L end tail zero share bytes t h d e u p = let a = u refl in rw (a.1, zero-mul) p
moved-laid true zero (suc new) S L end tail (suc n) share bytes t h d e u p =
    let a = u refl in
    let x : suc n * suc new ≡ suc n * S = ap (λ (y : ℕ). suc n * y) e in
    rw (a.1, a.2) (moved-last (suc n * suc new) share bytes (omega (arith, t.0)) p)

-- ---- a segment is written to its place

pub put-laid : (last : Bool) (size n : ℕ) (share bytes : List ℕ) → place_of last size (length share) n (length bytes) +
    length bytes ≤ length share
    → LaidAs last size (over share (place_of last size (length share) n (length bytes)) bytes) n bytes
put-laid last size n share bytes h =
    rw (over-length share (place_of last size (length share) n (length bytes)) bytes h)
    (over-inside share (place_of last size (length share) n (length bytes)) bytes h)

-- another one's bytes stay
other-stays : (share : List ℕ) (size i j : ℕ) (bytes others : List ℕ) → i ≢ j → length bytes ≤ size
    → length others ≤ size → i * size + length bytes ≤ length share
    → take (length others) (drop (j * size) (over share (i * size) bytes))
    ≡ take (length others) (drop (j * size) share)
other-stays share size i j bytes others d a b h = go (dec_le i j)
  where
    go : Dec (i ≤ j) → take (length others) (drop (j * size) (over share (i * size) bytes))
        ≡ take (length others) (drop (j * size) share)
    go (yes g) =
        let t : suc i ≤ j = omega arith in
        ap (take (length others))
        (over-after share (i * size) bytes h (j * size) (omega (arith, mul-le-mul_right size t)))
    go (no g) =
        let t : suc j ≤ i = omega arith in
        over-before share (i * size) bytes h (j * size) (length others) (omega (arith, mul-le-mul_right size t))

pub put_other : (last last' : Bool) (size i n : ℕ) (share bytes others : List ℕ) → 0 < size → i ≢ n
    → length bytes ≤ size → length others ≤ size → i * size + length bytes ≤ length share
    → LaidAs last' size share n others
    → LaidAs last' size (over share (place_of last size (length share) i (length bytes)) bytes) n others
put_other last last' size i n share bytes others z d f g h p =
    rw (
      place-known last size (length share) i (length bytes) z,
      place-known last' size (length (over share (i * size) bytes)) n (length others) z,
    )
    (other-stays share size i n bytes others d f g h
    ∙ (rw (place-known last' size (length share) n (length others) z) at p))
