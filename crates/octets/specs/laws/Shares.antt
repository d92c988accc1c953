-- A store or the marks, cut into shares of one width, a share to a slot: what is written into one share is written into
-- the whole, and no other share changes.
use Rattle.std.specs.Prelude.{ℕ, suc, ◌+◌, ◌*◌, ◌≤◌, ◌<◌, ◌≡◌, List, [], ◌∷◌, ◌≢◌, length, get_or, set, take, drop}
use Rattle.std.proofs.Common.{sym, ap, ◌∙◌, mul-le-mul_right, arith, get_or-take, get_or-drop}
use Rattle.std.proofs.Math.Decide.{dec_le}
use Rattle.octets.specs.Octets.{over, part, share}
use Rattle.octets.specs.laws.Over.{part_length, over-before, over-after, over-one, over-within}

-- a byte of a part is a byte of the whole
pub part_at : (l : List ℕ) (a k i : ℕ) → i < k → get_or (part l a k) i 0 ≡ get_or l (a + i) 0
part_at l a k i h = rw (get_or-take k (drop a l) i 0 h, get_or-drop)

module _ (w i j : ℕ) (l run : List ℕ) (fits : j + length run ≤ w) (inside : i * w + w ≤ length l) where
  -- the share that is written
  pub share-over : share w i (over l (i * w + j) run) ≡ over (share w i l) j run
  share-over = over-within l (i * w) w j run fits inside

  -- every other share
  pub share_other : (k : ℕ) → i ≢ k → share w k (over l (i * w + j) run) ≡ share w k l
  share_other k d = go (dec_le i k)
    where
      go : Dec (i ≤ k) → share w k (over l (i * w + j) run) ≡ share w k l
      go (yes e) =
          let t : suc i ≤ k = omega arith in
          ap (take w) (over-after l (i * w + j) run (omega arith) (k * w) (omega (arith, mul-le-mul_right w t)))
      go (no e) =
          let t : suc k ≤ i = omega arith in
          over-before l (i * w + j) run (omega arith) (k * w) w (omega (arith, mul-le-mul_right w t))

-- one byte stored, as a mark is
module _ (w i j v : ℕ) (l : List ℕ) (h : j < w) (inside : i * w + w ≤ length l) where
  one : set l (i * w + j) v ≡ over l (i * w + j) (v ∷ [])
  one = over-one l (i * w + j) v (omega arith)

  pub share-set : share w i (set l (i * w + j) v) ≡ set (share w i l) j v
  share-set =
      rw one (share-over w i j l (v ∷ []) (omega arith) inside
      ∙ sym (over-one (share w i l) j v (rw (part_length l (i * w) w inside) h)))

  pub share-set-other : (k : ℕ) → i ≢ k → share w k (set l (i * w + j) v) ≡ share w k l
  share-set-other k d = rw one (share_other w i j l (v ∷ []) (omega arith) inside k d)
