-- Laws of a run of bytes laid over a list: the length is kept; what stands inside, before and after the run; and how a
-- run that was laid over a part, lent as `&mut l[a..e]`, reads on the whole.
use Rattle.std.specs.Prelude.{ℕ, suc, ◌+◌, ◌-◌, ◌≤◌, ◌<◌, ◌≡◌, refl, List, [], ◌∷◌, ◌++◌, get_or, set, take}
use Rattle.std.proofs.Common.{sym, ◌∙◌, append_assoc, add-zero, zero-add, add_assoc, add-one, length-append, length-drop, take-append-drop, take_at, take-take, take-add, get_or-drop}
use Rattle.std.proofs.Math.Path.{ap, subst}
use native.Mathlib.Omega.{arith}
use borrow.Rule.Slice.PartMut.{mid_of, put_mid, Post-is}
use Rattle.std.proofs.Math.ListN.{length, drop, length-take}
use Rattle.std.proofs.lemmas.List.{length-replicate, set_split, drop-take}
use Rattle.std.proofs.Math.Seq.{length-take-le, drop_at, drop-drop, drop-append-le, take-append-le, paste-zero, paste-suc, append_snoc}
use Rattle.octets.specs.Octets.{over, zeros, part}

pub part_length : (l : List ℕ) (a k : ℕ) → a + k ≤ length l → length (part l a k) ≡ k
part_length l a k h = simp (length-take, length-drop) (omega arith)

-- a part of a part
pub part-part : (l : List ℕ) (a k b n : ℕ) → b + n ≤ k → a + k ≤ length l → part (part l a k) b n ≡ part l (a + b) n
part-part l a k b n h g =
    let e : b + (k - b) ≡ k = omega arith in
    let d : drop b (part l a k) ≡ take (k - b) (drop b (drop a l)) =
    subst (λ (j : ℕ). drop b (take j (drop a l)) ≡ take (k - b) (drop b (drop a l))) e
    (drop-take b (k - b) (drop a l)) in
    rw (d, take-take n (k - b) (drop b (drop a l)) (omega arith), drop-drop) refl

-- ---- the run itself, and what it leaves alone

module _ (l : List ℕ) (at : ℕ) (run : List ℕ) (fits : at + length run ≤ length l) where
  head-length : length (take at l ++ run) ≡ at + length run
  head-length = simp (length-append, length-take) (omega arith)

  pub over-length : length (over l at run) ≡ length l
  unfolding over
  over-length = simp (length-append, length-take, length-drop) (omega arith)

  pub over-inside : part (over l at run) at (length run) ≡ run
  unfolding over
  over-inside =
      let t : length (take at l) ≡ at = length-take-le at l (omega arith) in
      rw (append_assoc, drop_at (take at l) (run ++ drop (at + length run) l) at t)
      (take_at run (drop (at + length run) l) (length run) refl)

  pub over-after : (a : ℕ) → at + length run ≤ a → drop a (over l at run) ≡ drop a l
  unfolding over
  over-after a h =
      let e : at + length run + (a - (at + length run)) ≡ a = omega arith in
      let d : drop (at + length run) (over l at run) ≡ drop (at + length run) l =
      drop_at (take at l ++ run) (drop (at + length run) l) (at + length run) head-length in
      subst (λ (k : ℕ). drop k (over l at run) ≡ drop k l) e
      (sym (drop-drop (a - (at + length run)) (at + length run) (over l at run)) ∙ ap (drop (a - (at + length run))) d
      ∙ drop-drop (a - (at + length run)) (at + length run) l)

  -- one byte past the run
  pub over-past : (i : ℕ) → at + length run ≤ i → get_or (over l at run) i 0 ≡ get_or l i 0
  over-past i h = sym (first (over l at run)) ∙ ap (λ (r : List ℕ). get_or r 0 0) (over-after i h) ∙ first l
    where
      first : (r : List ℕ) → get_or (drop i r) 0 0 ≡ get_or r i 0
      first r = rw (get_or-drop i r 0 0, add-zero)

  pub over-before : (a k : ℕ) → a + k ≤ at → part (over l at run) a k ≡ part l a k
  unfolding over
  over-before a k h =
      let t : length (take at l) ≡ at = length-take-le at l (omega arith) in
      let d : drop a (take at l ++ (run ++ drop (at + length run) l)) ≡ drop a (take at l)
      ++ (run ++ drop (at + length run) l) = drop-append-le a (take at l) (run ++ drop (at + length run) l)
      (omega arith) in
      let g : k ≤ length (drop a (take at l)) = simp (length-drop, length-take) (omega arith) in
      rw (append_assoc, d, take-append-le k (drop a (take at l)) (run ++ drop (at + length run) l) g)
      (part-part l 0 at a k h (omega arith) ∙ ap (λ (j : ℕ). part l j k) (zero-add a))

-- one byte stored
pub over-one : (l : List ℕ) (i v : ℕ) → i < length l → set l i v ≡ over l i (v ∷ [])
unfolding over
over-one l i v h = rw (set_split l i v h, ← append_snoc (take i l) v (drop (suc i) l), add-one)

-- nothing copied yet, and one byte more: a turn of a loop that copies
pub over_none : (l : List ℕ) (at : ℕ) (run : List ℕ) → l ≡ over l at (take 0 run)
unfolding over
over_none l at run = paste-zero l at run

pub over-more : (l : List ℕ) (at : ℕ) (run : List ℕ) (i : ℕ) → at + i < length l → i < length run
    → set (over l at (take i run)) (at + i) (get_or run i 0) ≡ over l at (take (i + 1) run)
unfolding over
over-more l at run i h g =
    rw (add-one, length-take-le i run (omega arith), length-take-le (suc i) run g) (paste-suc l at run i 0 h g)

-- ---- a part that was lent and is back

over-part : (d : List ℕ) (k i : ℕ) (run : List ℕ) → i + length run ≤ k → k ≤ length d → over (take k d) i run
    ++ drop k d ≡ over d i run
unfolding over
over-part d k i run h g =
    let m : i + length run ≤ length (take k d) = rw length-take (omega arith) in
    rw (
      append_assoc (take i (take k d) ++ run),
      take-take i k d (omega arith),
      ← drop-append-le (i + length run) (take k d) (drop k d) m,
      take-append-drop,
    )

over-from : (l : List ℕ) (a i : ℕ) (run : List ℕ) → take a l ++ over (drop a l) i run ≡ over l (a + i) run
unfolding over
over-from l a i run = simp (take-add, drop-drop, append_assoc, add_assoc)

-- what was laid over the part is laid over the whole
pub over-whole : (l : List ℕ) (a k i : ℕ) (run : List ℕ) → i + length run ≤ k → a + k ≤ length l
    → put_mid a k l (over (mid_of a k l) i run) ≡ over l (a + i) run
over-whole l a k i run h g =
    let m : k ≤ length (drop a l) = rw length-drop (omega arith) in
    rw (over-part (drop a l) k i run h m) (over-from l a i run)

-- the same from the part's start
pub over-start : (l : List ℕ) (a k : ℕ) (run : List ℕ) → length run ≤ k → a + k ≤ length l
    → put_mid a k l (over (mid_of a k l) 0 run) ≡ over l a run
over-start l a k run h g = over-whole l a k 0 run (omega arith) g ∙ ap (λ (at : ℕ). over l at run) (add-zero a)

-- the part was replaced whole
pub over-exact : (l : List ℕ) (a e : ℕ) (run : List ℕ) → a + length run ≡ e → put_mid a (e - a) l run ≡ over l a run
unfolding over
over-exact l a e run h = rw (Post-is a e l (omega arith), h, append_assoc)

-- bytes moved inside the part were moved inside the whole
pub moved-whole : (l : List ℕ) (a k from to n : ℕ) → to ≤ from → from + n ≤ k → a + k ≤ length l
    → put_mid a k l (over (mid_of a k l) to (part (mid_of a k l) from n)) ≡ over l (a + to) (part l (a + from) n)
moved-whole l a k from to n d h g =
    let m : length (part l (a + from) n) ≡ n = part_length l (a + from) n (omega arith) in
    rw (part-part l a k from n h g) (over-whole l a k to (part l (a + from) n) (omega arith) g)

pub zeros-length : (n : ℕ) → length (zeros n) ≡ n
unfolding zeros
zeros-length n = length-replicate n 0

-- the part was cleared
pub cleared-whole : (l : List ℕ) (a e : ℕ) → a ≤ e → e ≤ length l
    → put_mid a (e - a) l (zeros (length (mid_of a (e - a) l))) ≡ over l a (zeros (e - a))
cleared-whole l a e h g =
    rw (part_length l a (e - a) (omega arith)) (over-exact l a e (zeros (e - a)) (rw zeros-length (omega arith)))

-- a run inside a part, read as a run over that part
pub over-within : (l : List ℕ) (a k i : ℕ) (run : List ℕ) → i + length run ≤ k → a + k ≤ length l
    → part (over l (a + i) run) a k ≡ over (part l a k) i run
over-within l a k i run h g =
    let n : length (over (part l a k) i run) ≡ k = over-length (part l a k) i run (rw (part_length l a k g) h)
    ∙ part_length l a k g in
    let t : length (take a l) ≡ a = length-take-le a l (omega arith) in
    rw (← over-whole l a k i run h g, drop_at (take a l) (over (part l a k) i run ++ drop k (drop a l)) a t)
    (take_at (over (part l a k) i run) (drop k (drop a l)) k n)
