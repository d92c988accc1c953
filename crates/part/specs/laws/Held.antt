-- The segments of the marked numbers: each is what is read at its number, their numbers are the marked ones, and any
-- list of segments that a part holds has the same ones.
use Rattle.std.specs.Prelude.{◌≡◌, refl, ◌↔◌, List, [], ◌∷◌, ℕ, zero, suc, ◌+◌, ◌≤◌, ◌<◌, get_or}
use Rattle.std.proofs.Common.{sym, ap, subst, ◌∙◌, inl, inr, arith}
use Rattle.cut.specs.laws.Lists.{each_map, each-among}
use Rattle.cut.specs.Requirement.{Segment}
use Rattle.cut.specs.laws.Segment.{Numbered, Same, Agree, among-numbered}
use Rattle.cut.specs.laws.Order.{SameSet}
use Rattle.cut.specs.laws.Marks.{Marked}
use Rattle.cut.specs.Lists.{Each, Among}
use Rattle.part.specs.Memory.{Memory, segment_at, marked_from, held_in}

-- each segment is what is read at its number
abbrev pub Reads : Memory → List Segment → Type 0
Reads m ss = Each (λ s. segment_at m s.number ≡ s) ss

pub at-number : (m : Memory) (n : ℕ) → (segment_at m n).number ≡ n
unfolding segment_at
at-number m n = refl

-- the segment of a number that is in
pub at-among : (m : Memory) (n : ℕ) (ss : List Segment) → Reads m ss → Numbered n ss → Among (segment_at m n) ss
at-among m n [] r i = absurd i
at-among m n (s ∷ ss) r (inl e) = inl (sym r.0 ∙ ap (segment_at m) e)
at-among m n (s ∷ ss) r (inr i) = inr (at-among m n ss r.1 i)

-- ---- those of the marked numbers

from-reads : (m : Memory) (i : ℕ) (marks : List ℕ) → Reads m (marked_from m i marks)
from-reads m i [] = tt
from-reads m i (zero ∷ ms) = from-reads m (suc i) ms
from-reads m i (suc k ∷ ms) = (ap (segment_at m) (at-number m i), from-reads m (suc i) ms)

from_low : (m : Memory) (i n : ℕ) (marks : List ℕ) → Numbered n (marked_from m i marks) → i ≤ n
from_low m i n [] h = absurd h
from_low m i n (zero ∷ ms) h = omega (arith, from_low m (suc i) n ms h)
from_low m i n (suc k ∷ ms) (inl e) = omega (arith, at-number m i)
from_low m i n (suc k ∷ ms) (inr h) = omega (arith, from_low m (suc i) n ms h)

shift : (i j : ℕ) → i + suc j ≡ suc i + j
shift i j = omega arith

numbered-marked : (m : Memory) (i j : ℕ) (marks : List ℕ) → Numbered (i + j) (marked_from m i marks) → 0 < get_or marks j 0
numbered-marked m i j [] h = absurd h
numbered-marked m i zero (zero ∷ ms) h = absurd (omega (arith, from_low m (suc i) (i + 0) ms h))
numbered-marked m i (suc j) (zero ∷ ms) h = numbered-marked m (suc i) j ms (rw shift at h)
numbered-marked m i zero (suc k ∷ ms) h = omega arith
numbered-marked m i (suc j) (suc k ∷ ms) (inl e) = absurd (omega (arith, at-number m i))
numbered-marked m i (suc j) (suc k ∷ ms) (inr h) =
    numbered-marked m (suc i) j ms (subst (λ n. Numbered n (marked_from m (suc i) ms)) (shift i j) h)

marked-numbered : (m : Memory) (i j : ℕ) (marks : List ℕ) → 0 < get_or marks j 0 → Numbered (i + j) (marked_from m i marks)
marked-numbered m i zero [] h = absurd (omega arith)
marked-numbered m i (suc j) [] h = absurd (omega arith)
marked-numbered m i zero (zero ∷ ms) h = absurd (omega arith)
marked-numbered m i (suc j) (zero ∷ ms) h = rw shift (marked-numbered m (suc i) j ms h)
marked-numbered m i zero (suc k ∷ ms) h = inl (omega (arith, at-number m i))
marked-numbered m i (suc j) (suc k ∷ ms) h =
    inr (subst (λ n. Numbered n (marked_from m (suc i) ms)) (sym (shift i j)) (marked-numbered m (suc i) j ms h))

from_zero : (n : ℕ) → 0 + n ≡ n
from_zero n = omega arith

pub held_reads : (m : Memory) → Reads m (held_in m)
unfolding held_in
held_reads m = from-reads m 0 m.marks

pub held-numbered : (m : Memory) (n : ℕ) → (0 < get_or m.marks n 0) ↔ Numbered n (held_in m)
unfolding held_in
held-numbered m n = (
  (λ h. rw from_zero at (marked-numbered m 0 n m.marks h)),
  (λ h. numbered-marked m 0 n m.marks (rw from_zero h)),
)

pub held-marked : (m : Memory) → Each (λ x. x ≤ 1) m.marks → Marked m.marks (held_in m)
held-marked m b = record { bits = b; marked = held-numbered m }

-- ---- any two lists that read so, of the same numbers

reads-into : (m : Memory) (ss ts : List Segment) → Reads m ss → Reads m ts → Marked m.marks ss → Marked m.marks ts
    → (s : Segment) → Among s ss → Among s ts
reads-into m ss ts a b h k s i =
    let e : segment_at m s.number ≡ s = each-among (λ x. segment_at m x.number ≡ x) s ss a i in
    rw e at (at-among m s.number ts b ((k.marked s.number).0 ((h.marked s.number).1 (among-numbered s ss i))))

pub reads_same : (m : Memory) (ss ts : List Segment) → Reads m ss → Reads m ts → Marked m.marks ss
    → Marked m.marks ts → SameSet ss ts
reads_same m ss ts a b h k = record { there = reads-into m ss ts a b h k; back = reads-into m ts ss b a k h }

read_same : (m : Memory) (s t : Segment) → segment_at m s.number ≡ s → segment_at m t.number ≡ t → Same s t
unfolding Same
read_same m s t a b e =
    let x : s ≡ t = sym a ∙ ap (segment_at m) e ∙ b in
    (ap (λ (y : Segment). y.last) x, ap (λ (y : Segment). y.bytes) x)

-- and segments that read so agree
pub reads-agree : (m : Memory) (ss : List Segment) → Reads m ss → Agree ss
reads-agree m [] r = tt
reads-agree m (s ∷ ss) r = (each_map (λ t e. read_same m s t r.0 e) ss r.1, reads-agree m ss r.1)
