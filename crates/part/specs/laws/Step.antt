-- One part that keeps segments: each reads back, and the two moves keep them.
use Rattle.std.specs.Prelude.{◌≡◌, refl, ◌≢◌, ◌⊎◌, ◌↔◌, Bool, true, false, List, [], ◌∷◌, length, get_or, set, eqb, leb}
use Rattle.std.proofs.Common.{sym, ap, ◌∙◌, subst, inl, inr, lt_of_mul-lt-mul_right, get_or-set_same, get_or-set_other, eqb-true, eq-eqb, ne_eqb, le-leb}
use Prim.Native.Nat.{ℕ, zero, suc, ◌+◌, ◌*◌, ◌≤◌, ◌<◌}
use Rattle.std.proofs.Math.Nat.{div-eq_of_eq-mul_left}
use Rattle.std.proofs.Math.Decide.{ℕ_discrete}
use native.Mathlib.Omega.{arith}
use Rattle.octets.specs.Octets.{over}
use Rattle.octets.specs.laws.Over.{over-length}
use Rattle.cut.specs.laws.Lists.{each_map, each-zip, each-zip3}
use Rattle.cut.specs.Requirement.{Segment}
use Rattle.cut.specs.declared.Bounds.{Bounds}
use Rattle.cut.specs.declared.Record.{Record}
use Rattle.cut.specs.Kept.{derived, settle, Summary, summary, record_of}
use Rattle.cut.specs.laws.Segment.{SitsAs, Sits, inside, Numbered, not-numbered}
use Rattle.cut.specs.laws.Decision.{TopSits, EndSits, SumSits, Clear, sits-sum}
use Rattle.cut.specs.laws.Object.{WithinOf}
use Rattle.cut.specs.laws.Order.{KnowsAs, Knows, knows-each}
use Rattle.cut.specs.laws.Marks.{Marked}
use Rattle.cut.specs.Lists.{pick, Each}
use Rattle.part.specs.Memory.{Memory, place_of, length_of, segment_as, segment_at}
use Rattle.part.specs.Moves.{moved_as, settled, put}
use Rattle.part.specs.laws.Inside.{derived-is, sits-before, place-lies}
use Rattle.part.specs.laws.Keeps.{Laid, Keeps}
use Rattle.part.specs.laws.Bytes.{moved_length, moved-laid, put-laid, put_other}

-- the segments are those of a part of length L cut at S, within the bounds, and the share has room for it
pub record Room (b : Bounds) (S L : ℕ) (m : Memory) (ss : List Segment) : Type 0 where
  pub within : WithinOf b S L
  pub space : L ≤ length m.share
  pub sits : Each (Sits S L) ss

-- ---- the record of such segments

-- the size in the record is 0 or that of the cut, and 0 only where no full segment is in
size-as : (b : Bounds) (S L top size end tail : ℕ) → WithinOf b S L → TopSits S L top size → EndSits S L end tail
    → (pick (leb 1 top) size (derived b end tail) ≡ 0) ⊎ (pick (leb 1 top) size (derived b end tail) ≡ S)
size-as b S L zero size end tail w t e = derived-is b S L end tail w e
size-as b S L (suc n) size end tail w t e = inr (rw (le-leb 1 (suc n) (omega arith)) t.0)

none-as : (S L top size other : ℕ) → 0 < S → TopSits S L top size → pick (leb 1 top) size other ≡ 0 → top ≡ 0
none-as S L zero size other z t e = refl
none-as S L (suc n) size other z t e = let x : size ≡ 0 = rw (le-leb 1 (suc n) (omega arith)) at e in
    absurd (omega (arith, t.0))

last_as : (last : Bool) (n k : ℕ) (σ : Summary) → σ.top ≡ 0 → KnowsAs last n k σ → last ≡ true
last_as true n k σ e h = refl
last_as false n k σ e h = absurd (omega (arith, h.0))

-- what a record says of a segment: whether it is the last one, and its length
pub record Noted (p : Record) (s : Segment) : Type 0 where
  pub flag : s.last ≡ eqb (suc s.number) p.end
  pub long : length s.bytes ≡ length_of s.last p

size_top : (n top size other : ℕ) → suc n ≤ top → pick (leb 1 top) size other ≡ size
size_top n top size other h = rw (le-leb 1 top (omega arith)) refl

not_last : (S L n end tail : ℕ) → suc n * S < L → EndSits S L end tail → suc n ≢ end
not_last S L n zero tail h e x = omega arith
not_last S L n (suc m) tail h e x = let y : m ≡ n = omega arith in let d : m * S ≡ n * S = ap (λ (i : ℕ). i * S) y in
    omega (arith, e.0, e.2)

noted-as : (last : Bool) (b : Bounds) (S L n k : ℕ) (σ : Summary) → KnowsAs last n k σ → SitsAs last S L n k
    → EndSits S L σ.part.end σ.part.tail → (last ≡ eqb (suc n) (record_of b σ).end)
    × (k ≡ length_of last (record_of b σ))
unfolding settle
noted-as true b S L n k σ h t e = (sym (eq-eqb (suc n) σ.part.end (sym h.0)), sym h.1)
noted-as false b S L n k σ h t e = (
  sym (ne_eqb (suc n) σ.part.end (not_last S L n σ.part.end σ.part.tail t.1 e)),
  sym (size_top n σ.top σ.part.size (derived b σ.part.end σ.part.tail) h.0 ∙ h.1),
)

module _ (b : Bounds) (S L : ℕ) (ss : List Segment) (w : WithinOf b S L) (sits : Each (Sits S L) ss) where
  cut-some : 0 < S
  cut-some = omega (arith, w.low)

  sum : Clear ss × SumSits S L (summary ss)
  sum = sits-sum S L ss cut-some sits

  pub size_is : ((record_of b (summary ss)).size ≡ 0) ⊎ ((record_of b (summary ss)).size ≡ S)
  unfolding settle
  size_is = size-as b S L (summary ss).top (summary ss).part.size (summary ss).part.end (summary ss).part.tail w
      sum.1.0 sum.1.1

  -- while it is 0, only the last segment is in
  pub size_none : (record_of b (summary ss)).size ≡ 0 → Each (λ s. s.last ≡ true) ss
  unfolding settle Knows
  size_none e =
      let z : (summary ss).top ≡ 0 = none-as S L (summary ss).top (summary ss).part.size
      (derived b (summary ss).part.end (summary ss).part.tail) cut-some sum.1.0 e in
      each_map (λ s h. last_as s.last s.number (length s.bytes) (summary ss) z h) ss (knows-each ss sum.0)

  pub noted-each : Each (Noted (record_of b (summary ss))) ss
  unfolding Sits Knows
  noted-each =
      each-zip (λ s h t. let r = noted-as s.last b S L s.number (length s.bytes) (summary ss) h t sum.1.1
      in record { flag = r.0; long = r.1 }) ss (knows-each ss sum.0) sits

-- ---- what is kept reads back

segment-is : (m : Memory) (s : Segment) → Noted m.kept s → Laid m.kept.size m.share s
    → segment_at m s.number ≡ s
unfolding segment_at Laid
segment-is m s t p =
    let e : (segment_as s.last m s.number).bytes ≡ s.bytes = rw (← t.long) p in
    subst (λ (last : Bool). segment_as last m s.number ≡ s) t.flag
    (λ i. record { number = s.number; last = s.last; bytes = e i })

pub reads : (b : Bounds) (S L : ℕ) (m : Memory) (ss : List Segment) → Keeps b m ss → Room b S L m ss
    → Each (λ s. segment_at m s.number ≡ s) ss
reads b S L m ss k r = each-zip (λ s n p. segment-is m s n p) ss
    (rw k.kept (noted-each b S L ss r.within r.sits)) k.laid

-- and back: what reads back, with the record that it gives, is kept
pub segment-laid : (m : Memory) (s : Segment) → Noted m.kept s → segment_at m s.number ≡ s
    → Laid m.kept.size m.share s
unfolding segment_at Laid
segment-laid m s t e =
    let g : segment_as s.last m s.number ≡ s = subst (λ (last : Bool). segment_as last m s.number ≡ s)
    (sym t.flag) e in
    rw t.long (ap (λ (x : Segment). x.bytes) g)

pub reads-keeps : (b : Bounds) (S L : ℕ) (m : Memory) (ss : List Segment) → m.kept ≡ record_of b (summary ss)
    → Each (λ s. segment_at m s.number ≡ s) ss → Marked m.marks ss → Room b S L m ss → Keeps b m ss
reads-keeps b S L m ss e h k r = record {
  kept = e;
  laid = each-zip (λ s n p. segment-laid m s n p) ss (rw e (noted-each b S L ss r.within r.sits)) h;
  marked = k;
}

-- ---- the size becomes known

last-facts : (last : Bool) (p : Record) (n k : ℕ) → last ≡ true → last ≡ eqb (suc n) p.end → k ≡ length_of last p
    → (last ≡ true) × (p.end ≡ suc n) × (p.tail ≡ k)
last-facts true p n k e f g = (refl, sym (eqb-true (suc n) p.end (sym f)), sym g)
last-facts false p n k e f g = let z : ◌≡◌ {A = ℕ} 0 1 = cc in absurd (omega arith)

pub each_of : {A : Type 0} {P : Type 0} → P → (xs : List A) → Each (λ x. P) xs
each_of p [] = tt
each_of p (x ∷ xs) = (p, each_of p xs)

moved-each : (b : Bounds) (S L : ℕ) (m : Memory) (ss : List Segment) (new : ℕ) → Keeps b m ss → Room b S L m ss
    → Each (λ s. new ≡ S) ss → Each (Laid new (moved_as m.kept.size new m.kept.end m.kept.tail m.share))
    ss
unfolding Laid Sits
moved-each b S L m ss new k r e =
    each-zip3 step ss r.sits (each-zip (λ s x y. (x, y)) ss e (facts (ℕ_discrete old 0))) k.laid
  where
    old : ℕ
    old = m.kept.size

    known : (old ≡ 0) ⊎ (old ≡ S)
    known = rw k.kept (size_is b S L ss r.within r.sits)

    noted : Each (Noted m.kept) ss
    noted = rw k.kept (noted-each b S L ss r.within r.sits)

    Facts : Segment → Type 0
    Facts s = old ≡ 0 → (s.last ≡ true) × (m.kept.end ≡ suc s.number) × (m.kept.tail ≡ length s.bytes)

    facts : Dec (old ≡ 0) → Each Facts ss
    facts (yes z) =
        each-zip (λ s n l y. last-facts s.last m.kept s.number (length s.bytes) l n.flag n.long) ss
        noted (size_none b S L ss r.within r.sits (rw k.kept at z))
    facts (no z) = each_map (λ s n y. absurd (z y)) ss noted

    step : (s : Segment) → Sits S L s → (new ≡ S) × Facts s → Laid old m.share s
        → Laid new (moved_as old new m.kept.end m.kept.tail m.share) s
    step s t a p = moved-laid s.last old new S L m.kept.end m.kept.tail s.number m.share s.bytes t
        r.space known a.0 a.1 p

-- bounds that have met have one length
abbrev pub Met : Bounds → Type 0
Met b = b.least ≡ b.most

met-derived : (b c : Bounds) (S L end tail : ℕ) → (Met b → Met c) → WithinOf c S L → EndSits S L end tail
    → derived c end tail ≡ 0 → derived b end tail ≡ 0
met-derived b c S L zero tail g w e h = refl
met-derived b c S L (suc zero) tail g w e h = refl
met-derived b c S L (suc (suc n)) tail g w e h = go (ℕ_discrete b.least b.most)
  where
    go : Dec (b.least ≡ b.most) → derived b (suc (suc n)) tail ≡ 0
    go (no x) = rw (ne_eqb b.least b.most x) refl
    go (yes x) =
        let d : derived c (suc (suc n)) tail ≡ S =
        rw (eq-eqb c.least c.most (g x))
        (div-eq_of_eq-mul_left (omega arith) (omega (arith, w.long, w.short, g x))) in
        absurd (omega (arith, w.low))

met-size : (b c : Bounds) (S L : ℕ) (σ : Summary) → (Met b → Met c) → WithinOf c S L
    → EndSits S L σ.part.end σ.part.tail → (record_of c σ).size ≡ 0 → (record_of b σ).size ≡ 0
unfolding settle
met-size b c S L σ g w e h = go σ.top h
  where
    go : (top : ℕ) → pick (leb 1 top) σ.part.size (derived c σ.part.end σ.part.tail) ≡ 0
        → pick (leb 1 top) σ.part.size (derived b σ.part.end σ.part.tail) ≡ 0
    go zero x = met-derived b c S L σ.part.end σ.part.tail g w e x
    go (suc t) x = rw (le-leb 1 (suc t) (omega arith)) (rw (le-leb 1 (suc t) (omega arith)) at x)

-- the same segments, within bounds that may have met
module _ (b c : Bounds) (S L : ℕ) (m : Memory) (ss : List Segment) (k : Keeps b m ss) (r : Room b S L m ss)
    (w : WithinOf c S L) where
  size-then : ((record_of c (summary ss)).size ≡ 0) ⊎ ((record_of c (summary ss)).size ≡ S)
  size-then = size_is c S L ss w r.sits

  ends : EndSits S L (summary ss).part.end (summary ss).part.tail
  ends = (sits-sum S L ss (omega (arith, w.low)) r.sits).1.1

  kept-ends : EndSits S L m.kept.end m.kept.tail
  unfolding settle
  kept-ends = rw k.kept ends

  pub settled-length : length (settled (record_of c (summary ss)) m).share ≡ length m.share
  unfolding settled
  settled-length = moved_length m.kept.size (record_of c (summary ss)).size S L m.kept.end m.kept.tail
      m.share kept-ends r.space size-then

  pub settled-keeps : (Met b → Met c) → Keeps c (settled (record_of c (summary ss)) m) ss
  unfolding settled
  settled-keeps g = record { kept = refl; laid = go size-then; marked = k.marked }
    where
      new : ℕ
      new = (record_of c (summary ss)).size

      go : (new ≡ 0) ⊎ (new ≡ S)
          → Each (Laid new (moved_as m.kept.size new m.kept.end m.kept.tail m.share)) ss
      go (inl e) =
          let z : m.kept.size ≡ 0 = rw k.kept (met-size b c S L (summary ss) g w ends e) in
          rw (e, z) (rw z at k.laid)
      go (inr e) = moved-each b S L m ss new k r (each_of e ss)

-- ---- one segment more

last-below : (S x y : ℕ) → x * S < y * S + S → x ≤ y
last-below S x y h = let g : x * S < suc y * S = omega arith in omega (arith, lt_of_mul-lt-mul_right S g)

-- a part has one last segment
pub one_last : (S L : ℕ) (s t : Segment) → 0 < S → Sits S L s → Sits S L t → s.last ≡ true → t.last ≡ true
    → s.number ≡ t.number
unfolding Sits
one_last S L s t z a b e f =
    let a' : SitsAs true S L s.number (length s.bytes) = rw e at a in
    let b' : SitsAs true S L t.number (length t.bytes) = rw f at b in
    omega (
      arith,
      last-below S s.number t.number (omega (arith, a', b')),
      last-below S t.number s.number (omega (arith, a', b')),
    )

-- with another one in, the size is known
size-other : (c : Bounds) (S L : ℕ) (s : Segment) (ss : List Segment) → WithinOf c S L → Each (Sits S L) (s ∷ ss)
    → Each (λ t. s.number ≢ t.number) ss → Each (λ t. (record_of c (summary (s ∷ ss))).size ≡ S) ss
size-other c S L s ss w sits a = go (size_is c S L (s ∷ ss) w sits)
  where
    go : ((record_of c (summary (s ∷ ss))).size ≡ 0) ⊎ ((record_of c (summary (s ∷ ss))).size ≡ S)
        → Each (λ t. (record_of c (summary (s ∷ ss))).size ≡ S) ss
    go (inr e) = each_of e ss
    go (inl e) =
        let l = size_none c S L (s ∷ ss) w sits e in
        each-zip3 (λ t u f d. absurd (d (one_last S L s t (omega (arith, w.low)) sits.0 u l.0 f))) ss sits.1
        l.1 a

set-bits : (marks : List ℕ) (i : ℕ) → Each (λ m. m ≤ 1) marks → Each (λ m. m ≤ 1) (set marks i 1)
set-bits [] zero e = tt
set-bits [] (suc i) e = tt
set-bits (m ∷ ms) zero e = (omega arith, e.1)
set-bits (m ∷ ms) (suc i) e = (e.0, set-bits ms i e.1)

pub set-marked : (marks : List ℕ) (s : Segment) (ss : List Segment) → s.number < length marks → Marked marks ss
    → Marked (set marks s.number 1) (s ∷ ss)
set-marked marks s ss h k =
    record { bits = set-bits marks s.number k.bits; marked = λ n. go n (ℕ_discrete n s.number) }
  where
    go : (n : ℕ) → Dec (n ≡ s.number) → (0 < get_or (set marks s.number 1) n 0) ↔ Numbered n (s ∷ ss)
    go n (yes d) = ((λ x. inl (sym d)), (λ x. rw (d, get_or-set_same marks s.number 1 0 h) (omega arith)))
    go n (no d) = ((λ x. inr ((k.marked n).0 (rw (get_or-set_other marks s.number n 1 0 d) at x))), back)
      where
        back : Numbered n (s ∷ ss) → 0 < get_or (set marks s.number 1) n 0
        back (inl x) = absurd (d (sym x))
        back (inr x) = rw (get_or-set_other marks s.number n 1 0 d) ((k.marked n).1 x)

module _ (b c : Bounds) (S L : ℕ) (m : Memory) (s : Segment) (ss : List Segment) (k : Keeps b m ss) (w : WithinOf b S L)
    (r : Room c S L m (s ∷ ss)) where
  old : Room b S L m ss
  old = record { within = w; space = r.space; sits = r.sits.1 }

  new : ℕ
  new = (record_of c (summary (s ∷ ss))).size

  known : (new ≡ 0) ⊎ (new ≡ S)
  unfolding new
  known = size_is c S L (s ∷ ss) r.within r.sits

  share : List ℕ
  share = moved_as m.kept.size new m.kept.end m.kept.tail m.share

  share-length : length share ≡ length m.share
  unfolding share settle
  share-length = moved_length m.kept.size new S L m.kept.end m.kept.tail m.share
      (rw k.kept (sits-sum S L ss (omega (arith, w.low)) r.sits.1).1.1) r.space known

  place : ℕ
  place = place_of s.last new (length share) s.number (length s.bytes)

  place_inside : place + length s.bytes ≤ length share
  unfolding place Sits new
  place_inside = place-lies s.last (length share) new s.number (length s.bytes)
      (omega (
        arith,
        sits-before s.last S L new s.number (length s.bytes) r.sits.0 known,
        r.space,
        share-length,
      ))

  pub put-length : length (put s (settled (record_of c (summary (s ∷ ss))) m)).share ≡ length m.share
  unfolding settled put share new place
  put-length = over-length share place s.bytes place_inside ∙ share-length

  pub put_keeps : ¬ (Numbered s.number ss) → s.number < length m.marks
      → Keeps c (put s (settled (record_of c (summary (s ∷ ss))) m)) (s ∷ ss)
  unfolding settled put share new place Laid Sits
  put_keeps a h = record {
    kept = refl;
    laid = (
      put-laid s.last new s.number share s.bytes place_inside,
      each-zip3 step ss r.sits.1 (each-zip (λ t x y. (x, y)) ss others apart)
          (moved-each b S L m ss new k old others),
    );
    marked = set-marked m.marks s ss h k.marked;
  }
    where
      apart : Each (λ t. s.number ≢ t.number) ss
      apart = not-numbered s.number ss a

      others : Each (λ t. new ≡ S) ss
      others = size-other c S L s ss r.within r.sits apart

      step : (t : Segment) → Sits S L t → (new ≡ S) × (s.number ≢ t.number) → Laid new share t
          → Laid new (over share place s.bytes) t
      step t u e x =
          let z : 0 < S = omega (arith, w.low) in
          let p = inside S L s z r.sits.0 in
          let q = inside S L t z u in
          let g : s.number * new ≡ s.number * S = ap (λ (y : ℕ). s.number * y) e.0 in
          put_other s.last t.last new s.number t.number share s.bytes t.bytes (omega (arith, e.0))
          e.1 (omega (arith, p.most, e.0)) (omega (arith, q.most, e.0))
          (omega (arith, p.ends, share-length, r.space)) x
