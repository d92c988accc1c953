-- Everything that is read or written in a part's share lies inside it: the segments that are marked, one that fits, and
-- one that is copied once the size is known.
use Rattle.std.specs.Prelude.{◌≡◌, refl, ◌⊎◌, ◌↔◌, Bool, List, [], ◌∷◌, drop, get_or, eqb, leb}
use Rattle.std.proofs.Common.{sym, ap, ◌∙◌, subst, inl, inr, mul-le-mul_right, lt_of_mul-lt-mul_right, zero-mul, arith}
use Rattle.std.proofs.Math.Bool.{true, false}
use Prim.Native.Nat.{ℕ, zero, suc, ◌+◌, ◌-◌, ◌*◌, ◌≤◌, ◌<◌, min}
use Rattle.std.proofs.Math.Nat.{div-eq_of_eq-mul_left}
use Rattle.std.proofs.Math.Decide.{ℕ_discrete, dec_le}
use borrow.Author.Tests.{eqb-true, eqb-false, eq-eqb, ne_eqb, leb-true, le-leb, lt-leb}
use Rattle.octets.specs.Octets.{sum_of, largest_of}
use Rattle.octets.specs.laws.Marks.{sum-split}
use Rattle.cut.specs.Requirement.{size_most, body_numbers}
use Rattle.cut.specs.declared.Bounds.{Bounds}
use Rattle.cut.specs.declared.Record.{Record}
use Rattle.cut.specs.Decision.{room, possible, joins}
use Rattle.cut.specs.Kept.{add_part, derived, settle}
use Rattle.cut.specs.laws.Decision.{EndSits, TopSits, Suits, both_true, possible-iff}
use Rattle.cut.specs.laws.Object.{WithinOf}
use Rattle.cut.specs.laws.Marks.{top_from, top-high, top-open, top-ended, total-some}
use Rattle.cut.specs.laws.Segment.{SitsAs}
use Rattle.cut.specs.Sums.{ended, possible_in, accepts_in, full_in, fits_in}
use Rattle.cut.specs.laws.Sums.{possible-in}
use Rattle.cut.specs.MissingKept.{Small}
use Rattle.cut.specs.Lists.{pick, Each}
use Rattle.part.specs.Memory.{Memory, place_of, length_of}
use Rattle.part.specs.Asked.{end_right, record_right}

-- ---- where in a share the bytes of a part lie

-- a segment of k bytes lies inside its share, both at its number times the size and where it stands
pub record Placed (width numbers : ℕ) (last : Bool) (size n k : ℕ) : Type 0 where
  pub number : n < numbers
  pub product : n * size + k ≤ width
  pub place : place_of last size width n k + k ≤ width

-- a last segment that is copied from the end of the share to its place, once the size is known
pub record Moves (width : ℕ) (old new : Record) : Type 0 where
  pub tail : old.tail ≤ width
  pub place : (old.end - 1) * new.size + old.tail ≤ width

-- ---- a record that some length and size within the bounds suit

pub record Suited (b : Bounds) (p : Record) : Type 0 where
  pub cut : ℕ
  pub long : ℕ
  pub within : WithinOf b cut long
  pub ended : EndSits cut long p.end p.tail
  pub size : (p.size ≡ 0) ⊎ (p.size ≡ cut)

-- a size that the bounds give is that of the cut
pub derived-is : (b : Bounds) (S L end tail : ℕ) → WithinOf b S L → EndSits S L end tail → (derived b end tail ≡ 0)
    ⊎ (derived b end tail ≡ S)
derived-is b S L zero tail w e = inl refl
derived-is b S L (suc zero) tail w e = inl refl
derived-is b S L (suc (suc n)) tail w e = go (ℕ_discrete b.least b.most)
  where
    go : Dec (b.least ≡ b.most) → (derived b (suc (suc n)) tail ≡ 0) ⊎ (derived b (suc (suc n)) tail ≡ S)
    go (yes m) =
        inr (rw (eq-eqb b.least b.most m)
        (div-eq_of_eq-mul_left (omega arith) (omega (arith, w.long, w.short))))
    go (no m) = inl (rw (ne_eqb b.least b.most m) refl)

-- what can be has a record that is suited, once it is settled
pub settled-suited : (b : Bounds) (top : ℕ) (p : Record) → possible b top p ≡ true → Suited b (settle b (leb 1 top) p)
unfolding settle
settled-suited b zero p e =
    let u = (possible-iff b zero p).0 e in
    record {
      cut = u.cut;
      long = u.long;
      within = u.within;
      ended = u.ended;
      size =
          derived-is b u.cut u.long p.end p.tail u.within u.ended;
    }
settled-suited b (suc t) p e =
    let u = (possible-iff b (suc t) p).0 e in
    rw (le-leb 1 (suc t) (omega arith))
    (record { cut = u.cut; long = u.long; within = u.within; ended = u.ended; size = inr u.full.0 })

below : (S n m : ℕ) → n * S < m * S → n < m
below S n m h = lt_of_mul-lt-mul_right S h

-- a segment of a part so long, cut so, ends before the part does, under a size that is 0 or the cut
pub sits-before : (last : Bool) (S L size n k : ℕ) → SitsAs last S L n k → (size ≡ 0) ⊎ (size ≡ S) → n * size + k ≤ L
sits-before true S L size n k t (inl z) = rw z (omega arith)
sits-before true S L size n k t (inr z) = rw z (omega arith)
sits-before false S L size n k t (inl z) = rw z (omega arith)
sits-before false S L size n k t (inr z) = rw z (omega arith)

pub sits-number : (last : Bool) (b : Bounds) (S L n k : ℕ) → WithinOf b S L → SitsAs last S L n k → n < b.numbers
sits-number true b S L n k w t =
    below S n b.numbers (omega (arith, w.enough, w.low, mul-le-mul_right S w.any))
sits-number false b S L n k w t = below S n b.numbers (omega (arith, w.enough, w.low))

-- the last one, under a size that is 0 or the cut
last-lies : (b : Bounds) (S L size n k : ℕ) → WithinOf b S L → EndSits S L (suc n) k → (size ≡ 0) ⊎ (size ≡ S)
    → (n < b.numbers) × (n * size + k ≤ b.most) × (k ≤ size_most)
last-lies b S L size n k w e z =
    let h = sits-before true S L size n k e z in
    (sits-number true b S L n k w e, omega (arith, w.short), omega (arith, w.high))

end-lies : (b : Bounds) (S L size end tail : ℕ) → WithinOf b S L → EndSits S L end tail → (end ≡ 0 → tail ≡ 0)
    → (size ≡ 0) ⊎ (size ≡ S) → (end ≤ b.numbers) × (tail ≤ size_most) × ((end - 1) * size + tail ≤ b.most)
end-lies b S L size zero tail w e t z = let y : tail ≡ 0 = t refl in
    (omega arith, omega arith, omega (arith, zero-mul size))
end-lies b S L size (suc n) tail w e t z =
    let r = last-lies b S L size n tail w e z in
    let d : suc n - 1 ≡ n = omega arith in
    rw d (r.0, r.2, r.1)

-- its numbers are those of some part
pub suited-small : (b : Bounds) (p : Record) → b.numbers ≤ body_numbers → Suited b p → Small p
suited-small b p few u =
    record { size = size u.size; end = end p.end u.ended; tail = tail p.end u.ended }
  where
    size : (p.size ≡ 0) ⊎ (p.size ≡ u.cut) → p.size ≤ size_most
    size (inl z) = omega arith
    size (inr z) = omega (arith, u.within.high)

    end : (end : ℕ) → EndSits u.cut u.long end p.tail → end ≤ body_numbers
    end zero e = omega arith
    end (suc n) e = omega (arith, (last-lies b u.cut u.long p.size n p.tail u.within e u.size).0)

    tail : (end : ℕ) → EndSits u.cut u.long end p.tail → 1 ≤ end → p.tail ≤ size_most
    tail zero e h = absurd (omega arith)
    tail (suc n) e h = (last-lies b u.cut u.long p.size n p.tail u.within e u.size).2

-- ---- a segment at its place

pub place-lies : (last : Bool) (width size n k : ℕ) → n * size + k ≤ width → place_of last size width n k + k ≤ width
place-lies false width size n k h = h
place-lies true width (suc size) n k h = h
place-lies true width zero zero k h = omega arith
place-lies true width zero (suc n) k h = omega arith

pub placed : (last : Bool) (width numbers size n k : ℕ) → n < numbers → n * size + k ≤ width
    → Placed width numbers last size n k
placed last width numbers size n k h g = record { number = h; product = g; place = place-lies last width size n k g }

-- ---- a segment that is taken

last-joins : (full : Bool) (k : ℕ) (p : Record) → joins full true k p ≡ true → p.end ≡ 0
last-joins true k p e = eqb-true p.end 0 e
last-joins false k p e = eqb-true p.end 0 e

-- a full one
full-suits : (b : Bounds) (n : ℕ) (p : Record) (marks : List ℕ) → accepts_in false n b p marks ≡ true
    → Suits b (suc n) p.size p.end p.tail
full-suits b n p marks e =
    (possible-iff b (suc n) p).0
    (both_true (leb (suc n) (room b p)) (eqb (sum_of (drop (room b p) marks)) (ended p)) e).0

suits-number : (b : Bounds) (n : ℕ) (p : Record) → Suits b (suc n) p.size p.end p.tail → (n < b.numbers)
    × (n * p.size + p.size ≤ b.most)
suits-number b n p u =
    let e : suc n * p.size ≡ suc n * u.cut = ap (λ (x : ℕ). suc n * x) u.full.0 in
    let h : suc n < b.numbers = below u.cut (suc n) b.numbers (omega (arith, u.full.1, u.within.enough)) in
    (omega arith, omega (arith, u.full.1, u.within.short))

-- the last one: what is in says whether a full one is
last-top : (b : Bounds) (n k : ℕ) (p : Record) (marks : List ℕ) → p.end ≡ 0
    → accepts_in true n b (add_part true n k p) marks ≡ true → (top : ℕ) × (possible b top (add_part true n k p) ≡ true)
    × (full_in p marks ≡ leb 1 top)
last-top b n k p marks z e = go (ℕ_discrete (sum_of marks) 0)
  where
    p' : Record
    p' = add_part true n k p

    r : ℕ
    r = room b p'

    one : suc (ended p) ≡ 1
    one = omega arith

    go : Dec (sum_of marks ≡ 0) → (top : ℕ) × (possible b top p' ≡ true) × (full_in p marks ≡ leb 1 top)
    go (yes s) = (0, rw (eq-eqb (sum_of marks) 0 s) at e, rw (one, s) refl)
    go (no s) = (1, le-leb 1 r some, rw one (le-leb 1 (sum_of marks) (omega arith) ∙ sym (le-leb 1 1 (omega arith))))
      where
        none : sum_of (drop r marks) ≡ 0
        none = eqb-true (sum_of (drop r marks)) 0 (rw (ne_eqb (sum_of marks) 0 s) at e)

        some : 1 ≤ r
        some = at r refl
          where
            at : (x : ℕ) → r ≡ x → 1 ≤ x
            at zero y = absurd (s (rw y at none))
            at (suc x) y = omega arith

-- under the record that it leaves, it lies inside, and so does the last one that this record moves
module _ (b : Bounds) (n k : ℕ) (p : Record) (marks : List ℕ) (width : ℕ) (h : b.most ≤ width) where
  pub accepted-placed : (last : Bool) → joins (full_in p marks) last k p ≡ true
      → accepts_in last n b (add_part last n k p) marks ≡ true
      → Placed width b.numbers last (settle b (pick last (full_in p marks) true) (add_part last n k p)).size n k
  unfolding settle
  accepted-placed false j e =
      let r = suits-number b n (add_part false n k p) (full-suits b n (add_part false n k p) marks e) in
      placed false width b.numbers k n k r.0 (omega (arith, r.1))
  accepted-placed true j e =
      let t = last-top b n k p marks (last-joins (full_in p marks) k p j) e in
      let u : Suited b (settle b (leb 1 t.0) (add_part true n k p)) = settled-suited b t.0 (add_part true n k p)
      t.1 in
      let z : ℕ = (settle b (leb 1 t.0) (add_part true n k p)).size in
      let r = last-lies b u.cut u.long z n k u.within u.ended u.size in
      rw t.2 (placed true width b.numbers z n k r.0 (omega (arith, r.1)))

  pub accepted-moves : (last : Bool) → joins (full_in p marks) last k p ≡ true
      → accepts_in last n b (add_part last n k p) marks ≡ true → 2 ≤ p.end
      → Moves width p (settle b (pick last (full_in p marks) true) (add_part last n k p))
  unfolding settle
  accepted-moves true j e g = absurd (omega (arith, last-joins (full_in p marks) k p j))
  accepted-moves false j e g =
      let u = full-suits b n (add_part false n k p) marks e in
      let r = end-lies b u.cut u.long k p.end p.tail u.within u.ended (λ z. absurd (omega arith))
      (inr u.full.0) in
      record { tail = omega (arith, r.2); place = omega (arith, r.2) }

-- ---- what is marked can be, so its record is suited once it is settled

possible-top : (b : Bounds) (p : Record) (marks : List ℕ) → possible_in b p marks ≡ true → (top : ℕ)
    × (possible b top p ≡ true) × (full_in p marks ≡ leb 1 top)
unfolding possible_in
possible-top b p marks e = go (ℕ_discrete (sum_of marks) (ended p))
  where
    r : ℕ
    r = room b p

    go : Dec (sum_of marks ≡ ended p) → (top : ℕ) × (possible b top p ≡ true) × (full_in p marks ≡ leb 1 top)
    go (yes s) = (0, rw (eq-eqb (sum_of marks) (ended p) s) at e, lt-leb (suc (ended p)) (sum_of marks) (omega arith))
    go (no s) = (
      1,
      le-leb 1 r some,
      le-leb (suc (ended p)) (sum_of marks) (omega (arith, sum-split marks r, past))
          ∙ sym (le-leb 1 1 (omega arith)),
    )
      where
        past : sum_of (drop r marks) ≡ ended p
        past = eqb-true (sum_of (drop r marks)) (ended p) (rw (ne_eqb (sum_of marks) (ended p) s) at e)

        some : 1 ≤ r
        some = at r refl
          where
            at : (x : ℕ) → r ≡ x → 1 ≤ x
            at zero y = absurd (s (rw y at past))
            at (suc x) y = omega arith

pub within-suited : (b : Bounds) (p : Record) (marks : List ℕ) → possible_in b p marks ≡ true
    → Suited b (settle b (full_in p marks) p)
within-suited b p marks e = let t = possible-top b p marks e in rw t.2 (settled-suited b t.0 p t.1)

pub within-moves : (b : Bounds) (p : Record) (marks : List ℕ) (width : ℕ) → b.most ≤ width → possible_in b p marks
    ≡ true → p.size ≡ 0 → 0 < (settle b (full_in p marks) p).size → 2 ≤ p.end
    → Moves width p (settle b (full_in p marks) p)
unfolding settle
within-moves b p marks width h e z s g =
    let u = within-suited b p marks e in
    let r = end-lies b u.cut u.long (settle b (full_in p marks) p).size p.end p.tail u.within u.ended
    (λ y. absurd (omega arith)) u.size in
    record { tail = omega (arith, r.2); place = omega (arith, r.2) }

-- ---- a segment that is marked

pub each-bit : (l : List ℕ) → largest_of l ≤ 1 → Each (λ m. m ≤ 1) l
unfolding largest_of
each-bit [] h = tt
each-bit (m ∷ l) h = (omega arith, each-bit l (omega arith))

-- what a right record says of its last segment
pub end-right : (end tail : ℕ) (marks : List ℕ) → end_right end tail marks ≡ true → (end ≡ 0 → tail ≡ 0)
    × ((n : ℕ) → end ≡ suc n → 0 < get_or marks n 0)
end-right zero tail marks e = ((λ z. eqb-true tail 0 e), (λ n z. absurd (omega arith)))
end-right (suc j) tail marks e =
    ((λ z. absurd (omega arith)), (λ n z. let y : j ≡ n = omega arith in rw (← y) (leb-true 1 (get_or marks j 0) e)))

-- no full segment is marked, by the sum
sum_top : (marks : List ℕ) (end : ℕ) → Each (λ m. m ≤ 1) marks → ((n : ℕ) → end ≡ suc n → 0 < get_or marks n 0)
    → (top_from end 0 marks ≤ 0) ↔ (sum_of marks ≡ min 1 end)
sum_top marks zero b m = top-open 0 0 marks (λ n e. absurd (omega arith))
sum_top marks (suc n) b m = let e : min 1 (suc n) ≡ 1 = omega arith in
    rw e (top-ended 0 n marks b (omega arith) (m n refl))

ended-sum : (marks : List ℕ) (end : ℕ) → ((n : ℕ) → end ≡ suc n → 0 < get_or marks n 0) → min 1 end ≤ sum_of marks
ended-sum marks zero m = omega arith
ended-sum marks (suc n) m = omega (arith, total-some marks n (m n refl))

pub full-top : (p : Record) (marks : List ℕ) → Each (λ m. m ≤ 1) marks → ((n : ℕ) → p.end ≡ suc n → 0 < get_or marks n 0)
    → full_in p marks ≡ leb 1 (top_from p.end 0 marks)
full-top p marks b m = go (dec_le (top_from p.end 0 marks) 0)
  where
    go : Dec (top_from p.end 0 marks ≤ 0) → full_in p marks ≡ leb 1 (top_from p.end 0 marks)
    go (yes h) = lt-leb (suc (ended p)) (sum_of marks) (omega (arith, (sum_top marks p.end b m).0 h))
        ∙ sym (lt-leb 1 (top_from p.end 0 marks) (omega arith))
    go (no h) =
        let d : ¬ (sum_of marks ≡ ended p) = λ e. h ((sum_top marks p.end b m).1 e) in
        le-leb (suc (ended p)) (sum_of marks) (omega (arith, ended-sum marks p.end m))
        ∙ sym (le-leb 1 (top_from p.end 0 marks) (omega arith))

top-sits : (S L top size n : ℕ) → TopSits S L top size → suc n ≤ top → (size ≡ S) × (suc n * S < L)
top-sits S L zero size n f h = absurd (omega arith)
top-sits S L (suc t) size n f h = (f.0, omega (arith, f.1, mul-le-mul_right S h))

-- 1 + the highest marked number of a full segment, or 0
abbrev pub top_in : Memory → ℕ
top_in m = top_from m.kept.end 0 m.marks

-- the marked segments of a part can be, and its record is right
module _ (b : Bounds) (m : Memory) (bits : Each (λ x. x ≤ 1) m.marks) (right : record_right b m.kept m.marks
    ≡ true) (can : possible_in b m.kept m.marks ≡ true) where
  pub right_end : (m.kept.end ≡ 0 → m.kept.tail ≡ 0) × ((n : ℕ) → m.kept.end ≡ suc n → 0 < get_or m.marks n 0)
  unfolding record_right
  right_end = end-right m.kept.end m.kept.tail m.marks
      (both_true (end_right m.kept.end m.kept.tail m.marks) _ right).0

  right-full : full_in m.kept m.marks ≡ leb 1 (top_in m)
  right-full = full-top m.kept m.marks bits right_end.1

  -- the size is the one that the last segment gives, unless a full one is in
  pub right-size : top_in m ≡ 0 → m.kept.size ≡ derived b m.kept.end m.kept.tail
  unfolding record_right
  right-size z =
      let f : full_in m.kept m.marks ≡ false = right-full ∙ (rw z refl) in
      eqb-true m.kept.size (derived b m.kept.end m.kept.tail)
      (rw f at (both_true (end_right m.kept.end m.kept.tail m.marks) _ right).1)

  pub right-suits : Suits b (top_in m) m.kept.size m.kept.end m.kept.tail
  right-suits = (possible-iff b (top_in m) m.kept).0 (sym (possible-in b m.kept m.marks bits right_end.1)
      ∙ can)

  pub size-known : (m.kept.size ≡ 0) ⊎ (m.kept.size ≡ right-suits.cut)
  size-known = go (top_in m) refl right-suits.full
    where
      go : (t : ℕ) → top_in m ≡ t → TopSits right-suits.cut right-suits.long t m.kept.size
          → (m.kept.size ≡ 0) ⊎ (m.kept.size ≡ right-suits.cut)
      go (suc t) e f = inr f.0
      go zero e f =
          by (derived-is b right-suits.cut right-suits.long m.kept.end m.kept.tail right-suits.within
          right-suits.ended)
        where
          by : (derived b m.kept.end m.kept.tail ≡ 0)
              ⊎ (derived b m.kept.end m.kept.tail ≡ right-suits.cut) → (m.kept.size ≡ 0)
              ⊎ (m.kept.size ≡ right-suits.cut)
          by (inl x) = inl (right-size e ∙ x)
          by (inr x) = inr (right-size e ∙ x)

  pub right-suited : Suited b m.kept
  right-suited =
      record {
        cut = right-suits.cut;
        long = right-suits.long;
        within = right-suits.within;
        ended = right-suits.ended;
        size = size-known;
      }

  -- a marked number is that of a segment of a part so long, cut so
  pub marked-sits : (last : Bool) (n : ℕ) → eqb (suc n) m.kept.end ≡ last → 0 < get_or m.marks n 0
      → SitsAs last right-suits.cut right-suits.long n (length_of last m.kept)
  marked-sits true n e h = subst (λ (x : ℕ). EndSits right-suits.cut right-suits.long x m.kept.tail)
      (sym (eqb-true (suc n) m.kept.end e)) right-suits.ended
  marked-sits false n e h =
      let g : suc (0 + n) ≤ top_in m = top-high m.kept.end 0 n m.marks h
      (λ y. eqb-false (suc n) m.kept.end e (omega arith)) in
      top-sits right-suits.cut right-suits.long (top_in m) m.kept.size n right-suits.full (omega (arith, g))

-- ---- one that fits

module _ (b : Bounds) (p : Record) (marks : List ℕ) (last : Bool) (n k : ℕ) (fits : fits_in b p marks last n k ≡ true)
  where
    fits_both : (joins (full_in p marks) last k p ≡ true) × (accepts_in last n b (add_part last n k p) marks ≡ true)
    unfolding fits_in
    fits_both = both_true (joins (full_in p marks) last k p) (accepts_in last n b (add_part last n k p) marks) fits

    pub fits-placed : (width : ℕ) → b.most ≤ width
        → Placed width b.numbers last (settle b (pick last (full_in p marks) true) (add_part last n k p)).size n k
    fits-placed width h = accepted-placed b n k p marks width h last fits_both.0 fits_both.1

    pub fits-suited : Suited b (settle b (pick last (full_in p marks) true) (add_part last n k p))
    fits-suited = by last fits_both.0 fits_both.1
      where
        by : (last : Bool) → joins (full_in p marks) last k p ≡ true → accepts_in last n b (add_part last n k p) marks
            ≡ true → Suited b (settle b (pick last (full_in p marks) true) (add_part last n k p))
        by false j e =
            rw (le-leb 1 (suc n) (omega arith)) at (settled-suited b (suc n) (add_part false n k p)
            (both_true (leb (suc n) (room b (add_part false n k p))) _ e).0)
        by true j e = let t = last-top b n k p marks (last-joins (full_in p marks) k p j) e in
            rw t.2 (settled-suited b t.0 (add_part true n k p) t.1)

    pub fits_moves : (width : ℕ) → b.most ≤ width → 2 ≤ p.end
        → Moves width p (settle b (pick last (full_in p marks) true) (add_part last n k p))
    fits_moves width h g = accepted-moves b n k p marks width h last fits_both.0 fits_both.1 g

-- one whose number the part does not have does not fit
pub fits-beyond : (b : Bounds) (p : Record) (marks : List ℕ) (last : Bool) (n k : ℕ) → b.numbers ≤ n
    → fits_in b p marks last n k ≡ false
fits-beyond b p marks last n k h = go (fits_in b p marks last n k) refl
  where
    go : (x : Bool) → fits_in b p marks last n k ≡ x → x ≡ false
    go false e = refl
    go true e = absurd (omega (arith, (fits-placed b p marks last n k e b.most (omega arith)).number))
