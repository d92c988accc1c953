-- The decision on records and sums of marks is the decision on what is kept, so the theorem holds of it.
use Rattle.std.specs.Prelude.{◌≡◌, ◌↔◌, Bool, true, false, Option, List, ℕ, zero, suc, ◌≤◌, ◌<◌, min, max, ◌-◌, ◌/◌, length, drop, get_or, eqb, leb}
use Rattle.std.proofs.Math.Path.{refl}
use Rattle.std.proofs.Common.{sym, ap, ◌∙◌, arith, eq-eqb, ne_eqb, le-leb, eqb-true, leb-true}
use Rattle.std.proofs.Math.Decide.{dec_le}
use Rattle.std.proofs.lemmas.Bool.{lt-leb}
use Rattle.octets.specs.Octets.{sum_of}
use Rattle.cut.specs.Requirement.{limit_most, Segment, Fits}
use Rattle.answer.specs.declared.Part.{Part}
use Rattle.answer.specs.declared.Part.TheVariants.{Header, Body}
use Rattle.cut.specs.declared.Sizes.{Sizes}
use Rattle.cut.specs.declared.Bounds.{Bounds}
use Rattle.cut.specs.declared.Record.{Record}
use Rattle.cut.specs.Parts.{headers_with, bodies_with, those, other_part}
use Rattle.cut.specs.Decision.{core_fits, ended_tests, room, alone, possible, joins, suits, suit_tests, accepts, open_tests, room_as}
use Rattle.cut.specs.Kept.{bounds_of, add_part, add_top, summary, some_full, settle, record_of, core_after, core_with, core_of}
use Rattle.cut.specs.Lists.{both, all, pick, Each, Bytes}
use Rattle.cut.specs.Sums.{ended, full_in, possible_in, accepts_in, fits_in, takes}
use Rattle.cut.specs.laws.Segment.{Numbered, Agree}
use Rattle.cut.specs.laws.Decision.{Clear, all_true}
use Rattle.cut.specs.laws.Object.{Passes, fits-passes}
use Rattle.cut.specs.laws.Theorem.{end-numbered, accepted}
use Rattle.cut.specs.laws.Marks.{total-some, top_from, Marked, top_kept, top-open, top-ended}

-- a number is below a bound, by a sum
by-sum : (t b x y : ℕ) → (t ≤ b) ↔ (x ≡ y) → leb t b ≡ eqb x y
by-sum t b x y i = go (dec_le t b)
  where
    go : Dec (t ≤ b) → leb t b ≡ eqb x y
    go (yes h) = le-leb t b h ∙ sym (eq-eqb x y (i.0 h))
    go (no h) = lt-leb t b (omega arith) ∙ sym (ne_eqb x y (λ e. h (i.1 e)))

-- there is no full segment, by a sum
none-by : (x y t : ℕ) (c d : Bool) (b : Bounds) (p : Record) → (t ≤ 0) ↔ (x ≡ y) → c ≡ alone b p → d ≡ leb t (room b p)
    → pick (eqb x y) c d ≡ possible b t p
none-by x y zero c d b p i e f = rw (eq-eqb x y (i.0 (omega arith))) e
none-by x y (suc t) c d b p i e f = rw (ne_eqb x y (λ z. let h : suc t ≤ 0 = i.1 z in omega arith)) f

-- the room is before the last one
room-below : (c : Bool) (n : ℕ) → pick c n 0 ≤ n
room-below true n = omega arith
room-below false n = omega arith

room-before : (b : Bounds) (p : Record) (n : ℕ) → p.end ≡ suc n → room b p ≤ n
unfolding room
room-before b p n e = rw e (room-below (all (ended_tests b p.size n p.tail)) n)

-- and within the marks
pick-most : (bs : List Bool) (v m : ℕ) → (Each (λ t. t ≡ true) bs → v ≤ m) → pick (all bs) v 0 ≤ m
pick-most bs v m f = go (all bs) refl
  where
    go : (t : Bool) → all bs ≡ t → pick t v 0 ≤ m
    go true e = f (all_true bs e)
    go false e = omega arith

room-as : (b : Bounds) (size end tail : ℕ) → room_as b size end tail ≤ b.numbers
room-as b size zero tail = pick-most (open_tests b size) (min (b.numbers - 1) ((b.most - 1) / size)) b.numbers
    (λ r. omega arith)
room-as b size (suc n) tail = pick-most (ended_tests b size n tail) n b.numbers (λ r. omega (arith, leb-true))

pub room_within : (b : Bounds) (p : Record) → room b p ≤ b.numbers
unfolding room
room_within b p = room-as b p.size p.end p.tail

module _ (b : Bounds) (p : Record) (marks : List ℕ) (bits : Each (λ m. m ≤ 1) marks) where
  -- the highest full number lies below r, by the sum from r on
  past : (end r : ℕ) → ((n : ℕ) → end ≡ suc n → r ≤ n) → ((n : ℕ) → end ≡ suc n → 0 < get_or marks n 0)
      → (top_from end 0 marks ≤ r) ↔ (sum_of (drop r marks) ≡ min 1 end)
  past zero r l m = top-open 0 r marks (λ n e. absurd (omega arith))
  past (suc n) r l m = let e : min 1 (suc n) ≡ 1 = omega arith in rw e (top-ended r n marks bits (l n refl) (m n refl))

  pub possible-in : ((n : ℕ) → p.end ≡ suc n → 0 < get_or marks n 0) → possible_in b p marks
      ≡ possible b (top_from p.end 0 marks) p
  unfolding possible_in
  possible-in m =
      none-by (sum_of marks) (ended p) (top_from p.end 0 marks) (alone b p)
      (eqb (sum_of (drop (room b p) marks)) (ended p)) b p
      (past p.end 0 (λ n e. omega arith) m) refl
      (sym (by-sum (top_from p.end 0 marks) (room b p) (sum_of (drop (room b p) marks)) (ended p)
      (past p.end (room b p) (room-before b p) m)))

  -- a full one more
  pub accepts-full : (n : ℕ) → ((n : ℕ) → p.end ≡ suc n → 0 < get_or marks n 0) → accepts_in false n b p marks
      ≡ possible b (max (suc n) (top_from p.end 0 marks)) p
  accepts-full n m =
      ap (both (leb (suc n) (room b p)))
      (sym (by-sum (top_from p.end 0 marks) (room b p) (sum_of (drop (room b p) marks)) (ended p)
      (past p.end (room b p) (room-before b p) m))) ∙ higher (suc n) (top_from p.end 0 marks) (room b p)
      ∙ some n (top_from p.end 0 marks)
    where
      higher : (s t r : ℕ) → both (leb s r) (leb t r) ≡ leb (max s t) r
      higher s t r = go (dec_le s r) (dec_le t r)
        where
          go : Dec (s ≤ r) → Dec (t ≤ r) → both (leb s r) (leb t r) ≡ leb (max s t) r
          go (yes x) (yes y) = rw (le-leb s r x, le-leb t r y, le-leb (max s t) r (omega arith)) refl
          go (yes x) (no y) = rw (le-leb s r x, lt-leb t r (omega arith), lt-leb (max s t) r (omega arith)) refl
          go (no x) y = rw (lt-leb s r (omega arith), lt-leb (max s t) r (omega arith)) refl

      some : (n t : ℕ) → leb (max (suc n) t) (room b p) ≡ possible b (max (suc n) t) p
      some n t = go (max (suc n) t) (omega arith)
        where
          go : (x : ℕ) → 0 < x → leb x (room b p) ≡ possible b x p
          go zero h = absurd (omega arith)
          go (suc x) h = refl

  -- the last one more, where none was in
  pub accepts_last : (n : ℕ) → accepts_in true n b p marks ≡ possible b (top_from 0 0 marks) p
  accepts_last n =
      none-by (sum_of marks) 0 (top_from 0 0 marks) (alone b p) (eqb (sum_of (drop (room b p) marks)) 0) b p
      (top-open 0 0 marks (λ i x. absurd (omega arith))) refl
      (sym (by-sum (top_from 0 0 marks) (room b p) (sum_of (drop (room b p) marks)) 0
      (top-open 0 (room b p) marks (λ i x. absurd (omega arith)))))

-- ---- the size in a record plays no part while no full segment is in

pub possible-settle : (b c : Bounds) (top : ℕ) (p : Record) → possible b top (settle c (leb 1 top) p) ≡ possible b top p
unfolding settle alone room
possible-settle b c zero p = refl
possible-settle b c (suc t) p = rw (le-leb 1 (suc t) (omega arith)) refl

-- settled again within other bounds, it is settled within those
pub settle-again : (b c : Bounds) (full : Bool) (p : Record) → settle b full (settle c full p) ≡ settle b full p
unfolding settle
settle-again b c true p = refl
settle-again b c false p = refl

pub joins-settle : (b : Bounds) (full last : Bool) (k : ℕ) (p : Record) → joins full last k (settle b full p)
    ≡ joins full last k p
unfolding settle
joins-settle b true true k p = refl
joins-settle b true false k p = refl
joins-settle b false true k p = refl
joins-settle b false false k p = refl

pub settle-full : (b c : Bounds) (full : Bool) (n k : ℕ) (p : Record)
    → settle b true (add_part false n k (settle c full p)) ≡ settle b true (add_part false n k p)
unfolding settle
settle-full b c full n k p = refl

pub settle-last : (b c : Bounds) (full : Bool) (n k : ℕ) (p : Record)
    → settle b full (add_part true n k (settle c full p)) ≡ settle b full (add_part true n k p)
unfolding settle
settle-last b c true n k p = refl
settle-last b c false n k p = refl

add-settle : (b c : Bounds) (top n k : ℕ) (p : Record) → possible b top (add_part true n k (settle c (leb 1 top) p))
    ≡ possible b top (add_part true n k p)
unfolding settle alone room
add-settle b c zero n k p = refl
add-settle b c (suc t) n k p = rw (le-leb 1 (suc t) (omega arith)) refl

full-settle : (b c : Bounds) (full : Bool) (top n k : ℕ) (p : Record)
    → possible b top (add_part false n k (settle c full p)) ≡ possible b top (add_part false n k p)
unfolding settle
full-settle b c full top n k p = refl

settle-end : (c : Bounds) (full : Bool) (p : Record) → (settle c full p).end ≡ p.end
unfolding settle
settle-end c full p = refl

-- ---- of segments that are in

-- the record and the marks of one part
module _ (b c : Bounds) (marks : List ℕ) (ss : List Segment) (m : Marked marks ss) (a : Agree ss) (k : Clear ss) where
  record-end : (record_of c (summary ss)).end ≡ (summary ss).part.end
  record-end = settle-end c (some_full (summary ss)) (summary ss).part

  end_marked : (n : ℕ) → (record_of c (summary ss)).end ≡ suc n → 0 < get_or marks n 0
  end_marked n e = (m.marked n).1 (end-numbered ss n (sym record-end ∙ e))

  top-record : top_from (record_of c (summary ss)).end 0 marks ≡ (summary ss).top
  top-record = ap (λ (e : ℕ). top_from e 0 marks) record-end ∙ top_kept marks ss m a k

  pub possible-kept : possible_in b (record_of c (summary ss)) marks ≡ possible b (summary ss).top (summary ss).part
  possible-kept = possible-in b (record_of c (summary ss)) marks m.bits end_marked
      ∙ ap (λ (t : ℕ). possible b t (record_of c (summary ss))) top-record
      ∙ possible-settle b c (summary ss).top (summary ss).part

  pub full-kept : full_in (record_of c (summary ss)) marks ≡ some_full (summary ss)
  full-kept = go (summary ss).top refl
    where
      sum : (top_from (record_of c (summary ss)).end 0 marks ≤ 0) ↔ (sum_of marks ≡ ended (record_of c (summary ss)))
      sum = past b (record_of c (summary ss)) marks m.bits (record_of c (summary ss)).end 0 (λ n e. omega arith)
          end_marked

      some : (end : ℕ) → ((n : ℕ) → end ≡ suc n → 0 < get_or marks n 0) → min 1 end ≤ sum_of marks
      some zero h = omega arith
      some (suc n) h = omega (arith, total-some marks n (h n refl))

      go : (t : ℕ) → (summary ss).top ≡ t → leb (suc (ended (record_of c (summary ss)))) (sum_of marks) ≡ leb 1 t
      go zero e = let x : sum_of marks ≡ ended (record_of c (summary ss)) = sum.0 (omega (arith, top-record)) in
          lt-leb (suc (ended (record_of c (summary ss)))) (sum_of marks) (omega arith)
      go (suc t) e =
          let d : ¬ (sum_of marks ≡ ended (record_of c (summary ss))) =
          λ x. (let h : top_from (record_of c (summary ss)).end 0 marks ≤ 0 = sum.1 x in omega (arith, top-record))
          in
          le-leb (suc (ended (record_of c (summary ss)))) (sum_of marks)
          (omega (arith, some (record_of c (summary ss)).end end_marked)) ∙ sym (le-leb 1 (suc t) (omega arith))

  joins-kept : (last : Bool) (j : ℕ) → joins (full_in (record_of c (summary ss)) marks) last j (record_of c (summary ss))
      ≡ joins (some_full (summary ss)) last j (summary ss).part
  joins-kept last j = ap (λ (x : Bool). joins x last j (record_of c (summary ss))) full-kept
      ∙ joins-settle c (some_full (summary ss)) last j (summary ss).part

  -- one more
  accepts-kept : (last : Bool) (n j : ℕ) → joins (some_full (summary ss)) last j (summary ss).part ≡ true
      → accepts_in last n b (add_part last n j (record_of c (summary ss))) marks
      ≡ possible b (add_top last n (summary ss).top) (add_part last n j (summary ss).part)
  accepts-kept true n j h =
      let z : (summary ss).part.end ≡ 0 = eqb-true (summary ss).part.end 0 (rw last-joins at h) in
      let t : top_from 0 0 marks ≡ (summary ss).top = ap (λ (e : ℕ). top_from e 0 marks) (sym z)
      ∙ top_kept marks ss m a k in
      accepts_last b (add_part true n j (record_of c (summary ss))) marks m.bits n
      ∙ ap (λ (x : ℕ). possible b x (add_part true n j (record_of c (summary ss)))) t
      ∙ add-settle b c (summary ss).top n j (summary ss).part
    where
      last-joins : joins (some_full (summary ss)) true j (summary ss).part ≡ eqb (summary ss).part.end 0
      last-joins = by (some_full (summary ss))
        where
          by : (f : Bool) → joins f true j (summary ss).part ≡ eqb (summary ss).part.end 0
          by true = refl
          by false = refl
  accepts-kept false n j h = accepts-full b (add_part false n j (record_of c (summary ss))) marks m.bits n end_marked
      ∙ ap (λ (x : ℕ). possible b (max (suc n) x) (add_part false n j (record_of c (summary ss)))) top-record
      ∙ full-settle b c (some_full (summary ss)) (max (suc n) (summary ss).top) n j (summary ss).part

-- a test that is asked only where another passes
both-same : (j x y : Bool) → (j ≡ true → x ≡ y) → both j x ≡ both j y
both-same true x y f = f refl
both-same false x y f = refl

-- the tests in the order of the decision: it goes with its part, the core, the header, the body
own_first : (j c a p : Bool) → both c (both (both j a) (both p true)) ≡ both j (both c (both a (both p true)))
own_first true c a p = refl
own_first false true a p = refl
own_first false false a p = refl

other-first : (j c a p : Bool) → both c (both (both j a) (both p true)) ≡ both j (both c (both p (both a true)))
other-first false true a p = refl
other-first false false a p = refl
other-first true false a p = refl
other-first true true true true = refl
other-first true true true false = refl
other-first true true false true = refl
other-first true true false false = refl

-- THE DECISION of records and marks is the decision of what is kept
module _ (limit : ℕ) (hs bs : List Segment) (f : Fits limit hs bs) (header_marks body_marks : List ℕ)
    (mh : Marked header_marks hs) (mb : Marked body_marks bs) where
  pass : Passes limit hs bs
  pass = fits-passes limit hs bs f

  -- the record that the segments of a part give, and its marks
  abbrev pub record_for : Part → Record
  record_for part = record_of (bounds_of part limit (core_of hs)) (summary (those part hs bs))

  abbrev pub marks_for : Part → List ℕ
  marks_for Header = header_marks
  marks_for Body = body_marks

  possible-for : (part : Part) (b : Bounds) → possible_in b (record_for part) (marks_for part)
      ≡ possible b (summary (those part hs bs)).top (summary (those part hs bs)).part
  possible-for Header b = possible-kept b (bounds_of Header limit (core_of hs)) header_marks hs mh pass.header_agree
      pass.header_clear
  possible-for Body b = possible-kept b (bounds_of Body limit (core_of hs)) body_marks bs mb pass.body_agree
      pass.body_clear

  -- what is in can be
  pub core-suits : core_fits limit (core_of hs) ≡ true
  unfolding suits
  core-suits =
      (all_true (suit_tests limit (core_of hs) (summary hs).top (summary hs).part (summary bs).top (summary bs).part)
      pass.suit).0

  pub part-suits : (part : Part) → possible_in (bounds_of part limit (core_of hs)) (record_for part) (marks_for part) ≡ true
  unfolding suits
  part-suits Header = possible-for Header (bounds_of Header limit (core_of hs))
      ∙ (all_true (suit_tests limit (core_of hs) (summary hs).top (summary hs).part (summary bs).top (summary bs).part)
      pass.suit).1.0
  part-suits Body = possible-for Body (bounds_of Body limit (core_of hs))
      ∙ (all_true (suit_tests limit (core_of hs) (summary hs).top (summary hs).part (summary bs).top (summary bs).part)
      pass.suit).1.1.0

  takes-kept : (kind : Part) (s : Segment) → takes kind limit (core_with kind s (core_of hs)) (record_for kind)
      (marks_for kind) (record_for (other_part kind)) (marks_for (other_part kind)) s.last s.number (length s.bytes)
      ≡ accepts kind limit (core_of hs) (summary hs) (summary bs) s
  unfolding suits fits_in
  takes-kept Header s =
      let c : Option Sizes = core_after s (core_of hs) in
      let b : Bounds = bounds_of Header limit (core_of hs) in
      own_first (joins (full_in (record_for Header) header_marks) s.last (length s.bytes) (record_for Header))
      (core_fits limit c)
      (accepts_in s.last s.number (bounds_of Header limit c)
      (add_part s.last s.number (length s.bytes) (record_for Header)) header_marks)
      (possible_in (bounds_of Body limit c) (record_for Body) body_marks)
      ∙ rw (joins-kept (bounds_of Header limit c) b header_marks hs mh pass.header_agree pass.header_clear s.last
      (length s.bytes))
      (both-same (joins (some_full (summary hs)) s.last (length s.bytes) (summary hs).part) _ _
      (λ j. rw (
        accepts-kept (bounds_of Header limit c) b header_marks hs mh pass.header_agree pass.header_clear
            s.last s.number (length s.bytes) j,
        possible-for Body (bounds_of Body limit c),
      ) refl))
  takes-kept Body s =
      let c : Option Sizes = core_of hs in
      let b : Bounds = bounds_of Body limit c in
      other-first (joins (full_in (record_for Body) body_marks) s.last (length s.bytes) (record_for Body))
      (core_fits limit c)
      (accepts_in s.last s.number b (add_part s.last s.number (length s.bytes) (record_for Body)) body_marks)
      (possible_in (bounds_of Header limit c) (record_for Header) header_marks)
      ∙ rw (joins-kept b b body_marks bs mb pass.body_agree pass.body_clear s.last (length s.bytes))
      (both-same (joins (some_full (summary bs)) s.last (length s.bytes) (summary bs).part) _ _
      (λ j. rw (
        accepts-kept b b body_marks bs mb pass.body_agree pass.body_clear s.last s.number
            (length s.bytes) j,
        possible-for Header (bounds_of Header limit c),
      ) refl))

  -- so it is exact: the segment is taken exactly when it and those that are in fit some object and cut
  pub taken : (kind : Part) (s : Segment) → limit ≤ limit_most → Bytes s.bytes
      → ¬ (Numbered s.number (those kind hs bs))
      → (takes kind limit (core_with kind s (core_of hs)) (record_for kind) (marks_for kind) (record_for (other_part kind))
      (marks_for (other_part kind)) s.last s.number (length s.bytes) ≡ true)
      ↔ Fits limit (headers_with kind s hs) (bodies_with kind s bs)
  taken kind s z y n = rw (takes-kept kind s) (accepted kind limit s hs bs z y f n)
