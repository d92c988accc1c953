-- How much is missing, by what is kept of each part: its record and how many of its marks are set. It is what the
-- stored segments give.
use Rattle.std.specs.Prelude.{◌≡◌, ◌≢◌, Bool, Option, Some, None, List, [], ◌∷◌, take, eqb, leb}
use Rattle.std.proofs.Math.Path.{refl, sym}
use Rattle.std.proofs.Common.{ap, ◌∙◌, inl, inr, zero-mul, arith, length-take, length-drop, take_all, ne_eqb, eq-eqb, le-leb, leb-false}
use Rattle.std.proofs.Math.Bool.{true, false}
use Prim.Native.Nat.{ℕ, zero, suc, ◌+◌, ◌-◌, ◌*◌, ◌/◌, ◌≤◌, ◌<◌, min}
use Rattle.std.proofs.Math.Nat.{zero-div}
use Rattle.std.proofs.Math.ListN.{length, get_or, length-append}
use Rattle.octets.specs.Octets.{sum_of}
use Rattle.answer.specs.declared.Part.{Part}
use Rattle.answer.specs.declared.Part.TheVariants.{Header, Body}
use Rattle.cut.specs.declared.Sizes.{Sizes}
use Rattle.cut.specs.Lists.{pick, Each}
use Rattle.cut.specs.laws.Lists.{each_map, each-among}
use Rattle.cut.specs.Requirement.{header_numbers, body_numbers, IsCut, Segment, Sends, Fits, bytes_of, joined}
use Rattle.cut.specs.Parts.{those, part_of, cut_of}
use Rattle.cut.specs.Kept.{bounds_of, derived, settle, some_full, summary, record_of, core_of}
use Rattle.cut.specs.Sums.{full_in}
use Rattle.cut.specs.Missing.{size_shown, length_from, length_known, arrived, missing_of, is_stored}
use Rattle.cut.specs.MissingKept.{length_in, length_kept, arrived_in, arrived_kept, missing_by}
use Rattle.cut.specs.laws.Segment.{Numbered, numbered-among, Sits, SitsAs, sends-sits}
use Rattle.cut.specs.laws.Decision.{EndSits, Clear, SumSits, sits-sum}
use Rattle.cut.specs.laws.Object.{Passes, fits-passes}
use Rattle.cut.specs.laws.Order.{Knows, knows-each, knows-last}
use Rattle.cut.specs.laws.Theorem.{end-numbered}
use Rattle.cut.specs.laws.Finished.{bytes-in}
use Rattle.cut.specs.laws.Known.{size_of, known-full}
use Rattle.cut.specs.laws.Marks.{Marked, total-some}
use Rattle.cut.specs.laws.Sums.{full-kept}
use Rattle.cut.specs.laws.Missing.{stored-numbered, unstored-bytes, length-summed, size_none}

-- ---- counting

bit_at : (l : List ℕ) (n : ℕ) → Each (λ m. m ≤ 1) l → get_or l n 0 ≤ 1
bit_at [] zero e = omega arith
bit_at [] (suc n) e = omega arith
bit_at (m ∷ l) zero e = e.0
bit_at (m ∷ l) (suc n) e = bit_at l n e.1

sum_more : (l : List ℕ) (n : ℕ) → sum_of (take (suc n) l) ≡ sum_of (take n l) + get_or l n 0
sum_more [] zero = refl
sum_more [] (suc n) = refl
sum_more (m ∷ l) zero = omega arith
sum_more (m ∷ l) (suc n) = omega (arith, sum_more l n)

-- a mark that is set is one of them
set-inside : (l : List ℕ) (n : ℕ) → 0 < get_or l n 0 → n < length l
set-inside [] zero h = absurd (omega arith)
set-inside [] (suc n) h = absurd (omega arith)
set-inside (m ∷ l) zero h = omega arith
set-inside (m ∷ l) (suc n) h = omega (arith, set-inside l n h)

scaled : (S a b : ℕ) → (a + b) * S ≡ a * S + b * S
scaled S a zero = let z : 0 * S ≡ 0 = zero-mul S in let e : a + 0 ≡ a = omega arith in rw e (omega arith)
scaled S a (suc b) = let e : a + suc b ≡ suc (a + b) = omega arith in rw e (omega (arith, scaled S a b))

numbered-stored : (n : ℕ) (ss : List Segment) → Numbered n ss → is_stored n ss ≡ true
numbered-stored n [] i = absurd i
numbered-stored n (s ∷ ss) (inl e) = rw (eq-eqb s.number n e) refl
numbered-stored n (s ∷ ss) (inr i) = go (eqb s.number n) (numbered-stored n ss i)
  where
    go : (b : Bool) → is_stored n ss ≡ true → pick b true (is_stored n ss) ≡ true
    go true e = refl
    go false e = e

-- ---- the bytes of one part that have arrived, by its marks

module _ (xs : List ℕ) (S numbers : ℕ) (ss : List Segment) (marks : List ℕ) (cuts : IsCut numbers S xs)
    (t : Each (Sends xs S) ss) (m : Marked marks ss) (short : length marks ≤ numbers) where
  some : 0 < S
  some = omega (arith, cuts.low)

  each-sits : Each (Sits S (length xs)) ss
  each-sits = each_map (λ s u. sends-sits xs S s u) ss t

  sums : Clear ss × SumSits S (length xs) (summary ss)
  sums = sits-sum S (length xs) ss some each-sits

  -- as many as the part has under a number
  piece : (n : ℕ) → Numbered n ss → length (bytes_of n ss) ≡ min S (length xs - n * S)
  piece n i = ap length (bytes-in n ss xs S t i) ∙ simp (length-take, length-drop)

  -- a full one, as it is not the last
  full-one : (n : ℕ) → suc n ≢ (summary ss).part.end → Numbered n ss → length (bytes_of n ss) ≡ S
  unfolding Sits
  full-one n d i =
      let r = numbered-among n ss i in
      by r.0 r.0.last refl r.2 (each-among (Sits S (length xs)) r.0 ss each-sits r.1)
      (each-among (Knows (summary ss)) r.0 ss (knows-each ss sums.0) r.1)
    where
      by : (s : Segment) (b : Bool) → s.last ≡ b → s.number ≡ n → Sits S (length xs) s → Knows (summary ss) s
          → length (bytes_of n ss) ≡ S
      by s true l j u k = absurd (d (sym (knows-last (summary ss) s n (length s.bytes) l j refl k).0))
      by s false l j u k =
          let v : SitsAs false S (length xs) n (length s.bytes) = rw (l, j) at u in
          omega (arith, v.1, piece n i)

  -- of a number that is not the last one's
  one : (n : ℕ) → suc n ≢ (summary ss).part.end → length (bytes_of n ss) ≡ get_or marks n 0 * S
  one n d = go (get_or marks n 0) refl (is_stored n ss) refl
    where
      go : (v : ℕ) → get_or marks n 0 ≡ v → (b : Bool) → is_stored n ss ≡ b → length (bytes_of n ss) ≡ v * S
      go zero e false f = omega (arith, ap length (unstored-bytes n ss f), zero-mul S)
      go zero e true f = absurd (omega (arith, e, (m.marked n).1 (stored-numbered n ss f)))
      go (suc zero) e b f = omega (arith, full-one n d ((m.marked n).0 (omega arith)))
      go (suc (suc v)) e b f = absurd (omega (arith, bit_at marks n m.bits))

  joined-more : (n : ℕ) → length (joined (suc n) ss) ≡ length (joined n ss) + length (bytes_of n ss)
  unfolding joined
  joined-more n = length-append (joined n ss) (bytes_of n ss)

  -- those before the last one, or all where it is not in
  front : (n : ℕ) → ((i : ℕ) → i < n → suc i ≢ (summary ss).part.end) → length (joined n ss) ≡ sum_of (take n marks) * S
  unfolding joined
  front zero f = sym (zero-mul S)
  front (suc n) f =
      let r : length (joined n ss) ≡ sum_of (take n marks) * S = front n (λ i h. f i (omega arith)) in
      let e : sum_of (take (suc n) marks) ≡ sum_of (take n marks) + get_or marks n 0 = sum_more marks n in
      rw e (joined-more n
      ∙ omega (arith, r, one n (f n (omega arith)), scaled S (sum_of (take n marks)) (get_or marks n 0)))

  pub arrived-open : (summary ss).part.end ≡ 0 → arrived numbers ss ≡ sum_of marks * S
  arrived-open e = let a : take numbers marks ≡ marks = take_all numbers marks short in
      rw a at (front numbers (λ i h x. omega (arith, x, e)))

  -- the last one, and those after it
  module _ (k tail : ℕ) (e : (summary ss).part.end ≡ suc k) (f : (summary ss).part.tail ≡ tail) where
    at-end : EndSits S (length xs) (suc k) tail
    at-end = rw (e, f) at sums.1.1

    tail-one : length (bytes_of k ss) ≡ tail
    tail-one = omega (arith, piece k (end-numbered ss k e), at-end.0, at-end.2)

    mark-one : get_or marks k 0 ≡ 1
    mark-one = omega (arith, bit_at marks k m.bits, (m.marked k).1 (end-numbered ss k e))

    past : (j : ℕ) → length (joined (suc k + j) ss) + S ≡ sum_of (take (suc k + j) marks) * S + tail
    past zero =
        let z : suc k + 0 ≡ suc k = omega arith in
        let r : length (joined k ss) ≡ sum_of (take k marks) * S = front k (λ i h x. omega (arith, x, e)) in
        let g : sum_of (take (suc k) marks) ≡ suc (sum_of (take k marks)) = omega (arith, sum_more marks k, mark-one) in
        rw (z, g) (omega (arith, joined-more k, r, tail-one))
    past (suc j) =
        let z : suc k + suc j ≡ suc (suc k + j) = omega arith in
        let o : length (bytes_of (suc k + j) ss) ≡ get_or marks (suc k + j) 0 * S = one (suc k + j)
        (λ x. omega (arith, x, e)) in
        let g : sum_of (take (suc (suc k + j)) marks) ≡ sum_of (take (suc k + j) marks) + get_or marks (suc k + j) 0 =
        sum_more marks (suc k + j) in
        rw (z, g) (omega (
          arith,
          joined-more (suc k + j),
          past j,
          o,
          scaled S (sum_of (take (suc k + j) marks)) (get_or marks (suc k + j) 0),
        ))

    end_low : suc k ≤ numbers
    end_low = omega (arith, set-inside marks k (omega (arith, mark-one)), short)

    pub arrived-ended : arrived numbers ss + S ≡ sum_of marks * S + tail
    arrived-ended =
        let z : suc k + (numbers - suc k) ≡ numbers = omega (arith, end_low) in
        let a : take numbers marks ≡ marks = take_all numbers marks short in
        rw a at (rw z at (past (numbers - suc k)))

-- ---- by its record

module _ (kind : Part) (limit : ℕ) (hs bs : List Segment) (f : Fits limit hs bs) where
  passes : Passes limit hs bs
  passes = fits-passes limit hs bs f

  full_is : (part : Part) (marks : List ℕ) → Marked marks (those part hs bs)
      → full_in (record_of (bounds_of part limit (core_of hs)) (summary (those part hs bs))) marks
      ≡ some_full (summary (those part hs bs))
  full_is Header marks m = full-kept (bounds_of Header limit (core_of hs)) (bounds_of Header limit (core_of hs)) marks hs m
      passes.header_agree passes.header_clear
  full_is Body marks m = full-kept (bounds_of Body limit (core_of hs)) (bounds_of Body limit (core_of hs)) marks bs m
      passes.body_agree passes.body_clear

  -- with no full one, nothing but the last one is counted; with one, the size is S
  counted : (count top size : ℕ) → (top ≡ 0 → count ≡ 0) → (1 ≤ top → size ≡ cut_of kind f) → count * size
      ≡ count * cut_of kind f
  counted count zero size z s = rw (z refl) (zero-mul size ∙ sym (zero-mul (cut_of kind f)))
  counted count (suc top) size z s = rw (s (omega arith)) refl

  module _ (numbers : ℕ) (marks : List ℕ) (cuts : IsCut numbers (cut_of kind f) (part_of kind f))
      (sent : Each (Sends (part_of kind f) (cut_of kind f)) (those kind hs bs)) (m : Marked marks (those kind hs bs))
      (short : length marks ≤ numbers) where
    none-full : (end top : ℕ) → leb (suc (min 1 end)) (sum_of marks) ≡ leb 1 top → top ≡ 0 → sum_of marks ≤ min 1 end
    none-full end zero g z = omega (arith, leb-false (suc (min 1 end)) (sum_of marks) g)
    none-full end (suc top) g z = absurd (omega arith)

    by_end : (end tail : ℕ) → (summary (those kind hs bs)).part.end ≡ end
        → (summary (those kind hs bs)).part.tail ≡ tail
        → leb (suc (min 1 end)) (sum_of marks) ≡ leb 1 (summary (those kind hs bs)).top
        → arrived_in (sum_of marks) (size_of kind limit hs bs) end tail ≡ arrived numbers (those kind hs bs)
    by_end zero tail e g l =
        counted (sum_of marks) (summary (those kind hs bs)).top (size_of kind limit hs bs)
        (λ z. omega (arith, none-full 0 (summary (those kind hs bs)).top l z)) (known-full kind limit hs bs f)
        ∙ sym (arrived-open (part_of kind f) (cut_of kind f) numbers (those kind hs bs) marks cuts sent m short e)
    by_end (suc k) tail e g l =
        let a =
        arrived-ended (part_of kind f) (cut_of kind f) numbers (those kind hs bs) marks cuts sent m short k tail e g
        in
        let h : 0 < sum_of marks = total-some marks k ((m.marked k).1 (end-numbered (those kind hs bs) k e)) in
        let c = counted (sum_of marks - 1) (summary (those kind hs bs)).top (size_of kind limit hs bs)
        (λ z. omega (arith, none-full (suc k) (summary (those kind hs bs)).top l z)) (known-full kind limit hs bs f) in
        let d : sum_of marks * cut_of kind f ≡ (sum_of marks - 1) * cut_of kind f + cut_of kind f =
        one_less (sum_of marks) h in
        omega (arith, a, c, d)
      where
        one_less : (n : ℕ) → 0 < n → n * cut_of kind f ≡ (n - 1) * cut_of kind f + cut_of kind f
        one_less zero h = absurd (omega arith)
        one_less (suc n) h = let z : suc n - 1 ≡ n = omega arith in rw z (omega arith)

    pub arrived-kept :
        arrived_kept (sum_of marks) (record_of (bounds_of kind limit (core_of hs)) (summary (those kind hs bs)))
        ≡ arrived numbers (those kind hs bs)
    unfolding settle size_of
    arrived-kept = by_end (summary (those kind hs bs)).part.end (summary (those kind hs bs)).part.tail refl refl
        (full_is kind marks m)

-- while segment 0 is not in, only a full one gives the size
body-none : (limit n tail : ℕ) → pick (eqb 0 limit) ((limit - tail) / n) 0 ≡ 0
body-none zero n tail = let e : 0 - tail ≡ 0 = omega arith in rw (e, zero-div) refl
body-none (suc limit) n tail = rw (ne_eqb 0 (suc limit) (λ e. omega arith)) refl

derived-none : (kind : Part) (limit end tail : ℕ) → derived (bounds_of kind limit None) end tail ≡ 0
unfolding bounds_of
derived-none kind limit zero tail = refl
derived-none kind limit (suc zero) tail = refl
derived-none Header limit (suc (suc n)) tail = refl
derived-none Body limit (suc (suc n)) tail = body-none limit (suc n) tail

size-unseen : (kind : Part) (limit : ℕ) (ss : List Segment) → (record_of (bounds_of kind limit None) (summary ss)).size
    ≡ (summary ss).part.size
unfolding settle
size-unseen kind limit ss = go (summary ss).top refl
  where
    go : (t : ℕ) → (summary ss).top ≡ t
        → pick (leb 1 t) (summary ss).part.size
        (derived (bounds_of kind limit None) (summary ss).part.end (summary ss).part.tail)
        ≡ (summary ss).part.size
    go zero e = derived-none kind limit (summary ss).part.end (summary ss).part.tail ∙ sym (size_none ss e)
    go (suc t) e = rw (le-leb 1 (suc t) (omega arith)) refl

unseen-kept : (kind : Part) (limit : ℕ) (ss : List Segment)
    → length_in (record_of (bounds_of kind limit None) (summary ss)).size
    (summary ss).part.end (summary ss).part.tail
    ≡ length_from (size_shown ss) ss
unseen-kept kind limit ss = rw (size-unseen kind limit ss) (sym (length-summed ss))

length-kept : (kind : Part) (limit : ℕ) (c : Option Sizes) (ss : List Segment)
    → length_kept kind c (record_of (bounds_of kind limit c) (summary ss)) ≡ length_known kind c ss
unfolding settle
length-kept Header limit None ss = unseen-kept Header limit ss
length-kept Body limit None ss = unseen-kept Body limit ss
length-kept Header limit (Some sizes) ss = refl
length-kept Body limit (Some sizes) ss = refl

-- THE NUMBER that the records and the marks give is the one that the segments give
pub missing-kept : (limit : ℕ) (hs bs : List Segment) → Fits limit hs bs → (header_marks body_marks : List ℕ)
    → Marked header_marks hs → Marked body_marks bs → length header_marks ≤ header_numbers → length body_marks ≤ body_numbers
    → missing_by (core_of hs) (sum_of header_marks) (record_of (bounds_of Header limit (core_of hs)) (summary hs))
    (sum_of body_marks) (record_of (bounds_of Body limit (core_of hs)) (summary bs)) ≡ missing_of hs bs
unfolding missing_by missing_of
missing-kept limit hs bs f header_marks body_marks mh mb sh sb =
    rw (
      length-kept Header limit (core_of hs) hs,
      length-kept Body limit (core_of hs) bs,
      arrived-kept Header limit hs bs f header_numbers header_marks f.header_cuts f.header_sent mh sh,
      arrived-kept Body limit hs bs f body_numbers body_marks f.body_cuts f.body_sent mb sb,
    ) refl
