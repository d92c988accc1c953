-- One part whose tests pass: its marked segments are those of a part so long, cut so, and its record is the one that
-- they give. And back.
use Rattle.std.specs.Prelude.{◌≡◌, Bool, true, false, length, get_or, eqb, leb}
use Rattle.std.proofs.Math.Path.{refl}
use Rattle.std.proofs.Common.{sym, ap, ◌∙◌, subst, arith, eqb-true, eq-eqb, le-leb}
use Prim.Native.Nat.{ℕ, zero, suc, ◌≤◌, ◌<◌}
use Rattle.octets.specs.laws.Over.{part_length}
use Rattle.cut.specs.laws.Lists.{each-zip, each-among, among-each}
use Rattle.cut.specs.Requirement.{Segment}
use Rattle.cut.specs.declared.Bounds.{Bounds}
use Rattle.cut.specs.Kept.{derived, settle, summary, record_of}
use Rattle.cut.specs.laws.Segment.{Sits, among-numbered}
use Rattle.cut.specs.laws.Decision.{Clear, sits-sum}
use Rattle.cut.specs.laws.Object.{WithinOf}
use Rattle.cut.specs.laws.Order.{Knows, knows-each, knows-last, EndFrom, TopFrom, end-from, top-from}
use Rattle.cut.specs.laws.Marks.{top_from, top_kept}
use Rattle.cut.specs.Sums.{possible_in}
use Rattle.cut.specs.Lists.{pick, Each}
use Rattle.part.specs.Memory.{Memory, place_of, length_of, segment_as, segment_at, held_in}
use Rattle.part.specs.Asked.{record_right}
use Rattle.part.specs.laws.Inside.{top_in, right_end, right-size, right-suits, size-known, marked-sits, sits-before, place-lies}
use Rattle.part.specs.laws.Keeps.{Laid}
use Rattle.part.specs.laws.Held.{at-number, at-among, held_reads, held-numbered, held-marked, reads-agree}
use Rattle.part.specs.laws.Step.{Noted, segment-laid}

at_last : (m : Memory) (n : ℕ) → (segment_at m n).last ≡ eqb (suc n) m.kept.end
unfolding segment_at
at_last m n = refl

module _ (b : Bounds) (m : Memory) (bits : Each (λ x. x ≤ 1) m.marks) (right : record_right b m.kept m.marks
    ≡ true) (can : possible_in b m.kept m.marks ≡ true) (space : b.most ≤ length m.share) where
  pub cut : ℕ
  cut = (right-suits b m bits right can).cut

  pub long : ℕ
  long = (right-suits b m bits right can).long

  pub within : WithinOf b cut long
  unfolding cut long
  within = (right-suits b m bits right can).within

  cut-some : 0 < cut
  cut-some = omega (arith, within.low)

  -- a marked number's segment is as long as recorded
  at_length : (last : Bool) (n : ℕ) → eqb (suc n) m.kept.end ≡ last → 0 < get_or m.marks n 0
      → length (segment_as last m n).bytes ≡ length_of last m.kept
  unfolding cut long
  at_length last n e h =
      let k : ℕ = length_of last m.kept in
      let t = sits-before last cut long m.kept.size n k (marked-sits b m bits right can last n e h)
      (size-known b m bits right can) in
      part_length m.share (place_of last m.kept.size (length m.share) n k) k
      (place-lies last (length m.share) m.kept.size n k (omega (arith, t, within.short)))

  at-noted : (n : ℕ) → 0 < get_or m.marks n 0 → Noted m.kept (segment_at m n)
  unfolding segment_at
  at-noted n h = record { flag = refl; long = at_length (eqb (suc n) m.kept.end) n refl h }

  at-sits : (n : ℕ) → 0 < get_or m.marks n 0 → Sits cut long (segment_at m n)
  unfolding Sits segment_at cut long
  at-sits n h = rw (at_length (eqb (suc n) m.kept.end) n refl h)
      (marked-sits b m bits right can (eqb (suc n) m.kept.end) n refl h)

  -- what holds at each marked number holds of each marked segment
  each-held : (P : Segment → Type 0) → ((n : ℕ) → 0 < get_or m.marks n 0 → P (segment_at m n)) → Each P (held_in m)
  each-held P f = among-each (held_in m) (λ s i.
      let e : segment_at m s.number ≡ s = each-among (λ x. segment_at m x.number ≡ x) s (held_in m) (held_reads m) i
      in
      subst P e (f s.number ((held-numbered m s.number).1 (among-numbered s (held_in m) i))))

  pub held-sits : Each (Sits cut long) (held_in m)
  held-sits = each-held (Sits cut long) at-sits

  pub held-laid : Each (Laid m.kept.size m.share) (held_in m)
  held-laid = each-zip (λ s n e. segment-laid m s n e) (held_in m) (each-held (Noted m.kept) at-noted) (held_reads m)

  -- ---- the record

  clear : Clear (held_in m)
  clear = (sits-sum cut long (held_in m) cut-some held-sits).0

  knows : Each (Knows (summary (held_in m))) (held_in m)
  knows = knows-each (held_in m) clear

  end_is : (end : ℕ) → m.kept.end ≡ end → (end' tail' : ℕ) → (summary (held_in m)).part.end ≡ end'
      → (summary (held_in m)).part.tail ≡ tail' → EndFrom (held_in m) end' tail' → (m.kept.end ≡ end')
      × (m.kept.tail ≡ tail')
  end_is zero e zero tail' x y f = (e, (right_end b m bits right can).0 e ∙ sym f)
  end_is zero e (suc n) tail' x y f =
      let i : segment_at m f.0.number ≡ f.0 = each-among (λ s. segment_at m s.number ≡ s) f.0 (held_in m)
      (held_reads m) f.1 in
      let l : eqb (suc f.0.number) m.kept.end ≡ true = sym (at_last m f.0.number)
      ∙ ap (λ (s : Segment). s.last) i ∙ f.2 in
      absurd (omega (arith, eqb-true (suc f.0.number) m.kept.end l))
  end_is (suc n) e end' tail' x y f =
      let h : 0 < get_or m.marks n 0 = (right_end b m bits right can).1 n e in
      let l : eqb (suc n) m.kept.end ≡ true = eq-eqb (suc n) m.kept.end (sym e) in
      let k : Knows (summary (held_in m)) (segment_at m n) = each-among (Knows (summary (held_in m))) (segment_at m n)
      (held_in m) knows (at-among m n (held_in m) (held_reads m) ((held-numbered m n).0 h)) in
      let g : length (segment_at m n).bytes ≡ m.kept.tail = (at-noted n h).long
      ∙ ap (λ (last : Bool). length_of last m.kept) (at_last m n ∙ l) in
      let r = knows-last (summary (held_in m)) (segment_at m n) n m.kept.tail (at_last m n ∙ l) (at-number m n) g k in
      (e ∙ sym r.0 ∙ x, sym r.1 ∙ y)

  ends : (m.kept.end ≡ (summary (held_in m)).part.end) × (m.kept.tail ≡ (summary (held_in m)).part.tail)
  ends = end_is m.kept.end refl (summary (held_in m)).part.end (summary (held_in m)).part.tail refl refl
      (end-from (held_in m))

  top-is : top_in m ≡ (summary (held_in m)).top
  top-is = ap (λ (e : ℕ). top_from e 0 m.marks) ends.0 ∙ top_kept m.marks (held_in m) (held-marked m bits)
      (reads-agree m (held_in m) (held_reads m)) clear

  size_is : (top size : ℕ) → top_in m ≡ top → TopFrom (held_in m) top size → m.kept.size
      ≡ pick (leb 1 top) size (derived b m.kept.end m.kept.tail)
  size_is zero size e f = right-size b m bits right can e
  size_is (suc t) size e f =
      let i : segment_at m f.0.number ≡ f.0 = each-among (λ s. segment_at m s.number ≡ s) f.0 (held_in m)
      (held_reads m) f.1 in
      let h : 0 < get_or m.marks f.0.number 0 =
      (held-numbered m f.0.number).1 (among-numbered f.0 (held_in m) f.1) in
      let l : (segment_at m f.0.number).last ≡ false = ap (λ (s : Segment). s.last) i ∙ f.2 in
      let g : length (segment_at m f.0.number).bytes ≡ m.kept.size = (at-noted f.0.number h).long
      ∙ ap (λ (last : Bool). length_of last m.kept) l in
      rw (le-leb 1 (suc t) (omega arith)) (sym g ∙ ap (λ (s : Segment). length s.bytes) i ∙ f.4)

  pub held-record : m.kept ≡ record_of b (summary (held_in m))
  unfolding settle
  held-record =
      let z : m.kept.size ≡ pick (leb 1 (summary (held_in m)).top) (summary (held_in m)).part.size
      (derived b m.kept.end m.kept.tail) =
      size_is (summary (held_in m)).top (summary (held_in m)).part.size top-is (top-from (held_in m) clear) in
      let y : m.kept.size ≡ pick (leb 1 (summary (held_in m)).top) (summary (held_in m)).part.size
      (derived b (summary (held_in m)).part.end (summary (held_in m)).part.tail) =
      rw (← ends.0, ← ends.1) z in
      λ i. record { size = y i; end = ends.0 i; tail = ends.1 i }
