-- A finished object's shares start with its header and its body: those of every object and cut that fits, and the held
-- segments joined by number.
use Rattle.std.specs.Prelude.{◌≡◌, refl, ◌⊎◌, Bool, true, List, [], ◌∷◌, ℕ, ◌+◌, ◌*◌, ◌≤◌, ◌<◌, length, take, drop}
use Rattle.std.proofs.Math.Path.{sym}
use Rattle.std.proofs.Common.{ap, ◌∙◌, subst, inl, inr, zero-mul, zero-add, arith}
use Rattle.std.proofs.Math.Decide.{ℕ_discrete}
use Rattle.octets.specs.laws.Over.{part_length, part-part}
use Rattle.answer.specs.declared.Part.{Part}
use Rattle.answer.specs.declared.Part.TheVariants.{Header, Body}
use Rattle.cut.specs.laws.Lists.{each_map, each-zip, each-zip3}
use Rattle.cut.specs.Requirement.{limit_most, IsCut, Segment, Sends, Fits, Whole, Finished}
use Rattle.cut.specs.declared.Bounds.{Bounds}
use Rattle.cut.specs.Kept.{bounds_of, core_of}
use Rattle.cut.specs.laws.Segment.{Sits, Stands, inside, none_first, sits-sends, Numbered}
use Rattle.cut.specs.Parts.{those, part_of, cut_of}
use Rattle.cut.specs.laws.Finished.{whole_numbers, part-joined, finished-joined, finished-every, finished-one}
use Rattle.cut.specs.Lists.{Each}
use Rattle.object.specs.declared.Slot.{Slot}
use Rattle.object.specs.declared.Stage.{Stage}
use Rattle.part.specs.Memory.{Memory, place_of}
use Rattle.object.specs.Sound.{sound_slot}
use Rattle.object.specs.laws.Shape.{IsLent, numbers_of}
use Rattle.object.specs.laws.Held.{Gathers, Holds, Shows}
use Rattle.object.specs.State.{StageFor, marked_segments}
use Rattle.part.specs.laws.Keeps.{LaidAs, Laid, Keeps}
use Rattle.part.specs.laws.Bytes.{place-known}
use Rattle.part.specs.laws.Step.{Room, size_is, size_none, one_last}
use Rattle.object.specs.laws.HeldSlot.{fits-room, part-keeps}
use Rattle.object.specs.laws.StateExact.{sound-holds}
use Rattle.object.specs.Parts.{Lent, Parts, parts_of, memory_of}

-- ---- one part

-- where a segment of a whole part stands: at its number times the cut
place-whole : (last : Bool) (size S width n k : ℕ) → 0 < S → (size ≡ 0) ⊎ (size ≡ S)
    → (size ≡ 0 → (last ≡ true) × (n ≡ 0)) → place_of last size width n k ≡ n * S
place-whole last size S width n k z (inr e) h = place-known last size width n k (omega arith) ∙ ap (λ (x : ℕ). n * x) e
place-whole last size S width n k z (inl e) h = let r = h e in rw (r.0, r.1, e, zero-mul) refl

-- while the size is not known, the last segment of a whole part is the first
first-only : (S L : ℕ) (s : Segment) (ss : List Segment) → 0 < S → Each (Sits S L) ss → Each (λ t. t.last ≡ true) ss
    → Numbered 0 ss → Sits S L s → s.last ≡ true → s.number ≡ 0
first-only S L s [] z t l i u f = absurd i
first-only S L s (q ∷ ss) z t l (inl e) u f = one_last S L s q z u t.0 f l.0 ∙ e
first-only S L s (q ∷ ss) z t l (inr i) u f = first-only S L s ss z t.1 l.1 i u f

laid-stands : (last : Bool) (size S L n : ℕ) (share bytes : List ℕ) → place_of last size (length share) n (length bytes)
    ≡ n * S → n * S + length bytes ≤ L → L ≤ length share → LaidAs last size share n bytes
    → take (length bytes) (drop (n * S) (take L share)) ≡ bytes
laid-stands last size S L n share bytes e h g p =
    let a : take (length bytes) (drop (n * S) (take L share)) ≡ take (length bytes) (drop (0 + n * S) share) =
    part-part share 0 L (n * S) (length bytes) h (omega arith) in
    a ∙ ap (λ (x : ℕ). take (length bytes) (drop x share)) (zero-add (n * S)) ∙ (rw e at p)

module _ (b : Bounds) (S : ℕ) (xs : List ℕ) (m : Memory) (ss : List Segment) (k : Keeps b m ss)
    (r : Room b S (length xs) m ss) (t : Each (Sends xs S) ss) (w : Whole xs S ss) (numbers : ℕ)
    (c : IsCut numbers S xs) where
  ys : List ℕ
  ys = take (length xs) m.share

  long : length ys ≡ length xs
  unfolding ys
  long = part_length m.share 0 (length xs) (omega (arith, r.space))

  some : 0 < S
  some = omega (arith, r.within.low)

  known : (m.kept.size ≡ 0) ⊎ (m.kept.size ≡ S)
  known = rw k.kept (size_is b S (length xs) ss r.within r.sits)

  first : 0 < length xs → Numbered 0 ss
  first h = (whole_numbers xs S ss t).0 w 0 (omega (arith, zero-mul S))

  number-first : (s : Segment) → Sits S (length xs) s → Each (λ s. s.last ≡ true) ss → s.last ≡ true → s.number ≡ 0
  number-first s u l f = go (ℕ_discrete (length xs) 0)
    where
      go : Dec (length xs ≡ 0) → s.number ≡ 0
      go (yes z) = none_first S s.number some (omega (arith, (inside S (length xs) s some u).starts))
      go (no z) = first-only S (length xs) s ss some r.sits l (first (omega arith)) u f

  Facts : Segment → Type 0
  Facts s = m.kept.size ≡ 0 → (s.last ≡ true) × (s.number ≡ 0)

  facts : Each Facts ss
  unfolding Facts
  facts = go (ℕ_discrete m.kept.size 0)
    where
      go : Dec (m.kept.size ≡ 0) → Each Facts ss
      go (no z) = each_map (λ s u e. absurd (z e)) ss r.sits
      go (yes z) =
          let l : Each (λ s. s.last ≡ true) ss = size_none b S (length xs) ss r.within r.sits (rw k.kept at z)
          in
          each-zip (λ s u f e. (f, number-first s u l f)) ss r.sits l

  sent : Each (Sends ys S) ss
  unfolding ys Laid Stands Facts
  sent = each-zip3 step ss r.sits facts k.laid
    where
      step : (s : Segment) → Sits S (length xs) s → Facts s → Laid m.kept.size m.share s → Sends ys S s
      step s u f p =
          sits-sends ys S s some (rw long u)
          (laid-stands s.last m.kept.size S (length xs) s.number m.share s.bytes
          (place-whole s.last m.kept.size S (length m.share) s.number (length s.bytes) some known f)
          (inside S (length xs) s some u).ends r.space p)

  whole : Whole ys S ss
  whole = (whole_numbers ys S ss sent).1 (λ n h. (whole_numbers xs S ss t).0 w n (omega (arith, long)))

  -- the front of the share is the part
  part-shown : take (length xs) m.share ≡ xs
  unfolding ys
  part-shown =
      sym (part-joined ys S ss sent whole numbers
      (record { low = c.low; high = c.high; enough = omega (arith, long, c.enough) }))
      ∙ part-joined xs S ss t w numbers c

-- ---- the object

sent-of : (part : Part) {limit : ℕ} {hs bs : List Segment} (f : Fits limit hs bs)
    → Each (Sends (part_of part f) (cut_of part f)) (those part hs bs)
sent-of Header f = f.header_sent
sent-of Body f = f.body_sent

cuts-of : (part : Part) {limit : ℕ} {hs bs : List Segment} (f : Fits limit hs bs)
    → IsCut (numbers_of part) (cut_of part f) (part_of part f)
cuts-of Header f = f.header_cuts
cuts-of Body f = f.body_cuts

whole_of : (part : Part) {limit : ℕ} {hs bs : List Segment} (f : Fits limit hs bs) → Finished f
    → Whole (part_of part f) (cut_of part f) (those part hs bs)
whole_of Header f w = w.header
whole_of Body f w = w.body

share-shown : (part : Part) (limit : ℕ) (ps : Parts) (hs bs : List Segment) → Gathers limit ps hs bs
    → (f : Fits limit hs bs) → Finished f → take (length (part_of part f)) (memory_of part ps).share ≡ part_of part f
share-shown part limit ps hs bs g f w = part-shown (bounds_of part limit (core_of hs)) (cut_of part f) (part_of part f)
    (memory_of part ps) (those part hs bs) (part-keeps part limit ps hs bs g)
    (fits-room part limit ps hs bs f g.shape) (sent-of part f) (whole_of part f w) (numbers_of part) (cuts-of part f)

-- a slot that is finished shows the object
pub holds-shows : (limit : ℕ) (slot : Slot) (lent : Lent) (hs bs : List Segment) → Holds limit slot lent hs bs
    → (header body : ℕ) → slot.stage ≡ Stage.Finished header body → Shows limit lent header body hs bs
unfolding parts_of
holds-shows limit slot lent hs bs h header body e =
    record {
      object = o;
      every = every;
      by_number = let j = finished-joined limit hs bs o s.0 in
          ((every o).0 ∙ sym j.0, (every o).1 ∙ sym j.1);
    }
  where
    o : Fits limit hs bs
    o = h.gathers.object

    s : StageFor o (Stage.Finished header body)
    s = subst (λ (x : Stage). StageFor o x) e h.stage

    shown : (f : Fits limit hs bs) → Finished f → (length f.header ≡ header) × (length f.body ≡ body)
        → (take header lent.header ≡ f.header) × (take body lent.body ≡ f.body)
    shown f w l = (
      ap (λ (n : ℕ). take n lent.header) (sym l.0) ∙ share-shown Header limit (parts_of slot lent) hs bs
          h.gathers f w,
      ap (λ (n : ℕ). take n lent.body) (sym l.1) ∙ share-shown Body limit (parts_of slot lent) hs bs h.gathers f
          w,
    )

    every : (f : Fits limit hs bs) → (take header lent.header ≡ f.header) × (take body lent.body ≡ f.body)
    every f =
        let one = finished-one limit hs bs o f s.0 in
        shown f (finished-every limit hs bs o f s.0) (
          ap length one.0 ∙ sym s.1,
          ap length one.1
              ∙ sym s.2,
        )

-- and so does a sound slot whose stage says so, of its marked segments
pub sound-shows : (limit : ℕ) (slot : Slot) (lent : Lent) → limit ≤ limit_most → IsLent limit lent
    → sound_slot limit slot lent ≡ true → (header body : ℕ) → slot.stage ≡ Stage.Finished header body
    → Shows limit lent header body (marked_segments Header slot lent) (marked_segments Body slot lent)
sound-shows limit slot lent z l e header body f = holds-shows limit slot lent (marked_segments Header slot lent)
    (marked_segments Body slot lent) (sound-holds limit slot lent z l e) header body f
