-- A segment is offered to a slot that holds segments which fit: each outcome comes exactly when document 01 says, and
-- what the slot holds afterwards.
use Rattle.std.specs.Prelude.{◌≡◌, ◌⊎◌, ◌↔◌, Bool, List, [], ◌∷◌, ◌++◌, ℕ, zero, suc, ◌≤◌, ◌<◌, length, get_or, take, drop}
use Rattle.std.proofs.Math.Path.{refl}
use Rattle.std.proofs.Common.{sym, ap, ◌∙◌, subst, inl, inr, arith, take_at, drop_at}
use Rattle.std.proofs.Math.Bool.{true, false}
use Rattle.octets.specs.Octets.{equal}
use Rattle.octets.specs.laws.Marks.{equal-exactly}
use Rattle.answer.specs.declared.Part.{Part}
use Rattle.answer.specs.declared.Part.TheVariants.{Header, Body}
use Rattle.cut.specs.Requirement.{limit_most, header_numbers, Segment, empty, Sends, Fits, Finished}
use Rattle.cut.specs.Missing.{amount_kept}
use Rattle.cut.specs.laws.Segment.{Numbered, among-numbered, segment-some}
use Rattle.cut.specs.laws.Decision.{both_true, true-both, false-true}
use Rattle.cut.specs.Parts.{headers_with, bodies_with, those}
use Rattle.cut.specs.laws.Theorem.{fits-less, with-one, repeat-fits, same-fits}
use Rattle.cut.specs.laws.Finished.{finished-every}
use Rattle.cut.specs.laws.Empty.{no_other}
use Rattle.cut.specs.Lists.{Each, Among, Bytes}
use Rattle.object.specs.declared.Slot.{Slot}
use Rattle.object.specs.declared.Stage.{Stage}
use Rattle.object.specs.declared.Outcome.{Outcome}
use Rattle.object.specs.declared.Outcome.TheVariants.{Stored, Complete, Repeat, Conflict}
use Rattle.part.specs.Memory.{segment_at}
use Rattle.object.specs.Take.{takes_in, parts_with, Taken, unchanged, outcome_by, slot_with, stored_as, take_into}
use Rattle.object.specs.laws.Decided.{if_new, if_held, by_mark, take-by-mark}
use Rattle.part.specs.Asked.{same_flag, same_segment}
use Rattle.object.specs.laws.Held.{Gathers, Holds, Added}
use Rattle.object.specs.State.{StageFor}
use Rattle.part.specs.laws.Held.{at-number, at-among}
use Rattle.object.specs.laws.HeldSlot.{part-keeps, part-reads, takes-fits, next-gathers}
use Rattle.object.specs.laws.StepStage.{stage-right}
use Rattle.object.specs.laws.StepMissing.{missing-right}
use Rattle.object.specs.Parts.{Lent, Parts, parts_of, lent_of, memory_of}
use Rattle.object.specs.Stage.{stage_of}

-- ---- the same segment

flag_same : (a b : Bool) → (same_flag a b ≡ true) ↔ (a ≡ b)
flag_same true b = (sym, sym)
flag_same false true = ((λ e. e), (λ e. e))
flag_same false false = ((λ e. refl), (λ e. refl))

pub same-exactly : (s t : Segment) → s.number ≡ t.number → (same_segment s t ≡ true) ↔ (s ≡ t)
unfolding same_segment
same-exactly s t n = (
  (λ e.
      let r = both_true (same_flag s.last t.last) (equal s.bytes t.bytes) e in
      let f : s.last ≡ t.last = (flag_same s.last t.last).0 r.0 in
      let g : s.bytes ≡ t.bytes = (equal-exactly s.bytes t.bytes).0 r.1 in
      λ i. record { number = n i; last = f i; bytes = g i }),
  (λ e. true-both (same_flag s.last t.last) (equal s.bytes t.bytes)
      ((flag_same s.last t.last).1 (ap (λ (x : Segment). x.last) e))
      ((equal-exactly s.bytes t.bytes).1 (ap (λ (x : Segment). x.bytes) e))),
)

-- ---- the slot that is left

-- the parts of the slot and of the shares that parts leave are these parts
pub parts-back : (number : ℕ) (ps : Parts) → length ps.header.marks ≡ header_numbers
    → parts_of (slot_with number ps) (lent_of ps) ≡ ps
unfolding parts_of slot_with lent_of
parts-back number ps h =
    let t : take header_numbers (ps.header.marks ++ ps.body.marks) ≡ ps.header.marks =
    take_at ps.header.marks ps.body.marks header_numbers h in
    let d : drop header_numbers (ps.header.marks ++ ps.body.marks) ≡ ps.body.marks =
    drop_at ps.header.marks ps.body.marks header_numbers h in
    λ i. record {
      header = record { kept = ps.header.kept; marks = t i; share = ps.header.share };
      body = record { kept = ps.body.kept; marks = d i; share = ps.body.share };
    }

pub parts-hold : (limit number : ℕ) (ps : Parts) (hs bs : List Segment) → Gathers limit ps hs bs
    → Holds limit (slot_with number ps) (lent_of ps) hs bs
unfolding slot_with
parts-hold limit number ps hs bs g =
    let k : Gathers limit (parts_of (slot_with number ps) (lent_of ps)) hs bs =
    subst (λ (x : Parts). Gathers limit x hs bs) (sym (parts-back number ps g.shape.header_marks)) g in
    record {
      gathers = k;
      stage = stage-right limit ps hs bs g k.object;
      missing = ap amount_kept (missing-right limit ps hs bs g);
    }

-- ---- what is finished without a segment

-- an empty segment brings nothing new
among-some : (s : Segment) (ss : List Segment) → length s.bytes ≡ 0 → (t : Segment) → 0 < length t.bytes
    → Among t (s ∷ ss) → Among t ss
among-some s ss e t b (inl i) = absurd (omega (arith, ap (λ (x : Segment). length x.bytes) i))
among-some s ss e t b (inr j) = j

finished-less : (part : Part) (limit : ℕ) (s : Segment) (hs bs : List Segment)
    (f : Fits limit (headers_with part s hs) (bodies_with part s bs))
    → ((t : Segment) → 0 < length t.bytes → Among t (s ∷ those part hs bs) → Among t (those part hs bs)) → Finished f
    → (g : Fits limit hs bs) × Finished g
finished-less Header limit s hs bs f i w = (
  fits-less Header limit s hs bs f,
  record {
    header = λ t u. i t (segment-some f.header f.header_cut t f.header_cuts.low u) (w.header t u);
    body = w.body;
  },
)
finished-less Body limit s hs bs f i w = (
  fits-less Body limit s hs bs f,
  record {
    header = w.header;
    body = λ t u. i t (segment-some f.body f.body_cut t f.body_cuts.low u) (w.body t u);
  },
)

-- once every segment is in, what still fits is in already, or is the empty one of a body that has nothing
pub late : (part : Part) (limit : ℕ) (s : Segment) (hs bs : List Segment)
    → Fits limit (headers_with part s hs) (bodies_with part s bs) → (g : Fits limit hs bs) → Finished g
    → Among s (those part hs bs) ⊎ ((part ≡ Body) × (s ≡ empty) × (bs ≡ []))
late Header limit s hs bs f g w = go f.header_sent.0
  where
    go : Sends f.header f.header_cut s → Among s hs ⊎ ((Header ≡ Body) × (s ≡ empty) × (bs ≡ []))
    go (inl t) = inl ((finished-every limit hs bs g (fits-less Header limit s hs bs f) w).header s t)
    go (inr t) = absurd (omega (arith, f.object.header_low, t.0))
late Body limit s hs bs f g w = go f.body_sent.0
  where
    alone : (bs : List Segment) → s ≡ empty → Each (λ t. t ≡ empty) bs
        → Among s bs ⊎ ((Body ≡ Body) × (s ≡ empty) × (bs ≡ []))
    alone [] e q = inr (refl, e, refl)
    alone (t ∷ ts) e q = inl (inl (q.0 ∙ sym e))

    go : Sends f.body f.body_cut s → Among s bs ⊎ ((Body ≡ Body) × (s ≡ empty) × (bs ≡ []))
    go (inl t) = inl ((finished-every limit hs bs g (fits-less Body limit s hs bs f) w).body s t)
    go (inr t) = alone bs t.1 (no_other limit hs (s ∷ bs) f (inl t.1)).1

-- so one that has bytes is in already
finished-new : (part : Part) (limit : ℕ) (s : Segment) (hs bs : List Segment)
    (f : Fits limit (headers_with part s hs) (bodies_with part s bs)) (g : Fits limit hs bs) → 0 < length s.bytes
    → Finished g → Among s (those part hs bs)
finished-new part limit s hs bs f g b w = go (late part limit s hs bs f g w)
  where
    go : Among s (those part hs bs) ⊎ ((part ≡ Body) × (s ≡ empty) × (bs ≡ [])) → Among s (those part hs bs)
    go (inl i) = i
    go (inr e) = absurd (omega (arith, ap (λ (x : Segment). length x.bytes) e.1))

-- ---- what an outcome tells

abbrev pub Tells : Outcome → Part → ℕ → Segment → Slot → Lent → List Segment → List Segment → Taken → Type 0
Tells Stored part limit s slot lent hs bs t = Added part limit s slot hs bs t
    × ((f : Fits limit (headers_with part s hs) (bodies_with part s bs))
    → (¬ (Finished f)) ⊎ ((g : Fits limit hs bs) × Finished g))
Tells Complete part limit s slot lent hs bs t = Added part limit s slot hs bs t
    × ((f : Fits limit (headers_with part s hs) (bodies_with part s bs)) → Finished f) × (0 < length s.bytes)
Tells Repeat part limit s slot lent hs bs t = Among s (those part hs bs) × (t ≡ unchanged Repeat slot lent)
Tells Conflict part limit s slot lent hs bs t = (¬ (Fits limit (headers_with part s hs) (bodies_with part s bs)))
    × (t ≡ unchanged Conflict slot lent)

by-stage : (part : Part) (limit : ℕ) (s : Segment) (slot : Slot) (lent : Lent) (hs bs : List Segment) (t : Taken)
    (count : ℕ) (stage : Stage) → length s.bytes ≡ count → Added part limit s slot hs bs t
    → ((f : Fits limit (headers_with part s hs) (bodies_with part s bs)) → StageFor f stage)
    → Tells (outcome_by count stage) part limit s slot lent hs bs t
by-stage part limit s slot lent hs bs t count Stage.Free e w r = absurd (r w.holds.gathers.object)
by-stage part limit s slot lent hs bs t count Stage.Gathering e w r = (w, (λ f. inl (r f)))
by-stage part limit s slot lent hs bs t zero (Stage.Finished h b) e w r =
    (w, (λ f. inr (finished-less part limit s hs bs f (among-some s (those part hs bs) e) (r f).0)))
by-stage part limit s slot lent hs bs t (suc count) (Stage.Finished h b) e w r = (w, (λ f. (r f).0), omega arith)

module _ (part : Part) (limit : ℕ) (s : Segment) (slot : Slot) (lent : Lent) (hs bs : List Segment)
    (z : limit ≤ limit_most) (y : Bytes s.bytes) (g : Gathers limit (parts_of slot lent) hs bs) where
  if-new : ¬ (Numbered s.number (those part hs bs)) → (b : Bool) → takes_in part limit s (parts_of slot lent) ≡ b
      → Tells (if_new b part limit s slot lent).outcome part limit s slot lent hs bs (if_new b part limit s slot lent)
  unfolding slot_with
  if-new a true e =
      let f : Fits limit (headers_with part s hs) (bodies_with part s bs) =
      (takes-fits part limit s (parts_of slot lent) hs bs z y g a).0 e in
      let ps : Parts = parts_with part limit s (parts_of slot lent) in
      let k : Gathers limit ps (headers_with part s hs) (bodies_with part s bs) =
      next-gathers part limit s (parts_of slot lent) hs bs g a f in
      by-stage part limit s slot lent hs bs (stored_as (length s.bytes) slot.number ps) (length s.bytes)
      (stage_of ps) refl
      (record {
        new = a;
        holds = parts-hold limit slot.number ps (headers_with part s hs) (bodies_with part s bs)
            k;
        number = refl;
      }) (stage-right limit ps (headers_with part s hs) (bodies_with part s bs) k)
  if-new a false e = ((λ f. false-true e ((takes-fits part limit s (parts_of slot lent) hs bs z y g a).1 f)), refl)

  if-held : Numbered s.number (those part hs bs) → (b : Bool)
      → same_segment s (segment_at (memory_of part (parts_of slot lent)) s.number) ≡ b
      → Tells (if_held b part limit s slot lent).outcome part limit s slot lent hs bs (if_held b part limit s slot lent)
  if-held i b e = go b e
    where
      t : Segment
      t = segment_at (memory_of part (parts_of slot lent)) s.number

      n : s.number ≡ t.number
      n = sym (at-number (memory_of part (parts_of slot lent)) s.number)

      held : Among t (those part hs bs)
      held = at-among (memory_of part (parts_of slot lent)) s.number (those part hs bs)
          (part-reads part limit (parts_of slot lent) hs bs g) i

      go : (b : Bool) → same_segment s t ≡ b → Tells (if_held b part limit s slot lent).outcome part limit s slot lent hs
          bs (if_held b part limit s slot lent)
      go true e = (subst (λ (x : Segment). Among x (those part hs bs)) (sym ((same-exactly s t n).0 e)) held, refl)
      go false e = ((λ f. false-true e ((same-exactly s t n).1 (same-fits part limit s t hs bs f held n))), refl)

  -- whatever the outcome is, it tells what document 01 says
  told : Tells (take_into part limit s slot lent).outcome part limit s slot lent hs bs (take_into part limit s slot lent)
  told = rw (take-by-mark part limit s slot lent)
      (go (get_or (memory_of part (parts_of slot lent)).marks s.number 0)
      ((part-keeps part limit (parts_of slot lent) hs bs g).marked.marked s.number))
    where
      go : (mark : ℕ) → (0 < mark) ↔ Numbered s.number (those part hs bs)
          → Tells (by_mark mark part limit s slot lent).outcome part limit s slot lent hs bs
          (by_mark mark part limit s slot lent)
      go zero i = if-new (λ j. let q : 0 < 0 = i.1 j in omega arith) (takes_in part limit s (parts_of slot lent)) refl
      go (suc mark) i =
          if-held (i.0 (omega arith)) (same_segment s (segment_at (memory_of part (parts_of slot lent)) s.number)) refl

  pub outcome-tells : (o : Outcome) → (take_into part limit s slot lent).outcome ≡ o
      → Tells o part limit s slot lent hs bs (take_into part limit s slot lent)
  outcome-tells o e = subst (λ (x : Outcome). Tells x part limit s slot lent hs bs (take_into part limit s slot lent)) e
      told

-- ---- each outcome comes exactly when

module _ (part : Part) (limit : ℕ) (s : Segment) (slot : Slot) (lent : Lent) (hs bs : List Segment)
    (z : limit ≤ limit_most) (y : Bytes s.bytes) (g : Gathers limit (parts_of slot lent) hs bs) where
  tells : (o : Outcome) → (take_into part limit s slot lent).outcome ≡ o
      → Tells o part limit s slot lent hs bs (take_into part limit s slot lent)
  tells = outcome-tells part limit s slot lent hs bs z y g

  -- CONFLICT: no object and cut send the segment and those that are held
  pub conflict-exactly : ((take_into part limit s slot lent).outcome ≡ Conflict)
      ↔ (¬ (Fits limit (headers_with part s hs) (bodies_with part s bs)))
  conflict-exactly = (
    (λ e. (tells Conflict e).0),
    (λ n. go (take_into part limit s slot lent).outcome n (tells (take_into part limit s slot lent).outcome refl)),
  )
    where
      go : (o : Outcome) → ¬ (Fits limit (headers_with part s hs) (bodies_with part s bs))
          → Tells o part limit s slot lent hs bs (take_into part limit s slot lent) → o ≡ Conflict
      go Stored n w = absurd (n w.0.holds.gathers.object)
      go Complete n w = absurd (n w.0.holds.gathers.object)
      go Repeat n w = absurd (n (repeat-fits part limit s hs bs g.object w.0))
      go Conflict n w = refl

  -- REPEAT: the same segment is held
  pub repeat-exactly : ((take_into part limit s slot lent).outcome ≡ Repeat) ↔ Among s (those part hs bs)
  repeat-exactly = (
    (λ e. (tells Repeat e).0),
    (λ i. go (take_into part limit s slot lent).outcome i (tells (take_into part limit s slot lent).outcome refl)),
  )
    where
      go : (o : Outcome) → Among s (those part hs bs)
          → Tells o part limit s slot lent hs bs (take_into part limit s slot lent) → o ≡ Repeat
      go Stored i w = absurd (w.0.new (among-numbered s (those part hs bs) i))
      go Complete i w = absurd (w.0.new (among-numbered s (those part hs bs) i))
      go Repeat i w = refl
      go Conflict i w = absurd (w.0 (repeat-fits part limit s hs bs g.object i))

  -- COMPLETE: with it every segment is in, and before it not
  pub complete-exactly : ((take_into part limit s slot lent).outcome ≡ Complete)
      ↔ (((f : Fits limit (headers_with part s hs) (bodies_with part s bs)) × Finished f)
      × ((f : Fits limit hs bs) → ¬ (Finished f)))
  complete-exactly = (
    (λ e.
        let w = tells Complete e in
        let f = w.0.holds.gathers.object in (
          (f, w.1 f),
          (λ old d. w.0.new (among-numbered s (those part hs bs) (finished-new part limit s hs bs f old w.2 d))),
        )),
    (λ r. go (take_into part limit s slot lent).outcome r.0.0 r.0.1 r.1
        (tells (take_into part limit s slot lent).outcome refl)),
  )
    where
      go : (o : Outcome) (f : Fits limit (headers_with part s hs) (bodies_with part s bs)) → Finished f
          → ((f : Fits limit hs bs) → ¬ (Finished f))
          → Tells o part limit s slot lent hs bs (take_into part limit s slot lent) → o ≡ Complete
      go Stored f d n w = by (w.1 f)
        where
          by : (¬ (Finished f)) ⊎ ((g : Fits limit hs bs) × Finished g) → Stored ≡ Complete
          by (inl x) = absurd (x d)
          by (inr x) = absurd (n x.0 x.1)
      go Complete f d n w = refl
      go Repeat f d n w = let r = finished-less part limit s hs bs f (λ t b. with-one s (those part hs bs) w.0 t) d
          in
          absurd (n r.0 r.1)
      go Conflict f d n w = absurd (w.0 f)

  -- STORED: it is new and fits, and with it some segment is still missing, or before it none was
  pub stored-exactly : ((take_into part limit s slot lent).outcome ≡ Stored)
      ↔ (((f : Fits limit (headers_with part s hs) (bodies_with part s bs))
      × ((¬ (Finished f)) ⊎ ((g : Fits limit hs bs) × Finished g))) × (¬ (Among s (those part hs bs))))
  stored-exactly = (
    (λ e. let w = tells Stored e in let f = w.0.holds.gathers.object in
        ((f, w.1 f), (λ i. w.0.new (among-numbered s (those part hs bs) i)))),
    (λ r. go (take_into part limit s slot lent).outcome r.0.0 r.0.1 r.1
        (tells (take_into part limit s slot lent).outcome refl)),
  )
    where
      go : (o : Outcome) (f : Fits limit (headers_with part s hs) (bodies_with part s bs))
          → (¬ (Finished f)) ⊎ ((g : Fits limit hs bs) × Finished g) → ¬ (Among s (those part hs bs))
          → Tells o part limit s slot lent hs bs (take_into part limit s slot lent) → o ≡ Stored
      go Stored f d n w = refl
      go Complete f (inl d) n w = absurd (d (w.1 f))
      go Complete f (inr d) n w = absurd (n (finished-new part limit s hs bs f d.0 w.2 d.1))
      go Repeat f d n w = absurd (n w.0)
      go Conflict f d n w = absurd (w.0 f)

  -- a refusal and a repeat leave the slot and its shares as they were
  pub conflict-leaves : (take_into part limit s slot lent).outcome ≡ Conflict → take_into part limit s slot lent
      ≡ unchanged Conflict slot lent
  conflict-leaves e = (tells Conflict e).1

  pub repeat-leaves : (take_into part limit s slot lent).outcome ≡ Repeat → take_into part limit s slot lent
      ≡ unchanged Repeat slot lent
  repeat-leaves e = (tells Repeat e).1
