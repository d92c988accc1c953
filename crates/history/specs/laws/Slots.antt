-- The slots one by one: what the test of a state says of each, which slot a search finds, and what changes when one
-- slot and its shares are replaced.
use Rattle.std.specs.Prelude.{◌≡◌, refl, ◌≢◌, Option, None, Some, Bool, true, false, List, [], ◌∷◌, ℕ, zero, suc, ◌+◌, ◌-◌, ◌*◌, ◌<◌, eqb, leb, length, take, set}
use Rattle.std.proofs.Common.{sym, ◌∙◌, subst, arith, length-take, length-set, eqb-true, eq-eqb, le-leb}
use Rattle.std.proofs.Math.Path.{ap}
use Rattle.std.proofs.Math.Nat.{zero-add}
use Rattle.std.proofs.Math.Decide.{ℕ_discrete}
use Rattle.std.proofs.Math.ListN.{get_or}
use Rattle.std.proofs.Math.Seq.{get_or-take, get_or-set_same, get_or-set_other, take-set-lt}
use Rattle.cut.specs.Requirement.{header_most, limit_least, limit_most}
use Rattle.cut.specs.laws.Decision.{false-true, both_true, true-both, all_true, true-all}
use Rattle.cut.specs.Lists.{pick}
use Rattle.object.specs.declared.Slot.{Slot}
use Rattle.object.specs.Parts.{Lent}
use Rattle.slots.specs.Stores.{slots_most, slot_marks, Stores, lent_at, with_lent, free_slot, slot_at, Limits}
use Rattle.slots.specs.Find.{free_stage, is_free, holds, first_from}
use Rattle.slots.specs.State.{within_limits, held_among, unlike, distinct, right_slot, right_from, sound_slots}
use Rattle.slots.specs.Take.{Inside}
use Rattle.slots.specs.laws.Shares.{Wide, lent_back, lent_other, stores-lengths}
use Rattle.slots.specs.laws.Ready.{sound-limits, right-at, found-passes}
use Rattle.history.specs.State.{Used}

used-taken : (count i : ℕ) (slots : List Slot) → Used count i slots → i < length (take count slots)
used-taken count i slots u = rw length-take (omega arith)

taken-used : (count i : ℕ) (slots : List Slot) → i < length (take count slots) → Used count i slots
taken-used count i slots h = let g = rw length-take at h in record { counted = omega arith; there = omega arith }

-- ---- a slot and its number

pub held-is : (number : ℕ) (slot : Slot) → holds number slot ≡ true → (is_free slot ≡ false) × (slot.number ≡ number)
unfolding holds is_free
held-is number slot e = go (free_stage slot.stage) e
  where
    go : (free : Bool) → pick free false (eqb slot.number number) ≡ true → (free ≡ false) × (slot.number ≡ number)
    go true e = absurd (false-true refl e)
    go false e = (refl, eqb-true slot.number number e)

pub is_held : (number : ℕ) (slot : Slot) → is_free slot ≡ false → slot.number ≡ number → holds number slot ≡ true
unfolding holds is_free
is_held number slot f e = rw (f, eq-eqb slot.number number e) refl

-- a free slot holds no number
pub free-holds : (number : ℕ) (slot : Slot) → is_free slot ≡ true → holds number slot ≡ false
unfolding holds is_free
free-holds number slot f = rw f refl

-- ---- searching

first-none : (test : Slot → Bool) (first : ℕ) (l : List Slot) → first_from test first l ≡ None → (i : ℕ)
    → i < length l → test (get_or l i free_slot) ≡ false
unfolding first_from
first-none test first [] e i h = absurd (omega arith)
first-none test first (slot ∷ l) e i h = go (test slot) refl e i h (first-none test (suc first) l)
  where
    go : (b : Bool) → test slot ≡ b → pick b (Some first) (first_from test (suc first) l) ≡ None → (i : ℕ)
        → i < suc (length l)
        → (first_from test (suc first) l ≡ None → (j : ℕ) → j < length l → test (get_or l j free_slot) ≡ false)
        → test (get_or (slot ∷ l) i free_slot) ≡ false
    go true f e i h later = let z : ◌≡◌ {A = ℕ} 0 1 = cc in absurd (omega arith)
    go false f e zero h later = f
    go false f e (suc i) h later = later e i (omega arith)

none_first : (test : Slot → Bool) (first : ℕ) (l : List Slot)
    → ((i : ℕ) → i < length l → test (get_or l i free_slot) ≡ false) → first_from test first l ≡ None
unfolding first_from
none_first test first [] f = refl
none_first test first (slot ∷ l) f =
    rw (f 0 (omega arith)) (none_first test (suc first) l (λ i h. f (suc i) (omega arith)))

-- none below the first that passes does
first_below : (test : Slot → Bool) (first i : ℕ) (l : List Slot) → first_from test first l ≡ Some (first + i) → (j : ℕ)
    → j < i → test (get_or l j free_slot) ≡ false
unfolding first_from
first_below test first i [] e = λ j h. let z : ◌≡◌ {A = ℕ} 0 1 = cc in absurd (omega arith)
first_below test first i (slot ∷ l) e = go (test slot) refl e (first_below test (suc first) (i - 1) l)
  where
    go : (b : Bool) → test slot ≡ b → pick b (Some first) (first_from test (suc first) l) ≡ Some (first + i)
        → (first_from test (suc first) l ≡ Some (suc first + (i - 1)) → (j : ℕ) → j < i - 1
        → test (get_or l j free_slot) ≡ false) → (j : ℕ) → j < i → test (get_or (slot ∷ l) j free_slot) ≡ false
    go true f e later j h = let same : first ≡ first + i = cc in absurd (omega arith)
    go false f e later zero h = f
    go false f e later (suc j) h = let same : first + i ≡ suc first + (i - 1) = omega arith in
        later (e ∙ ap Some same) j (omega arith)

first-same : (test : Slot → Bool) (first i : ℕ) (slot : Slot) (l : List Slot) → test slot ≡ test (get_or l i free_slot)
    → first_from test first (set l i slot) ≡ first_from test first l
unfolding first_from
first-same test first i slot [] e = refl
first-same test first zero slot (x ∷ l) e = rw e refl
first-same test first (suc i) slot (x ∷ l) e = rw (first-same test (suc first) i slot l e) refl

module _ (test : Slot → Bool) (count : ℕ) (slots : List Slot) where
  pub found_at : (i : ℕ) → first_from test 0 (take count slots) ≡ Some i → Used count i slots
      × (test (slot_at i slots) ≡ true)
  unfolding slot_at
  found_at i e =
      let r = found-passes test 0 i (take count slots) e in
      let same : i ≡ r.0 = omega (arith, r.1) in
      let u : Used count i slots = taken-used count i slots (omega (arith, r.2)) in
      let at : get_or (take count slots) i free_slot ≡ get_or slots i free_slot =
      get_or-take count slots i free_slot u.counted in
      (u, rw at at (rw (← same) at r.3))

  pub found_first : (i : ℕ) → first_from test 0 (take count slots) ≡ Some i → (j : ℕ) → j < i
      → test (slot_at j slots) ≡ false
  unfolding slot_at
  found_first i e j h =
      let u = (found_at i e).0 in
      rw (get_or-take count slots j free_slot (omega (arith, u.counted))) at
      (first_below test 0 i (take count slots) (e ∙ ap Some (sym (zero-add i))) j h)

  pub found_none : first_from test 0 (take count slots) ≡ None → (i : ℕ) → Used count i slots
      → test (slot_at i slots) ≡ false
  unfolding slot_at
  found_none e i u = rw (get_or-take count slots i free_slot u.counted) at
      (first-none test 0 (take count slots) e i (used-taken count i slots u))

  pub none_found : ((i : ℕ) → Used count i slots → test (slot_at i slots) ≡ false)
      → first_from test 0 (take count slots) ≡ None
  unfolding slot_at
  none_found f = none_first test 0 (take count slots)
      (λ i h. let u = taken-used count i slots h in rw (get_or-take count slots i free_slot u.counted) (f i u))

  -- a slot that passes alone is the one that is found
  pub only-found : (i : ℕ) → Used count i slots → test (slot_at i slots) ≡ true
      → ((j : ℕ) → Used count j slots → test (slot_at j slots) ≡ true → j ≡ i)
      → first_from test 0 (take count slots) ≡ Some i
  only-found i u e only = go (first_from test 0 (take count slots)) refl
    where
      go : (found : Option ℕ) → first_from test 0 (take count slots) ≡ found → found ≡ Some i
      go None f = absurd (false-true (found_none f i u) e)
      go (Some j) f = let r = found_at j f in ap Some (only j r.0 r.1)

-- ---- no two slots hold one number

among-at : (number i : ℕ) (l : List Slot) → i < length l → holds number (get_or l i free_slot) ≡ true
    → held_among number l ≡ true
unfolding held_among
among-at number i [] h e = absurd (omega arith)
among-at number zero (slot ∷ l) h e = rw e refl
among-at number (suc i) (slot ∷ l) h e = go (holds number slot) (among-at number i l (omega arith) e)
  where
    go : (b : Bool) → held_among number l ≡ true → pick b true (held_among number l) ≡ true
    go true e = refl
    go false e = e

at-among : (number : ℕ) (l : List Slot) → held_among number l ≡ true → (i : ℕ) × (i < length l)
    × (holds number (get_or l i free_slot) ≡ true)
unfolding held_among
at-among number [] e = absurd (false-true refl e)
at-among number (slot ∷ l) e = go (holds number slot) refl e (at-among number l)
  where
    go : (b : Bool) → holds number slot ≡ b → pick b true (held_among number l) ≡ true
        → (held_among number l ≡ true → (i : ℕ) × (i < length l) × (holds number (get_or l i free_slot) ≡ true))
        → (i : ℕ) × (i < suc (length l)) × (holds number (get_or (slot ∷ l) i free_slot) ≡ true)
    go true f e later = (0, omega arith, f)
    go false f e later = let r = later e in (suc r.0, omega (arith, r.1), r.2)

unlike-at : (number i : ℕ) (slot : Slot) (l : List Slot) → unlike slot l ≡ true → holds number slot ≡ true
    → i < length l → holds number (get_or l i free_slot) ≡ true → ⊥
unfolding unlike
unlike-at number i slot l u e h g =
    let r = held-is number slot e in
    let m : held_among slot.number l ≡ true = rw r.1 (among-at number i l h g) in
    false-true refl (rw (r.0, m) at u)

distinct-once : (l : List Slot) → distinct l ≡ true → (number i j : ℕ) → i < length l → j < length l
    → holds number (get_or l i free_slot) ≡ true → holds number (get_or l j free_slot) ≡ true → i ≡ j
unfolding distinct
distinct-once [] d number i j h g e f = absurd (omega arith)
distinct-once (slot ∷ l) d number zero zero h g e f = refl
distinct-once (slot ∷ l) d number zero (suc j) h g e f =
    absurd (unlike-at number j slot l (both_true (unlike slot l) (distinct l) d).0 e (omega arith) f)
distinct-once (slot ∷ l) d number (suc i) zero h g e f =
    absurd (unlike-at number i slot l (both_true (unlike slot l) (distinct l) d).0 f (omega arith) e)
distinct-once (slot ∷ l) d number (suc i) (suc j) h g e f =
    ap suc (distinct-once l (both_true (unlike slot l) (distinct l) d).1 number i j (omega arith) (omega arith) e f)

once-distinct : (l : List Slot)
    → ((number i j : ℕ) → i < length l → j < length l → holds number (get_or l i free_slot) ≡ true
    → holds number (get_or l j free_slot) ≡ true → i ≡ j) → distinct l ≡ true
unfolding distinct unlike
once-distinct [] f = refl
once-distinct (slot ∷ l) f = true-both (unlike slot l) (distinct l)
    (go (is_free slot) refl (held_among slot.number l) refl)
    (once-distinct l (λ number i j h g d e. less i j (f number (suc i) (suc j) (omega arith) (omega arith) d e)))
  where
    less : (i j : ℕ) → suc i ≡ suc j → i ≡ j
    less i j e = omega arith

    go : (free : Bool) → is_free slot ≡ free → (held : Bool) → held_among slot.number l ≡ held
        → pick free true (pick held false true) ≡ true
    go true e held d = refl
    go false e false d = refl
    go false e true d =
        let r = at-among slot.number l d in
        let z : 0 ≡ suc r.0 = f slot.number 0 (suc r.0) (omega arith) (omega (arith, r.1))
        (is_held slot.number slot e refl) r.2 in
        absurd (omega arith)

-- ---- each slot is right

at_right : (limit first : ℕ) (l : List Slot) (stores : Stores)
    → ((i : ℕ) → i < length l → right_slot limit (get_or l i free_slot) (lent_at limit (first + i) stores) ≡ true)
    → right_from limit first l stores ≡ true
unfolding right_from
at_right limit first [] stores f = refl
at_right limit first (slot ∷ l) stores f =
    true-both (right_slot limit slot (lent_at limit first stores)) (right_from limit (suc first) l stores)
    (here (f 0 (omega arith)))
    (at_right limit (suc first) l stores (λ i h. there i (f (suc i) (omega arith))))
  where
    here : right_slot limit slot (lent_at limit (first + 0) stores) ≡ true
        → right_slot limit slot (lent_at limit first stores) ≡ true
    here e = let g : first + 0 ≡ first = omega arith in rw g at e

    there : (i : ℕ) → right_slot limit (get_or l i free_slot) (lent_at limit (first + suc i) stores) ≡ true
        → right_slot limit (get_or l i free_slot) (lent_at limit (suc first + i) stores) ≡ true
    there i e = let g : first + suc i ≡ suc first + i = omega arith in rw g at e

-- ---- the test of a state, slot by slot

pub record Undamaged (limit count : ℕ) (slots : List Slot) (stores : Stores) : Type 0 where
  pub limits : Limits limit count (length stores.header) (length stores.body) (length stores.marks)
  pub once : (number i j : ℕ) → Used count i slots → Used count j slots → holds number (slot_at i slots) ≡ true
      → holds number (slot_at j slots) ≡ true → i ≡ j
  pub right : (i : ℕ) → Used count i slots → right_slot limit (slot_at i slots) (lent_at limit i stores) ≡ true

pub limits-within : (limit count h b m : ℕ) → Limits limit count h b m → within_limits limit count h b m ≡ true
unfolding within_limits
limits-within limit count h b m w = true-all
    (eqb h (count * header_most) ∷ eqb b (count * limit) ∷ eqb m
    (count * slot_marks) ∷ leb limit_least limit ∷ leb limit limit_most ∷ leb 1 count ∷ leb count slots_most ∷ []) (
      eq-eqb h (count * header_most) w.header,
      (
        eq-eqb b (count * limit) w.body,
        (
          eq-eqb m (count * slot_marks) w.marks,
          (
            le-leb limit_least limit w.least,
            (le-leb limit limit_most w.most, (le-leb 1 count w.some, (le-leb count slots_most w.slots, tt))),
          ),
        ),
      ),
    )

module _ (limit count : ℕ) (slots : List Slot) (stores : Stores) where
  tests : List Bool
  tests = within_limits limit count (length stores.header) (length stores.body) (length stores.marks) ∷ distinct
      (take count slots) ∷ right_from limit 0 (take count slots) stores ∷ []

  taken_at : (i : ℕ) → Used count i slots → get_or (take count slots) i free_slot ≡ slot_at i slots
  unfolding slot_at
  taken_at i u = get_or-take count slots i free_slot u.counted

  pub sound-undamaged : sound_slots limit count slots stores ≡ true → Undamaged limit count slots stores
  unfolding sound_slots tests
  sound-undamaged e =
      let t = all_true tests e in
      record {
        limits = sound-limits limit count slots stores e;
        once = λ number i j u v h g. distinct-once (take count slots) t.1.0 number i j (used-taken count i slots u)
            (used-taken count j slots v) (rw (taken_at i u) h) (rw (taken_at j v) g);
        right = λ i u. rw (taken_at i u, zero-add i) at
            (right-at limit 0 i (take count slots) stores t.1.1.0 (used-taken count i slots u));
      }

  pub undamaged-sound : Undamaged limit count slots stores → sound_slots limit count slots stores ≡ true
  unfolding sound_slots tests
  undamaged-sound w = true-all tests (
    limits-within limit count (length stores.header) (length stores.body) (length stores.marks) w.limits,
    (
      once-distinct (take count slots) (λ number i j h g d e.
          let u = taken-used count i slots h in
          let v = taken-used count j slots g in
          w.once number i j u v (rw (taken_at i u) at d) (rw (taken_at j v) at e)),
      (
        at_right limit 0 (take count slots) stores
            (λ i h. let u = taken-used count i slots h in rw (taken_at i u, zero-add i) (w.right i u)),
        tt,
      ),
    ),
  )

-- ---- one slot is replaced

module _ (i : ℕ) (slot : Slot) (slots : List Slot) where
  pub slot-here : i < length slots → slot_at i (set slots i slot) ≡ slot
  unfolding slot_at
  slot-here h = get_or-set_same slots i slot free_slot h

  pub slot-there : (j : ℕ) → j ≢ i → slot_at j (set slots i slot) ≡ slot_at j slots
  unfolding slot_at
  slot-there j d = get_or-set_other slots i j slot free_slot d

  pub used-before : (count j : ℕ) → Used count j (set slots i slot) → Used count j slots
  used-before count j u = record { counted = u.counted; there = omega (arith, u.there, length-set slots i slot) }

  pub used-after : (count j : ℕ) → Used count j slots → Used count j (set slots i slot)
  used-after count j u = record { counted = u.counted; there = omega (arith, u.there, length-set slots i slot) }

  -- where it passes as the one before did, the same slot is found
  pub same-found : (test : Slot → Bool) (count : ℕ) → i < count → test slot ≡ test (slot_at i slots)
      → first_from test 0 (take count (set slots i slot)) ≡ first_from test 0 (take count slots)
  unfolding slot_at
  same-found test count h e = rw (take-set-lt count slots i slot h)
      (first-same test 0 i slot (take count slots) (rw (get_or-take count slots i free_slot h) e))

-- ---- and its shares are laid back

module _ (limit count i : ℕ) (slot : Slot) (lent : Lent) (slots : List Slot) (stores : Stores) (u : Used count i slots)
    (wide : Wide limit lent) (inside : Inside limit i stores) where
  replaced-right : Undamaged limit count slots stores → right_slot limit slot lent ≡ true → (j : ℕ) → Used count j slots
      → right_slot limit (slot_at j (set slots i slot)) (lent_at limit j (with_lent limit i lent stores)) ≡ true
  replaced-right w r j v = go (ℕ_discrete j i)
    where
      here : right_slot limit (slot_at i (set slots i slot)) (lent_at limit i (with_lent limit i lent stores)) ≡ true
      here = rw (slot-here i slot slots u.there, lent_back limit i lent stores wide inside) r

      go : Dec (j ≡ i) → right_slot limit (slot_at j (set slots i slot)) (lent_at limit j (with_lent limit i lent stores))
          ≡ true
      go (yes e) = subst (λ (k : ℕ). right_slot limit (slot_at k (set slots i slot))
          (lent_at limit k (with_lent limit i lent stores)) ≡ true) (sym e) here
      go (no d) = rw (slot-there i slot slots j d, lent_other limit i lent stores wide inside j (λ e. d (sym e)))
          (w.right j v)

  replaced-once : Undamaged limit count slots stores
      → ((number j : ℕ) → Used count j slots → holds number slot ≡ true → holds number (slot_at j slots) ≡ true → i ≡ j)
      → (number j k : ℕ) → Used count j slots → Used count k slots → holds number (slot_at j (set slots i slot)) ≡ true
      → holds number (slot_at k (set slots i slot)) ≡ true → j ≡ k
  replaced-once w alone number j k v x h g = go (ℕ_discrete j i) (ℕ_discrete k i)
    where
      mine : (m : ℕ) → m ≡ i → holds number (slot_at m (set slots i slot)) ≡ true → holds number slot ≡ true
      mine m e h = rw (e, slot-here i slot slots u.there) at h

      other : (m : ℕ) → m ≢ i → holds number (slot_at m (set slots i slot)) ≡ true → holds number (slot_at m slots) ≡ true
      other m d h = rw (slot-there i slot slots m d) at h

      go : Dec (j ≡ i) → Dec (k ≡ i) → j ≡ k
      go (yes e) (yes f) = e ∙ sym f
      go (yes e) (no f) = e ∙ alone number k x (mine j e h) (other k f g)
      go (no e) (yes f) = sym (f ∙ alone number j v (mine k f g) (other j e h))
      go (no e) (no f) = w.once number j k v x (other j e h) (other k f g)

  -- the state stays undamaged, if the new slot is right and no other slot holds its number
  pub replaced : Undamaged limit count slots stores → right_slot limit slot lent ≡ true
      → ((number j : ℕ) → Used count j slots → holds number slot ≡ true → holds number (slot_at j slots) ≡ true → i ≡ j)
      → Undamaged limit count (set slots i slot) (with_lent limit i lent stores)
  replaced w r alone =
      let same = stores-lengths limit i lent stores wide inside in
      record {
        limits = rw (same.0, same.1, same.2) w.limits;
        once = λ number j k v x. replaced-once w alone number j k (used-before i slot slots count j v)
            (used-before i slot slots count k x);
        right = λ j v. replaced-right w r j (used-before i slot slots count j v);
      }
