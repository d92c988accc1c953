-- What is found is what is asked for: the lowest number among the finished objects that have the name, whatever slots
-- they are in, and nobody exactly where none has it; and ContentName's data is a part of the header.
use Rattle.std.proofs.Math.Path.{◌≡◌, refl, sym, ap, subst}
use Rattle.std.proofs.Common.{◌∙◌, add-zero}
use Rattle.std.specs.Prelude.{Bool, Option, Some, None, Result, Ok, Err, ◌↔◌, length, get_or, take, drop}
use Rattle.std.proofs.Math.Bool.{true, false}
use mathlib.Core.List.{List, [], ◌∷◌}
use Prim.Native.Nat.{ℕ, zero, suc, ◌+◌, ◌≤◌, ◌<◌, min}
use Rattle.std.proofs.Math.Nat.{zero-add}
use Rattle.std.proofs.Math.Decide.{dec_le}
use native.Mathlib.Omega.{arith}
use Rattle.std.proofs.Math.ListN.{length-take}
use Rattle.std.proofs.Math.Seq.{get_or-take}
use Rattle.octets.specs.laws.Over.{part_length}
use Rattle.cut.specs.Requirement.{header_most}
use Rattle.cut.specs.Lists.{pick}
use Rattle.cut.specs.laws.Decision.{false-true}
use Rattle.object.specs.declared.Slot.{Slot}
use Rattle.object.specs.declared.Stage.{Stage}
use Rattle.object.specs.declared.Stage.TheVariants.{Free, Gathering, Finished}
use Rattle.header.specs.declared.Place.{Place}
use Rattle.header.specs.declared.Fields.{Fields}
use Rattle.header.specs.declared.Refusal.{Refusal}
use Rattle.header.specs.Parameters.{read_header, name_in}
use Rattle.header.specs.laws.Theorems.{name-inside, matches-exactly}
use Rattle.header.specs.Names.{named_as, data_as, name_data, has_name}
use Rattle.slots.specs.Stores.{free_slot, slot_at}
use Rattle.slots.specs.Show.{start_of}
use Rattle.slots.specs.laws.Finished.{finished-among}
use Rattle.name_search.specs.Requirement.{Object, Named, Lowest}
use Rattle.name_search.specs.Finding.{named_at, lower, holds_name, holder_in, lowest_from, found_by_name}

-- ---- the name as a part of the header

-- the name of a header lies inside it, and has its character set byte at least
pub name-within : (header : List ℕ) (place : Place) → name_in (read_header header) ≡ Some place → (0 < place.size)
    × (place.start + place.size ≤ length header)
name-within header place e = go (read_header header) refl e
  where
    go : (r : Result Fields Refusal) → read_header header ≡ r → name_in r ≡ Some place → (0 < place.size)
        × (place.start + place.size ≤ length header)
    go (Err why) f g = let z : ◌≡◌ {A = ℕ} 0 1 = cc in absurd (omega arith)
    go (Ok fields) f g = name-inside header fields place f g

-- so its data is empty exactly where there is none
pub data-empty : (header : List ℕ) → (name_data header ≡ []) ↔ (name_in (read_header header) ≡ None)
unfolding name_data
data-empty header = (λ e. go (name_in (read_header header)) refl e, λ e. rw e refl)
  where
    go : (n : Option Place) → name_in (read_header header) ≡ n → data_as header n ≡ []
        → name_in (read_header header) ≡ None
    go None f g = f
    go (Some place) f g =
        let w = name-within header place f in
        absurd (omega (arith, w.0, part_length header place.start place.size w.1, ap length g))

-- ---- one header

-- the test says exactly that the header has the name
pub has-name : (asked header : List ℕ) → (has_name asked header ≡ true) ↔ Named asked header
unfolding has_name
has-name asked header = (λ e. go (read_header header) refl e, back)
  where
    names : (r : Result Fields Refusal) → read_header header ≡ r → (n : Option Place) → name_in r ≡ n
        → named_as header asked n ≡ true → Named asked header
    names r f None g e = let z : ◌≡◌ {A = ℕ} 0 1 = cc in absurd (omega arith)
    names (Err why) f (Some place) g e = let z : ◌≡◌ {A = ℕ} 0 1 = cc in absurd (omega arith)
    names (Ok fields) f (Some place) g e =
        record {
          fields = fields;
          reads = f;
          place = place;
          name = g;
          same =
              (matches-exactly (take place.size (drop place.start header)) asked).0 e;
        }

    go : (r : Result Fields Refusal) → read_header header ≡ r → named_as header asked (name_in r) ≡ true
        → Named asked header
    go r f e = names r f (name_in r) refl e

    back : Named asked header → named_as header asked (name_in (read_header header)) ≡ true
    back n = rw (n.reads, n.name) ((matches-exactly (take n.place.size (drop n.place.start header)) asked).1 n.same)

-- ---- the lowest of a list of slots, the first being number `first`

module _ (asked store : List ℕ) where
  passes : ℕ → List Slot → ℕ → Bool
  passes first slots j = holds_name asked (first + j) (get_or slots j free_slot) store

  NoneNamed : ℕ → List Slot → Type 0
  NoneNamed first slots = (j : ℕ) → j < length slots → passes first slots j ≡ false

  record Least (first : ℕ) (slots : List Slot) (number : ℕ) : Type 0 where
    slot : ℕ
    inside : slot < length slots
    here : passes first slots slot ≡ true
    numbered : (get_or slots slot free_slot).number ≡ number
    lowest : (j : ℕ) → j < length slots → passes first slots j ≡ true → number ≤ (get_or slots j free_slot).number

  abbrev Told : ℕ → List Slot → Option ℕ → Type 0
  Told first slots None = NoneNamed first slots
  Told first slots (Some n) = Least first slots n

  -- one more slot in front
  module _ (first : ℕ) (slot : Slot) (slots : List Slot) where
    head : passes first (slot ∷ slots) 0 ≡ holds_name asked first slot store
    unfolding passes
    head = rw (add-zero first) refl

    tail : (j : ℕ) → passes first (slot ∷ slots) (suc j) ≡ passes (suc first) slots j
    unfolding passes
    tail j = let e : first + suc j ≡ suc first + j = omega arith in rw e refl

    none_more : holds_name asked first slot store ≡ false → NoneNamed (suc first) slots
        → NoneNamed first (slot ∷ slots)
    unfolding NoneNamed
    none_more e n zero h = head ∙ e
    none_more e n (suc j) h = tail j ∙ n j (omega arith)

    -- this one has the name, and none of the others, or none of a lower number
    least-here : holds_name asked first slot store ≡ true
        → ((j : ℕ) → j < length slots → passes (suc first) slots j ≡ true
        → slot.number ≤ (get_or slots j free_slot).number) → Least first (slot ∷ slots) slot.number
    least-here e others = record { slot = 0; inside = omega arith; here = head ∙ e; numbered = refl; lowest = lowest }
      where
        lowest : (j : ℕ) → j < suc (length slots) → passes first (slot ∷ slots) j ≡ true
            → slot.number ≤ (get_or (slot ∷ slots) j free_slot).number
        lowest zero h f = omega arith
        lowest (suc j) h f = others j (omega arith) (sym (tail j) ∙ f)

    -- one of the others has the name, and this one has it not, or has no lower number
    least-later : (number : ℕ) → (holds_name asked first slot store ≡ true → number ≤ slot.number)
        → Least (suc first) slots number → Least first (slot ∷ slots) number
    least-later number g l = record {
      slot = suc l.slot;
      inside = omega (arith, l.inside);
      here =
          tail l.slot ∙ l.here;
      numbered = l.numbered;
      lowest = lowest;
    }
      where
        lowest : (j : ℕ) → j < suc (length slots) → passes first (slot ∷ slots) j ≡ true
            → number ≤ (get_or (slot ∷ slots) j free_slot).number
        lowest zero h f = g (sym head ∙ f)
        lowest (suc j) h f = l.lowest j (omega arith) (sym (tail j) ∙ f)

    step : (b : Bool) (rest : Option ℕ) → holds_name asked first slot store ≡ b → Told (suc first) slots rest
        → Told first (slot ∷ slots) (lower (pick b (Some slot.number) None) rest)
    unfolding NoneNamed
    step false None e t = none_more e t
    step false (Some n) e t = least-later n (λ f. let z : ◌≡◌ {A = ℕ} 0 1 = cc in absurd (omega arith)) t
    step true None e t = least-here e (λ j h f. let z : ◌≡◌ {A = ℕ} 0 1 = cc (t j h) in absurd (omega arith))
    step true (Some n) e t = go (dec_le slot.number n)
      where
        go : Dec (slot.number ≤ n) → Least first (slot ∷ slots) (min slot.number n)
        go (yes g) = let m : min slot.number n ≡ slot.number = omega arith in
            rw m (least-here e (λ j h f. omega (arith, t.lowest j h f)))
        go (no g) = let m : min slot.number n ≡ n = omega arith in rw m (least-later n (λ f. omega arith) t)

  told : (first : ℕ) (slots : List Slot) → Told first slots (lowest_from asked first slots store)
  unfolding lowest_from holder_in NoneNamed
  told first [] = λ j h. absurd (omega arith)
  told first (slot ∷ slots) = step first slot slots (holds_name asked first slot store)
      (lowest_from asked (suc first) slots store) refl (told (suc first) slots)

-- ---- the objects

-- a slot past the end holds no object
pub object-there : (count : ℕ) (slots : List Slot) (store : List ℕ) (number : ℕ) (header : List ℕ)
    (o : Object count slots store number header) → o.slot < length (take count slots)
object-there count slots store number header o =
    rw length-take
    (omega (arith, o.inside, finished-among slots o.slot o.header_length o.body_length o.finished))

-- what has a name is finished
finished-named : (asked store : List ℕ) (i : ℕ) (stage : Stage) → named_at stage asked i store ≡ true → (h b : ℕ)
    × (stage ≡ Finished h b) × Named asked (start_of header_most i h store)
finished-named asked store i Free e = absurd (false-true refl e)
finished-named asked store i Gathering e = absurd (false-true refl e)
finished-named asked store i (Finished h b) e = (h, b, refl, (has-name asked (start_of header_most i h store)).0 e)

module _ (asked : List ℕ) (count : ℕ) (slots : List Slot) (store : List ℕ) where
  -- a slot of the first count
  first : (j : ℕ) → j < length (take count slots) → (j < count)
      × (get_or (take count slots) j free_slot ≡ slot_at j slots)
  unfolding slot_at
  first j h =
      let g : j < count = omega (arith, rw length-take at h) in
      (g, get_or-take count slots j free_slot g)

  -- where its header has the name, it holds an object that has it
  object_of : (j : ℕ) → j < length (take count slots) → passes asked store 0 (take count slots) j ≡ true
      → (header : List ℕ) × Object count slots store (get_or (take count slots) j free_slot).number header
      × Named asked header
  unfolding passes holds_name
  object_of j h e =
      let f = first j h in
      let s = finished-named asked store j (slot_at j slots).stage (rw (f.1, zero-add j) at e) in (
        start_of header_most j s.0 store,
        record {
          slot = j;
          inside = f.0;
          header_length = s.0;
          body_length = s.1;
          finished = s.2;
          numbered =
              sym (ap (λ (x : Slot). x.number) f.1);
          stored = refl;
        },
        s.3,
      )

  -- and an object that has the name is in such a slot
  slot_of : (number : ℕ) (header : List ℕ) (o : Object count slots store number header) → Named asked header
      → (o.slot < length (take count slots)) × (passes asked store 0 (take count slots) o.slot ≡ true)
      × ((get_or (take count slots) o.slot free_slot).number ≡ number)
  unfolding passes holds_name
  slot_of number header o n =
      let there = object-there count slots store number header o in
      let f = first o.slot there in (
        there,
        rw (f.1, zero-add o.slot, o.finished, o.stored) ((has-name asked header).1 n),
        ap (λ (x : Slot). x.number) f.1 ∙ o.numbered,
      )

  answer : (holder : Option ℕ) → found_by_name asked count slots store ≡ holder
      → Told asked store 0 (take count slots) holder
  unfolding found_by_name
  answer holder e = subst (λ (h : Option ℕ). Told asked store 0 (take count slots) h) e
      (told asked store 0 (take count slots))

  none_of : found_by_name asked count slots store ≡ None → (number : ℕ) (header : List ℕ)
      → Object count slots store number header → Named asked header → ⊥
  unfolding NoneNamed
  none_of e number header o n =
      let s = slot_of number header o n in
      let z : ◌≡◌ {A = ℕ} 0 1 = cc (answer None e o.slot s.0, s.1) in
      omega arith

  lowest-of : (number : ℕ) → found_by_name asked count slots store ≡ Some number → Lowest asked count slots store number
  lowest-of number e =
      let l = answer (Some number) e in
      let o = object_of l.slot l.inside l.here in
      record {
        header = o.0;
        object = rw l.numbered at o.1;
        named = o.2;
        lowest = λ other h p n. let s =
            slot_of other h p n in omega (arith, s.2, l.lowest p.slot s.0 s.1);
      }

  -- nobody is found exactly where no finished object has the name
  pub found-nobody : (found_by_name asked count slots store ≡ None)
      ↔ ((number : ℕ) (header : List ℕ) → Object count slots store number header → Named asked header → ⊥)
  found-nobody = (none_of, λ none. go none (found_by_name asked count slots store) refl)
    where
      go : ((number : ℕ) (header : List ℕ) → Object count slots store number header → Named asked header → ⊥)
          → (holder : Option ℕ) → found_by_name asked count slots store ≡ holder
          → found_by_name asked count slots store ≡ None
      go none None e = e
      go none (Some n) e = let l = lowest-of n e in absurd (none n l.header l.object l.named)

  -- a number is found exactly where it is the lowest of those that have the name
  pub found-lowest : (number : ℕ) → (found_by_name asked count slots store ≡ Some number)
      ↔ Lowest asked count slots store number
  found-lowest number = (lowest-of number, λ l. go l (found_by_name asked count slots store) refl)
    where
      go : Lowest asked count slots store number → (holder : Option ℕ) → found_by_name asked count slots store ≡ holder
          → found_by_name asked count slots store ≡ Some number
      go l None e = absurd (none_of e number l.header l.object l.named)
      go l (Some n) e =
          let m = lowest-of n e in
          let s : n ≡ number = omega (
            arith,
            m.lowest number l.header l.object l.named,
            l.lowest n m.header m.object m.named,
          ) in
          e ∙ ap Some s

-- ---- whatever slots they are in

-- every finished object of the one state is one of the other
abbrev pub Holds : ℕ → List Slot → List ℕ → ℕ → List Slot → List ℕ → Type 0
Holds count slots store count' slots' store' =
    (number : ℕ) (header : List ℕ) → Object count slots store number header → Object count' slots' store' number header

-- where the finished objects are the same, so is what is found
pub found-anywhere : (asked : List ℕ) (count : ℕ) (slots : List Slot) (store : List ℕ) (count' : ℕ) (slots' : List Slot)
    (store' : List ℕ) → Holds count slots store count' slots' store' → Holds count' slots' store' count slots store
    → found_by_name asked count slots store ≡ found_by_name asked count' slots' store'
found-anywhere asked count slots store count' slots' store' there back = go (found_by_name asked count slots store) refl
  where
    go : (holder : Option ℕ) → found_by_name asked count slots store ≡ holder
        → found_by_name asked count slots store ≡ found_by_name asked count' slots' store'
    go None e = e ∙ sym ((found-nobody asked count' slots' store').1
        (λ number header o n. (found-nobody asked count slots store).0 e number header (back number header o) n))
    go (Some number) e =
        let l = (found-lowest asked count slots store number).0 e in
        e ∙ sym ((found-lowest asked count' slots' store' number).1
        (record {
          header = l.header;
          object = there number l.header l.object;
          named = l.named;
          lowest =
              λ other h o n. l.lowest other h (back other h o) n;
        }))
