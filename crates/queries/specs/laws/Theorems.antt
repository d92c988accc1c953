-- What the questions mean, in terms of one another. Every header that they read has its core. In a state that is not
-- damaged the number that is found by name is the lowest of those whose header, as it is shown, has the name; and the
-- name is the part of that header which its parameters tell of.
use Rattle.std.proofs.Math.Path.{◌≡◌, refl, sym, ap}
use Rattle.std.proofs.Common.{◌∙◌, eq-eqb, eqb-true}
use Rattle.std.specs.Prelude.{Bool, true, false, List, ◌↔◌, ℕ, ◌≤◌, ◌<◌, Result, Ok, Err, Option, Some, None}
use native.Mathlib.Omega.{arith}
use Rattle.std.proofs.Math.ListN.{length, length-take}
use Rattle.answer.specs.declared.Reason.{Reason}
use Rattle.answer.specs.declared.Part.TheVariants.{Header}
use Rattle.cut.specs.Requirement.{header_least, header_most}
use Rattle.object.specs.declared.Slot.{Slot}
use Rattle.object.specs.declared.Stage.{Stage}
use Rattle.object.specs.declared.Stage.TheVariants.{Free, Gathering, Finished}
use Rattle.header.specs.declared.Fields.{Fields}
use Rattle.header.specs.declared.Refusal.{Refusal}
use Rattle.header.specs.Parameters.{read_header}
use Rattle.header.specs.Names.{data_as, name_data}
use Rattle.name_search.specs.Requirement.{Object, Named}
use Rattle.name_search.specs.Finding.{found_by_name, Searched}
use Rattle.name_search.specs.laws.Theorems.{object-there, found-nobody, found-lowest}
use Rattle.slots.specs.Stores.{slot_at}
use Rattle.slots.specs.Find.{holds, find_in}
use Rattle.slots.specs.laws.Held.{sound-held}
use Rattle.slots.specs.laws.Ready.{sound-limits, found_right}
use Rattle.slots.specs.laws.Finished.{finished-core}
use Rattle.slots.specs.Show.{start_of, shown_of}
use Rattle.collector.specs.State.{State, find as slot_for}
use Rattle.collector.specs.Calls.{located_as, located_in, locate, show, sound}
use Rattle.collector.specs.laws.State.{slots-sound}
use Rattle.queries.specs.Questions.{asked_of, parameters, named_of, name, sought_as, find, Found}
use Rattle.queries.specs.Said.{asked_as}

-- ---- the name and the parameters

-- what the parameters tell of the name is the part that is handed back
pub name-told : (number : ℕ) (s : State) (fields : Fields) → parameters number s ≡ Ok fields
    → name number s ≡ data_as (show number Header s) fields.name
unfolding parameters name name_data
name-told number s fields e = go (locate number s) e
  where
    header : List ℕ
    header = show number Header s

    reads : (r : Result Fields Refusal) → read_header header ≡ r → asked_as r ≡ Ok fields
        → name_data header ≡ data_as header fields.name
    reads (Err why) f g = let z : ◌≡◌ {A = ℕ} 0 1 = cc in absurd (omega arith)
    reads (Ok said) f g = let same : said ≡ fields = cc in rw (f, same) refl

    go : (l : Result ℕ Reason) → asked_of l header ≡ Ok fields → named_of l header ≡ data_as header fields.name
    go (Err why) g = let z : ◌≡◌ {A = ℕ} 0 1 = cc in absurd (omega arith)
    go (Ok i) g = reads (read_header header) refl g

-- ---- the objects that are shown

holds-number : (number : ℕ) (slot : Slot) (h b : ℕ) → slot.stage ≡ Finished h b → (holds number slot ≡ true)
    ↔ (slot.number ≡ number)
unfolding holds
holds-number number slot h b e =
    (λ f. eqb-true slot.number number (rw e at f), λ f. rw e (eq-eqb slot.number number f))

module _ (s : State) (good : sound s ≡ true) where
  -- where a number is located, its slot is found and finished
  located-found : (number i : ℕ) → locate number s ≡ Ok i → (slot_for number s ≡ Some i) × (h b : ℕ)
      × ((slot_at i s.collector.slots).stage ≡ Finished h b)
  unfolding locate
  located-found number i e = go (slot_for number s) refl (rw good at e)
    where
      stages : (j : ℕ) → slot_for number s ≡ Some j → (t : Stage) → (slot_at j s.collector.slots).stage ≡ t
          → located_as t j ≡ Ok i → (slot_for number s ≡ Some i) × (h b : ℕ)
          × ((slot_at i s.collector.slots).stage ≡ Finished h b)
      stages j f Free e g = let z : ◌≡◌ {A = ℕ} 0 1 = cc in absurd (omega arith)
      stages j f Gathering e g = let z : ◌≡◌ {A = ℕ} 0 1 = cc in absurd (omega arith)
      stages j f (Finished h b) e g = let same : j ≡ i = cc in (f ∙ ap Some same, h, b, rw same at e)

      go : (f : Option ℕ) → slot_for number s ≡ f → located_in f s.collector ≡ Ok i
          → (slot_for number s ≡ Some i) × (h b : ℕ) × ((slot_at i s.collector.slots).stage ≡ Finished h b)
      go None f g = let z : ◌≡◌ {A = ℕ} 0 1 = cc in absurd (omega arith)
      go (Some j) f g = stages j f (slot_at j s.collector.slots).stage refl g

  -- what is shown of it is the start of that slot's share
  shown-located : (number i h b : ℕ) → locate number s ≡ Ok i
      → (slot_at i s.collector.slots).stage ≡ Finished h b
      → show number Header s ≡ start_of header_most i h s.stores.header
  unfolding show shown_of
  shown-located number i h b e f = rw (e, f) refl

  -- the finished objects are those that are shown
  object-shown : (number : ℕ) (header : List ℕ)
      → Object s.collector.count s.collector.slots s.stores.header number header → (i : ℕ)
      × (locate number s ≡ Ok i) × (show number Header s ≡ header)
  unfolding locate
  object-shown number header o =
      let there : o.slot < length s.collector.slots =
      omega (
        arith,
        rw length-take at
            (object-there s.collector.count s.collector.slots s.stores.header number header o),
      ) in
      let found : slot_for number s ≡ Some o.slot =
      sound-held s.collector.limit s.collector.count s.collector.slots s.stores
      (slots-sound s good) number o.slot o.inside there
      ((holds-number number (slot_at o.slot s.collector.slots) o.header_length o.body_length o.finished).1
      o.numbered) in
      let at : locate number s ≡ Ok o.slot = rw (good, found, o.finished) refl in
      (o.slot, at, shown-located number o.slot o.header_length o.body_length at o.finished ∙ o.stored)

  shown-object : (number i : ℕ) → locate number s ≡ Ok i
      → Object s.collector.count s.collector.slots s.stores.header number (show number Header s)
  unfolding find_in
  shown-object number i e =
      let f = located-found number i e in
      let r = found_right s.collector.limit s.collector.count s.collector.slots s.stores
      (slots-sound s good) (holds number) i f.0 in
      record {
        slot = i;
        inside = r.0;
        header_length = f.1;
        body_length = f.2;
        finished = f.3;
        numbered =
            (holds-number number (slot_at i s.collector.slots) f.1 f.2 f.3).0 r.1;
        stored =
            sym (shown-located number i f.1 f.2 e f.3);
      }

-- ---- the core

-- EVERY HEADER THAT IS SHOWN HAS ITS CORE, 7 bytes at least, in any state: a damaged one shows none
pub core-shown : (number i : ℕ) (s : State) → locate number s ≡ Ok i
    → header_least ≤ length (show number Header s)
unfolding locate find_in
core-shown number i s e = go (sound s) refl
  where
    go : (b : Bool) → sound s ≡ b → header_least ≤ length (show number Header s)
    go false d = let z : ◌≡◌ {A = ℕ} 0 1 = cc (rw d at e) in absurd (omega arith)
    go true good =
        let f = located-found s good number i e in
        let inside = (found_right s.collector.limit s.collector.count s.collector.slots s.stores
        (slots-sound s good) (holds number) i f.0).0 in
        rw (shown-located s good number i f.1 f.2 e f.3)
        (finished-core s.collector.limit s.collector.count s.collector.slots s.stores
        (slots-sound s good) i f.1 f.2 inside f.3)

-- and so has every header that the search for a name reads
pub cores-searched : (s : State) → sound s ≡ true
    → Searched s.collector.count s.collector.slots s.stores.header
cores-searched s good = record {
  few = (sound-limits s.collector.limit s.collector.count s.collector.slots s.stores
      (slots-sound s good)).slots;
  cores = λ i inside h b finished. finished-core s.collector.limit s.collector.count s.collector.slots
      s.stores (slots-sound s good) i h b inside finished;
}

-- ---- what is found by name

module _ (asked : List ℕ) (s : State) (good : sound s ≡ true) where
  -- the answer is what the search over slots gives
  searched : find asked s ≡ sought_as (found_by_name asked s.collector.count s.collector.slots s.stores.header)
  unfolding find
  searched = rw good refl

  number_of : (number : ℕ) → (find asked s ≡ Ok number)
      ↔ (found_by_name asked s.collector.count s.collector.slots s.stores.header ≡ Some number)
  number_of number = (
    λ e. go (found_by_name asked s.collector.count s.collector.slots s.stores.header) refl
        (sym searched ∙ e),
    λ e. searched ∙ ap sought_as e,
  )
    where
      go : (h : Option ℕ) → found_by_name asked s.collector.count s.collector.slots s.stores.header ≡ h
          → sought_as h ≡ Ok number
          → found_by_name asked s.collector.count s.collector.slots s.stores.header ≡ Some number
      go None f g = let z : ◌≡◌ {A = ℕ} 0 1 = cc in absurd (omega arith)
      go (Some n) f g = let same : n ≡ number = cc in f ∙ ap Some same

  nobody-of : (find asked s ≡ Err Reason.NotFound)
      ↔ (found_by_name asked s.collector.count s.collector.slots s.stores.header ≡ None)
  nobody-of = (
    λ e. go (found_by_name asked s.collector.count s.collector.slots s.stores.header) refl
        (sym searched ∙ e),
    λ e. searched ∙ ap sought_as e,
  )
    where
      go : (h : Option ℕ) → found_by_name asked s.collector.count s.collector.slots s.stores.header ≡ h
          → sought_as h ≡ Err Reason.NotFound
          → found_by_name asked s.collector.count s.collector.slots s.stores.header ≡ None
      go None f g = f
      go (Some n) f g = let z : ◌≡◌ {A = ℕ} 0 1 = cc in absurd (omega arith)

  -- a number is given exactly where it is the lowest of those whose header has the name
  pub find-lowest : (number : ℕ) → (find asked s ≡ Ok number) ↔ Found asked s number
  find-lowest number = (there, back)
    where
      there : find asked s ≡ Ok number → Found asked s number
      there e =
          let l = (found-lowest asked s.collector.count s.collector.slots s.stores.header number).0
          ((number_of number).0 e) in
          let o = object-shown s good number l.header l.object in
          record {
            slot = o.0;
            located = o.1;
            named = rw o.2 l.named;
            lowest =
                λ other i at n. l.lowest other (show other Header s) (shown-object s good other i at) n;
          }

      back : Found asked s number → find asked s ≡ Ok number
      back f = (number_of number).1 ((found-lowest asked s.collector.count s.collector.slots
          s.stores.header number).1 (record {
            header = show number Header s;
            object =
                shown-object s good number f.slot f.located;
            named = f.named;
            lowest = λ other h o n. let shown =
                object-shown s good other h o in f.lowest other shown.0 shown.1 (rw shown.2 n);
          }))

  -- NOTFOUND is given exactly where no finished object has the name
  pub find-nobody : (find asked s ≡ Err Reason.NotFound)
      ↔ ((number i : ℕ) → locate number s ≡ Ok i → Named asked (show number Header s) → ⊥)
  find-nobody = (
    λ e number i at n. (found-nobody asked s.collector.count s.collector.slots s.stores.header).0
        (nobody-of.0 e) number (show number Header s) (shown-object s good number i at) n,
    λ none. nobody-of.1 ((found-nobody asked s.collector.count s.collector.slots s.stores.header).1
        (λ number h o n. let shown = object-shown s good number h o in
        none number shown.0 shown.1 (rw shown.2 n))),
  )
