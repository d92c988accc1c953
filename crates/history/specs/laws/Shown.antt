-- What is shown of a number, in a state that is not damaged: the start of the shares of the slot that holds it, as
-- long as its stage says.
use Rattle.std.specs.Prelude.{◌≡◌, None, Some, true, List, [], ℕ, ◌+◌, ◌*◌, ◌≤◌, length, take, drop}
use Rattle.std.proofs.Math.Path.{refl}
use Rattle.std.proofs.Common.{sym, ap, ◌∙◌, take-take}
use Rattle.answer.specs.declared.Part.{Part}
use Rattle.answer.specs.declared.Part.TheVariants.{Header, Body}
use Rattle.cut.specs.Requirement.{header_most}
use Rattle.object.specs.declared.Stage.{Stage}
use Rattle.object.specs.declared.Stage.TheVariants.{Free, Gathering, Finished}
use Rattle.object.specs.laws.StageInside.{Lengths}
use Rattle.object.specs.Parts.{Lent}
use Rattle.slots.specs.Stores.{Stores, lent_at}
use Rattle.slots.specs.Take.{Inside}
use Rattle.slots.specs.Show.{start_of, shown_as, shown_of}
use Rattle.slots.specs.laws.Finished.{start-there, finished-lengths}
use Rattle.collector.specs.State.{State, find}
use Rattle.collector.specs.Calls.{locate, located_as, show, shown_at, sound}
use Rattle.history.specs.Held.{lent_of, limit_of, slot_of}
use Rattle.history.specs.laws.Ready.{slots-sound, used-inside, found-used}
use Rattle.octets.specs.Octets.{share}

-- the first bytes of a share, as many as the stage says
abbrev pub front_of : Part → Stage → Lent → List ℕ
front_of part Free lent = []
front_of part Gathering lent = []
front_of Header (Finished header body) lent = take header lent.header
front_of Body (Finished header body) lent = take body lent.body

start-share : (width i count : ℕ) (store : List ℕ) → count ≤ width → i * width + width ≤ length store
    → start_of width i count store ≡ take count (share width i store)
start-share width i count store h g =
    start-there width i count store h g ∙ sym (take-take count width (drop (i * width) store) h)

staged-front : (part : Part) (stage : Stage) (limit i : ℕ) (stores : Stores) → Inside limit i stores
    → ((header body : ℕ) → stage ≡ Finished header body → Lengths limit header body)
    → shown_as part stage limit i stores.header stores.body ≡ front_of part stage (lent_at limit i stores)
unfolding lent_at
staged-front part Free limit i stores inside h = refl
staged-front part Gathering limit i stores inside h = refl
staged-front Header (Finished header body) limit i stores inside h =
    start-share header_most i header stores.header (h header body refl).header inside.header
staged-front Body (Finished header body) limit i stores inside h =
    start-share limit i body stores.body (h header body refl).body inside.body

module _ (number : ℕ) (s : State) (good : sound s ≡ true) where
  -- a finished object's lengths
  pub held-lengths : (i : ℕ) → find number s ≡ Some i → (header body : ℕ) → (slot_of i s).stage ≡ Finished header body
      → Lengths (limit_of s) header body
  held-lengths i e header body f =
      finished-lengths (limit_of s) s.collector.count s.collector.slots s.stores (slots-sound s good) i header
      body (found-used s good number i e).counted f

module _ (number : ℕ) (part : Part) (s : State) (good : sound s ≡ true) where
  -- nothing of a number that holds no slot
  pub unheld-shown : find number s ≡ None → show number part s ≡ []
  unfolding show locate
  unheld-shown e = rw (good, e) refl

  -- the front of the shares of the slot that holds it
  pub held-shown : (i : ℕ) → find number s ≡ Some i
      → show number part s ≡ front_of part (slot_of i s).stage (lent_of i s)
  unfolding show locate shown_of
  held-shown i e = rw (good, e) (go (slot_of i s).stage refl)
    where
      inside : Inside (limit_of s) i s.stores
      inside = used-inside s good i (found-used s good number i e)

      front : shown_as part (slot_of i s).stage (limit_of s) i s.stores.header s.stores.body
          ≡ front_of part (slot_of i s).stage (lent_of i s)
      front = staged-front part (slot_of i s).stage (limit_of s) i s.stores inside (held-lengths number s good i e)

      go : (stage : Stage) → (slot_of i s).stage ≡ stage
          → shown_at (located_as (slot_of i s).stage i) part s ≡ front_of part (slot_of i s).stage (lent_of i s)
      go Free f = rw f refl
      go Gathering f = rw f refl
      go (Finished header body) f = ap (λ (x : Stage). shown_at (located_as x i) part s) f ∙ front
