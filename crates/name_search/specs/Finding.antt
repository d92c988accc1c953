-- Document 01, "Parameters and names": which finished object has a name.
use Rattle.std.specs.Prelude.{◌≡◌, Bool, false, List, [], ◌∷◌, Option, Some, None, ℕ, suc, min, ◌≤◌, ◌<◌, length, take}
use Rattle.cut.specs.Requirement.{header_least, header_most}
use Rattle.cut.specs.Lists.{pick}
use Rattle.object.specs.declared.Slot.{Slot}
use Rattle.object.specs.declared.Stage.{Stage}
use Rattle.object.specs.declared.Stage.TheVariants.{Free, Gathering, Finished}
use Rattle.header.specs.Names.{has_name}
use Rattle.slots.specs.Stores.{slots_most, slot_at}
use Rattle.slots.specs.Show.{start_of}

-- ---- one slot

-- a finished object's header, the first bytes of share i of the store, has the name; no other slot's is looked at
abbrev pub named_at : Stage → List ℕ → ℕ → List ℕ → Bool
named_at Free asked i store = false
named_at Gathering asked i store = false
named_at (Finished header body) asked i store = has_name asked (start_of header_most i header store)

unfoldable pub holds_name : List ℕ → ℕ → Slot → List ℕ → Bool
holds_name asked i slot store = named_at slot.stage asked i store

-- ---- all slots

-- of two the lower number
abbrev pub lower : Option ℕ → Option ℕ → Option ℕ
lower None other = other
lower (Some n) None = Some n
lower (Some n) (Some m) = Some (min n m)

-- the number of slot i, where it holds a finished object with the name
unfoldable pub holder_in : List ℕ → ℕ → Slot → List ℕ → Option ℕ
holder_in asked i slot store = pick (holds_name asked i slot store) (Some slot.number) None

-- the lowest of the slots, the first of the list being number i
unfoldable pub lowest_from : List ℕ → ℕ → List Slot → List ℕ → Option ℕ
lowest_from asked i [] store = None
lowest_from asked i (slot ∷ slots) store = lower (holder_in asked i slot store) (lowest_from asked (suc i) slots store)

-- of the finished objects in the first count slots that have the name, the lowest transport number
unfoldable pub found_by_name : List ℕ → ℕ → List Slot → List ℕ → Option ℕ
found_by_name asked count slots store = lowest_from asked 0 (take count slots) store

-- ---- what the search asks

-- where slot i holds a finished object, its header has its core
abbrev pub CoreIn : ℕ → Slot → List ℕ → Type 0
CoreIn i slot store = (header body : ℕ) → slot.stage ≡ Finished header body
    → header_least ≤ length (start_of header_most i header store)

pub record Searched (count : ℕ) (slots : List Slot) (store : List ℕ) : Type 0 where
  pub few : count ≤ slots_most
  pub cores : (i : ℕ) → i < count → CoreIn i (slot_at i slots) store
