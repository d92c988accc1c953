-- Laws that the proofs of the code share.
-- Assumes nothing.
use mathlib.Core.Path.{◌≡◌, refl, ◌∙◌}
use mathlib.Core.Logic.{◌≢◌}
use mathlib.Core.Bool.{Bool, true, false, not, ◌||◌}
use mathlib.Core.List.{List, [], ◌∷◌}
use Rattle.std.specs.Prelude.{Option, Some, position, cond}
use Rattle.std.specs.List.{position_from, list_any}
use Prim.Native.Nat.{ℕ, suc, ◌+◌, ◌-◌, ◌*◌, ◌≤◌, ◌<◌}
use native.Mathlib.Numerals.{add-one}
use native.Mathlib.Omega.{arith}
use lib.ListN.{length, get_or, take, drop, length-replicate}
use lib.Dec.{eqb}
use borrow.Author.Tests.{le-leb, lt-leb}
use Rattle.octets.specs.Octets.{zeros}
use Rattle.answer.specs.declared.Part.{Part}
use Rattle.cut.specs.Lists.{both, pick}
use Rattle.cut.specs.declared.Sizes.{Sizes}
use Rattle.object.specs.declared.Decided.{Decided}
use Rattle.object.specs.declared.Decided.TheVariants.{Repeat, Conflict, Fits}
use Rattle.slots.specs.Alone.{is_fits}
use Rattle.slots.specs.Keys.{key_of, keys_of, absent_key}
use Rattle.std.proofs.lemmas.Iterator.Adapters.{position_from-zero}
use Rattle.object.specs.declared.Slot.{Slot}
use Rattle.object.specs.declared.Stage.{Stage}
use Rattle.object.specs.declared.Stage.TheVariants.{Free, Gathering, Finished}
use Rattle.slots.specs.Stores.{free_slot}
use Rattle.slots.specs.Find.{first_from}
use Rattle.slots.specs.Show.{start_of, shown_as}

-- ---- the first slot that passes

pub first-position : (test : Slot → Bool) (slots : List Slot) → position test slots ≡ first_from test 0 slots
unfolding first_from
first-position test slots = position_from-zero test slots ∙ from 0 slots
  where
    from : (i : ℕ) (slots : List Slot) → position_from test i slots ≡ first_from test i slots
    from i [] = refl
    from i (slot ∷ slots) = go (test slot) (from (suc i) slots)
      where
        go : (b : Bool) → position_from test (suc i) slots ≡ first_from test (suc i) slots
            → cond b (Some i) (position_from test (i + 1) slots) ≡ pick b (Some i) (first_from test (suc i) slots)
        go true e = refl
        go false e = rw add-one e

-- ---- keys

pub keys-at : (slots : List Slot) (keys : List ℕ) → length keys ≡ length slots
    → ((i : ℕ) → i < length slots → get_or keys i 0 ≡ key_of (get_or slots i free_slot)) → keys ≡ keys_of slots
unfolding keys_of
keys-at [] [] e at = refl
keys-at [] (key ∷ keys) e at = absurd (omega arith)
keys-at (slot ∷ slots) [] e at = absurd (omega arith)
keys-at (slot ∷ slots) (key ∷ keys) e at =
    let first : key ≡ key_of slot = at 0 (omega arith) in
    let rest = keys-at slots keys (omega arith) (λ i h. at (suc i) (omega arith)) in
    rw (first, rest) refl

pub absent-any : (key : ℕ) (others : List ℕ) → not (list_any (λ x. eqb x key) others) ≡ absent_key key others
unfolding absent_key
absent-any key [] = refl
absent-any key (other ∷ others) = go (eqb other key) (absent-any key others)
  where
    go : (b : Bool) → not (list_any (λ x. eqb x key) others) ≡ absent_key key others
        → not (b || list_any (λ x. eqb x key) others) ≡ pick b false (absent_key key others)
    go true e = refl
    go false e = e

pub both-only : (a : Bool) → both a true ≡ a
both-only true = refl
both-only false = refl

-- ---- a share of a store

module _ (w i count : ℕ) (store : List ℕ) where
  pub start_none : length store < i * w + count → [] ≡ start_of w i count store
  unfolding start_of
  start_none h = rw (lt-leb (i * w + count) (length store) h) refl

  pub start-some : i * w + count ≤ length store → take (i * w + count - i * w) (drop (i * w) store)
      ≡ start_of w i count store
  unfolding start_of
  start-some h = let e : i * w + count - i * w ≡ count = omega arith in rw (le-leb (i * w + count) (length store) h, e)
      refl

-- ---- an object that is not finished

pub unfinished : (part : Part) (stage : Stage) (limit i : ℕ) (header body : List ℕ)
    → ((m n : ℕ) → stage ≢ Finished m n) → [] ≡ shown_as part stage limit i header body
unfinished part Free limit i header body h = refl
unfinished part Gathering limit i header body h = refl
unfinished part (Finished m n) limit i header body h = absurd (h m n refl)

-- what is decided of a segment that does not fit
pub unfit : (decided : Decided) → ((core : Option Sizes) → decided ≢ Fits core) → false ≡ is_fits decided
unfit Repeat h = refl
unfit Conflict h = refl
unfit (Fits core) h = absurd (h core refl)

-- marks of which none is set
pub zeros-long : (n : ℕ) → length (zeros n) ≡ n
unfolding zeros
zeros-long n = length-replicate n 0
