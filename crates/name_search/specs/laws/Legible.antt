-- What the search goes over: the parameters of a finished object's header that reads, and nothing of one that is
-- refused, nor of any other slot. What is left of them decides, at each turn, whether the object has the name that is
-- asked for.
use Rattle.std.specs.Prelude.{◌≡◌, Bool, true, false, Some, None, Result, Ok, Err, ℕ, ◌+◌, ◌≤◌, ◌<◌, length}
use Rattle.std.proofs.Math.Path.{refl, ap}
use Rattle.std.proofs.Common.{sym, ◌∙◌, arith}
use Rattle.std.proofs.Math.Decide.{dec_lt}
use mathlib.Core.List.{List, []}
use Rattle.cut.specs.Requirement.{header_most}
use Rattle.header.specs.declared.Parameter.{Parameter}
use Rattle.header.specs.declared.Fields.{Fields}
use Rattle.header.specs.declared.Refusal.{Refusal}
use Rattle.header.specs.Parameters.{found_at, listed, parameters_from, read_header}
use Rattle.header.specs.laws.Parameters.{found-known, found-on, from_end}
use Rattle.header.specs.laws.Theorems.{ReadFrom, read-from}
use Rattle.header.specs.laws.Search.{Next, next, is_named, some_named, named-read}
use Rattle.header.specs.Names.{has_name}
use Rattle.object.specs.declared.Slot.{Slot}
use Rattle.object.specs.declared.Stage.{Stage}
use Rattle.object.specs.declared.Stage.TheVariants.{Free, Gathering, Finished}
use Rattle.slots.specs.Show.{start_of}
use Rattle.name_search.specs.Finding.{named_at, holds_name}

abbrev pub legible_as : Result Fields Refusal → List ℕ → List ℕ
legible_as (Err why) header = []
legible_as (Ok fields) header = header

-- a header that reads; nothing of one that is refused
unfoldable pub legible : List ℕ → List ℕ
legible header = legible_as (read_header header) header

-- what is gone over of a slot
abbrev pub legible_at : Stage → ℕ → List ℕ → List ℕ
legible_at Free i store = []
legible_at Gathering i store = []
legible_at (Finished header body) i store = legible (start_of header_most i header store)

unfoldable pub legible_in : ℕ → Slot → List ℕ → List ℕ
legible_in i slot store = legible_at slot.stage i store

-- the parameters of `list` from `at` on have the name exactly where the object `has` it
pub record Left (has : Bool) (asked list : List ℕ) (at : ℕ) : Type 0 where
  pub rest : List Parameter
  pub lists : parameters_from list at ≡ listed rest
  pub decides : has ≡ some_named list asked rest

-- ---- before the first parameter

none_first : (asked : List ℕ) → Left false asked [] 7
unfolding some_named
none_first asked = record { rest = []; lists = from_end [] 7 (omega arith); decides = refl }

header-first : (asked header : List ℕ) → Left (has_name asked header) asked (legible header) 7
unfolding legible has_name
header-first asked header = go (read_header header) refl
  where
    go : (r : Result Fields Refusal) → read_header header ≡ r
        → Left (has_name asked header) asked (legible_as r header) 7
    go (Err why) e = rw e (none_first asked)
    go (Ok f) e =
        let r : ReadFrom header f = read-from header f e in
        record { rest = r.ps; lists = r.lists; decides = rw e (sym (named-read header asked f r)) }

pub left-first : (asked : List ℕ) (i : ℕ) (slot : Slot) (store : List ℕ)
    → Left (holds_name asked i slot store) asked (legible_in i slot store) 7
unfolding holds_name legible_in
left-first asked i slot store = go slot.stage
  where
    go : (stage : Stage) → Left (named_at stage asked i store) asked (legible_at stage i store) 7
    go Free = none_first asked
    go Gathering = none_first asked
    go (Finished header body) = header-first asked (start_of header_most i header store)

-- ---- a turn

module _ (has : Bool) (asked list : List ℕ) (at : ℕ) (l : Left has asked list at) where
  -- none is left
  pub left-none : length list ≤ at → has ≡ false
  unfolding some_named
  left-none h =
      let e : l.rest ≡ [] = cc (from_end list at h) in
      rw e at l.decides

  one : at < length list → Next list at l.rest
  one h = next list at l.rest h l.lists

  -- the list is not broken
  pub left-whole : at < length list → found_at list at ≡ None → ⊥
  left-whole h e = let z : ◌≡◌ {A = ℕ} 0 1 = cc (one h).found in omega arith

  -- so none is found only where none is left
  pub left-end : found_at list at ≡ None → has ≡ false
  left-end e = go (dec_lt at (length list))
    where
      go : Dec (at < length list) → has ≡ false
      go (yes h) = absurd (left-whole h e)
      go (no h) = left-none (omega arith)

  module _ (p : Parameter) (f : found_at list at ≡ Some p) where
    this : Next list at l.rest
    this = one (omega (arith, found-on list at p f, (found-known list at p f).inside))

    same : this.parameter ≡ p
    same = cc this.found

    -- this one is the name
    pub left_here : is_named list asked p ≡ true → has ≡ true
    unfolding some_named
    left_here e = l.decides ∙ rw (this.first, same, e) refl

    -- this one is not
    pub left-on : is_named list asked p ≡ false → Left has asked list (p.start + p.size)
    unfolding some_named
    left-on e = record {
      rest = this.rest;
      lists = rw same at this.goes_on;
      decides = l.decides ∙ ap (some_named list asked) this.first ∙ rw (same, e) refl;
    }
