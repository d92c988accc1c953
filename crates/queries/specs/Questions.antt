-- What each question about finished objects is answered; none changes anything.
use Rattle.std.specs.Prelude.{List, [], ℕ, ◌≤◌, ◌≡◌, Result, Ok, Err, Option, Some, None}
use Rattle.answer.specs.declared.Reason.{Reason}
use Rattle.answer.specs.declared.Part.TheVariants.{Header}
use Rattle.header.specs.declared.Fields.{Fields}
use Rattle.header.specs.Parameters.{read_header}
use Rattle.header.specs.Names.{name_data}
use Rattle.name_search.specs.Finding.{found_by_name}
use Rattle.name_search.specs.Requirement.{Named}
use Rattle.queries.specs.Said.{asked_as}
use Rattle.collector.specs.State.{State}
use Rattle.collector.specs.Calls.{locate, show, sound}
use Rattle.cut.specs.Lists.{pick}

-- ---- what a header says

abbrev pub asked_of : Result ℕ Reason → List ℕ → Result Fields Reason
asked_of (Err why) header = Err why
asked_of (Ok i) header = asked_as (read_header header)

-- STATE, NOTHELD, UNFINISHED; then HEADER, DUPLICATE, or what the header that is shown says
unfoldable pub parameters : ℕ → State → Result Fields Reason
parameters number s = asked_of (locate number s) (show number Header s)

abbrev pub named_of : Result ℕ Reason → List ℕ → List ℕ
named_of (Err why) header = []
named_of (Ok i) header = name_data header

-- ContentName's data, as a part of the header that is shown; nothing where it has none, or where none is shown
unfoldable pub name : ℕ → State → List ℕ
name number s = named_of (locate number s) (show number Header s)

-- ---- whose a name is

abbrev pub sought_as : Option ℕ → Result ℕ Reason
sought_as (Some number) = Ok number
sought_as None = Err Reason.NotFound

-- STATE, NOTFOUND
unfoldable pub find : List ℕ → State → Result ℕ Reason
find asked s =
    pick (sound s) (sought_as (found_by_name asked s.collector.count s.collector.slots s.stores.header))
    (Err Reason.State)

-- the object of this number is shown, its header has the name, and no object of a lower number does
pub record Found (asked : List ℕ) (s : State) (number : ℕ) : Type 0 where
  pub slot : ℕ
  pub located : locate number s ≡ Ok slot
  pub named : Named asked (show number Header s)
  pub lowest : (other i : ℕ) → locate other s ≡ Ok i → Named asked (show other Header s) → number ≤ other
