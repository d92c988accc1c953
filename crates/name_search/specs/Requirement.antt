-- What finding by name is asked for, in document 01's words: which finished objects there are, which of them have the
-- name, and which number is the lowest.
use Rattle.std.specs.Prelude.{◌≡◌, List, Some, Ok, ℕ, ◌≤◌, ◌<◌, take, drop}
use Rattle.cut.specs.Requirement.{header_most}
use Rattle.object.specs.declared.Slot.{Slot}
use Rattle.object.specs.declared.Stage.TheVariants.{Finished}
use Rattle.header.specs.declared.Fields.{Fields}
use Rattle.header.specs.declared.Place.{Place}
use Rattle.header.specs.Parameters.{read_header}
use Rattle.header.specs.Names.{unslashed}
use Rattle.slots.specs.Stores.{slot_at}
use Rattle.slots.specs.Show.{start_of}

-- one of the first count slots holds a finished object with this number and this header
pub record Object (count : ℕ) (slots : List Slot) (store : List ℕ) (number : ℕ) (header : List ℕ) : Type 0 where
  pub slot : ℕ
  pub inside : slot < count
  pub header_length : ℕ
  pub body_length : ℕ
  pub finished : (slot_at slot slots).stage ≡ Finished header_length body_length
  pub numbered : (slot_at slot slots).number ≡ number
  pub stored : start_of header_most slot header_length store ≡ header

-- the header reads, which one that gives HEADER or DUPLICATE does not, and has a name; without its character set byte,
-- and one leading slash dropped on each side, it is the name that is asked for
pub record Named (asked header : List ℕ) : Type 0 where
  pub fields : Fields
  pub reads : read_header header ≡ Ok fields
  pub place : Place
  pub name : fields.name ≡ Some place
  pub same : unslashed (drop 1 (take place.size (drop place.start header))) ≡ unslashed asked

-- of several matches the lowest transport number
pub record Lowest (asked : List ℕ) (count : ℕ) (slots : List Slot) (store : List ℕ) (number : ℕ) : Type 0 where
  pub header : List ℕ
  pub object : Object count slots store number header
  pub named : Named asked header
  pub lowest : (other : ℕ) (h : List ℕ) → Object count slots store other h → Named asked h → number ≤ other
