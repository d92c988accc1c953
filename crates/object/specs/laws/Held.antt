-- Which segments a slot with its shares holds, as a relation, so that their order never matters.
use Rattle.std.specs.Prelude.{◌≡◌, List, ℕ, take}
use Rattle.octets.specs.Octets.{sum_of}
use Rattle.answer.specs.declared.Part.{Part}
use Rattle.answer.specs.declared.Part.TheVariants.{Header, Body}
use Rattle.cut.specs.Requirement.{header_numbers, body_numbers, Segment, Fits, joined}
use Rattle.cut.specs.Kept.{bounds_of, core_of}
use Rattle.cut.specs.Missing.{missing_of, amount_kept}
use Rattle.cut.specs.laws.Segment.{Numbered}
use Rattle.cut.specs.Parts.{headers_with, bodies_with, those}
use Rattle.object.specs.declared.Slot.{Slot}
use Rattle.object.specs.Take.{Taken}
use Rattle.part.specs.laws.Keeps.{Keeps}
use Rattle.object.specs.State.{StageFor}
use Rattle.object.specs.laws.Shape.{Shaped, IsLent}
use Rattle.object.specs.Parts.{Lent, Parts, parts_of}

-- a slot's two parts hold these segments of a header and of a body, which fit some object and cut
pub record Gathers (limit : ℕ) (ps : Parts) (hs bs : List Segment) : Type 0 where
  pub object : Fits limit hs bs
  pub shape : Shaped limit ps
  pub header : Keeps (bounds_of Header limit (core_of hs)) ps.header hs
  pub body : Keeps (bounds_of Body limit (core_of hs)) ps.body bs

-- a slot with what is lent for it holds these segments; its stage and its number of bytes still to come are those that
-- they give
pub record Holds (limit : ℕ) (slot : Slot) (lent : Lent) (hs bs : List Segment) : Type 0 where
  pub gathers : Gathers limit (parts_of slot lent) hs bs
  pub stage : StageFor gathers.object slot.stage
  pub missing : slot.missing ≡ amount_kept (missing_of hs bs)

-- a slot that holds nothing yet: its records are empty and no mark is set
pub record Vacant (limit : ℕ) (slot : Slot) (lent : Lent) : Type 0 where
  pub lends : IsLent limit lent
  pub header : slot.header ≡ record { size = 0; end = 0; tail = 0 }
  pub body : slot.body ≡ record { size = 0; end = 0; tail = 0 }
  pub marks : sum_of lent.marks ≡ 0

-- the segment is of a new number and fits, and is held now with the others
pub record Added (part : Part) (limit : ℕ) (s : Segment) (slot : Slot) (hs bs : List Segment) (t : Taken) : Type 0 where
  pub new : ¬ (Numbered s.number (those part hs bs))
  pub holds : Holds limit t.slot t.lent (headers_with part s hs) (bodies_with part s bs)
  pub number : t.slot.number ≡ slot.number

-- the first bytes of the shares, as many as the two lengths say, are the header and the body of every object that fits,
-- and there is one; and they are the segments joined by number
pub record Shows (limit : ℕ) (lent : Lent) (header body : ℕ) (hs bs : List Segment) : Type 0 where
  pub object : Fits limit hs bs
  pub every : (f : Fits limit hs bs) → (take header lent.header ≡ f.header) × (take body lent.body ≡ f.body)
  pub by_number : (take header lent.header ≡ joined header_numbers hs)
      × (take body lent.body ≡ joined body_numbers bs)
