-- The segments that were offered to a slot since a number took it, each with its outcome, the latest first; and what
-- was stored of them, read off the outcomes alone.
use Rattle.std.specs.Prelude.{◌≡◌, true, List, [], ◌∷◌, ℕ}
use Rattle.answer.specs.declared.Part.{Part}
use Rattle.cut.specs.Requirement.{Segment}
use Rattle.cut.specs.Parts.{headers_with, bodies_with}
use Rattle.cut.specs.Lists.{Among, Bytes}
use Rattle.object.specs.declared.Slot.{Slot}
use Rattle.object.specs.declared.Outcome.{Outcome}
use Rattle.object.specs.declared.Outcome.TheVariants.{Stored, Complete, Repeat, Conflict}
use Rattle.object.specs.Take.{take_into}
use Rattle.object.specs.Sound.{sound_slot}
use Rattle.object.specs.Source.{Source, SegmentOf}
use Rattle.object.specs.laws.Held.{Holds}
use Rattle.object.specs.Parts.{Lent}

pub record Offer : Type 0 where
  pub part : Part
  pub segment : Segment
  pub outcome : Outcome

-- ---- what was stored

abbrev pub if_stored : Outcome → List Segment → List Segment → List Segment
if_stored Stored more same = more
if_stored Complete more same = more
if_stored Repeat more same = same
if_stored Conflict more same = same

abbrev pub stored_headers : List Offer → List Segment
stored_headers [] = []
stored_headers (o ∷ os) = if_stored o.outcome (headers_with o.part o.segment (stored_headers os))
    (stored_headers os)

abbrev pub stored_bodies : List Offer → List Segment
stored_bodies [] = []
stored_bodies (o ∷ os) = if_stored o.outcome (bodies_with o.part o.segment (stored_bodies os)) (stored_bodies os)

-- ---- the slot after these offers, each handed the slot and its shares as the one before left them

abbrev pub After : ℕ → Slot → Lent → List Offer → Slot → Lent → Type 0
After limit slot₀ lent₀ [] slot lent = (slot ≡ slot₀) × (lent ≡ lent₀)
After limit slot₀ lent₀ (o ∷ os) slot lent =
    (slot' : Slot) × (lent' : Lent) × After limit slot₀ lent₀ os slot' lent' × Bytes o.segment.bytes
    × (take_into o.part limit o.segment slot' lent'
    ≡ record { outcome = o.outcome; slot = slot; lent = lent })

-- nothing was stored yet and all is as it was, or the slot is sound and holds what was
pub data Standing (limit : ℕ) (slot₀ : Slot) (lent₀ : Lent) (slot : Slot) (lent : Lent) (hs bs : List Segment) : Type 0
  where
    none : hs ≡ [] → bs ≡ [] → slot ≡ slot₀ → lent ≡ lent₀ → Standing limit slot₀ lent₀ slot lent hs bs
    some : Holds limit slot lent hs bs → sound_slot limit slot lent ≡ true → Standing limit slot₀ lent₀ slot lent hs bs

-- ---- segments of one object and cut

-- every segment that it has was offered
abbrev pub AllOffered : {limit : ℕ} → Source limit → List Offer → Type 0
AllOffered c os = (part : Part) (s : Segment) → SegmentOf c part s → (o : Offer) × Among o os × (o.part ≡ part)
    × (o.segment ≡ s)
