-- A held slot that is not damaged: document 01's list for STATE, in its words and order, and document 02's Item 4.
use Rattle.std.specs.Prelude.{◌≡◌, ◌⊎◌, List, ℕ, length, get_or}
use Rattle.answer.specs.declared.Part.{Part}
use Rattle.answer.specs.declared.Part.TheVariants.{Header, Body}
use Rattle.cut.specs.declared.Record.{Record}
use Rattle.cut.specs.Requirement.{Segment, Fits, Finished}
use Rattle.cut.specs.Kept.{bounds_of, summary, record_of, core_of}
use Rattle.cut.specs.Missing.{missing_of, amount_kept}
use Rattle.cut.specs.Lists.{Each}
use Rattle.object.specs.declared.Slot.{Slot}
use Rattle.part.specs.Memory.{held_in}
use Rattle.object.specs.declared.Stage.{Stage}
use Rattle.object.specs.Parts.{Lent, parts_of, memory_of}

-- the marked segments of a part, with their recorded lengths and stored bytes
abbrev pub marked_segments : Part → Slot → Lent → List Segment
marked_segments part slot lent = held_in (memory_of part (parts_of slot lent))

-- the record that they give, within the bounds that segment 0 has set
abbrev pub record_given : Part → ℕ → Slot → Lent → Record
record_given part limit slot lent =
    record_of (bounds_of part limit (core_of (marked_segments Header slot lent))) (summary (marked_segments part slot lent))

-- the stage that segments give which fit an object: finished with its two lengths, once every segment of it is in
abbrev pub StageFor : {limit : ℕ} {hs bs : List Segment} → Fits limit hs bs → Stage → Type 0
StageFor f Stage.Free = ⊥
StageFor f Stage.Gathering = ¬ (Finished f)
StageFor f (Stage.Finished header body) = Finished f × (header ≡ length f.header) × (body ≡ length f.body)

pub record Sound (limit : ℕ) (slot : Slot) (lent : Lent) : Type 0 where
  -- each mark is 0 or 1
  pub marks : Each (λ m. (m ≡ 0) ⊎ (m ≡ 1)) lent.marks
  -- a mark is set
  pub some : (n : ℕ) × (get_or lent.marks n 0 ≡ 1)
  -- the marked segments fit some object and cut
  pub object : Fits limit (marked_segments Header slot lent) (marked_segments Body slot lent)
  -- the records are those that these segments give
  pub header : slot.header ≡ record_given Header limit slot lent
  pub body : slot.body ≡ record_given Body limit slot lent
  -- and so is the stage
  pub stage : StageFor object slot.stage
  -- and the number of bytes still to come
  pub missing : slot.missing
      ≡ amount_kept (missing_of (marked_segments Header slot lent) (marked_segments Body slot lent))
