-- A sound slot, however it came about, is answered as if its marked segments had been stored, and stays sound.
use Rattle.std.specs.Prelude.{◌≡◌, refl, ◌⊎◌, ◌↔◌, true, List, ℕ, ◌≤◌}
use Rattle.answer.specs.declared.Part.{Part}
use Rattle.answer.specs.declared.Part.TheVariants.{Header, Body}
use Rattle.cut.specs.Requirement.{limit_most, Segment, Fits, Finished}
use Rattle.cut.specs.Parts.{headers_with, bodies_with, those}
use Rattle.cut.specs.Lists.{Among, Bytes}
use Rattle.object.specs.declared.Slot.{Slot}
use Rattle.object.specs.declared.Outcome.{Outcome}
use Rattle.object.specs.declared.Outcome.TheVariants.{Stored, Complete, Repeat, Conflict}
use Rattle.object.specs.Take.{Taken, take_into}
use Rattle.object.specs.Sound.{sound_slot}
use Rattle.object.specs.laws.Shape.{IsLent}
use Rattle.object.specs.laws.Held.{Gathers}
use Rattle.object.specs.laws.Step.{Tells, outcome-tells, conflict-exactly, repeat-exactly, complete-exactly, stored-exactly}
use Rattle.object.specs.laws.StepSound.{added-sound, taken-lent}
use Rattle.object.specs.State.{marked_segments}
use Rattle.object.specs.laws.StateExact.{sound-holds}
use Rattle.object.specs.Parts.{Lent, parts_of}

module _ (part : Part) (limit : ℕ) (s : Segment) (slot : Slot) (lent : Lent) (z : limit ≤ limit_most)
    (y : Bytes s.bytes) (l : IsLent limit lent) (sound : sound_slot limit slot lent ≡ true) where
  hs : List Segment
  hs = marked_segments Header slot lent

  bs : List Segment
  bs = marked_segments Body slot lent

  g : Gathers limit (parts_of slot lent) hs bs
  unfolding hs bs
  g = (sound-holds limit slot lent z l sound).gathers

  told : Tells (take_into part limit s slot lent).outcome part limit s slot lent hs bs (take_into part limit s slot lent)
  told = outcome-tells part limit s slot lent hs bs z y g (take_into part limit s slot lent).outcome refl

  pub conflict-answered : ((take_into part limit s slot lent).outcome ≡ Conflict)
      ↔ (¬ (Fits limit (headers_with part s (marked_segments Header slot lent))
      (bodies_with part s (marked_segments Body slot lent))))
  unfolding hs bs
  conflict-answered = conflict-exactly part limit s slot lent hs bs z y g

  pub repeat-answered : ((take_into part limit s slot lent).outcome ≡ Repeat)
      ↔ Among s (those part (marked_segments Header slot lent) (marked_segments Body slot lent))
  unfolding hs bs
  repeat-answered = repeat-exactly part limit s slot lent hs bs z y g

  pub complete-answered : ((take_into part limit s slot lent).outcome ≡ Complete)
      ↔ (((f : Fits limit (headers_with part s (marked_segments Header slot lent))
      (bodies_with part s (marked_segments Body slot lent))) × Finished f)
      × ((f : Fits limit (marked_segments Header slot lent) (marked_segments Body slot lent)) → ¬ (Finished f)))
  unfolding hs bs
  complete-answered = complete-exactly part limit s slot lent hs bs z y g

  pub stored-answered : ((take_into part limit s slot lent).outcome ≡ Stored)
      ↔ (((f : Fits limit (headers_with part s (marked_segments Header slot lent))
      (bodies_with part s (marked_segments Body slot lent))) × ((¬ (Finished f))
      ⊎ ((g : Fits limit (marked_segments Header slot lent) (marked_segments Body slot lent)) × Finished g)))
      × (¬ (Among s (those part (marked_segments Header slot lent) (marked_segments Body slot lent)))))
  unfolding hs bs
  stored-answered = stored-exactly part limit s slot lent hs bs z y g

  -- it stays sound, whatever the outcome
  pub sound-stays : sound_slot limit (take_into part limit s slot lent).slot (take_into part limit s slot lent).lent
      ≡ true
  sound-stays = go (take_into part limit s slot lent).outcome (take_into part limit s slot lent) told
    where
      go : (o : Outcome) (t : Taken) → Tells o part limit s slot lent hs bs t → sound_slot limit t.slot t.lent
          ≡ true
      go Stored t w = added-sound part limit s slot hs bs t w.0
      go Complete t w = added-sound part limit s slot hs bs t w.0
      go Repeat t w = rw w.1 sound
      go Conflict t w = rw w.1 sound

  -- and so does what is lent for it
  pub lent-stays : IsLent limit (take_into part limit s slot lent).lent
  lent-stays = taken-lent part limit s slot lent hs bs z y l g
