-- THE HEADER OF A FINISHED OBJECT HAS ITS CORE, in any state that is not damaged: what is shown of it has 7 bytes at
-- least.
use Rattle.std.specs.Prelude.{◌≡◌, refl, true, false, List, ℕ, ◌+◌, ◌*◌, ◌≤◌, ◌<◌, length, take}
use Rattle.std.proofs.Common.{ap, subst, arith, length-take, le-leb}
use Rattle.std.proofs.Math.Decide.{dec_lt}
use Rattle.std.proofs.Math.ListN.{get_or-eq_default}
use Rattle.octets.specs.Octets.{part}
use Rattle.octets.specs.laws.Over.{part_length}
use Rattle.cut.specs.Requirement.{header_least, header_most}
use Rattle.object.specs.declared.Slot.{Slot}
use Rattle.object.specs.declared.Stage.{Stage}
use Rattle.object.specs.declared.Stage.TheVariants.{Finished}
use Rattle.object.specs.Sound.{sound_slot, sound_parts}
use Rattle.object.specs.Parts.{Lent, parts_of}
use Rattle.object.specs.laws.Inside.{sound-slot}
use Rattle.object.specs.laws.StageInside.{Lengths, finished-inside}
use Rattle.slots.specs.Stores.{Stores, lent_at, free_slot, slot_at}
use Rattle.slots.specs.Find.{is_free}
use Rattle.slots.specs.State.{right_slot, sound_slots}
use Rattle.slots.specs.Show.{start_of}
use Rattle.slots.specs.laws.Ready.{sound-inside, sound-right}

-- past the end of the slots there is none
pub finished-among : (slots : List Slot) (i h b : ℕ) → (slot_at i slots).stage ≡ Finished h b → i < length slots
unfolding slot_at free_slot
finished-among slots i h b e = go (dec_lt i (length slots))
  where
    go : Dec (i < length slots) → i < length slots
    go (yes g) = g
    go (no g) =
        let f : slot_at i slots ≡ free_slot = get_or-eq_default slots free_slot (omega arith) in
        let z : ◌≡◌ {A = ℕ} 0 1 = cc (e, ap (λ (x : Slot). x.stage) f) in
        absurd (omega arith)

-- a finished slot is not free, so that where it is right it is sound
finished-held : (slot : Slot) (h b : ℕ) → slot.stage ≡ Finished h b → is_free slot ≡ false
unfolding is_free
finished-held slot h b e = rw e refl

finished-sound : (limit : ℕ) (slot : Slot) (lent : Lent) (h b : ℕ) → slot.stage ≡ Finished h b
    → right_slot limit slot lent ≡ true → sound_slot limit slot lent ≡ true
unfolding right_slot
finished-sound limit slot lent h b e r = rw (finished-held slot h b e) at r

-- the start of a share that lies in the store is there
pub start-there : (width i count : ℕ) (store : List ℕ) → count ≤ width → i * width + width ≤ length store
    → start_of width i count store ≡ part store (i * width) count
unfolding start_of
start-there width i count store h g = rw (le-leb (i * width + count) (length store) (omega arith)) refl

module _ (limit count : ℕ) (slots : List Slot) (stores : Stores) (sound : sound_slots limit count slots stores ≡ true)
    (i h b : ℕ) (inside : i < count) (finished : (slot_at i slots).stage ≡ Finished h b) where
  pub finished-lengths : Lengths limit h b
  finished-lengths =
      let there : i < length (take count slots) = rw length-take (omega (arith, finished-among slots i h b finished)) in
      let slot = slot_at i slots in
      let lent = lent_at limit i stores in
      let parts = (sound-slot limit slot lent
      (finished-sound limit slot lent h b finished (sound-right limit count slots stores sound i there))).2 in
      finished-inside limit h b (parts_of slot lent)
      (subst (λ (x : Stage). sound_parts limit x (parts_of slot lent) ≡ true) finished parts)

  pub finished-core : header_least ≤ length (start_of header_most i h stores.header)
  finished-core =
      let l = finished-lengths in
      let share : i * header_most + header_most ≤ length stores.header =
      (sound-inside limit count slots stores sound i inside).header in
      rw (
        start-there header_most i h stores.header l.header share,
        part_length stores.header (i * header_most) h (omega (arith, l.header)),
      ) l.core
