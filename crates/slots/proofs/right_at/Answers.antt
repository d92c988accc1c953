-- `slots::right_at` meets its contract: slot i has share i.
-- Assumes nothing.
use mathlib.Core.Path.{sym, ap, ap₂, ◌∙◌}
use Prim.Native.Nat.{ℕ}
use lib.Dec.{eqb}
use Rattle.octets.specs.Octets.{largest_of}
use mathlib.Core.List.{List, []}
use Rattle.object.specs.Sound.{sound_slot}
use Rattle.object.specs.Parts.{shares}
use Rattle.slots.specs.State.{right_slot, right_by}
use Rattle.slots.specs.laws.Shares.{share-lent}
use Rattle.slots.proofs.right_at.Goals as goal

pub returns-then-is_free : goal.returns-then-is_free
unfolding right_by right_slot
returns-then-is_free c =
    let a = c.args in
    rw (sym c.is_free.ensures ∙ c.if-is_free.true)
    (ap (λ (n : ℕ). eqb n 0) (c.largest.ensures ∙ ap largest_of (share-lent 1088 a.i a.marks.now)))

pub returns : goal.returns
unfolding right_by right_slot
returns c =
    let a = c.args in
    rw (sym c.is_free.ensures ∙ c.if-is_free.false)
    (c.is_sound.ensures ∙ ap₂ (λ (header marks : List ℕ). sound_slot a.limit a.slot.now (shares header [] marks))
    (share-lent 1024 a.i a.header.now) (share-lent 1088 a.i a.marks.now))
