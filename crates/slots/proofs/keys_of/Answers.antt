-- `slots::keys_of` meets its contract: each call of the closure gives the key of the slot in its place.
-- Assumes nothing.
use Rattle.std.proofs.Common.{ℕ, get_or, arith, rules}
use Rattle.slots.specs.Keys.{key_of}
use Rattle.slots.specs.Stores.{free_slot}
use Rattle.slots.specs.laws.FromFn.{made-by}
use Rattle.slots.proofs.Laws.{keys-at}
use Rattle.slots.proofs.keys_of.Goals as goal

pub returns : goal.returns
unfolding free_slot
returns c =
    let slots = c.args.slots.now in
    let made = c.from_fn.ensures.items in
    keys-at slots c.from_fn.result (omega (arith, made.long)) (λ i h.
    made-by _ _ (λ (j : ℕ). key_of (get_or slots j free_slot)) _ _ 0 0 (λ x y q k. search rules) made.each i i
    (rw c.told-slots at h) (omega arith))
