-- `layout::slots_from` meets its contract: each call of the closure reads its slot.
-- Assumes nothing.
use Rattle.std.proofs.Common.{◌≡◌, ℕ, ◌+◌, ◌*◌, ◌/◌, [], length, take, drop, get_or, ◌∙◌, length-drop, arith, rules}
use Rattle.std.proofs.Math.Seq.{take_all}
use Rattle.std.proofs.lemmas.List.FromFn.{fill_by_all, get_or-map-range_with_len}
use borrow.Author.Tests.{tests}
use Rattle.slots.specs.laws.FromFn.{made-by}
use Rattle.layout.specs.Layout.{slot_in}
use Rattle.layout.specs.laws.Layout.{slot-alone, chunks-each, from-each}
use Rattle.layout.proofs.slots_from.Goals as goal

pub returns : goal.returns
returns c =
    let words = c.args.words.now in
    let rest = take_all 176 (drop 2 words) (rw length-drop (omega arith)) in
    let sixteen : length (drop 2 words) / 11 ≡ 16 = omega (arith, length-drop {A = ℕ}) in
    let chunks = c.as_chunks.result.0.now in
    let these : chunks ≡ _ = (rw (rest, sixteen) at c.as_chunks.ensures.front) ∙ chunks-each words 16 0 in
    let each : ℕ → _ = λ (i : ℕ). slot_in (get_or chunks i []) 0 in
    let made = c.from_fn.ensures.items in
    fill_by_all (λ (i : ℕ). slot_in words (2 + i * 11)) _ 16 (each 0) made.long
    (λ k h. made-by _ _ each _ 16 0 (each 0) (λ x y q k. search (rules, tests)) made.each k k h (omega arith)
    ∙ rw (these, get_or-map-range_with_len (λ (j : ℕ). take 11 (drop (2 + j * 11) words)) 0 16 k k [] h (omega arith))
    (slot-alone words (2 + k * 11)))
    ∙ from-each words 16 0
