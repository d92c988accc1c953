-- `layout::all_readable` meets its contract: each call of the closure looks at its slot.
-- Assumes nothing.
use Rattle.std.proofs.Common.{List, ℕ, ◌+◌, ◌-◌, ◌*◌, ◌/◌, ◌≤◌, ap, ◌∙◌, take, drop, length, length-drop, arith, rules}
use Rattle.std.proofs.Math.Seq.{take_all}
use borrow.Author.Tests.{tests}
use Rattle.std.proofs.lemmas.Iterator.{YieldsList-from_slice}
use Rattle.std.proofs.lemmas.Iterator.Search.{all_from_yields_List}
use Rattle.std.proofs.lemmas.List.Folds.{list_all-map}
use Rattle.std.proofs.lemmas.List.FromFn.{take-map-range_with_len}
use Rattle.layout.specs.Layout.{slot_readable}
use Rattle.layout.specs.laws.Layout.{readable-alone, chunks-each, readable-each}
use Rattle.layout.proofs.all_readable.Goals as goal

pub returns : goal.returns
returns c =
    let words = c.args.words.now in
    let count = c.args.count in
    let rest = take_all (length words - 2) (drop 2 words) (rw length-drop (omega arith)) in
    let many = length (drop 2 words) / 11 in
    let few : count ≤ many = omega (arith, length-drop {A = ℕ}) in
    let each : ℕ → List ℕ = λ (j : ℕ). take 11 (drop (2 + j * 11) words) in
    let chunks = (rw rest at c.as_chunks.ensures.front) ∙ chunks-each words many 0 in
    all_from_yields_List (λ (slot : List ℕ). slot_readable slot 0) _ _ _ c.all.ensures.ran
    (YieldsList-from_slice _ (c.iter.ensures.rest
    ∙ ap (take count) chunks ∙ take-map-range_with_len each 0 many count few))
    (λ x b q k. search (rules, tests))
    ∙ simp (list_all-map, readable-alone words) (readable-each words count 0)
