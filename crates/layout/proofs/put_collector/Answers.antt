-- `layout::put_collector` meets its contract: the words that are put and those of the slots to come are all words.
-- Assumes nothing.
use Rattle.std.proofs.Common.{◌≡◌, ◌+◌, ◌*◌, sym, ◌∙◌, arith, length, length-set}
use Rattle.std.proofs.Math.Seq.{take-length}
use Rattle.layout.specs.Layout.{words_of}
use Rattle.layout.specs.laws.Layout.{two-put, put-turn, put-end}
use Rattle.layout.proofs.put_collector.Goals as goal

pub loop-i-init : goal.loop-i-init
unfolding words_of
loop-i-init c = rw (two-put c.args.words.now c.args.collector.now.limit c.args.collector.now.count c.requires)

pub loop-i-preserved : goal.loop-i-preserved
loop-i-preserved c =
    let k = c.loop-i in
    let long : length k.words ≡ 178 = k.auto.words ∙ simp length-set c.requires in
    let turn : 2 + (k.i + 1) * 11 ≡ 2 + k.i * 11 + 11 = omega arith in
    k.invariant ∙ rw (turn, c.copy_from_slice.ensures.after, c.slot_words.ensures)
    (put-turn k.words c.args.collector.now.slots k.i (2 + k.i * 11) _ (omega arith) (omega arith))

pub returns : goal.returns
returns c =
    let k = c.loop-i in
    let long : length k.words ≡ 178 = k.auto.words ∙ simp length-set c.requires in
    let end : 2 + k.i * 11 ≡ length k.words = omega arith in
    let all : k.i ≡ 16 = omega arith in
    sym (k.invariant ∙ rw (end, take-length, all) (put-end k.words c.args.collector.now.slots (omega arith)))
