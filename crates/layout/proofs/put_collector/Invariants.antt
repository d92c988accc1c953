-- `layout::put_collector` meets its contract: the words that are put and those of the slots to come are all words.
-- Assumes nothing.
use Rattle.std.proofs.Common.{◌≡◌, ◌++◌, ◌+◌, ◌*◌, take, drop}
use Rattle.layout.specs.Layout.{words_of, slots_words}
use Rattle.layout.proofs.put_collector.Given as goal

abbrev pub invariant-loop-i : goal.invariant-loop-i
invariant-loop-i l =
    words_of l.fn.collector ≡ take (2 + l.i * 11) l.words ++ slots_words (drop l.i l.fn.collector.slots)
