-- What a call answers and leaves, as a contract has it where the counts are lent.
use Rattle.counts.specs.declared.Counts.{Counts}
use Rattle.slots.specs.Stores.{Stores}
use Rattle.collector.specs.State.{Reply, Opened, state}
use Rattle.lent_calls.specs.declared.Answered.{Answered}
use Rattle.lent_calls.specs.declared.Begun.{Begun}

abbrev pub answered : Answered → Counts → Stores → Reply
answered r counts lent = record { answer = r.answer; left = state r.collector counts lent }

abbrev pub begun : Begun → Counts → Stores → Opened
begun r counts lent = record { opening = r.opening; left = state r.collector counts lent }
