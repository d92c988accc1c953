-- `listing::Lister::serve` meets its contract: what was asked for is what the reader told, case by case.
-- Assumes nothing.
use mathlib.Core.Path.{◌≡◌, sym}
use Rattle.slots.specs.Stores.{stores}
use Rattle.collector.specs.State.{reply}
use Rattle.listing.specs.Listed.{leaving, listed, served_line}
use Rattle.listing.proofs.Served.{served-group, served-drop, served-malformed, answer-group, answer-drop, answer-malformed}
use Rattle.listing.proofs.Lister.serve.Goals as goal
use Rattle.listing.proofs.Lister.serve.Goals.{in-Group, in-Drop}

pub returns-in-Malformed-clause-answer : goal.returns-in-Malformed-clause-answer
returns-in-Malformed-clause-answer c =
    let l = c.args.self.now in
    rw (← c.front.ensures)
    (answer-malformed c.front.result.now l.listing.held (stores l.header l.body l.marks)
    (sym c.in-Malformed.ensures.value))

pub returns-in-Malformed-clause-left : goal.returns-in-Malformed-clause-left
returns-in-Malformed-clause-left c =
    let l = c.args.self.now in
    rw (← c.front.ensures)
    (served-malformed c.front.result.now l.listing.held l.group (stores l.header l.body l.marks) _
    c.read.ensures.group_after (sym c.in-Malformed.ensures.value))

pub returns-clause-answer : goal.returns-clause-answer
returns-clause-answer c =
    let l = c.args.self.now in
    elim c.match-read.branch [
      | in-Group w ↦
          let last = w.taken-reply.new in
          rw (w.reply-is, ← c.front.ensures)
          (answer-group c.front.result.now l.listing.held l.group (stores l.header l.body l.marks) _
          c.read.ensures.group_after _ _ (reply w.taken-reply.result (stores last.header last.body last.marks))
          (sym w.in-Group.ensures.value) w.front-in-Group.ensures w.taken-reply.ensures)
      | in-Drop w ↦
          rw (w.reply-is, ← c.front.ensures)
          (answer-drop c.front.result.now l.listing.held (stores l.header l.body l.marks) _
          (reply w.dropped-reply.result (stores l.header l.body w.dropped-reply.new.marks))
          (sym w.in-Drop.ensures.value) w.dropped-reply.ensures)
    ]

pub returns-clause-left : goal.returns-clause-left
returns-clause-left c =
    let l = c.args.self.now in
    let now = c.match-read.self in
    let left = c.match-read.reply in
    let serves : leaving (record { collector = left.collector; counts = left.counts }) now.group
    (stores now.header now.body now.marks) ≡ served_line (listed l) = elim c.match-read.branch [
      | in-Group w ↦
          let last = w.taken-reply.new in
          rw (w.self-is, w.reply-is, ← c.front.ensures)
          (served-group c.front.result.now l.listing.held l.group (stores l.header l.body l.marks) _
          c.read.ensures.group_after _ _ (reply w.taken-reply.result (stores last.header last.body last.marks))
          (sym w.in-Group.ensures.value) w.front-in-Group.ensures w.taken-reply.ensures)
      | in-Drop w ↦
          rw (w.self-is, w.reply-is, ← c.front.ensures)
          (served-drop c.front.result.now l.listing.held l.group (stores l.header l.body l.marks) _
          c.read.ensures.group_after _
          (reply w.dropped-reply.result (stores l.header l.body w.dropped-reply.new.marks))
          (sym w.in-Drop.ensures.value) w.dropped-reply.ensures)
    ] in
    serves
