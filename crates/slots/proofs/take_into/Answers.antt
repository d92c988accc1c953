-- `slots::take_into` meets its contract: the shares are lent, and laid back into their places.
-- Assumes nothing.
use mathlib.Core.Path.{subst, sym, ap, ◌∙◌}
use lib.ListN.{length}
use Rattle.cut.specs.Requirement.{sent}
use Rattle.object.specs.Take.{take_into}
use Rattle.object.specs.Asked.{Offered}
use Rattle.object.specs.Parts.{Lent}
use Rattle.slots.specs.Stores.{Stores, lent_at}
use Rattle.slots.specs.laws.Shares.{shares-lent, shares-back, lent-wide}
use Rattle.slots.proofs.take_into.Goals as goal

pub take-requires : goal.take-requires
take-requires c =
    let a = c.args in
    subst (Offered a.limit a.slot)
    (sym (shares-lent a.limit a.i a.header.now a.body.now a.marks.now)) c.requires.offered

pub returns : goal.returns
returns c =
    let a = c.args in
    let lent = shares-lent a.limit a.i a.header.now a.body.now a.marks.now in
    let stores : Stores = record { header = a.header.now; body = a.body.now; marks = a.marks.now } in
    let wide = lent-wide a.limit a.i stores c.requires.inside in
    shares-back a.limit a.i stores c.take.result.outcome c.take.result.slot
    c.take.new.header c.take.new.body
    c.take.new.marks
    (take_into a.part a.limit (sent a.segment.now) a.slot
    (lent_at a.limit a.i stores))
    (c.take.auto.header ∙ ap (λ (l : Lent). length l.header) lent ∙ wide.header)
    (c.take.auto.body ∙ ap (λ (l : Lent). length l.body) lent ∙ wide.body)
    (c.take.auto.marks ∙ ap (λ (l : Lent). length l.marks) lent ∙ wide.marks)
    (c.take.ensures
    ∙ ap (take_into a.part a.limit (sent a.segment.now) a.slot) lent)
