-- `slots::shown` meets its contract: part by part.
-- Assumes nothing.
use Rattle.slots.specs.Show.{shown_of}
use Rattle.slots.proofs.Laws.{unfinished}
use Rattle.slots.proofs.shown.Goals as goal

pub returns-in_default : goal.returns-in_default
unfolding shown_of
returns-in_default c =
    let a = c.args in
    unfinished a.part a.slot.stage a.limit a.i a.header.now a.body.now c.in_default.not-Finished

pub returns-in-Header : goal.returns-in-Header
unfolding shown_of
returns-in-Header c = rw (c.in-Header.is, c.in-Finished.is)
    c.start_of.ensures

pub returns-in-Body : goal.returns-in-Body
unfolding shown_of
returns-in-Body c = rw (c.in-Body.is, c.in-Finished.is)
    c.start_of-in-Body.ensures
