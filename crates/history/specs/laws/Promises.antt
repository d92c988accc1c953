-- THE PROMISES: our collector keeps them, each a theorem of its own. A wrong collector is refused here, by name.
use Rattle.std.specs.Prelude.{refl}
use Rattle.wire.specs.laws.Theorems.{address-exactly}
use Rattle.history.specs.laws.Refused.{refused-handed, unanswered-handed, refused-drop, repeated-handed, drop-stores, limits-exactly, opened-leaves, unopened-leaves}
use Rattle.history.specs.laws.State.{handed-state, drop-state, ask-state}
use Rattle.history.specs.Ours.{ours}
use Rattle.history.specs.Promise.{RefusedLeaves, UnansweredLeaves, RepeatLeaves, StateExactly, MarkedExactly, LimitsExactly, OpenedLeaves, UnopenedLeaves, NeverState, UndroppedLeaves, StateDropExactly, DropKeepsStores, StateAskExactly, AskedLeaves, AddressExactly, OthersLeave, ShownJoined, CoreShown, UnfinishedUnshown, CountsTold, ConflictExactly, FullExactly, RepeatExactly, ResentRepeats, CompleteExactly, StoredExactly, LateStored, LowestFreeTaken, UnreadRefused, DropExactly, UnheldExactly, NoneFreeExactly, FinishedExactly, FinishedLengths, NotHeldExactly, AwaitedExactly, NoneAwaitedExactly, OutsideExactly, NeverRises, UnfinishedExactly, LocatedExactly, ReadExactly, NamesRead, FoundExactly, NotFoundExactly, OneCutAgrees, OneCutFinishes, Promised}
use Rattle.history.specs.laws.Demands.{marked-answered, never-state, others-held, never-more, run-answered, finished-exactly, finished-lengths}
use Rattle.history.specs.laws.Room.{none-free-exactly}
use Rattle.history.specs.laws.Tally.{reached-counts}
use Rattle.history.specs.laws.OneCut.{one-cut-agrees, one-cut-finishes}

-- ---- demand 1

pub refused-promised : RefusedLeaves ours
refused-promised = refused-handed

pub unanswered-promised : UnansweredLeaves ours
unanswered-promised = unanswered-handed

pub repeating-promised : RepeatLeaves ours
repeating-promised = repeated-handed

pub state-promised : StateExactly ours
state-promised = handed-state

pub marked-promised : MarkedExactly ours
marked-promised = marked-answered

pub limits-promised : LimitsExactly ours
limits-promised = limits-exactly

pub opened-promised : OpenedLeaves ours
opened-promised = opened-leaves

pub unopened-promised : UnopenedLeaves ours
unopened-promised = unopened-leaves

pub never-state-promised : NeverState ours
never-state-promised r = never-state r.start r.allowed r.calls r.bytes

pub undropped-promised : UndroppedLeaves ours
undropped-promised = refused-drop

pub state-drop-promised : StateDropExactly ours
state-drop-promised = drop-state

pub drop-keeps-promised : DropKeepsStores ours
drop-keeps-promised = drop-stores

pub state-ask-promised : StateAskExactly ours
state-ask-promised = ask-state

pub asking-promised : AskedLeaves ours
asking-promised question s = refl

pub addressed-promised : AddressExactly ours
addressed-promised bytes s = address-exactly bytes

pub others-promised : OthersLeave ours
others-promised = others-held

-- ---- demand 2

pub shown-promised : ShownJoined ours
shown-promised r = (run-answered r).shown

pub core-promised : CoreShown ours
core-promised r = (run-answered r).core

pub unshown-promised : UnfinishedUnshown ours
unshown-promised r = (run-answered r).unshown

pub counts-promised : CountsTold ours
counts-promised r = reached-counts r.start r.allowed r.calls

-- ---- demand 3

pub conflict-promised : ConflictExactly ours
conflict-promised r = (run-answered r).conflict

pub full-promised : FullExactly ours
full-promised r = (run-answered r).full

pub repeated-promised : RepeatExactly ours
repeated-promised r = (run-answered r).repeated

pub resent-promised : ResentRepeats ours
resent-promised r = (run-answered r).resent

pub complete-promised : CompleteExactly ours
complete-promised r = (run-answered r).complete

pub storing-promised : StoredExactly ours
storing-promised r = (run-answered r).storing

pub late-promised : LateStored ours
late-promised r = (run-answered r).late

pub lowest-promised : LowestFreeTaken ours
lowest-promised r = (run-answered r).lowest

pub unread-promised : UnreadRefused ours
unread-promised r = (run-answered r).unread

pub dropping-promised : DropExactly ours
dropping-promised r = (run-answered r).dropping

pub unheld-promised : UnheldExactly ours
unheld-promised r = (run-answered r).unheld

pub none-free-promised : NoneFreeExactly ours
none-free-promised r = none-free-exactly r.start r.allowed r.calls r.bytes

pub finished-promised : FinishedExactly ours
finished-promised = finished-exactly

pub lengths-promised : FinishedLengths ours
lengths-promised = finished-lengths

pub agrees-promised : OneCutAgrees ours
agrees-promised = one-cut-agrees

pub finishes-promised : OneCutFinishes ours
finishes-promised = one-cut-finishes

-- ---- the questions

pub not-held-promised : NotHeldExactly ours
not-held-promised r = (run-answered r).not_held

pub awaited-promised : AwaitedExactly ours
awaited-promised r = (run-answered r).awaited

pub none-awaited-promised : NoneAwaitedExactly ours
none-awaited-promised r = (run-answered r).none_awaited

pub outside-promised : OutsideExactly ours
outside-promised r = (run-answered r).outside

pub never-rises-promised : NeverRises ours
never-rises-promised = never-more

pub unfinished-promised : UnfinishedExactly ours
unfinished-promised r = (run-answered r).unfinished

pub located-promised : LocatedExactly ours
located-promised r = (run-answered r).located

pub reading-promised : ReadExactly ours
reading-promised r = (run-answered r).reading

pub named-promised : NamesRead ours
named-promised r = (run-answered r).named

pub found-promised : FoundExactly ours
found-promised r = (run-answered r).found

pub not-found-promised : NotFoundExactly ours
not-found-promised r = (run-answered r).not_found

-- ---- all of them

pub promised : Promised ours
promised = record {
  refused = refused-promised;
  unanswered = unanswered-promised;
  repeating = repeating-promised;
  state = state-promised;
  marked = marked-promised;
  limits = limits-promised;
  opened = opened-promised;
  unopened = unopened-promised;
  never_state = never-state-promised;
  undropped = undropped-promised;
  state_drop = state-drop-promised;
  drop_keeps = drop-keeps-promised;
  state_ask = state-ask-promised;
  asking = asking-promised;
  addressed = addressed-promised;
  others = others-promised;
  shown = shown-promised;
  core = core-promised;
  unshown = unshown-promised;
  counts = counts-promised;
  conflict = conflict-promised;
  full = full-promised;
  repeated = repeated-promised;
  resent = resent-promised;
  complete = complete-promised;
  storing = storing-promised;
  late = late-promised;
  lowest = lowest-promised;
  unread = unread-promised;
  dropping = dropping-promised;
  unheld = unheld-promised;
  none_free = none-free-promised;
  finished = finished-promised;
  lengths = lengths-promised;
  not_held = not-held-promised;
  awaited = awaited-promised;
  none_awaited = none-awaited-promised;
  outside = outside-promised;
  never_rises = never-rises-promised;
  unfinished = unfinished-promised;
  located = located-promised;
  reading = reading-promised;
  named = named-promised;
  found = found-promised;
  not_found = not-found-promised;
  agrees = agrees-promised;
  finishes = finishes-promised;
}
