-- Each of the five counts is the number of such answers since the opening, or 2147483647 where there were more.
use Rattle.std.specs.Prelude.{◌≡◌, refl, Option, None, Some, Bool, true, false, cond, List, [], ◌∷◌, ℕ, suc, ◌+◌, ◌<◌, min, leb, ltb}
use Rattle.std.proofs.Common.{ap, ◌∙◌, arith, ltb-true, ltb-false}
use Rattle.std.proofs.lemmas.Bool.{lt-leb}
use Rattle.answer.specs.declared.Answer.{Answer}
use Rattle.answer.specs.declared.Refusal.{Refusal}
use Rattle.answer.specs.Table.{number_of}
use Rattle.answer.specs.laws.Table.{reason-from}
use Rattle.counts.specs.declared.Counts.{Counts}
use Rattle.counts.specs.Counted.{ceiling, risen, counted}
use Rattle.cut.specs.Lists.{pick, both}
use Rattle.collector.specs.State.{Start, Reply, State, find}
use Rattle.collector.specs.Calls.{drop_number, sound}
use Rattle.collector.specs.Arrival.{Arrival}
use Rattle.history.specs.laws.Call.{Came, alone, full, first, more, unread, came, drop-damaged, none_dropped, found-dropped, defined, handed-damaged}
use Rattle.history.specs.Handed.{Handed, Brought, arrives, refused, brought_by}
use Rattle.history.specs.laws.Ready.{used-inside, found-used}
use Rattle.history.specs.Promise.{between, answers_from, tallied}
use Rattle.history.specs.History.{Call, hand, drop, ask, Event, leaves, event, Allowed, reached, told}
use Rattle.history.specs.laws.Reached.{start_is}
use Rattle.history.specs.Taking.{take}

risen-min : (n : ℕ) → risen (min n ceiling) ≡ min (suc n) ceiling
unfolding risen
risen-min n = go (ltb (min n ceiling) ceiling) refl
  where
    go : (b : Bool) → ltb (min n ceiling) ceiling ≡ b → cond b (min n ceiling + 1) (min n ceiling) ≡ min (suc n) ceiling
    go true e = omega (arith, ltb-true (min n ceiling) ceiling e)
    go false e = omega (arith, ltb-false (min n ceiling) ceiling e)

-- five numbers, each up to the ceiling
abbrev capped : ℕ → ℕ → ℕ → ℕ → ℕ → Counts
capped t r f c d = record {
  taken = min t ceiling;
  repeated = min r ceiling;
  refused = min f ceiling;
  completed =
      min c ceiling;
  dropped = min d ceiling;
}

-- one answer more
abbrev on_more : Answer → ℕ → ℕ → ℕ → ℕ
on_more a low high n = pick (between low high a) (suc n) n

unread-more : (why : Refusal) (t r f c d : ℕ)
    → capped t r (suc f) c d ≡ capped (on_more (Answer.Refused why) 0 1 t) (on_more (Answer.Refused why) 2 2 r)
    (on_more (Answer.Refused why) 10 18 f) (on_more (Answer.Refused why) 1 1 c) (on_more (Answer.Refused why) 3 3 d)
unread-more Refusal.Length t r f c d = refl
unread-more Refusal.NoCheck t r f c d = refl
unread-more Refusal.BadCheck t r f c d = refl
unread-more Refusal.Kind t r f c d = refl
unread-more Refusal.NoSegment t r f c d = refl
unread-more Refusal.Address t r f c d = refl
unread-more Refusal.Size t r f c d = refl

-- an answer whose number lies over the two
over-more : (a : Answer) (low high n : ℕ) → high < number_of a → on_more a low high n ≡ n
over-more a low high n h = rw (lt-leb (number_of a) high h) (go (leb low (number_of a)))
  where
    go : (b : Bool) → pick (both b false) (suc n) n ≡ n
    go true = refl
    go false = refl

counted-more : (a : Answer) (t r f c d : ℕ)
    → counted a (capped t r f c d) ≡ capped (on_more a 0 1 t) (on_more a 2 2 r) (on_more a 10 18 f) (on_more a 1 1 c)
    (on_more a 3 3 d)
counted-more (Answer.Stored heard repetition) t r f c d = rw (risen-min t) refl
counted-more (Answer.Complete heard repetition) t r f c d = rw (risen-min t, risen-min c) refl
counted-more (Answer.Repeat heard repetition) t r f c d = rw (risen-min r) refl
counted-more (Answer.Dropped number) t r f c d = rw (risen-min d) refl
counted-more (Answer.Refused why) t r f c d = rw (risen-min f) (unread-more why t r f c d)
counted-more (Answer.Conflict heard) t r f c d = rw (risen-min f) refl
counted-more (Answer.Full heard) t r f c d = rw (risen-min f) refl
counted-more (Answer.Denied reason) t r f c d =
    let a = Answer.Denied reason in
    let low = reason-from reason in
    rw (
      over-more a 0 1 t (omega arith),
      over-more a 2 2 r (omega arith),
      over-more a 10 18 f (omega arith),
      over-more a 1 1 c (omega arith),
      over-more a 3 3 d (omega arith),
    ) refl

-- ---- each call counts its answer, in any state

came-counted : (arrived : Arrival) (s : State) (t : Reply) → Came arrived s t
    → t.left.counts ≡ counted t.answer s.counts
came-counted arrived s t (alone n a e) = rw e refl
came-counted arrived s t (full n a f e) = rw e refl
came-counted arrived s t (first i n a f e) = rw e refl
came-counted arrived s t (more i n e) = rw e refl

handed-counted : (given : Handed) (s : State)
    → (take given s).left.counts ≡ counted (take given s).answer s.counts
handed-counted given s = go (sound s) refl (brought_by given) refl
  where
    go : (b : Bool) → sound s ≡ b → (brought : Brought) → brought_by given ≡ brought
        → (take given s).left.counts ≡ counted (take given s).answer s.counts
    go false d brought e = rw (handed-damaged given s d) refl
    go true d (refused why) e = rw (unread given s d why e) refl
    go true d (arrives arrived) e = came-counted arrived s (take given s) (came given s d arrived e)

drop-counted : (number : ℕ) (s : State)
    → (drop_number number s).left.counts ≡ counted (drop_number number s).answer s.counts
drop-counted number s = go (sound s) refl (find number s) refl
  where
    go : (b : Bool) → sound s ≡ b → (found : Option ℕ) → find number s ≡ found
        → (drop_number number s).left.counts ≡ counted (drop_number number s).answer s.counts
    go false d found e = rw (drop-damaged number s d) refl
    go true d None e = rw (none_dropped number s d e) refl
    go true d (Some i) e = rw (found-dropped number s d i (used-inside s d i (found-used s d number i e)) e) refl

tallied-more : (answer : Answer) (events : List Event)
    → counted answer (tallied events)
    ≡ capped (on_more answer 0 1 (answers_from 0 1 events)) (on_more answer 2 2 (answers_from 2 2 events))
    (on_more answer 10 18 (answers_from 10 18 events)) (on_more answer 1 1 (answers_from 1 1 events))
    (on_more answer 3 3 (answers_from 3 3 events))
tallied-more answer events = counted-more answer (answers_from 0 1 events) (answers_from 2 2 events)
    (answers_from 10 18 events) (answers_from 1 1 events) (answers_from 3 3 events)

leaves-tallied : (call : Call) (s : State) (events : List Event) → s.counts ≡ tallied events
    → (leaves defined call s).counts ≡ tallied (event defined call s ∷ events)
unfolding answers_from
leaves-tallied (hand given) s events e =
    handed-counted given s ∙ ap (counted (take given s).answer) e ∙ tallied-more (take given s).answer events
leaves-tallied (drop number) s events e =
    drop-counted number s ∙ ap (counted (drop_number number s).answer) e ∙ tallied-more
    (drop_number number s).answer events
leaves-tallied (ask question) s events e = e

-- THE COUNTS over any history
pub reached-counts : (start : Start) → Allowed start → (calls : List Call)
    → (reached defined start calls).counts ≡ tallied (told defined start calls)
unfolding answers_from
reached-counts start a [] = rw (start_is start a) refl
reached-counts start a (call ∷ calls) =
    leaves-tallied call (reached defined start calls) (told defined start calls) (reached-counts start a calls)
