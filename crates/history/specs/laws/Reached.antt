-- Every state that is reached since an opening, by any calls: it is not damaged, and each slot holds just what was
-- stored under its number.
use Rattle.std.specs.Prelude.{◌≡◌, refl, Option, None, Some, List, [], ◌∷◌, ℕ, length, replicate}
use Rattle.std.proofs.Common.{◌∙◌, arith}
use Rattle.std.proofs.lemmas.List.{length-replicate, get_or-replicate}
use Rattle.octets.specs.Octets.{zeros}
use Rattle.cut.specs.Lists.{Each}
use Rattle.slots.specs.Stores.{slots_most, free_slot, slot_at}
use Rattle.slots.specs.Find.{is_free, holds, find_in}
use Rattle.counts.specs.Counted.{none_yet}
use Rattle.collector.specs.State.{Start, Reply, State, all_free, find}
use Rattle.collector.specs.Calls.{drop_number, open_with}
use Rattle.collector.specs.Arrival.{Arrival}
use Rattle.history.specs.Handed.{Brought, arrives, refused, brought_by}
use Rattle.history.specs.laws.Slots.{free-holds, none_found, limits-within}
use Rattle.history.specs.Held.{Same, limit_of}
use Rattle.history.specs.laws.Call.{Came, alone, full, first, more, unread, came, none_dropped, found-dropped, opened-all, defined}
use Rattle.history.specs.laws.Ready.{used-inside, found-used}
use Rattle.history.specs.laws.Sound.{Intact, drop-intact, opening-intact, handed-intact}
use Rattle.history.specs.laws.Others.{same_then, same_self, drop-others, handed-others}
use Rattle.history.specs.History.{Call, hand, drop, ask, CallBytes, Elsewhere, Event, leaves, event, after, Allowed, reached, told, under}
use Rattle.history.specs.laws.Stands.{Stands, drop-stands, handed-stands}
use Rattle.history.specs.Taking.{take}

-- ---- the opening

start-intact : (start : Start) → Allowed start → Intact (open_with start).left
start-intact start a = opening-intact start
    (limits-within start.limit start.count (length start.stores.header) (length start.stores.body)
    (length start.stores.marks) a.limits) a.bytes

pub start_is : (start : Start) → Allowed start
    → (open_with start).left ≡ record {
      collector = all_free start.limit start.count;
      counts = none_yet;
      stores =
          record {
            header = start.stores.header;
            body = start.stores.body;
            marks =
                zeros (length start.stores.marks);
          };
    }
start_is start a = opened-all start
    (limits-within start.limit start.count (length start.stores.header) (length start.stores.body)
    (length start.stores.marks) a.limits)

start-free : (count number : ℕ) → find_in number count (replicate slots_most free_slot) ≡ None
unfolding find_in slot_at free_slot is_free
start-free count number = none_found (holds number) count (replicate slots_most free_slot)
    (λ i u. rw (get_or-replicate slots_most i free_slot free_slot
    (omega (arith, u.there, length-replicate slots_most free_slot))) (free-holds number free_slot refl))

start-stands : (start : Start) → Allowed start → Stands (open_with start).left []
unfolding under
start-stands start a number = rw (start_is start a)
    (record {
      held = λ i e. let z : ◌≡◌ {A = ℕ} 0 1 = cc (start-free start.count number) in absurd (omega arith);
      rest = λ e. (refl, refl);
    })

-- ---- the limit and the number of slots stay

pub record SameBounds (s t : State) : Type 0 where
  pub limit : limit_of t ≡ limit_of s
  pub count : t.collector.count ≡ s.collector.count

came-bounds : (arrived : Arrival) (s : State) (t : Reply) → Came arrived s t → SameBounds s t.left
came-bounds arrived s t (alone n a e) = rw e (record { limit = refl; count = refl })
came-bounds arrived s t (full n a f e) = rw e (record { limit = refl; count = refl })
came-bounds arrived s t (first i n a f e) = rw e (record { limit = refl; count = refl })
came-bounds arrived s t (more i n e) = rw e (record { limit = refl; count = refl })

leaves-bounds : (call : Call) (s : State) → Intact s → SameBounds s (leaves defined call s)
leaves-bounds (hand given) s whole = go (brought_by given) refl
  where
    go : (brought : Brought) → brought_by given ≡ brought → SameBounds s (take given s).left
    go (refused why) e = rw (unread given s whole.undamaged why e) (record { limit = refl; count = refl })
    go (arrives arrived) e = came-bounds arrived s (take given s)
        (came given s whole.undamaged arrived e)
leaves-bounds (drop number) s whole = go (find number s) refl
  where
    go : (found : Option ℕ) → find number s ≡ found → SameBounds s (drop_number number s).left
    go None e = rw (none_dropped number s whole.undamaged e) (record { limit = refl; count = refl })
    go (Some i) e = rw (found-dropped number s whole.undamaged i
        (used-inside s whole.undamaged i (found-used s whole.undamaged number i e)) e)
        (record { limit = refl; count = refl })
leaves-bounds (ask question) s whole = record { limit = refl; count = refl }

-- ---- one call

pub leaves-intact : (call : Call) (s : State) → CallBytes call → Intact s → Intact (leaves defined call s)
leaves-intact (hand given) s y whole = handed-intact given s y whole
leaves-intact (drop number) s y whole = drop-intact number s whole
leaves-intact (ask question) s y whole = whole

pub leaves-stands : (call : Call) (s : State) (events : List Event) → CallBytes call → Intact s → Stands s events
    → Stands (leaves defined call s) (event defined call s ∷ events)
unfolding under
leaves-stands (hand given) s events y whole w = handed-stands given s events y whole w
leaves-stands (drop number) s events y whole w = drop-stands number s events whole w
leaves-stands (ask question) s events y whole w = w

-- ---- any calls

-- NO STATE SO REACHED IS DAMAGED
pub reached-intact : (start : Start) → Allowed start → (calls : List Call) → Each CallBytes calls
    → Intact (reached defined start calls)
reached-intact start a [] y = start-intact start a
reached-intact start a (call ∷ calls) y =
    leaves-intact call (reached defined start calls) y.0 (reached-intact start a calls y.1)

-- EACH SLOT HOLDS JUST WHAT WAS STORED UNDER ITS NUMBER
pub reached-stands : (start : Start) → Allowed start → (calls : List Call) → Each CallBytes calls
    → Stands (reached defined start calls) (told defined start calls)
reached-stands start a [] y = start-stands start a
reached-stands start a (call ∷ calls) y =
    leaves-stands call (reached defined start calls) (told defined start calls) y.0
    (reached-intact start a calls y.1) (reached-stands start a calls y.1)

pub reached-limit : (start : Start) → Allowed start → (calls : List Call) → Each CallBytes calls
    → limit_of (reached defined start calls) ≡ start.limit
reached-limit start a [] y = rw (start_is start a) refl
reached-limit start a (call ∷ calls) y =
    (leaves-bounds call (reached defined start calls)
    (reached-intact start a calls y.1)).limit ∙ reached-limit start a calls y.1

pub reached-count : (start : Start) → Allowed start → (calls : List Call) → Each CallBytes calls
    → (reached defined start calls).collector.count ≡ start.count
reached-count start a [] y = rw (start_is start a) refl
reached-count start a (call ∷ calls) y =
    (leaves-bounds call (reached defined start calls)
    (reached-intact start a calls y.1)).count ∙ reached-count start a calls y.1

-- CALLS UNDER OTHER NUMBERS change nothing that is held for a number
leaves-others : (number : ℕ) (call : Call) (s : State) → CallBytes call → Elsewhere number call → Intact s
    → Same number s (leaves defined call s)
leaves-others number (hand given) s y d whole = handed-others number given s d y whole
leaves-others number (drop other) s y d whole = drop-others number other s d whole
leaves-others number (ask question) s y d whole = same_self number s

pub others_same : (number : ℕ) (calls : List Call) (s : State) → Each CallBytes calls → Each (Elsewhere number) calls
    → Intact s → Same number s (after defined calls s) × Intact (after defined calls s)
others_same number [] s y d whole = (same_self number s, whole)
others_same number (call ∷ calls) s y d whole =
    let before = others_same number calls s y.1 d.1 whole in (
      same_then number s (after defined calls s) (leaves defined call (after defined calls s)) before.0
          (leaves-others number call (after defined calls s) y.0 d.0 before.1),
      leaves-intact call (after defined calls s) y.0 before.1,
    )
