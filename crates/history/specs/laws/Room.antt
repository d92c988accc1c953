-- Which numbers hold a slot, and when none is free: told by what was stored.
use Rattle.std.specs.Prelude.{◌≡◌, ◌↔◌, Option, None, Some, false, List, [], ◌∷◌, length, take, drop, get_or}
use Rattle.std.proofs.Math.Path.{refl}
use Rattle.std.proofs.Common.{◌∙◌, arith, length-set}
use Rattle.std.proofs.Math.Bool.{true}
use Prim.Native.Nat.{ℕ, ◌<◌}
use Rattle.std.proofs.lemmas.List.{length-replicate}
use Rattle.octets.specs.Octets.{sum_of}
use Rattle.octets.specs.laws.Marks.{sum-split, sum-none}
use Rattle.cut.specs.Lists.{Each}
use Rattle.cut.specs.Requirement.{header_numbers, Segment}
use Rattle.cut.specs.laws.Marks.{Marked}
use Rattle.object.specs.laws.Inside.{sound-slot}
use Rattle.object.specs.laws.Held.{Holds}
use Rattle.object.specs.Parts.{parts_of}
use Rattle.slots.specs.Stores.{slots_most, free_slot}
use Rattle.slots.specs.Find.{is_free, holds, find_in, free_in}
use Rattle.collector.specs.State.{Start, Reply, State, find, free}
use Rattle.collector.specs.Calls.{drop_number, sound}
use Rattle.collector.specs.Arrival.{Arrival}
use Rattle.history.specs.Handed.{Brought, arrives, refused, brought_by}
use Rattle.history.specs.laws.Slots.{held-is, is_held, found_none, none_found, only-found}
use Rattle.history.specs.Held.{lent_of, limit_of, slot_of}
use Rattle.history.specs.laws.Call.{Came, alone, full, first, more, unread, came, none_dropped, found-dropped, defined}
use Rattle.history.specs.laws.Ready.{slots-right, used-inside, found-used, found-holds, found-sound}
use Rattle.history.specs.laws.Sound.{Intact}
use Rattle.history.specs.History.{Call, hand, ask, CallBytes, leaves, Allowed, reached}
use Rattle.history.specs.laws.Stands.{StandsFor}
use Rattle.history.specs.laws.Reached.{start_is, reached-intact, reached-count}
use Rattle.history.specs.State.{InUse}
use Rattle.history.specs.Taking.{take as hand_in}

-- ---- a number holds a slot exactly when something is stored under it

none-marked : (marks : List ℕ) → Marked marks [] → sum_of marks ≡ 0
none-marked marks m = (sum-none marks).1 (λ n. go (get_or marks n 0) (m.marked n).0)
  where
    go : (mark : ℕ) → (0 < mark → ⊥) → mark ≡ 0
    go mark none = none_above mark (λ h. none h)
      where
        none_above : (mark : ℕ) → ¬ (0 < mark) → mark ≡ 0
        none_above mark d = omega arith

nothing-marked : (s : State) (i : ℕ) (hs bs : List Segment) → Holds (limit_of s) (slot_of i s) (lent_of i s) hs bs
    → hs ≡ [] → bs ≡ [] → sum_of (lent_of i s).marks ≡ 0
unfolding parts_of
nothing-marked s i hs bs h e f =
    let header : sum_of (take header_numbers (lent_of i s).marks) ≡ 0 =
    none-marked (take header_numbers (lent_of i s).marks) (rw e at h.gathers.header.marked) in
    let body : sum_of (drop header_numbers (lent_of i s).marks) ≡ 0 =
    none-marked (drop header_numbers (lent_of i s).marks) (rw f at h.gathers.body.marked) in
    omega (arith, sum-split (lent_of i s).marks header_numbers)

pub unheld-exactly : (number : ℕ) (s : State) (hs bs : List Segment) → sound s ≡ true → StandsFor number s hs bs
    → (find number s ≡ None) ↔ ((hs ≡ []) × (bs ≡ []))
unheld-exactly number s hs bs good w = (w.rest, (λ none. go none (find number s) refl))
  where
    go : (hs ≡ []) × (bs ≡ []) → (found : Option ℕ) → find number s ≡ found → find number s ≡ None
    go none None e = e
    go none (Some i) e =
        absurd (omega (
          arith,
          nothing-marked s i hs bs (w.held i e) none.0 none.1,
          (sound-slot (limit_of s) (slot_of i s) (lent_of i s) (found-sound s good number i e)).1,
        ))

-- ---- none is free exactly when every slot holds a number

slots-of : State → ℕ
slots-of s = length s.collector.slots

came-slots : (arrived : Arrival) (s : State) (t : Reply) → Came arrived s t → slots-of t.left ≡ slots-of s
unfolding slots-of
came-slots arrived s t (alone n a e) = rw e refl
came-slots arrived s t (full n a f e) = rw e refl
came-slots arrived s t (first i n a f e) = rw e (simp length-set)
came-slots arrived s t (more i n e) = rw e (simp length-set)

leaves-slots : (call : Call) (s : State) → Intact s → slots-of (leaves defined call s) ≡ slots-of s
unfolding slots-of
leaves-slots (hand given) s whole = go (brought_by given) refl
  where
    go : (brought : Brought) → brought_by given ≡ brought → slots-of (hand_in given s).left ≡ slots-of s
    go (refused why) e = rw (unread given s whole.undamaged why e) refl
    go (arrives arrived) e = came-slots arrived s (hand_in given s)
        (came given s whole.undamaged arrived e)
leaves-slots (Call.drop number) s whole = go (find number s) refl
  where
    go : (found : Option ℕ) → find number s ≡ found → slots-of (drop_number number s).left ≡ slots-of s
    go None e = rw (none_dropped number s whole.undamaged e) refl
    go (Some i) e = rw (found-dropped number s whole.undamaged i
        (used-inside s whole.undamaged i (found-used s whole.undamaged number i e)) e)
        (length-set s.collector.slots i free_slot)
leaves-slots (ask question) s whole = refl

pub reached-slots : (start : Start) → Allowed start → (calls : List Call) → Each CallBytes calls
    → length (reached defined start calls).collector.slots ≡ slots_most
unfolding slots-of
reached-slots start a [] y = rw (start_is start a) (length-replicate slots_most free_slot)
reached-slots start a (call ∷ calls) y =
    leaves-slots call (reached defined start calls) (reached-intact start a calls y.1) ∙ reached-slots start a calls
    y.1

module _ (start : Start) (allowed : Allowed start) (calls : List Call) (y : Each CallBytes calls) where
  now : State
  now = reached defined start calls

  good : sound now ≡ true
  unfolding now
  good = (reached-intact start allowed calls y).undamaged

  in_use : (i : ℕ) → i < start.count → InUse i now
  unfolding now slots-of
  in_use i h = record {
    counted = omega (arith, reached-count start allowed calls y);
    there = omega (arith, reached-slots start allowed calls y, allowed.limits.slots);
  }

  use-in : (i : ℕ) → InUse i now → i < start.count
  unfolding now
  use-in i u = omega (arith, reached-count start allowed calls y, u.counted)

  held_number : (i : ℕ) → InUse i now → is_free (slot_of i now) ≡ false → find (slot_of i now).number now ≡ Some i
  unfolding find_in
  held_number i u f =
      let n : ℕ = (slot_of i now).number in
      let own : holds n (slot_of i now) ≡ true = is_held n (slot_of i now) f refl in
      only-found (holds n) now.collector.count now.collector.slots i u own
      (λ j v h. (slots-right now good).once n j i v u h own)

  pub none-free-exactly : (free (reached defined start calls) ≡ None)
      ↔ ((i : ℕ) → i < start.count → (number : ℕ) × (find number (reached defined start calls) ≡ Some i))
  unfolding now free_in
  none-free-exactly = (
    (λ e i h. let u = in_use i h in (
      (slot_of i now).number,
      held_number i u
          (found_none is_free now.collector.count now.collector.slots e i u),
    )),
    (λ f. none_found is_free now.collector.count now.collector.slots
        (λ i u. let r = f i (use-in i u) in (held-is r.0 (slot_of i now) (found-holds now good r.0 i r.1)).0)),
  )
