-- Calls under other numbers change nothing that is held for a number: its slot's record and stage, its marks, its
-- shares of the stores and what is shown of it.
use Rattle.std.specs.Prelude.{◌≡◌, refl, ◌≢◌, Option, None, Some, Bool, true, false, ℕ}
use Rattle.std.proofs.Math.Path.{sym}
use Rattle.std.proofs.Common.{◌∙◌, subst}
use Rattle.answer.specs.declared.Answer.{Answer}
use Rattle.answer.specs.declared.Reason.TheVariants as Reason
use Rattle.answer.specs.declared.Part.{Part}
use Rattle.cut.specs.Lists.{Bytes}
use Rattle.cut.specs.laws.Decision.{false-true}
use Rattle.object.specs.declared.Slot.{Slot}
use Rattle.object.specs.Take.{Taken, take_into}
use Rattle.object.specs.Parts.{Lent}
use Rattle.slots.specs.Stores.{free_slot, fresh_slot}
use Rattle.slots.specs.Find.{is_free, holds, find_in}
use Rattle.slots.specs.laws.Shares.{Wide, lent_other}
use Rattle.collector.specs.State.{Reply, State, find}
use Rattle.collector.specs.Calls.{answer_for, drop_number, show, answering, sound}
use Rattle.collector.specs.Arrival.{Arrival, heard_as}
use Rattle.history.specs.laws.Slots.{held-is, free-holds, slot-there, same-found}
use Rattle.history.specs.Held.{Same, lent_of, limit_of, slot_of}
use Rattle.history.specs.laws.Call.{drop_leaves, replacing, Came, alone, full, first, more, unread, came, none_dropped, found-dropped, cleared, handed_leaves}
use Rattle.history.specs.laws.Ready.{used-inside, used-lent, found-used, found-holds, free-used, free-free}
use Rattle.history.specs.laws.Taken.{taken-number}
use Rattle.history.specs.laws.Shown.{unheld-shown, held-shown}
use Rattle.history.specs.laws.Sound.{Intact, lent-is-wide, more-lent, first-lent, cleared-lent, drop-intact, brought-bytes, handed-intact}
use Rattle.history.specs.State.{InUse}
use Rattle.history.specs.Handed.{Handed, HandedBytes, Brought, arrives, refused, brought_by}
use Rattle.history.specs.Taking.{take}

same-all : (number : ℕ) (s : State) (answer : Answer) → Same number s (answering answer s).left
same-all number s answer = record { limit = refl; found = refl; slot = λ i e. refl; lent = λ i e. refl }

-- one after the other
pub same_then : (number : ℕ) (s t u : State) → Same number s t → Same number t u → Same number s u
same_then number s t u a b = record {
  limit = b.limit ∙ a.limit;
  found = b.found ∙ a.found;
  slot = λ i e. b.slot i (a.found ∙ e) ∙ a.slot i e;
  lent = λ i e. b.lent i (a.found ∙ e) ∙ a.lent i e;
}

pub same_self : (number : ℕ) (s : State) → Same number s s
same_self number s = record { limit = refl; found = refl; slot = λ i e. refl; lent = λ i e. refl }

-- another slot is replaced
module _ (number : ℕ) (answer : Answer) (i : ℕ) (slot : Slot) (lent : Lent) (s : State) (good : sound s ≡ true)
    (u : InUse i s) (wide : Wide (limit_of s) lent) (before : holds number (slot_of i s) ≡ false)
    (after : holds number slot ≡ false) where
  apart : (j : ℕ) → find number s ≡ Some j → j ≢ i
  apart j e d = false-true before
      (subst (λ (k : ℕ). holds number (slot_of k s) ≡ true) d (found-holds s good number j e))

  replaced-same : Same number s (replacing answer i slot lent s).left
  unfolding find_in
  replaced-same = record {
    limit = refl;
    found = same-found i slot s.collector.slots (holds number) s.collector.count u.counted
        (after ∙ sym before);
    slot = λ j e. slot-there i slot s.collector.slots j (apart j e);
    lent = λ j e. lent_other (limit_of s) i lent s.stores wide (used-inside s good i u) j (λ d. apart j e (sym d));
  }

-- a slot of one number does not hold another
held-other : (number other : ℕ) (slot : Slot) → number ≢ other → slot.number ≡ other → holds number slot ≡ false
held-other number other slot d e = go (holds number slot) refl
  where
    go : (b : Bool) → holds number slot ≡ b → b ≡ false
    go false h = refl
    go true h = absurd (d (sym (held-is number slot h).1 ∙ e))

pub came_same : (number : ℕ) (arrived : Arrival) (s : State) (t : Reply) → number ≢ arrived.number
    → Bytes arrived.segment.bytes → Intact s → Came arrived s t → Same number s t.left
unfolding fresh_slot
came_same number arrived s t d y whole (alone n a e) = rw e (same-all number s (Answer.Conflict (heard_as arrived)))
came_same number arrived s t d y whole (full n a f e) = rw e (same-all number s (Answer.Full (heard_as arrived)))
came_same number arrived s t d y whole (first i n a f e) =
    let x : Taken = take_into arrived.part (limit_of s) arrived.segment (fresh_slot arrived.number)
    (lent_of i s) in
    rw e (replaced-same number (answer_for x.outcome arrived) i x.slot x.lent s whole.undamaged
    (free-used s whole.undamaged i f)
    (lent-is-wide (limit_of s) x.lent (first-lent s whole arrived.number i arrived.part arrived.segment y f))
    (free-holds number (slot_of i s) (free-free s whole.undamaged i f))
    (held-other number arrived.number x.slot d
    (taken-number arrived.part (limit_of s) arrived.segment (fresh_slot arrived.number) (lent_of i s))))
came_same number arrived s t d y whole (more i n e) =
    let x : Taken = take_into arrived.part (limit_of s) arrived.segment (slot_of i s) (lent_of i s) in
    let old : (slot_of i s).number ≡ arrived.number =
    (held-is arrived.number (slot_of i s) (found-holds s whole.undamaged arrived.number i n)).1 in
    rw e (replaced-same number (answer_for x.outcome arrived) i x.slot x.lent s whole.undamaged
    (found-used s whole.undamaged arrived.number i n)
    (lent-is-wide (limit_of s) x.lent (more-lent s whole arrived.number i arrived.part arrived.segment y n))
    (held-other number arrived.number (slot_of i s) d old)
    (held-other number arrived.number x.slot d
    (taken-number arrived.part (limit_of s) arrived.segment (slot_of i s) (lent_of i s) ∙ old)))

-- A GROUP that is not read, or that is read under another number
pub handed-others : (number : ℕ) (given : Handed) (s : State)
    → ((arrived : Arrival) → brought_by given ≡ arrives arrived → number ≢ arrived.number) → HandedBytes given
    → Intact s
    → Same number s (handed_leaves given s)
handed-others number given s d y whole = go (brought_by given) refl
  where
    go : (brought : Brought) → brought_by given ≡ brought → Same number s (take given s).left
    go (refused why) e = rw (unread given s whole.undamaged why e) (same-all number s (Answer.Refused why))
    go (arrives arrived) e = came_same number arrived s (take given s) (d arrived e)
        (brought-bytes given arrived y e) whole (came given s whole.undamaged arrived e)

-- A DROP of another number
pub drop-others : (number other : ℕ) (s : State) → number ≢ other → Intact s → Same number s (drop_leaves other s)
unfolding free_slot is_free
drop-others number other s d whole = go (find other s) refl
  where
    go : (found : Option ℕ) → find other s ≡ found → Same number s (drop_number other s).left
    go None e = rw (none_dropped other s whole.undamaged e) (same-all number s (Answer.Denied Reason.NotHeld))
    go (Some i) e =
        let u = found-used s whole.undamaged other i e in
        rw (found-dropped other s whole.undamaged i (used-inside s whole.undamaged i u) e)
        (replaced-same number (Answer.Dropped other) i free_slot (cleared (lent_of i s)) s whole.undamaged u
        (lent-is-wide (limit_of s) (cleared (lent_of i s))
        (cleared-lent (limit_of s) (lent_of i s) (used-lent s whole.undamaged i u whole.bytes)))
        (held-other number other (slot_of i s) d
        (held-is other (slot_of i s) (found-holds s whole.undamaged other i e)).1)
        (free-holds number free_slot refl))

-- so the same is shown of it
pub same-shown : (number : ℕ) (part : Part) (s t : State) → sound s ≡ true → sound t ≡ true → Same number s t
    → show number part t ≡ show number part s
same-shown number part s t good good' same = go (find number s) refl
  where
    go : (found : Option ℕ) → find number s ≡ found → show number part t ≡ show number part s
    go None e = unheld-shown number part t good' (same.found ∙ e) ∙ sym (unheld-shown number part s good e)
    go (Some i) e = held-shown number part t good' i (same.found ∙ e) ∙ rw (same.slot i e, same.lent i e)
        (sym (held-shown number part s good i e))

pub handed-others-shown : (number : ℕ) (part : Part) (given : Handed) (s : State)
    → ((arrived : Arrival) → brought_by given ≡ arrives arrived → number ≢ arrived.number) → HandedBytes given
    → Intact s
    → show number part (handed_leaves given s) ≡ show number part s
handed-others-shown number part given s d y whole =
    same-shown number part s (take given s).left whole.undamaged (handed-intact given s y whole).undamaged
    (handed-others number given s d y whole)

pub drop-others-shown : (number other : ℕ) (part : Part) (s : State) → number ≢ other → Intact s
    → show number part (drop_leaves other s) ≡ show number part s
drop-others-shown number other part s d whole =
    same-shown number part s (drop_number other s).left whole.undamaged (drop-intact other s whole).undamaged
    (drop-others number other s d whole)
