-- After any run each slot's transport number has 16 bits, as every one that is read off a group has, and its number of
-- bytes still to come has 32.
use Rattle.std.specs.Prelude.{◌≡◌, Result, Ok, Err, Option, None, Some, ℕ, zero, suc, ◌≤◌, ◌<◌, get_or, set, replicate}
use Rattle.std.proofs.Math.Path.{refl}
use Rattle.std.proofs.Common.{subst}
use mathlib.Core.List.{List, [], ◌∷◌}
use native.Mathlib.Omega.{arith}
use Rattle.wire.specs.declared.Carried.{Carried}
use Rattle.wire.specs.Reading.{reading_of}
use Rattle.wire.specs.laws.Theorems.{narrow}
use Rattle.answer.specs.declared.Part.{Part}
use Rattle.answer.specs.declared.Part.TheVariants.{Header, Body}
use Rattle.answer.specs.declared.Refusal.{Refusal}
use Rattle.cut.specs.Lists.{Each, Bytes}
use Rattle.cut.specs.Requirement.{limit_most, Segment}
use Rattle.cut.specs.Parts.{headers_with, bodies_with}
use Rattle.cut.specs.laws.Missing.{missing-narrow}
use Rattle.object.specs.declared.Slot.{Slot}
use Rattle.object.specs.declared.Outcome.{Outcome}
use Rattle.object.specs.declared.Outcome.TheVariants.{Stored, Complete, Repeat, Conflict}
use Rattle.object.specs.Take.{Taken, take_into}
use Rattle.object.specs.Parts.{Lent, parts_of}
use Rattle.object.specs.laws.Held.{Gathers}
use Rattle.object.specs.laws.Step.{Tells, outcome-tells}
use Rattle.slots.specs.Stores.{slots_most, free_slot, fresh_slot, slot_at}
use Rattle.collector.specs.State.{Start, Reply, State, find}
use Rattle.collector.specs.Calls.{drop_number}
use Rattle.collector.specs.Arrival.{Arrival, arrival_in}
use Rattle.history.specs.Handed.{Handed, HandedBytes, Brought, arrives, refused, brought_in, brought_by, group, segment, by_itself}
use Rattle.history.specs.Held.{lent_of, limit_of, slot_of, marked_under}
use Rattle.history.specs.laws.Call.{Came, alone, full, first, more, unread, came, none_dropped, found-dropped, defined}
use Rattle.history.specs.laws.Ready.{limit-low, used-inside, used-lent, found-used, free-used, free-marks}
use Rattle.history.specs.laws.Taken.{taken-number, fresh-gathers}
use Rattle.history.specs.laws.Sound.{Intact, brought-bytes}
use Rattle.history.specs.History.{Call, hand, drop, ask, CallBytes, leaves, Allowed, reached}
use Rattle.history.specs.laws.Reached.{start_is, reached-intact}
use Rattle.history.specs.laws.Answers.{marked-stands}
use Rattle.history.specs.Taking.{take}

-- a number of 16 bits
abbrev pub Sixteen : ℕ → Type 0
Sixteen number = number < 65536

pub byte_low : (l : List ℕ) (i : ℕ) → Bytes l → get_or l i 0 < 256
byte_low [] i y = omega arith
byte_low (x ∷ l) zero y = y.0
byte_low (x ∷ l) (suc i) y = byte_low l i y.1

brought-low : (given : Handed) (arrived : Arrival) → HandedBytes given → brought_by given ≡ arrives arrived
    → Sixteen arrived.number
brought-low (group bytes) arrived y e = go (reading_of bytes) refl e
  where
    go : (reading : Result Carried Refusal) → reading_of bytes ≡ reading → brought_in reading bytes ≡ arrives arrived
        → Sixteen arrived.number
    go (Err why) r f = let z : ◌≡◌ {A = ℕ} 0 1 = cc in absurd (omega arith)
    go (Ok carried) r f =
        let same : arrival_in bytes carried ≡ arrived = cc in
        subst (λ (a : Arrival). Sixteen a.number) same (narrow bytes carried (λ at. byte_low bytes at y) r).number
brought-low (segment heard last bytes) arrived y e =
    let same : by_itself heard last bytes ≡ arrived = cc in
    subst (λ (a : Arrival). Sixteen a.number) same y.1

-- one of 32
abbrev pub ThirtyTwo : ℕ → Type 0
ThirtyTwo number = number < 0x100000000

-- a slot's numbers
abbrev pub Narrow : Slot → Type 0
Narrow slot = Sixteen slot.number × ThirtyTwo slot.missing

-- one slot is replaced
set-low : (slots : List Slot) (i : ℕ) (slot : Slot) → Narrow slot → ((j : ℕ) → Narrow (slot_at j slots)) → (j : ℕ)
    → Narrow (slot_at j (set slots i slot))
unfolding slot_at
set-low [] i slot h low j = low j
set-low (x ∷ slots) zero slot h low zero = h
set-low (x ∷ slots) zero slot h low (suc j) = low (suc j)
set-low (x ∷ slots) (suc i) slot h low zero = low 0
set-low (x ∷ slots) (suc i) slot h low (suc j) = set-low slots i slot h (λ k. low (suc k)) j

-- all are free
free-low : (n j : ℕ) → Narrow (slot_at j (replicate n free_slot))
unfolding slot_at free_slot
free-low zero j = (omega arith, omega arith)
free-low (suc n) zero = (omega arith, omega arith)
free-low (suc n) (suc j) = free-low n j

-- whatever comes of a segment, the number of bytes still to come has 32 bits
told-low : (o : Outcome) (part : Part) (limit : ℕ) (piece : Segment) (slot : Slot) (lent : Lent) (hs bs : List Segment)
    (t : Taken) → limit ≤ limit_most → ThirtyTwo slot.missing → Tells o part limit piece slot lent hs bs t
    → ThirtyTwo t.slot.missing
told-low Stored part limit piece slot lent hs bs t z h w =
    rw w.0.holds.missing (missing-narrow limit (headers_with part piece hs) (bodies_with part piece bs) z
    w.0.holds.gathers.object)
told-low Complete part limit piece slot lent hs bs t z h w =
    rw w.0.holds.missing (missing-narrow limit (headers_with part piece hs) (bodies_with part piece bs) z
    w.0.holds.gathers.object)
told-low Repeat part limit piece slot lent hs bs t z h w = rw w.1 h
told-low Conflict part limit piece slot lent hs bs t z h w = rw w.1 h

module _ (s : State) (low : (j : ℕ) → Narrow (slot_of j s)) (whole : Intact s) where
  limit-most : limit_of s ≤ limit_most
  limit-most = limit-low s whole.undamaged

  -- of a segment that is offered to a slot
  offered-low : (part : Part) (piece : Segment) (slot : Slot) (lent : Lent) (hs bs : List Segment)
      → Bytes piece.bytes → Gathers (limit_of s) (parts_of slot lent) hs bs → Narrow slot
      → Narrow (take_into part (limit_of s) piece slot lent).slot
  offered-low part piece slot lent hs bs y g h = (
    rw (taken-number part (limit_of s) piece slot lent) h.0,
    told-low (take_into part (limit_of s) piece slot lent).outcome part (limit_of s) piece slot lent hs bs
        (take_into part (limit_of s) piece slot lent) limit-most h.1
        (outcome-tells part (limit_of s) piece slot lent hs bs limit-most y g
        (take_into part (limit_of s) piece slot lent).outcome refl),
  )

  came-low : (arrived : Arrival) (t : Reply) → Sixteen arrived.number → Bytes arrived.segment.bytes
      → Came arrived s t → (j : ℕ) → Narrow (slot_of j t.left)
  unfolding fresh_slot
  came-low arrived t h y (alone n a e) = rw e low
  came-low arrived t h y (full n a f e) = rw e low
  came-low arrived t h y (first i n a f e) =
      rw e (set-low s.collector.slots i _
      (offered-low arrived.part arrived.segment (fresh_slot arrived.number) (lent_of i s) [] [] y
      (fresh-gathers arrived.part (limit_of s) arrived.number arrived.segment (lent_of i s) limit-most y
      (used-lent s whole.undamaged i (free-used s whole.undamaged i f) whole.bytes)
      (free-marks s whole.undamaged i f)) (h, omega arith)) low)
  came-low arrived t h y (more i n e) =
      rw e (set-low s.collector.slots i _
      (offered-low arrived.part arrived.segment (slot_of i s) (lent_of i s)
      (marked_under Header arrived.number s) (marked_under Body arrived.number s) y
      ((marked-stands arrived.number s whole).held i n).gathers (low i)) low)

  leaves-low : (call : Call) → CallBytes call → (j : ℕ) → Narrow (slot_of j (leaves defined call s))
  unfolding free_slot
  leaves-low (hand given) y = go (brought_by given) refl
    where
      go : (brought : Brought) → brought_by given ≡ brought → (j : ℕ) → Narrow (slot_of j (take given s).left)
      go (refused why) e = rw (unread given s whole.undamaged why e) low
      go (arrives arrived) e = came-low arrived (take given s) (brought-low given arrived y e)
          (brought-bytes given arrived y e) (came given s whole.undamaged arrived e)
  leaves-low (drop number) y = go (find number s) refl
    where
      go : (found : Option ℕ) → find number s ≡ found → (j : ℕ) → Narrow (slot_of j (drop_number number s).left)
      go None e = rw (none_dropped number s whole.undamaged e) low
      go (Some i) e = rw (found-dropped number s whole.undamaged i
          (used-inside s whole.undamaged i (found-used s whole.undamaged number i e)) e)
          (set-low s.collector.slots i free_slot (omega arith, omega arith) low)
  leaves-low (ask question) y = low

pub reached-low : (start : Start) → Allowed start → (calls : List Call) → Each CallBytes calls → (j : ℕ)
    → Narrow (slot_of j (reached defined start calls))
reached-low start a [] y = rw (start_is start a) (free-low slots_most)
reached-low start a (call ∷ calls) y =
    leaves-low (reached defined start calls)
    (reached-low start a calls y.1) (reached-intact start a calls y.1) call
    y.0
