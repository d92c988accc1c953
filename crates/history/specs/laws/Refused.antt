-- A refusal leaves every store byte, every mark and every slot's record as they were, in any state, and no count but
-- the refused one rises; what an opening and a drop leave, in any state.
use Rattle.std.proofs.Math.Path.{◌≡◌, refl}
use Rattle.std.proofs.Common.{ap, ◌∙◌, arith, Option, None, Some}
use Rattle.std.specs.Prelude.{Bool, ◌↔◌, ℕ, zero, suc, ◌≤◌, length, Ok, Err}
use Rattle.std.proofs.Math.Bool.{true, false}
use Rattle.std.proofs.lemmas.List.{set-get_or}
use Rattle.octets.specs.Octets.{zeros}
use Rattle.answer.specs.declared.Answer.{Answer}
use Rattle.answer.specs.declared.Reason.TheVariants as Reason
use Rattle.answer.specs.declared.Heard.{Heard}
use Rattle.answer.specs.declared.Repetition.{Repetition}
use Rattle.answer.specs.declared.Part.{Part}
use Rattle.answer.specs.Table.{number_of}
use Rattle.answer.specs.laws.Table.{refusal-to, reason-from}
use Rattle.counts.specs.declared.Counts.{Counts}
use Rattle.counts.specs.Counted.{none_yet, one_repeated, one_refused, counted}
use Rattle.cut.specs.Lists.{pick}
use Rattle.cut.specs.Requirement.{limit_least, Segment}
use Rattle.cut.specs.laws.Decision.{false-true}
use Rattle.object.specs.declared.Slot.{Slot}
use Rattle.object.specs.declared.Stage.{Stage}
use Rattle.object.specs.declared.Outcome.{Outcome}
use Rattle.object.specs.declared.Outcome.TheVariants.{Stored, Complete, Repeat, Conflict}
use Rattle.object.specs.declared.Decided.{Decided}
use Rattle.object.specs.Take.{decided, parts_with, outcome_by, Taken, unchanged, taken_by, take_into}
use Rattle.object.specs.laws.Decided.{if_new}
use Rattle.object.specs.Parts.{Lent, parts_of}
use Rattle.object.specs.Stage.{stage_of}
use Rattle.slots.specs.Stores.{free_slot, fresh_slot, slot_at}
use Rattle.slots.specs.Alone.{fits_alone}
use Rattle.slots.specs.laws.Fresh.{fresh-taken}
use Rattle.slots.specs.laws.StateTests.{limits-hold}
use Rattle.collector.specs.State.{Start, Reply, State, all_free, find}
use Rattle.collector.specs.Calls.{answer_for, drop_found, drop_number, in_limits, open_with, answering, sound}
use Rattle.collector.specs.Arrival.{Arrival}
use Rattle.history.specs.laws.Slots.{limits-within}
use Rattle.history.specs.Held.{lent_of, limit_of, slot_of}
use Rattle.history.specs.laws.Call.{drop_answer, drop_leaves, replacing, offering, Came, alone, full, first, more, unread, came, drop-damaged, none_dropped, found-dropped, lent_same, opened-all, opened-none, handed_answer, handed_leaves, handed-damaged}
use Rattle.history.specs.Handed.{Handed, Brought, arrives, refused, brought_by}
use Rattle.history.specs.State.{Used, InOrder}
use Rattle.history.specs.History.{Within}
use Rattle.history.specs.laws.Ready.{used-inside, found-used, free-marks}
use Rattle.history.specs.Taking.{take}

-- ---- the offer of a segment

-- what is neither stored nor completes the object changes nothing
abbrev pub Leaving : Outcome → Type 0
Leaving Stored = ⊥
Leaving Complete = ⊥
Leaving Repeat = Unit {0}
Leaving Conflict = Unit {0}

stage-stores : (count : ℕ) (stage : Stage) → Leaving (outcome_by count stage) → ⊥
stage-stores count Stage.Free l = l
stage-stores count Stage.Gathering l = l
stage-stores zero (Stage.Finished header body) l = l
stage-stores (suc count) (Stage.Finished header body) l = l

offer-leaves : (part : Part) (limit : ℕ) (segment : Segment) (slot : Slot) (lent : Lent)
    → Leaving (take_into part limit segment slot lent).outcome
    → take_into part limit segment slot lent ≡ unchanged (take_into part limit segment slot lent).outcome slot lent
unfolding take_into
offer-leaves part limit segment slot lent = go (decided part limit segment (parts_of slot lent))
  where
    go : (d : Decided) → Leaving (taken_by d part limit segment slot lent).outcome
        → taken_by d part limit segment slot lent ≡ unchanged (taken_by d part limit segment slot lent).outcome slot lent
    go Decided.Repeat l = refl
    go Decided.Conflict l = refl
    go (Decided.Fits core) l =
        absurd (stage-stores (length segment.bytes) (stage_of (parts_with part limit segment (parts_of slot lent))) l)

-- the first segment of a number, where it fits alone, is stored
first-stores : (part : Part) (limit number : ℕ) (segment : Segment) (lent : Lent) → fits_alone part limit segment ≡ true
    → take_into part limit segment (fresh_slot number) lent
    ≡ if_new (fits_alone part limit segment) part limit segment (fresh_slot number) lent
    → Leaving (take_into part limit segment (fresh_slot number) lent).outcome → ⊥
first-stores part limit number segment lent a e l =
    stage-stores (length segment.bytes) (stage_of (parts_with part limit segment (parts_of (fresh_slot number) lent)))
    (rw (e, a) at l)

-- ---- a call that is refused, or answered REPEAT

-- the answer leaves the slots and the stores as they were
abbrev pub Kept : Answer → Type 0
Kept (Answer.Stored heard repetition) = ⊥
Kept (Answer.Complete heard repetition) = ⊥
Kept (Answer.Dropped number) = ⊥
Kept (Answer.Repeat heard repetition) = Unit {0}
Kept (Answer.Refused why) = Unit {0}
Kept (Answer.Conflict heard) = Unit {0}
Kept (Answer.Full heard) = Unit {0}
Kept (Answer.Denied reason) = Unit {0}

kept-leaving : (o : Outcome) (arrived : Arrival) → Kept (answer_for o arrived) → Leaving o
kept-leaving Stored arrived k = k
kept-leaving Complete arrived k = k
kept-leaving Repeat arrived k = tt
kept-leaving Conflict arrived k = tt

-- a slot that is replaced by itself and its own shares
same-replaced : (answer : Answer) (i : ℕ) (s : State) → sound s ≡ true
    → Used s.collector.count i s.collector.slots
    → replacing answer i (slot_of i s) (lent_of i s) s ≡ answering answer s
unfolding slot_at
same-replaced answer i s good u =
    rw (set-get_or s.collector.slots i free_slot, lent_same (limit_of s) i s.stores (used-inside s good i u)) refl

came-kept : (arrived : Arrival) (s : State) (t : Reply) → sound s ≡ true → Came arrived s t → Kept t.answer
    → t ≡ answering t.answer s
came-kept arrived s t good (alone n a e) k = rw e refl
came-kept arrived s t good (full n a f e) k = rw e refl
came-kept arrived s t good (first i n a f e) k =
    absurd (first-stores arrived.part (limit_of s) arrived.number arrived.segment (lent_of i s) a
    (fresh-taken arrived.part (limit_of s) arrived.number arrived.segment (lent_of i s) (free-marks s good i f))
    (kept-leaving (take_into arrived.part (limit_of s) arrived.segment (fresh_slot arrived.number)
    (lent_of i s)).outcome arrived (rw e at k)))
came-kept arrived s t good (more i n e) k =
    let x : Taken = take_into arrived.part (limit_of s) arrived.segment (slot_of i s) (lent_of i s) in
    let same : x ≡ unchanged x.outcome (slot_of i s) (lent_of i s) =
    offer-leaves arrived.part (limit_of s) arrived.segment (slot_of i s) (lent_of i s)
    (kept-leaving x.outcome arrived (rw e at k)) in
    rw e (ap (offering arrived i s) same ∙ same-replaced (answer_for x.outcome arrived) i s good
    (found-used s good arrived.number i n))

-- A GROUP that is refused, or that is a repeat, changes nothing but a count
pub handed-kept : (given : Handed) (s : State) → Kept (take given s).answer
    → take given s ≡ answering (take given s).answer s
handed-kept given s k = go (sound s) refl (brought_by given) refl
  where
    go : (b : Bool) → sound s ≡ b → (brought : Brought) → brought_by given ≡ brought
        → take given s ≡ answering (take given s).answer s
    go false d brought e = rw (handed-damaged given s d) refl
    go true d (refused why) e = rw (unread given s d why e) refl
    go true d (arrives arrived) e = came-kept arrived s (take given s) d
        (came given s d arrived e) k

-- A DROP that is refused changes nothing at all
pub drop-kept : (number : ℕ) (s : State) → Kept (drop_number number s).answer → (drop_number number s).left ≡ s
drop-kept number s k = go (sound s) refl (find number s) refl
  where
    go : (b : Bool) → sound s ≡ b → (found : Option ℕ) → find number s ≡ found → (drop_number number s).left ≡ s
    go false d found e = rw (drop-damaged number s d) refl
    go true d None e = rw (none_dropped number s d e) refl
    go true d (Some i) e =
        absurd (rw (found-dropped number s d i (used-inside s d i (found-used s d number i e)) e) at k)

-- ---- demand 1, by the numbers of the answers

refusal-kept : (a : Answer) → 10 ≤ number_of a → Kept a
refusal-kept (Answer.Stored heard repetition) h = absurd (omega arith)
refusal-kept (Answer.Complete heard repetition) h = absurd (omega arith)
refusal-kept (Answer.Repeat heard repetition) h = tt
refusal-kept (Answer.Dropped number) h = absurd (omega arith)
refusal-kept (Answer.Refused why) h = tt
refusal-kept (Answer.Conflict heard) h = tt
refusal-kept (Answer.Full heard) h = tt
refusal-kept (Answer.Denied reason) h = tt

counted-refused : (a : Answer) (c : Counts) → 10 ≤ number_of a → number_of a ≤ 18 → counted a c ≡ one_refused c
counted-refused (Answer.Stored heard repetition) c h g = absurd (omega arith)
counted-refused (Answer.Complete heard repetition) c h g = absurd (omega arith)
counted-refused (Answer.Repeat heard repetition) c h g = absurd (omega arith)
counted-refused (Answer.Dropped number) c h g = absurd (omega arith)
counted-refused (Answer.Refused why) c h g = refl
counted-refused (Answer.Conflict heard) c h g = refl
counted-refused (Answer.Full heard) c h g = refl
counted-refused (Answer.Denied reason) c h g = absurd (omega (arith, reason-from reason))

counted-not : (a : Answer) (c : Counts) → 19 ≤ number_of a → counted a c ≡ c
counted-not (Answer.Stored heard repetition) c h = absurd (omega arith)
counted-not (Answer.Complete heard repetition) c h = absurd (omega arith)
counted-not (Answer.Repeat heard repetition) c h = absurd (omega arith)
counted-not (Answer.Dropped number) c h = absurd (omega arith)
counted-not (Answer.Refused why) c h = absurd (omega (arith, refusal-to why))
counted-not (Answer.Conflict heard) c h = absurd (omega arith)
counted-not (Answer.Full heard) c h = absurd (omega arith)
counted-not (Answer.Denied reason) c h = refl

-- A REFUSED GROUP, 10 to 18: one more is refused, and every other count, every store byte, every mark and every slot's
-- record stay
pub refused-handed : (given : Handed) (s : State) → 10 ≤ number_of (handed_answer given s)
    → number_of (handed_answer given s) ≤ 18
    → handed_leaves given s ≡ record { collector = s.collector; counts = one_refused s.counts; stores = s.stores }
refused-handed given s h g =
    let a : Answer = (take given s).answer in
    ap (λ (t : Reply). t.left) (handed-kept given s (refusal-kept a h))
    ∙ ap (λ (c : Counts). record { collector = s.collector; counts = c; stores = s.stores })
    (counted-refused a s.counts h g)

-- 19 to 26 change nothing, the counts neither
pub unanswered-handed : (given : Handed) (s : State) → 19 ≤ number_of (handed_answer given s) → handed_leaves given s ≡ s
unanswered-handed given s h =
    let a : Answer = (take given s).answer in
    ap (λ (t : Reply). t.left) (handed-kept given s (refusal-kept a (omega arith)))
    ∙ ap (λ (c : Counts). record { collector = s.collector; counts = c; stores = s.stores })
    (counted-not a s.counts h)

-- A REFUSED DROP changes nothing
pub refused-drop : (number : ℕ) (s : State) → 10 ≤ number_of (drop_answer number s) → drop_leaves number s ≡ s
refused-drop number s h = drop-kept number s (refusal-kept (drop_number number s).answer h)

-- A REPEAT: one more is repeated, and nothing else changes
pub repeated-handed : (given : Handed) (s : State) (heard : Heard) (repetition : Repetition)
    → handed_answer given s ≡ Answer.Repeat heard repetition
    → handed_leaves given s ≡ record { collector = s.collector; counts = one_repeated s.counts; stores = s.stores }
repeated-handed given s heard repetition e =
    ap (λ (t : Reply). t.left) (handed-kept given s (rw e tt))
    ∙ ap (λ (a : Answer). record { collector = s.collector; counts = counted a s.counts; stores = s.stores }) e

-- ---- a drop

-- it touches no store byte
pub drop-stores : (number : ℕ) (s : State) → ((drop_leaves number s).stores.header ≡ s.stores.header)
    × ((drop_leaves number s).stores.body ≡ s.stores.body)
unfolding drop_number
drop-stores number s = go (sound s) (find number s)
  where
    go : (b : Bool) (found : Option ℕ)
        → ((pick b (drop_found found number s) (answering (Answer.Denied Reason.State) s)).left.stores.header
        ≡ s.stores.header) × ((pick b (drop_found found number s)
        (answering (Answer.Denied Reason.State) s)).left.stores.body ≡ s.stores.body)
    go false found = (refl, refl)
    go true None = (refl, refl)
    go true (Some i) = (refl, refl)

-- ---- an opening

module _ (start : Start) where
  -- the test of the limits
  abbrev kept-limits : Bool
  kept-limits = in_limits start

  within-kept : Within start → kept-limits ≡ true
  within-kept w = limits-within start.limit start.count (length start.stores.header)
      (length start.stores.body) (length start.stores.marks) w

  kept-within : kept-limits ≡ true → Within start
  kept-within e = limits-hold start.limit start.count (length start.stores.header)
      (length start.stores.body) (length start.stores.marks) e

  not-kept : (b : Bool) → kept-limits ≡ b → ¬ (Within start) → kept-limits ≡ false
  not-kept false e n = e
  not-kept true e n = absurd (n (kept-within e))

  -- LIMITS exactly when it is outside them
  pub limits-exactly : (((open_with start).opening ≡ Err Reason.Limits) ↔ (¬ (Within start)))
      × (((open_with start).opening ≡ Ok tt) ↔ Within start)
  unfolding open_with
  limits-exactly = go kept-limits refl
    where
      go : (b : Bool) → kept-limits ≡ b
          → (((open_with start).opening ≡ Err Reason.Limits) ↔ (¬ (Within start)))
          × (((open_with start).opening ≡ Ok tt) ↔ Within start)
      go true e = rw e (
        (
          (λ d. let z : ◌≡◌ {A = ℕ} 0 1 = cc in absurd (omega arith)),
          (λ n. absurd (n (kept-within e))),
        ),
        ((λ d. kept-within e), (λ w. refl)),
      )
      go false e = rw e (
        ((λ d w. false-true e (within-kept w)), (λ n. refl)),
        ((λ d. let z : ◌≡◌ {A = ℕ} 0 1 = cc in absurd (omega arith)), (λ w. absurd (false-true e (within-kept w)))),
      )

  pub opened-leaves : Within start
      → (open_with start).left ≡ record {
        collector = all_free start.limit start.count;
        counts = none_yet;
        stores =
            record {
              header = start.stores.header;
              body = start.stores.body;
              marks =
                  zeros (length start.stores.marks);
            };
      }
  opened-leaves w = opened-all start (within-kept w)

  -- a refused one leaves the counts and all that is lent, and hands back a state that every call answers with STATE
  pub unopened-leaves : ¬ (Within start) → ((open_with start).left.counts ≡ start.counts)
      × ((open_with start).left.stores ≡ start.stores) × (¬ (InOrder (open_with start).left))
  unopened-leaves n = rw (opened-none start (not-kept kept-limits refl n))
      (refl, refl, (λ w. let h : limit_least ≤ 0 = w.limits.least in absurd (omega arith)))
