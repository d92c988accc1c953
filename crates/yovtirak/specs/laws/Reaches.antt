-- THE PROMISES REACH THE LIBRARY. After any calls of the exported functions since a `yovtirak_open` that returned 0
-- the words are those of the collector that the same calls reach, so that every promise of crate `history` holds of
-- what a head sees.
use Rattle.std.specs.Prelude.{◌≡◌, Option, None, Some, ℕ, suc, ◌≤◌, eqb, length}
use Rattle.std.proofs.Math.Path.{refl, ap}
use Rattle.std.proofs.Common.{sym, ◌∙◌, arith}
use Rattle.std.proofs.Math.Bool.{Bool, true, false}
use mathlib.Core.List.{List, [], ◌∷◌}
use Rattle.answer.specs.declared.Answer.{Answer}
use Rattle.cut.specs.Requirement.{header_most}
use Rattle.cut.specs.Lists.{both, pick, Each}
use Rattle.object.specs.declared.Slot.{Slot}
use Rattle.object.specs.declared.Stage.{Stage}
use Rattle.slots.specs.Stores.{Stores, slot_at}
use Rattle.slots.specs.Find.{find_in}
use Rattle.slots.specs.Show.{shown_of}
use Rattle.slots.specs.State.{within_limits}
use Rattle.slots.specs.laws.StateTests.{limits-hold}
use Rattle.slots.specs.laws.Finished.{start-there}
use Rattle.collector.specs.State.{State, Reply}
use Rattle.collector.specs.Calls.{take_group, drop_number, open_with, locate, show, sound}
use Rattle.history.specs.laws.Ready.{used-inside, found-used}
use Rattle.history.specs.laws.Shown.{held-lengths}
use Rattle.history.specs.laws.Refused.{Kept, handed-kept, drop-kept}
use Rattle.history.specs.Handed.{Handed}
use Rattle.history.specs.History.{CallBytes, Within, Allowed, told}
use Rattle.history.specs.laws.Reached.{reached-count}
use Rattle.history.specs.laws.Room.{reached-slots}
use Rattle.history.specs.laws.Numbers.{Narrow as NarrowSlot, reached-low}
use Rattle.history.specs.Ours.{ours}
use Rattle.history.specs.Promise.{Run, tallied}
use Rattle.history.specs.laws.Promises.{promised}
use Rattle.history.specs.State.{OfBytes}
use Rattle.layout.specs.Layout.{words_of, count_words, collector_from, counts_from}
use Rattle.layout.specs.laws.ReadBack.{Narrow, written_back, written-reads}
use Rattle.yovtirak.specs.Exports.{answer_word, held, changes, lent_right, left, take_call, drop_call, left_open, open_call, finished_call, read_call, find_call, missing_call, address_call}
use Rattle.yovtirak.specs.Heads.{Place, Lent, HeadCall, GroupBytes, left_by, begins, leaves, returns, after, as_start, as_calls, reached_by, in_words, Fitting, Words}

-- ---- words and the state that they hold

each-narrow : (slots : List Slot) → ((j : ℕ) → NarrowSlot (slot_at j slots)) → Narrow slots
unfolding slot_at
each-narrow [] low = tt
each-narrow (slot ∷ slots) low = ((low 0).0, (low 0).1, each-narrow slots (λ j. low (suc j)))

-- a state that can be written and read back
record Written (s : State) : Type 0 where
  slots : length s.collector.slots ≡ 16
  count : s.collector.count ≤ 16
  numbers : (j : ℕ) → NarrowSlot (slot_at j s.collector.slots)

module _ (l : Lent) (s : State) (w : Words l s) (r : Written s) where
  read_back : collector_from l.state ≡ s.collector
  read_back = ap collector_from w.state ∙ written_back s.collector r.slots
      (each-narrow s.collector.slots r.numbers)

  counts-back : counts_from l.counts ≡ s.counts
  counts-back = ap counts_from w.counts

  lent-right : lent_right l.state l.counts ≡ true
  lent-right = rw (
    w.counts,
    w.state,
    written-reads s.collector r.slots (each-narrow s.collector.slots r.numbers) r.count,
  ) refl

-- ---- one call

-- the words of a state that did not change stay as they are
unchanged : (answer : Answer) → changes answer ≡ false → Kept answer
unchanged (Answer.Stored heard repetition) e = let z : ◌≡◌ {A = ℕ} 0 1 = cc in absurd (omega arith)
unchanged (Answer.Complete heard repetition) e = let z : ◌≡◌ {A = ℕ} 0 1 = cc in absurd (omega arith)
unchanged (Answer.Dropped number) e = let z : ◌≡◌ {A = ℕ} 0 1 = cc in absurd (omega arith)
unchanged (Answer.Repeat heard repetition) e = tt
unchanged (Answer.Refused why) e = tt
unchanged (Answer.Conflict heard) e = tt
unchanged (Answer.Full heard) e = tt
unchanged (Answer.Denied reason) e = tt

module _ (l : Lent) (s : State) (w : Words l s) (r : Written s) where
  -- a group: what comes back is the answer's word, and what is left is the state that the collector leaves
  take_words : (group : List ℕ) → ((take_call group l.state l.counts l.stores).result
      ≡ answer_word (take_group group s).answer) × Words (leaves (HeadCall.take group) l) (take_group group s).left
  unfolding take_call left
  take_words group = rw (lent-right l s w r, read_back l s w r, counts-back l s w r, w.stores)
      (refl, record { state = kept (changes (take_group group s).answer) refl; counts = refl; stores = refl })
    where
      kept : (b : Bool) → changes (take_group group s).answer ≡ b
          → pick b (words_of (take_group group s).left.collector) l.state
          ≡ words_of (take_group group s).left.collector
      kept true e = refl
      kept false e = w.state ∙ ap (λ (t : Reply). words_of t.left.collector)
          (sym (handed-kept (Handed.group group) s (unchanged (take_group group s).answer e)))

  drop-words : (number : ℕ) → ((drop_call number l.state l.counts l.stores).result
      ≡ answer_word (drop_number number s).answer) × Words (leaves (HeadCall.drop number) l) (drop_number number s).left
  unfolding drop_call left
  drop-words number = rw (lent-right l s w r, read_back l s w r, counts-back l s w r, w.stores)
      (refl, record { state = kept (changes (drop_number number s).answer) refl; counts = refl; stores = refl })
    where
      kept : (b : Bool) → changes (drop_number number s).answer ≡ b
          → pick b (words_of (drop_number number s).left.collector) l.state
          ≡ words_of (drop_number number s).left.collector
      kept true e = refl
      kept false e = w.state ∙ ap (λ (t : State). words_of t.collector)
          (sym (drop-kept number s (unchanged (drop_number number s).answer e)))

  -- and what each call returns and tells
  words-returned : (call : HeadCall) → Fitting call → returns call l ≡ in_words call s
  unfolding finished_call read_call find_call missing_call address_call
  words-returned (HeadCall.take group) f = ap (λ (n : ℕ). record { result = n; told = [] }) (take_words group).0
  words-returned (HeadCall.drop number) f = ap (λ (n : ℕ). record { result = n; told = [] }) (drop-words number).0
  words-returned (HeadCall.finished number place) f =
      rw (f, lent-right l s w r, read_back l s w r, counts-back l s w r, w.stores) refl
  words-returned (HeadCall.read number told) f =
      rw (f, lent-right l s w r, read_back l s w r, counts-back l s w r, w.stores) refl
  words-returned (HeadCall.find name) f =
      rw (lent-right l s w r, read_back l s w r, counts-back l s w r, w.stores) refl
  words-returned (HeadCall.missing number) f =
      rw (lent-right l s w r, read_back l s w r, counts-back l s w r, w.stores) refl
  words-returned (HeadCall.address group) f = refl

-- ---- any calls since an opening that returned 0

module _ (limit slots : ℕ) (l : Lent) where
  -- such an opening is within the limits, and leaves the words of an open collector
  opening-words : (begins limit slots l).result ≡ 0 → Within (as_start limit slots l)
      × Words (left_by (begins limit slots l)) (open_with (as_start limit slots l)).left
  unfolding open_call left_open open_with
  opening-words e = go lengths refl limits refl
    where
      lengths : Bool
      lengths = both (eqb (length l.state) 178) (eqb (length l.counts) 5)

      limits : Bool
      limits = within_limits limit slots (length l.stores.header) (length l.stores.body)
          (length l.stores.marks)

      go : (b : Bool) → lengths ≡ b → (d : Bool) → limits ≡ d → Within (as_start limit slots l)
          × Words (left_by (begins limit slots l)) (open_with (as_start limit slots l)).left
      go false f d g = let z : ◌≡◌ {A = ℕ} 25 0 = rw f at e in absurd (omega arith)
      go true f false g = let z : ◌≡◌ {A = ℕ} 25 0 = rw (f, g) at e in absurd (omega arith)
      go true f true g = (
        limits-hold limit slots (length l.stores.header) (length l.stores.body)
            (length l.stores.marks) g,
        rw (f, g) (record { state = refl; counts = refl; stores = refl }),
      )

call-bytes : (calls : List HeadCall) → Each GroupBytes calls → Each CallBytes (as_calls calls)
call-bytes [] y = tt
call-bytes (HeadCall.take group ∷ calls) y = (y.0, call-bytes calls y.1)
call-bytes (HeadCall.drop number ∷ calls) y = (tt, call-bytes calls y.1)
call-bytes (HeadCall.finished number place ∷ calls) y = (tt, call-bytes calls y.1)
call-bytes (HeadCall.read number told ∷ calls) y = (tt, call-bytes calls y.1)
call-bytes (HeadCall.find name ∷ calls) y = (tt, call-bytes calls y.1)
call-bytes (HeadCall.missing number ∷ calls) y = (tt, call-bytes calls y.1)
call-bytes (HeadCall.address group ∷ calls) y = (tt, call-bytes calls y.1)

module _ (limit slots : ℕ) (l : Lent) (bytes : OfBytes l.stores) (zero : (begins limit slots l).result ≡ 0) where
  allowed : Allowed (as_start limit slots l)
  allowed = record { limits = (opening-words limit slots l zero).0; bytes = bytes }

  -- the run of the collector that the same calls are
  abbrev run_of : (calls : List HeadCall) → Each GroupBytes calls → Run
  run_of calls y = record {
    start = as_start limit slots l;
    allowed = allowed;
    calls = as_calls calls;
    bytes =
        call-bytes calls y;
  }

  reached-written : (calls : List HeadCall) → Each GroupBytes calls → Written (reached_by limit slots l calls)
  reached-written calls y = record {
    slots = reached-slots (as_start limit slots l) allowed (as_calls calls) (call-bytes calls y);
    count = omega (
      arith,
      reached-count (as_start limit slots l) allowed (as_calls calls) (call-bytes calls y),
      allowed.limits.slots,
    );
    numbers = reached-low (as_start limit slots l) allowed (as_calls calls) (call-bytes calls y);
  }

  -- THE WORDS ARE THOSE OF THE COLLECTOR that the same calls reach
  pub words-reached : (calls : List HeadCall) → Each GroupBytes calls
      → Words (after limit slots l calls) (reached_by limit slots l calls)
  words-reached [] y = (opening-words limit slots l zero).1
  words-reached (HeadCall.take group ∷ calls) y =
      (take_words (after limit slots l calls) (reached_by limit slots l calls) (words-reached calls y.1)
      (reached-written calls y.1) group).1
  words-reached (HeadCall.drop number ∷ calls) y =
      (drop-words (after limit slots l calls) (reached_by limit slots l calls) (words-reached calls y.1)
      (reached-written calls y.1) number).1
  words-reached (HeadCall.finished number place ∷ calls) y = words-reached calls y.1
  words-reached (HeadCall.read number told ∷ calls) y = words-reached calls y.1
  words-reached (HeadCall.find name ∷ calls) y = words-reached calls y.1
  words-reached (HeadCall.missing number ∷ calls) y = words-reached calls y.1
  words-reached (HeadCall.address group ∷ calls) y = words-reached calls y.1

  -- WHAT COMES BACK of the next call is what the collector answers there
  pub returned-reached : (calls : List HeadCall) → Each GroupBytes calls → (call : HeadCall) → Fitting call
      → returns call (after limit slots l calls) ≡ in_words call (reached_by limit slots l calls)
  returned-reached calls y call f =
      words-returned (after limit slots l calls) (reached_by limit slots l calls) (words-reached calls y)
      (reached-written calls y) call f

  -- A COUNT WORD IS WHAT THE HISTORY GIVES
  pub counts-reached : (calls : List HeadCall) → Each GroupBytes calls
      → (after limit slots l calls).counts ≡ count_words (tallied (told ours (as_start limit slots l) (as_calls calls)))
  counts-reached calls y = (words-reached calls y).counts ∙ ap count_words (promised.counts (run_of calls y))

-- ---- where a finished object stands, in any words

module _ (number : ℕ) (state counts : List ℕ) (stores : Stores) (place : List ℕ) where
  abbrev here : State
  here = held state counts stores

  -- A `yovtirak_finished` THAT RETURNS 0 tells where the header and the body stand
  pub finished-there : (finished_call number state counts stores place).result ≡ 0
      → Place number state counts stores place
  unfolding finished_call locate show shown_of
  finished-there e = go lent refl (sound here) refl
      (find_in number (collector_from state).count (collector_from state).slots) refl
    where
      lent : Bool
      lent = both (eqb (length place) 3) (lent_right state counts)

      staged : lent ≡ true → sound here ≡ true → (i : ℕ)
          → find_in number (collector_from state).count (collector_from state).slots ≡ Some i → (stage : Stage)
          → (slot_at i (collector_from state).slots).stage ≡ stage
          → Place number state counts stores place
      staged f g i n Stage.Free t = let z : ◌≡◌ {A = ℕ} 19 0 = rw (f, g, n, t) at e in absurd (omega arith)
      staged f g i n Stage.Gathering t = let z : ◌≡◌ {A = ℕ} 20 0 = rw (f, g, n, t) at e in absurd (omega arith)
      staged f g i n (Stage.Finished h b) t =
          let lengths = held-lengths number here g i n h b t in
          let inside = used-inside here g i (found-used here g number i n) in
          record {
            slot = i;
            header = h;
            body = b;
            told = rw (f, g, n, t) (rw t refl);
            header_there = rw (g, n, t) (rw t
                (start-there header_most i h stores.header lengths.header inside.header));
            body_there = rw (g, n, t) (rw t (start-there (collector_from state).limit i b stores.body lengths.body
                inside.body));
          }

      go : (a : Bool) → lent ≡ a → (d : Bool) → sound here ≡ d → (found : Option ℕ)
          → find_in number (collector_from state).count (collector_from state).slots ≡ found
          → Place number state counts stores place
      go false f d g found n = let z : ◌≡◌ {A = ℕ} 26 0 = rw f at e in absurd (omega arith)
      go true f false g found n = let z : ◌≡◌ {A = ℕ} 26 0 = rw (f, g) at e in absurd (omega arith)
      go true f true g None n = let z : ◌≡◌ {A = ℕ} 19 0 = rw (f, g, n) at e in absurd (omega arith)
      go true f true g (Some i) n = staged f g i n (slot_at i (collector_from state).slots).stage refl
