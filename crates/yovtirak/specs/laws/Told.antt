-- WHAT A HEAD TAKES OUT OF A WORD is what was answered: with STORED, COMPLETE and REPEAT to a group the answer's number,
-- the part, the transport number, the segment's number and the three numbers that the sender set; how many bytes are
-- still to come. And where an end user address is told to stand, there it stands.
use Rattle.std.specs.Prelude.{◌≡◌, refl, Bool, true, false, Result, Ok, Err, List, ◌⊎◌, ℕ, ◌+◌, ◌*◌, ◌/◌, ◌%◌, ◌<◌, Option}
use Rattle.std.proofs.Common.{ap, subst, inl, inr, arith}
use Rattle.octets.specs.Octets.{part}
use Rattle.answer.specs.declared.Answer.{Answer}
use Rattle.answer.specs.declared.Heard.{Heard}
use Rattle.answer.specs.declared.Refusal.{Refusal}
use Rattle.answer.specs.declared.Reason.{Reason}
use Rattle.answer.specs.declared.Repetition.{Repetition}
use Rattle.answer.specs.declared.Returned.{Returned}
use Rattle.answer.specs.declared.Returned.TheVariants.{Sent}
use Rattle.answer.specs.Table.{number_of, returned_with}
use Rattle.answer.specs.laws.Table.{number-byte, refusal-from, refusal-to, unsent-refusal}
use Rattle.wire.specs.declared.Carried.{Carried}
use Rattle.wire.specs.Reading.{reading_of, address_in, address_of}
use Rattle.wire.specs.laws.Theorems.{inside, narrow}
use Rattle.cut.specs.Lists.{Bytes}
use Rattle.object.specs.declared.Outcome.{Outcome}
use Rattle.object.specs.declared.Outcome.TheVariants.{Stored, Complete, Repeat, Conflict}
use Rattle.collector.specs.State.{State}
use Rattle.collector.specs.Calls.{answer_for, take_group, sound}
use Rattle.collector.specs.Arrival.{heard_as, heard_in, arrival_in}
use Rattle.history.specs.Handed.{group, brought_in}
use Rattle.history.specs.Ours.{ours}
use Rattle.history.specs.laws.Answers.{came-named}
use Rattle.history.specs.laws.Call.{handed-damaged, unread, came}
use Rattle.history.specs.laws.Numbers.{byte_low}
use Rattle.yovtirak.specs.Exports.{awaited_word, repetition_word, heard_word, answer_word, address_word, address_call}
use Rattle.yovtirak.specs.Heads.{Tells, TellsMissing}
use Rattle.yovtirak.specs.laws.Exports.{part_small}

-- ---- an answer's word

-- numbers as a group has them
record Small (heard : Heard) (repetition : Repetition) : Type 0 where
  number : heard.number < 65536
  segment : heard.segment < 65536
  index : repetition.index < 16
  continuity : repetition.continuity < 16
  count : repetition.count < 8

word-tells : (answer : Answer) (heard : Heard) (repetition : Repetition) → Small heard repetition
    → Tells (number_of answer + (heard_word heard + repetition_word repetition)) answer heard repetition
word-tells answer heard repetition m =
    let n = number-byte answer in
    let p = part_small heard.part in
    record {
      answered = omega (arith, n, p);
      which = omega (arith, n, p);
      number = omega (arith, n, p, m.number);
      segment = omega (arith, n, p, m.number, m.segment);
      index = omega (arith, n, p, m.number, m.segment, m.index);
      continuity = omega (arith, n, p, m.number, m.segment, m.index, m.continuity);
      count = omega (arith, n, p, m.number, m.segment, m.index, m.continuity, m.count);
    }

module _ (bytes : List ℕ) (y : Bytes bytes) (s : State) where
  carried-small : (carried : Carried) → reading_of bytes ≡ Ok carried
      → Small (heard_in carried) carried.repetition
  carried-small carried e =
      let n = narrow bytes carried (λ at. byte_low bytes at y) e in
      record {
        number = n.number;
        segment = omega (arith, n.segment);
        index = n.index;
        continuity = n.continuity;
        count = n.count;
      }

  module _ (heard : Heard) (repetition : Repetition) where
    same-small : (other : Heard) (meant : Repetition) → Small other meant
        → ◌≡◌ {A = Returned} (Sent other meant) (Sent heard repetition) → Small heard repetition
    same-small other meant m e =
        let h : other ≡ heard = cc in
        let r : meant ≡ repetition = cc in
        subst (λ (x : Heard). Small x repetition) h (subst (λ (x : Repetition). Small other x) r m)

    outcome-small : (carried : Carried) → reading_of bytes ≡ Ok carried → (o : Outcome)
        → returned_with (answer_for o (arrival_in bytes carried)) ≡ Sent heard repetition → Small heard repetition
    outcome-small carried r Stored e = same-small _ _ (carried-small carried r) e
    outcome-small carried r Complete e = same-small _ _ (carried-small carried r) e
    outcome-small carried r Repeat e = same-small _ _ (carried-small carried r) e
    outcome-small carried r Conflict e = let z : ◌≡◌ {A = ℕ} 0 1 = cc in absurd (omega arith)

    -- what comes back of a group is numbers as a group has them
    sent-small : returned_with (take_group bytes s).answer ≡ Sent heard repetition → Small heard repetition
    sent-small e = go (sound s) refl (reading_of bytes) refl
      where
        named : (carried : Carried) → reading_of bytes ≡ Ok carried
            → ((take_group bytes s).answer ≡ Answer.Full (heard_as (arrival_in bytes carried)))
            ⊎ ((o : Outcome) × ((take_group bytes s).answer ≡ answer_for o (arrival_in bytes carried)))
            → Small heard repetition
        named carried r (inl f) =
            let d : returned_with (Answer.Full (heard_as (arrival_in bytes carried))) ≡ Sent heard repetition = rw f at e in
            let z : ◌≡◌ {A = ℕ} 0 1 = cc in absurd (omega arith)
        named carried r (inr f) = outcome-small carried r f.0 (rw f.1 at e)

        go : (b : Bool) → sound s ≡ b → (reading : Result Carried Refusal) → reading_of bytes ≡ reading
            → Small heard repetition
        go false d reading r =
            let f = rw (handed-damaged (group bytes) s d) at e in
            let z : ◌≡◌ {A = ℕ} 0 1 = cc in absurd (omega arith)
        go true d (Err why) r =
            absurd (unsent-refusal why heard repetition
            (rw (unread (group bytes) s d why (ap (λ (x : Result Carried Refusal). brought_in x bytes) r)) at e))
        go true d (Ok carried) r =
            named carried r (came-named (arrival_in bytes carried) s (take_group bytes s)
            (came (group bytes) s d (arrival_in bytes carried)
            (ap (λ (x : Result Carried Refusal). brought_in x bytes) r)))

    -- THE NUMBERS ARE IN THE WORD
    pub taken-told : returned_with (take_group bytes s).answer ≡ Sent heard repetition
        → Tells (answer_word (take_group bytes s).answer) (take_group bytes s).answer heard repetition
    taken-told e = rw e (word-tells (take_group bytes s).answer heard repetition (sent-small e))

-- ---- how many bytes are still to come

pub missing-told : (awaited : Result (Option ℕ) Reason) → TellsMissing (awaited_word awaited) awaited
missing-told (Ok amount) = record { answered = omega arith; amount = omega arith }
missing-told (Err why) =
    let n = number-byte (Answer.Denied why) in
    record { answered = omega (arith, n); amount = omega (arith, n) }

-- ---- where an address stands

start-told : (start count : ℕ) → start < 65536 → (start * 65536 + count * 4294967296) / 65536 % 65536 ≡ start
start-told start count h =
    let q : (start * 65536 + count * 4294967296) / 65536 ≡ start + count * 65536 = omega arith in
    rw q (omega (arith, h))

count-told : (start count : ℕ) → start < 65536 → count < 65536
    → (start * 65536 + count * 4294967296) / 4294967296 % 65536 ≡ count
count-told start count h g =
    let q : (start * 65536 + count * 4294967296) / 4294967296 ≡ count = omega (arith, h) in
    rw q (omega (arith, g))

-- a group whose address is told, the low byte of the word being 0: the address is the part of the group that starts there
-- and has so many bytes
pub address-there : (bytes : List ℕ) (s : State) → address_call bytes % 256 ≡ 0
    → ours.addresses bytes s ≡ part bytes (address_call bytes / 65536 % 65536) (address_call bytes / 4294967296 % 65536)
unfolding address_call address_of
address-there bytes s = go (reading_of bytes) refl
  where
    go : (reading : Result Carried Refusal) → reading_of bytes ≡ reading → address_word reading % 256 ≡ 0
        → address_in reading bytes
        ≡ part bytes (address_word reading / 65536 % 65536) (address_word reading / 4294967296 % 65536)
    go (Err why) r e = absurd (omega (arith, e, refusal-from why, refusal-to why))
    go (Ok carried) r e =
        let i = inside bytes carried r in
        let low : carried.address.start < 65536 = omega (arith, i.whole, i.address, i.ends) in
        let few : carried.address.length < 65536 = omega (arith, i.short) in
        rw (
          start-told carried.address.start carried.address.length low,
          count-told carried.address.start carried.address.length low few,
        ) refl
