-- NO CALL RETURNS THE RETIRED NUMBER, whatever it is handed: the low byte of a result is an answer's number, or 0.
use Rattle.std.specs.Prelude.{◌≢◌, Bool, true, false, Result, Ok, Err, List, ℕ, ◌+◌, ◌%◌, eqb, length, ⊤, Option}
use Rattle.std.proofs.Common.{arith}
use Rattle.answer.specs.Table.{number_of, returned_with, retired}
use Rattle.answer.specs.laws.Table.{number-byte, never-retired}
use Rattle.answer.specs.declared.Answer.{Answer}
use Rattle.answer.specs.declared.Answer.TheVariants.{Refused, Denied}
use Rattle.answer.specs.declared.Reason.{Reason}
use Rattle.answer.specs.declared.Refusal.{Refusal}
use Rattle.answer.specs.declared.Returned.{Returned}
use Rattle.answer.specs.declared.Returned.TheVariants.{Sent, Segment, Number, Nothing}
use Rattle.wire.specs.declared.Carried.{Carried}
use Rattle.wire.specs.Reading.{reading_of}
use Rattle.cut.specs.Lists.{both, pick}
use Rattle.header.specs.declared.Fields.{Fields}
use Rattle.collector.specs.declared.Collector.{Collector}
use Rattle.collector.specs.State.{State, Reply, start}
use Rattle.collector.specs.Calls.{take_group, drop_number, open_with, locate}
use Rattle.queries.specs.Questions.{parameters, find}
use Rattle.queries.specs.Missing.{missing}
use Rattle.layout.specs.Layout.{counts_from}
use Rattle.yovtirak.specs.Exports.{returned_word, answer_word, Called, called, held, lent_right, left, no_state, take_call, drop_call, opening_word, left_open, open_call, Told, place_told, finished_call, fields_told, read_call, sought_word, find_call, awaited_word, missing_call, address_word, address_call}
use Rattle.yovtirak.specs.Heads.{Lent, HeadCall, begins, returns}

-- the answer's number that a result has is not the retired one
abbrev Never : ℕ → Type 0
Never result = result % 256 ≢ retired

-- ---- an answer's word, and a refusal's

answer-never : (answer : Answer) → Never (answer_word answer)
answer-never answer = go (returned_with answer)
  where
    go : (returned : Returned) → Never (number_of answer + returned_word returned)
    go (Sent heard repetition) e = never-retired answer (omega (arith, number-byte answer))
    go (Segment heard) e = never-retired answer (omega (arith, number-byte answer))
    go (Number number) e = never-retired answer (omega (arith, number-byte answer))
    go Nothing e = never-retired answer (omega (arith, number-byte answer))

denied-never : (reason : Reason) → Never (number_of (Denied reason))
denied-never reason e = never-retired (Denied reason) (omega (arith, number-byte (Denied reason)))

opening-never : (opening : Result ⊤ Reason) → Never (opening_word opening)
opening-never (Ok unit) e = omega arith
opening-never (Err why) e = denied-never why e

place-never : (located : Result ℕ Reason) (c : Collector) (place : List ℕ) → Never (place_told located c place).result
place-never (Err why) c place e = denied-never why e
place-never (Ok i) c place e = omega arith

fields-never : (asked : Result Fields Reason) (told : List ℕ) → Never (fields_told asked told).result
fields-never (Err why) told e = denied-never why e
fields-never (Ok fields) told e = omega arith

sought-never : (sought : Result ℕ Reason) → Never (sought_word sought)
sought-never (Ok number) e = omega arith
sought-never (Err why) e = denied-never why e

awaited-never : (awaited : Result (Option ℕ) Reason) → Never (awaited_word awaited)
awaited-never (Ok amount) e = omega arith
awaited-never (Err why) e = denied-never why e

address-never : (reading : Result Carried Refusal) → Never (address_word reading)
address-never (Err why) e = never-retired (Refused why) (omega (arith, number-byte (Refused why)))
address-never (Ok carried) e = omega arith

-- ---- the calls

-- a result that a test decides between
either-never : {A : Type 0} (result : A → ℕ) (b : Bool) (x y : A) → Never (result x) → Never (result y)
    → Never (result (pick b x y))
either-never result true x y p q = p
either-never result false x y p q = q

-- where the words lent are wrong
abbrev untold : List ℕ → Told
untold told = record { result = number_of (Denied Reason.State); told = told }

pub opened-never : (limit slots : ℕ) (l : Lent) → (begins limit slots l).result % 256 ≢ retired
unfolding open_call left_open
opened-never limit slots l =
    let opened = open_with (start limit slots (counts_from l.counts) l.stores) in
    either-never (λ (c : Called). c.result) (both (eqb (length l.state) 178) (eqb (length l.counts) 5))
    (left_open opened l.state) (called (number_of (Denied Reason.Limits)) l.state l.counts l.stores)
    (opening-never opened.opening) (denied-never Reason.Limits)

pub returned-never : (call : HeadCall) (l : Lent) → (returns call l).result % 256 ≢ retired
unfolding take_call drop_call left finished_call read_call find_call missing_call address_call
returned-never call l = go call
  where
    right : Bool
    right = lent_right l.state l.counts

    here : State
    here = held l.state l.counts l.stores

    replied : (reply : Reply) → Never (pick right (left reply l.state) (no_state l.state l.counts l.stores)
        ).result
    replied reply = either-never (λ (c : Called). c.result) right (left reply l.state)
        (no_state l.state l.counts l.stores) (answer-never reply.answer) (denied-never Reason.State)

    told-never : (fits : Bool) (told : Told) (words : List ℕ) → Never told.result
        → Never (pick (both fits right) told (untold words)).result
    told-never fits told words n =
        either-never (λ (t : Told). t.result) (both fits right) told (untold words) n (denied-never Reason.State)

    go : (call : HeadCall) → Never (returns call l).result
    go (HeadCall.take group) = replied (take_group group here)
    go (HeadCall.drop number) = replied (drop_number number here)
    go (HeadCall.finished number place) =
        told-never (eqb (length place) 3) (place_told (locate number here) here.collector place) place
        (place-never (locate number here) here.collector place)
    go (HeadCall.read number told) =
        told-never (eqb (length told) 7) (fields_told (parameters number here) told) told
        (fields-never (parameters number here) told)
    go (HeadCall.find name) =
        either-never (λ (n : ℕ). n) right (sought_word (find name here)) (number_of (Denied Reason.State))
        (sought-never (find name here)) (denied-never Reason.State)
    go (HeadCall.missing number) =
        either-never (λ (n : ℕ). n) right (awaited_word (missing number here)) (number_of (Denied Reason.State))
        (awaited-never (missing number here)) (denied-never Reason.State)
    go (HeadCall.address group) = address-never (reading_of group)
