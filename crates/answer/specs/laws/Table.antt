-- The table's rows of a kind: where their numbers lie, and that no name is longer than ten letters; that no answer has
-- the retired number; and which answers pass up what the sender meant by a repeat.
use Rattle.std.specs.Prelude.{◌≡◌, refl, ◌≢◌, ℕ, ◌≤◌, ◌<◌, length}
use Rattle.std.proofs.Common.{arith}
use Rattle.answer.specs.declared.Refusal.{Refusal}
use Rattle.answer.specs.declared.Refusal.TheVariants.{Length, NoCheck, BadCheck, Kind, NoSegment, Address, Size}
use Rattle.answer.specs.declared.Reason.{Reason}
use Rattle.answer.specs.declared.Reason.TheVariants.{NotHeld, Unfinished, Header, Duplicate, NotFound, Limits, State}
use Rattle.answer.specs.declared.Answer.{Answer}
use Rattle.answer.specs.declared.Answer.TheVariants.{Stored, Complete, Repeat, Dropped, Refused, Conflict, Full, Denied}
use Rattle.answer.specs.declared.Heard.{Heard}
use Rattle.answer.specs.declared.Repetition.{Repetition}
use Rattle.answer.specs.declared.Returned.TheVariants.{Sent}
use Rattle.answer.specs.Letters.{letters}
use Rattle.answer.specs.Table.{Row, refusal_row, reason_row, number_of, name_of, returned_with, retired}

-- ten letters are room for the name
abbrev Short : Row → Type 0
Short row = length (letters row.name) ≤ 10

refusal-table : (refusal : Refusal) → (10 ≤ (refusal_row refusal).number) × ((refusal_row refusal).number ≤ 16)
    × Short (refusal_row refusal)
refusal-table Length = (omega arith, omega arith, omega arith)
refusal-table NoCheck = (omega arith, omega arith, omega arith)
refusal-table BadCheck = (omega arith, omega arith, omega arith)
refusal-table Kind = (omega arith, omega arith, omega arith)
refusal-table NoSegment = (omega arith, omega arith, omega arith)
refusal-table Address = (omega arith, omega arith, omega arith)
refusal-table Size = (omega arith, omega arith, omega arith)

reason-table : (reason : Reason) → (19 ≤ (reason_row reason).number) × ((reason_row reason).number < 256)
    × ((reason_row reason).number ≢ retired) × Short (reason_row reason)
reason-table NotHeld = (omega arith, omega arith, (λ e. omega arith), omega arith)
reason-table Unfinished = (omega arith, omega arith, (λ e. omega arith), omega arith)
reason-table Header = (omega arith, omega arith, (λ e. omega arith), omega arith)
reason-table Duplicate = (omega arith, omega arith, (λ e. omega arith), omega arith)
reason-table NotFound = (omega arith, omega arith, (λ e. omega arith), omega arith)
reason-table Limits = (omega arith, omega arith, (λ e. omega arith), omega arith)
reason-table State = (omega arith, omega arith, (λ e. omega arith), omega arith)

pub refusal-from : (refusal : Refusal) → 10 ≤ (refusal_row refusal).number
refusal-from refusal = (refusal-table refusal).0

pub refusal-to : (refusal : Refusal) → (refusal_row refusal).number ≤ 16
refusal-to refusal = (refusal-table refusal).1

pub reason-from : (reason : Reason) → 19 ≤ (reason_row reason).number
reason-from reason = (reason-table reason).0

pub name-short : (answer : Answer) → length (letters (name_of answer)) ≤ 10
name-short (Stored heard repetition) = omega arith
name-short (Complete heard repetition) = omega arith
name-short (Repeat heard repetition) = omega arith
name-short (Dropped number) = omega arith
name-short (Refused refusal) = (refusal-table refusal).2
name-short (Conflict heard) = omega arith
name-short (Full heard) = omega arith
name-short (Denied reason) = (reason-table reason).3

-- a number is a byte
pub number-byte : (answer : Answer) → number_of answer < 256
number-byte (Stored heard repetition) = omega arith
number-byte (Complete heard repetition) = omega arith
number-byte (Repeat heard repetition) = omega arith
number-byte (Dropped number) = omega arith
number-byte (Refused refusal) = omega (arith, refusal-to refusal)
number-byte (Conflict heard) = omega arith
number-byte (Full heard) = omega arith
number-byte (Denied reason) = (reason-table reason).1

-- NO ANSWER HAS THE RETIRED NUMBER
pub never-retired : (answer : Answer) → number_of answer ≢ retired
never-retired (Stored heard repetition) e = omega arith
never-retired (Complete heard repetition) e = omega arith
never-retired (Repeat heard repetition) e = omega arith
never-retired (Dropped number) e = omega arith
never-retired (Refused refusal) e = omega (arith, refusal-to refusal)
never-retired (Conflict heard) e = omega arith
never-retired (Full heard) e = omega arith
never-retired (Denied reason) e = (reason-table reason).2 e

-- STORED, COMPLETE AND REPEAT pass up what the sender meant by a repeat, each what it was given
pub sent-by : (heard : Heard) (repetition : Repetition) → (returned_with (Stored heard repetition) ≡ Sent heard repetition)
    × (returned_with (Complete heard repetition) ≡ Sent heard repetition)
    × (returned_with (Repeat heard repetition) ≡ Sent heard repetition)
sent-by heard repetition = (refl, refl, refl)

pub unsent-refusal : (refusal : Refusal) (heard : Heard) (repetition : Repetition)
    → (refusal_row refusal).returned ≢ Sent heard repetition
unsent-refusal Length heard repetition e = let z : ◌≡◌ {A = ℕ} 0 1 = cc in omega arith
unsent-refusal NoCheck heard repetition e = let z : ◌≡◌ {A = ℕ} 0 1 = cc in omega arith
unsent-refusal BadCheck heard repetition e = let z : ◌≡◌ {A = ℕ} 0 1 = cc in omega arith
unsent-refusal Kind heard repetition e = let z : ◌≡◌ {A = ℕ} 0 1 = cc in omega arith
unsent-refusal NoSegment heard repetition e = let z : ◌≡◌ {A = ℕ} 0 1 = cc in omega arith
unsent-refusal Address heard repetition e = let z : ◌≡◌ {A = ℕ} 0 1 = cc in omega arith
unsent-refusal Size heard repetition e = let z : ◌≡◌ {A = ℕ} 0 1 = cc in omega arith

unsent-reason : (reason : Reason) (heard : Heard) (repetition : Repetition)
    → (reason_row reason).returned ≢ Sent heard repetition
unsent-reason NotHeld heard repetition e = let z : ◌≡◌ {A = ℕ} 0 1 = cc in omega arith
unsent-reason Unfinished heard repetition e = let z : ◌≡◌ {A = ℕ} 0 1 = cc in omega arith
unsent-reason Header heard repetition e = let z : ◌≡◌ {A = ℕ} 0 1 = cc in omega arith
unsent-reason Duplicate heard repetition e = let z : ◌≡◌ {A = ℕ} 0 1 = cc in omega arith
unsent-reason NotFound heard repetition e = let z : ◌≡◌ {A = ℕ} 0 1 = cc in omega arith
unsent-reason Limits heard repetition e = let z : ◌≡◌ {A = ℕ} 0 1 = cc in omega arith
unsent-reason State heard repetition e = let z : ◌≡◌ {A = ℕ} 0 1 = cc in omega arith

-- AND ONLY THESE
pub sent-only : (answer : Answer) (heard : Heard) (repetition : Repetition)
    → returned_with answer ≡ Sent heard repetition → number_of answer ≤ 2
sent-only (Stored other meant) heard repetition e = omega arith
sent-only (Complete other meant) heard repetition e = omega arith
sent-only (Repeat other meant) heard repetition e = omega arith
sent-only (Dropped number) heard repetition e = let z : ◌≡◌ {A = ℕ} 0 1 = cc in absurd (omega arith)
sent-only (Refused refusal) heard repetition e = absurd (unsent-refusal refusal heard repetition e)
sent-only (Conflict other) heard repetition e = let z : ◌≡◌ {A = ℕ} 0 1 = cc in absurd (omega arith)
sent-only (Full other) heard repetition e = let z : ◌≡◌ {A = ℕ} 0 1 = cc in absurd (omega arith)
sent-only (Denied reason) heard repetition e = absurd (unsent-reason reason heard repetition e)
