-- Document 01's output, line for line, as the definitions spell it, with the three fields that document 02, Item 6
-- adds; and lines in which they differ.
use Rattle.std.specs.Prelude.{◌≡◌, refl, List, [], ◌∷◌, ◌++◌, ℕ}
use Prim.Native.String.{String}
use Rattle.answer.specs.declared.Heard.{Heard}
use Rattle.answer.specs.declared.Part.{Part}
use Rattle.answer.specs.declared.Part.TheVariants.{Header, Body}
use Rattle.answer.specs.declared.Refusal.TheVariants.{Kind, Length}
use Rattle.answer.specs.declared.Answer.TheVariants.{Stored, Complete, Repeat, Refused, Dropped, Conflict, Denied}
use Rattle.answer.specs.declared.Reason.TheVariants.{NotHeld}
use Rattle.answer.specs.declared.Repetition.{Repetition}
use Rattle.answer.specs.Letters.{letters}
use Rattle.listing_output.specs.Number.{digit, digits_of, decimal, four_digits}
use Rattle.listing_output.specs.Text.{newline, answer_text, malformed_text, counts_text}

abbrev line : String → List ℕ
line text = letters text ++ (newline ∷ [])

abbrev heard : Part → ℕ → Heard
heard part segment = record { number = 5; part = part; segment = segment }

abbrev meant : ℕ → ℕ → ℕ → Repetition
meant index continuity count = record { index = index; continuity = continuity; count = count }

pub record Example : Type 0 where
  pub first : answer_text 1 (Stored (heard Body 1) (meant 0 0 0)) ≡ line "1 STORED 0005 B 1 0 0 0"
  pub second : answer_text 2 (Stored (heard Header 0) (meant 0 0 0)) ≡ line "2 STORED 0005 H 0 0 0 0"
  pub third : answer_text 3 (Complete (heard Body 0) (meant 0 0 0)) ≡ line "3 COMPLETE 0005 B 0 0 0 0"
  pub fourth : answer_text 4 (Repeat (heard Body 1) (meant 0 0 0)) ≡ line "4 REPEAT 0005 B 1 0 0 0"
  pub fifth : answer_text 5 (Refused Kind) ≡ line "5 KIND - - - - - -"
  pub sixth : answer_text 6 (Refused Length) ≡ line "6 LENGTH - - - - - -"
  pub seventh : answer_text 7 (Dropped 5) ≡ line "7 DROPPED 0005 - - - - -"
  pub counts : counts_text (record { taken = 3; repeated = 1; refused = 2; completed = 1; dropped = 1 })
      ≡ line "T 3 1 2 1 1"
  pub malformed : malformed_text 10 ≡ line "10 LINE - - - - - -"
  pub not-held : answer_text 1024 (Denied NotHeld) ≡ line "1024 NOTHELD - - - - - -"
  pub meaning : answer_text 8 (Repeat (heard Body 1) (meant 15 2 7)) ≡ line "8 REPEAT 0005 B 1 15 2 7"
  pub conflicting : answer_text 9 (Conflict (heard Body 1)) ≡ line "9 CONFLICT 0005 B 1 - - -"

pub example : Example
unfolding answer_text malformed_text counts_text decimal digits_of four_digits digit
example = record {
  first = refl;
  second = refl;
  third = refl;
  fourth = refl;
  fifth = refl;
  sixth = refl;
  seventh = refl;
  counts = refl;
  malformed = refl;
  not-held = refl;
  meaning = refl;
  conflicting = refl;
}
