-- A history of each kind of answer, computed: document 01's example in a collector of one slot, with a group under
-- another number, a conflict and each question. It meets all that the promises ask, and a part of it comes from one
-- cut of one object. A text card with nothing in it, document 02, Item 2, its empty segment before and after its
-- header. And a segment that comes by itself, then in a group whose sender says something of repeats, Item 6.
use Rattle.std.specs.Prelude.{◌≡◌, refl, true, List, [], ◌∷◌, None, ℕ, Ok, Err, Some}
use Rattle.std.proofs.Common.{arith}
use Rattle.answer.specs.declared.Answer.TheVariants as Answer
use Rattle.answer.specs.declared.Reason.TheVariants as Reason
use Rattle.answer.specs.declared.Heard.{Heard}
use Rattle.answer.specs.declared.Part.{Part}
use Rattle.answer.specs.declared.Part.TheVariants.{Header, Body}
use Rattle.answer.specs.declared.Refusal.TheVariants as Refusal
use Rattle.cut.specs.Requirement.{Segment}
use Rattle.cut.specs.Lists.{Each, Among}
use Rattle.header.specs.declared.Fields.{Fields}
use Rattle.object.specs.declared.Stage.TheVariants as Stage
use Rattle.object.specs.Source.{SegmentOf}
use Rattle.collector.specs.Calls.{show}
use Rattle.collector.specs.Arrival.{no_repetition}
use Rattle.history.specs.Handed.{group, segment}
use Rattle.history.specs.History.{Question, Call, hand, drop, ask, CallBytes, shown, read, named, found, awaited, addressed, handed, dropped, asked, told}
use Rattle.history.specs.Ours.{ours}
use Rattle.history.specs.Held.{stage_for}
use Rattle.history.specs.Promise.{Run, reached_by, since, StoredFrom, came_under}
use Rattle.history.specs.laws.Promises.{promised}
use Rattle.history.specs.laws.Samples.{body_last, body_first, body_not_last, header, other_number, computing, small, allowed, object, one_cut, of-bytes-one, sent-one, all-sent}
use Rattle.history.specs.laws.Trials.{core as core_only, five, five_again, empty_five}

-- ---- every kind of answer

abbrev pub calls : List Call
calls =
    drop 5
    ∷ drop 6
    ∷ ask (Question.find (0x61 ∷ []))
    ∷ ask (Question.name 5)
    ∷ ask (Question.parameters 5)
    ∷ ask (Question.show 5 Body)
    ∷ hand (group (0 ∷ []))
    ∷ hand (group body_last)
    ∷ hand (group body_first)
    ∷ hand (group body_not_last)
    ∷ hand (group other_number)
    ∷ hand (group header)
    ∷ hand (group body_last)
    ∷ []

pub of-bytes : Each CallBytes calls
of-bytes = (
  tt,
  (
    tt,
    (
      tt,
      (
        tt,
        (
          tt,
          (
            tt,
            (
              omega arith,
              (
                omega arith,
                (omega arith, (omega arith, (omega arith, (omega arith, (omega arith, tt))))),
              ),
            ),
          ),
        ),
      ),
    ),
  ),
)

abbrev in_header : ℕ → Heard
in_header number = record { number = number; part = Header; segment = 0 }

abbrev in_body : ℕ → Heard
in_body at = record { number = 5; part = Body; segment = at }

-- what its header says
abbrev core : Fields
core = record {
  body_size = 20;
  header_size = 7;
  content_type = 0;
  content_sub_type = 0;
  priority = None;
  name = None;
}

pub answers : told ours small calls
    ≡ dropped 5 (Answer.Dropped 5)
    ∷ dropped 6 (Answer.Denied Reason.NotHeld)
    ∷ asked (Question.find (0x61 ∷ [])) (found (Err Reason.NotFound))
    ∷ asked (Question.name 5) (named (Ok core) [])
    ∷ asked (Question.parameters 5) (read (Ok core))
    ∷ asked (Question.show 5 Body) (shown (Ok 0)
    (0x61 ∷ 0x62 ∷ 0x63 ∷ 0x64 ∷ 0x65 ∷ 0x66 ∷ 0x67 ∷ 0x68 ∷ 0x69 ∷ 0x6A ∷ 0x6B ∷ 0x6C ∷ 0x6D ∷ 0x6E ∷ 0x6F ∷ 0x70
    ∷ 0x74 ∷ 0x75 ∷ 0x76 ∷ 0x77 ∷ []))
    ∷ handed (group (0 ∷ [])) (Answer.Refused Refusal.Length)
    ∷ handed (group body_last) (Answer.Repeat (in_body 1) no_repetition)
    ∷ handed (group body_first) (Answer.Complete (in_body 0) no_repetition)
    ∷ handed (group body_not_last) (Answer.Conflict (in_body 1))
    ∷ handed (group other_number) (Answer.Full (in_header 6))
    ∷ handed (group header) (Answer.Stored (in_header 5) no_repetition)
    ∷ handed (group body_last) (Answer.Stored (in_body 1) no_repetition)
    ∷ []
unfolding computing small
answers = refl

-- ---- what the sender meant by a repeat

pub repeat-meant : told ours small
    (ask (Question.address five_again) ∷ hand (group five_again) ∷ hand (segment (in_header 5) true core_only) ∷ [])
    ≡ asked (Question.address five_again) (addressed (0xA1 ∷ 0xB2 ∷ []))
    ∷ handed (group five_again) (Answer.Repeat (in_header 5) (record { index = 10; continuity = 3; count = 5 }))
    ∷ handed (segment (in_header 5) true core_only) (Answer.Complete (in_header 5) no_repetition)
    ∷ []
unfolding computing small
repeat-meant = refl

-- ---- how much is missing

-- a last body segment alone, then the header, which says 20, then the rest of the body
pub progress : told ours small
    (ask (Question.missing 5)
    ∷ hand (group body_first)
    ∷ ask (Question.missing 5)
    ∷ hand (group header)
    ∷ ask (Question.missing 5)
    ∷ hand (group body_last)
    ∷ ask (Question.missing 5)
    ∷ [])
    ≡ asked (Question.missing 5) (awaited (Ok (Some 0)))
    ∷ handed (group body_first) (Answer.Complete (in_body 0) no_repetition)
    ∷ asked (Question.missing 5) (awaited (Ok (Some 16)))
    ∷ handed (group header) (Answer.Stored (in_header 5) no_repetition)
    ∷ asked (Question.missing 5) (awaited (Ok None))
    ∷ handed (group body_last) (Answer.Stored (in_body 1) no_repetition)
    ∷ asked (Question.missing 5) (awaited (Err Reason.NotHeld))
    ∷ []
unfolding computing small
progress = refl

-- ---- a card of no text

-- its header first: it is finished, and the empty segment is stored once
pub card-first : told ours small (hand (group empty_five) ∷ hand (group empty_five) ∷ hand (group five) ∷ [])
    ≡ handed (group empty_five) (Answer.Repeat (in_body 0) no_repetition)
    ∷ handed (group empty_five) (Answer.Stored (in_body 0) no_repetition)
    ∷ handed (group five) (Answer.Complete (in_header 5) no_repetition)
    ∷ []
unfolding computing small
card-first = refl

-- the empty segment first: it takes a slot, a body segment beside it and a BodySize of 20 conflict, and the header that
-- says 0 finishes it
pub empty-first : told ours small
    (hand (group empty_five)
    ∷ hand (group five)
    ∷ hand (group header)
    ∷ hand (group body_last)
    ∷ hand (group empty_five)
    ∷ [])
    ≡ handed (group empty_five) (Answer.Repeat (in_body 0) no_repetition)
    ∷ handed (group five) (Answer.Complete (in_header 5) no_repetition)
    ∷ handed (group header) (Answer.Conflict (in_header 5))
    ∷ handed (group body_last) (Answer.Conflict (in_body 1))
    ∷ handed (group empty_five) (Answer.Stored (in_body 0) no_repetition)
    ∷ []
unfolding computing small
empty-first = refl

-- ---- one cut of one object, with a group under another number between

-- they came with a slot there
pub all_come : (part : Part) (s : Segment) → SegmentOf object part s
    → Among s (came_under part 5 (told ours small one_cut))
unfolding computing small
all_come Header = all-sent Header
all_come Body = all-sent Body

-- so it is finished and shown
pub run : Run
run = record { start = small; allowed = allowed; calls = one_cut; bytes = of-bytes-one }

pub all_from : StoredFrom object 5 (since ours run)
unfolding computing small run
all_from Header = (sent-one.0, tt)
all_from Body = (sent-one.1, (sent-one.2, tt))

pub finished : (stage_for 5 (reached_by ours run) ≡ Stage.Finished 7 20)
    × (show 5 Header (reached_by ours run) ≡ object.header) × (show 5 Body (reached_by ours run) ≡ object.body)
unfolding object small run
finished = promised.finishes run object 5 all_from all_come
