-- What wrong collectors are tried with: small objects and their groups, runs of a few calls, states that no run
-- reaches, and the collector's own definitions with one piece replaced.
use Rattle.std.specs.Prelude.{◌≡◌, refl, true, Result, Ok, List, [], ◌∷◌, ℕ, zero, suc, ◌+◌, ◌*◌, ◌<◌, replicate, Err, ⊤, Option, Some, None}
use Rattle.std.proofs.Common.{ap, inl, arith}
use Rattle.answer.specs.declared.Answer.TheVariants as Answer
use Rattle.answer.specs.declared.Part.{Part}
use Rattle.answer.specs.declared.Part.TheVariants.{Header, Body}
use Rattle.answer.specs.declared.Refusal.{Refusal}
use Rattle.answer.specs.Table.{number_of}
use Rattle.counts.specs.declared.Counts.{Counts}
use Rattle.counts.specs.Counted.{ceiling, none_yet, within}
use Rattle.wire.specs.declared.Carried.{Carried}
use Rattle.wire.specs.Ignored.{SameButIgnored}
use Rattle.wire.specs.Reading.{check_holds, reading_of}
use Rattle.cut.specs.Requirement as cut
use Rattle.cut.specs.Requirement.{body_size, header_size, Segment, Fits, Finished}
use Rattle.cut.specs.laws.Segment.{Numbered}
use Rattle.cut.specs.laws.Decision.{true-both}
use Rattle.cut.specs.laws.Finished.{whole_numbers, whole-empty}
use Rattle.cut.specs.laws.Empty.{either}
use Rattle.cut.specs.Lists.{Bytes}
use Rattle.object.specs.Source.{Source}
use Rattle.slots.specs.Stores.{slots_most, Stores}
use Rattle.slots.specs.State.{sound_slots}
use Rattle.answer.specs.declared.Reason.{Reason}
use Rattle.header.specs.declared.Fields.{Fields}
use Rattle.collector.specs.State.{Start, Opened, Reply, State}
use Rattle.collector.specs.Calls.{drop_number, locate, open_with, show, sound, take_segment}
use Rattle.collector.specs.Arrival.{arrival_in}
use Rattle.queries.specs.Questions as queries
use Rattle.queries.specs.Missing.{missing}
use Rattle.history.specs.Held.{limit_of}
use Rattle.history.specs.laws.Ready.{slots-sound}
use Rattle.history.specs.laws.State.{in-order-exactly}
use Rattle.history.specs.History.{Question, hand, drop, Collecting, Allowed, asking}
use Rattle.history.specs.laws.Call.{defined}
use Rattle.history.specs.State.{OfBytes, InOrder}
use Rattle.history.specs.Handed.{Handed, group, segment, by_itself, brought_in}
use Rattle.history.specs.laws.Reached.{reached-intact}
use Rattle.history.specs.Promise.{Run, reached_by, Passing}
use Rattle.history.specs.laws.Samples.{computing, small, allowed, pair, pair-allowed, body_last, header, read_as, one_cut, of-bytes-one}
use Rattle.history.specs.Taking.{take, address}

-- ---- an object of one segment: a header of 7 bytes and no body

abbrev pub core : List ℕ
core = 0x00 ∷ 0x00 ∷ 0x00 ∷ 0x00 ∷ 0x03 ∷ 0x84 ∷ 0x01 ∷ []

abbrev pub whole : Segment
whole = record { number = 0; last = true; bytes = core }

pub fits : Fits 1024 (whole ∷ []) []
unfolding body_size header_size
fits = record {
  header = core;
  body = [];
  object = record {
    header_low = omega arith;
    header_high = omega arith;
    body_high = omega arith;
    header_bytes =
        omega arith;
    body_bytes = tt;
    says_body = refl;
    says_header = refl;
  };
  header_cut = 16;
  body_cut = 16;
  header_cuts = record { low = omega arith; high = omega arith; enough = omega arith };
  body_cuts = record { low = omega arith; high = omega arith; enough = omega arith };
  header_sent = (inl (record { starts = omega arith; holds = refl; ends = refl }), tt);
  body_sent = tt;
}

done : Finished fits
unfolding fits
done = record {
  header = (whole_numbers core 16 (whole ∷ [])
      (inl (record { starts = omega arith; holds = refl; ends = refl }), tt)).1 number;
  body = whole-empty [] 16 [] refl;
}
  where
    number : (n : ℕ) → n * 16 < 7 → Numbered n (whole ∷ [])
    number zero h = inl refl
    number (suc n) h = absurd (omega arith)

-- where its segment is stored, it is finished
pub finished-core : (limit : ℕ) (hs bs : List Segment) → limit ≡ 1024 → hs ≡ whole ∷ [] → bs ≡ []
    → (f : Fits limit hs bs) × Finished f × (f.header ≡ core)
unfolding fits
finished-core limit hs bs l h b = rw (l, h, b) (fits, done, refl)

-- it sends the empty last segment of its body too
pub fits-empty : Fits 1024 (whole ∷ []) (cut.empty ∷ [])
unfolding fits
fits-empty = (either 1024 (whole ∷ []) fits refl).0

-- the object and its cut
unfoldable pub single : Source 1024
unfolding fits
single = record {
  header = core;
  body = [];
  object = fits.object;
  header_cut = 16;
  body_cut = 16;
  header_cuts =
      fits.header_cuts;
  body_cuts = fits.body_cuts;
  header_sent = tt;
  body_sent = tt;
}

-- ---- the groups

-- its one group, under number 5 and under number 6
abbrev pub five : List ℕ
five = 0x73 ∷ 0x00 ∷ 0x80 ∷ 0x00 ∷ 0x12 ∷ 0x00 ∷ 0x05 ∷ 0x00 ∷ 0x07 ∷ 0x00 ∷ 0x00 ∷ 0x00 ∷ 0x00 ∷ 0x03 ∷ 0x84 ∷ 0x01
    ∷ 0x69 ∷ 0x0F ∷ []

abbrev pub six : List ℕ
six = 0x73 ∷ 0x00 ∷ 0x80 ∷ 0x00 ∷ 0x12 ∷ 0x00 ∷ 0x06 ∷ 0x00 ∷ 0x07 ∷ 0x00 ∷ 0x00 ∷ 0x00 ∷ 0x00 ∷ 0x03 ∷ 0x84 ∷ 0x01
    ∷ 0xD8 ∷ 0xC0 ∷ []

-- the empty last segment of its body
abbrev pub empty_five : List ℕ
empty_five = 0x74 ∷ 0x00 ∷ 0x80 ∷ 0x00 ∷ 0x12 ∷ 0x00 ∷ 0x05 ∷ 0x00 ∷ 0x00 ∷ 0xD0 ∷ 0x69 ∷ []

-- a header segment of 6 bytes, whole
abbrev pub short : List ℕ
short = 0x73 ∷ 0x00 ∷ 0x80 ∷ 0x00 ∷ 0x12 ∷ 0x00 ∷ 0x05 ∷ 0x00 ∷ 0x06 ∷ 0x00 ∷ 0x00 ∷ 0x00 ∷ 0x00 ∷ 0x03 ∷ 0x84 ∷ 0xB9
    ∷ 0x16 ∷ []

-- an object of no body and of the name "a", under number 5 and under number 6
abbrev pub named_five : List ℕ
named_five = 0x73 ∷ 0x00 ∷ 0x80 ∷ 0x00 ∷ 0x12 ∷ 0x00 ∷ 0x05 ∷ 0x00 ∷ 0x0B ∷ 0x00 ∷ 0x00 ∷ 0x00 ∷ 0x00 ∷ 0x05 ∷ 0x84
    ∷ 0x01 ∷ 0xCC ∷ 0x02 ∷ 0x40 ∷ 0x61 ∷ 0xA9 ∷ 0x4F ∷ []

abbrev pub named_six : List ℕ
named_six = 0x73 ∷ 0x00 ∷ 0x80 ∷ 0x00 ∷ 0x12 ∷ 0x00 ∷ 0x06 ∷ 0x00 ∷ 0x0B ∷ 0x00 ∷ 0x00 ∷ 0x00 ∷ 0x00 ∷ 0x05 ∷ 0x84 ∷ 0x01
    ∷ 0xCC ∷ 0x02 ∷ 0x40 ∷ 0x61 ∷ 0x24 ∷ 0xEC ∷ []

-- the same with a body of 20 bytes
abbrev pub named_first : List ℕ
named_first = 0x73 ∷ 0x00 ∷ 0x80 ∷ 0x00 ∷ 0x12 ∷ 0x00 ∷ 0x05 ∷ 0x00 ∷ 0x0B ∷ 0x00 ∷ 0x00 ∷ 0x01 ∷ 0x40 ∷ 0x05 ∷ 0x84
    ∷ 0x01 ∷ 0xCC ∷ 0x02 ∷ 0x40 ∷ 0x61 ∷ 0xB4 ∷ 0xBC ∷ []

-- an object of no body whose name runs past the end of its header
abbrev pub broken : List ℕ
broken = 0x73 ∷ 0x00 ∷ 0x80 ∷ 0x00 ∷ 0x12 ∷ 0x00 ∷ 0x05 ∷ 0x00 ∷ 0x0B ∷ 0x00 ∷ 0x00 ∷ 0x00 ∷ 0x00 ∷ 0x05 ∷ 0x84 ∷ 0x01
    ∷ 0xCC ∷ 0x05 ∷ 0x40 ∷ 0x61 ∷ 0x2C ∷ 0xDF ∷ []

-- the segment of `five` again, with other indices and another repetition count and for some end user; and that group
-- with a bit turned over on the way
abbrev pub five_again : List ℕ
five_again = 0x73 ∷ 0x3A ∷ 0x80 ∷ 0x00 ∷ 0x14 ∷ 0x00 ∷ 0x05 ∷ 0xA1 ∷ 0xB2 ∷ 0xA0 ∷ 0x07 ∷ 0x00 ∷ 0x00 ∷ 0x00 ∷ 0x00
    ∷ 0x03 ∷ 0x84 ∷ 0x01 ∷ 0xD2 ∷ 0x0B ∷ []

abbrev pub five_spoilt : List ℕ
five_spoilt = 0x73 ∷ 0x3A ∷ 0x80 ∷ 0x00 ∷ 0x14 ∷ 0x00 ∷ 0x05 ∷ 0xA1 ∷ 0xB2 ∷ 0xA0 ∷ 0x07 ∷ 0x00 ∷ 0x00 ∷ 0x00 ∷ 0x00
    ∷ 0x03 ∷ 0x84 ∷ 0x00 ∷ 0xD2 ∷ 0x0B ∷ []

abbrev pub read_again : Carried
read_again = record {
  heard = record { number = 5; part = Header; segment = 0 };
  last = true;
  bytes = record { start = 11; length = 7 };
  repetition = record { index = 10; continuity = 3; count = 5 };
  address = record { start = 7; length = 2 };
}

pub sent-again : SameButIgnored five five_again × (check_holds five_again ≡ true) × Bytes five_again
unfolding computing
sent-again = (
  record {
    flags = refl;
    last = refl;
    number = refl;
    addressed = refl;
    indicated = omega arith;
    transport = refl;
    size = refl;
    bytes = refl;
    long = refl;
  },
  refl,
  omega arith,
)

-- a group of another kind, its check word wrong
abbrev pub other_kind : List ℕ
other_kind = 0x75 ∷ 0x00 ∷ 0x15 ∷ 0x5D ∷ []

pub reads : (reading_of five ≡ Ok (read_as 5 Header 0 true 7)) × (reading_of six ≡ Ok (read_as 6 Header 0 true 7))
    × (reading_of short ≡ Ok (read_as 5 Header 0 true 6)) × (reading_of body_last ≡ Ok (read_as 5 Body 1 true 4))
    × (reading_of empty_five ≡ Ok (read_as 5 Body 0 true 0)) × (reading_of five_again ≡ Ok read_again)
unfolding computing
reads = (refl, refl, refl, refl, refl, refl)

abbrev passing : (bytes : List ℕ) (carried : Carried) → Bytes bytes → reading_of bytes ≡ Ok carried → Passing
passing bytes carried y e = record {
  given = group bytes;
  are_bytes = y;
  arrived = arrival_in bytes carried;
  brought = ap (λ (r : Result Carried Refusal). brought_in r bytes) e;
}

unfoldable pub group_five : Passing
group_five = passing five (read_as 5 Header 0 true 7) (omega arith) reads.0

unfoldable pub group_six : Passing
group_six = passing six (read_as 6 Header 0 true 7) (omega arith) reads.1

unfoldable pub group_short : Passing
group_short = passing short (read_as 5 Header 0 true 6) (omega arith) reads.2

unfoldable pub group_last : Passing
group_last = passing body_last (read_as 5 Body 1 true 4) (omega arith) reads.3

unfoldable pub group_empty : Passing
group_empty = passing empty_five (read_as 5 Body 0 true 0) (omega arith) reads.4

unfoldable pub group_again : Passing
group_again = passing five_again read_again sent-again.2 reads.5

-- ---- the runs, in one slot

abbrev pub none : Run
none = record { start = small; allowed = allowed; calls = []; bytes = tt }

abbrev pub one : Run
one = record { start = small; allowed = allowed; calls = hand (group five) ∷ []; bytes = (omega arith, tt) }

abbrev pub two : Run
two = record {
  start = small;
  allowed = allowed;
  calls = hand (group six) ∷ hand (group five) ∷ [];
  bytes =
      (omega arith, (omega arith, tt));
}

-- a drop, and a group after it
abbrev pub dropped : Run
dropped = record {
  start = small;
  allowed = allowed;
  calls = drop 5 ∷ hand (group five) ∷ [];
  bytes =
      (tt, (omega arith, tt));
}

abbrev pub again : Run
again = record {
  start = small;
  allowed = allowed;
  calls = hand (group six) ∷ drop 5 ∷ hand (group five) ∷ [];
  bytes =
      (omega arith, (tt, (omega arith, tt)));
}

-- document 01's example
abbrev pub many : Run
many = record { start = small; allowed = allowed; calls = one_cut; bytes = of-bytes-one }

-- a header whose body is not in, and one with a name
abbrev pub waiting : Run
waiting = record { start = small; allowed = allowed; calls = hand (group header) ∷ []; bytes = (omega arith, tt) }

abbrev pub named_waiting : Run
named_waiting = record {
  start = small;
  allowed = allowed;
  calls = hand (group named_first) ∷ [];
  bytes =
      (omega arith, tt);
}

-- a finished object with a name, and one with a broken list of parameters
abbrev pub named : Run
named = record { start = small; allowed = allowed; calls = hand (group named_five) ∷ []; bytes = (omega arith, tt) }

abbrev pub spoilt : Run
spoilt = record { start = small; allowed = allowed; calls = hand (group broken) ∷ []; bytes = (omega arith, tt) }

-- an opening with counts from before
abbrev used : Start
used = record {
  limit = small.limit;
  count = small.count;
  counts =
      record { taken = 3; repeated = 0; refused = 0; completed = 0; dropped = 0 };
  stores = small.stores;
}

abbrev pub later : Run
later = record {
  start = used;
  allowed = record { limits = allowed.limits; bytes = allowed.bytes };
  calls = [];
  bytes = tt;
}

-- an opening with bytes from before in its stores
unfoldable pub worn : Start
worn = record {
  limit = 1024;
  count = 1;
  counts = none_yet;
  stores = record { header = replicate 1024 7; body = replicate 1024 7; marks = replicate 1088 7 };
}

bytes-sevens : (n : ℕ) → Bytes (replicate n 7)
bytes-sevens zero = tt
bytes-sevens (suc n) = (omega arith, bytes-sevens n)

pub worn-allowed : Allowed worn
unfolding worn
worn-allowed = record {
  limits = record {
    header = refl;
    body = refl;
    marks = refl;
    least = omega arith;
    most = omega arith;
    some =
        omega arith;
    slots = omega arith;
  };
  bytes = record { header = bytes-sevens 1024; body = bytes-sevens 1024 };
}

abbrev pub worn_one : Run
worn_one = record { start = worn; allowed = worn-allowed; calls = hand (group five) ∷ []; bytes = (omega arith, tt) }

-- ---- the runs, in two slots

abbrev pub empty : Run
empty = record { start = pair; allowed = pair-allowed; calls = []; bytes = tt }

abbrev pub twice : Run
twice = record {
  start = pair;
  allowed = pair-allowed;
  calls = hand (group five) ∷ hand (group five) ∷ [];
  bytes =
      (omega arith, (omega arith, tt));
}

-- one name twice, the higher number in the first slot
abbrev pub crossed : Run
crossed = record {
  start = pair;
  allowed = pair-allowed;
  calls = hand (group named_five) ∷ hand (group named_six) ∷ [];
  bytes =
      (omega arith, (omega arith, tt));
}

-- ---- a state, or what is lent, with one thing replaced

abbrev pub with_counts : Counts → State → State
with_counts counts s = record { collector = s.collector; counts = counts; stores = s.stores }

abbrev pub with_stores : Stores → State → State
with_stores stores s = record { collector = s.collector; counts = s.counts; stores = stores }

abbrev pub with_header : List ℕ → Stores → Stores
with_header header stores = record { header = header; body = stores.body; marks = stores.marks }

abbrev pub with_body : List ℕ → Stores → Stores
with_body body stores = record { header = stores.header; body = body; marks = stores.marks }

abbrev pub with_marks : List ℕ → Stores → Stores
with_marks marks stores = record { header = stores.header; body = stores.body; marks = marks }

-- ---- states that no run reaches: what a run has left, with other counts

pub recounted-bytes : (r : Run) → OfBytes (reached_by defined r).stores
recounted-bytes r = (reached-intact r.start r.allowed r.calls r.bytes).bytes

-- a state with any counts within the bounds is not damaged
pub recounted : (r : Run) (counts : Counts) → within counts ≡ true → InOrder (with_counts counts (reached_by defined r))
unfolding sound
recounted r counts w =
    let s : State = reached_by defined r in
    let slots = slots-sound s (reached-intact r.start r.allowed r.calls r.bytes).undamaged in
    (in-order-exactly (with_counts counts s) (recounted-bytes r)).0
    (true-both (sound_slots (limit_of s) s.collector.count s.collector.slots s.stores) (within counts) slots w)

-- a finished object, with a count above the ceiling: damaged
abbrev pub damaged : State
damaged = with_counts (record { taken = suc ceiling; repeated = 0; refused = 0; completed = 0; dropped = 0 })
    (reached_by defined one)

pub is-damaged : ¬ (InOrder damaged)
is-damaged w = absurd (omega (arith, w.counts.taken))

-- with more completed and more dropped than taken: not damaged
abbrev pub uneven : Counts
uneven = record { taken = 0; repeated = 0; refused = 0; completed = 1; dropped = 1 }

abbrev pub doubted : State
doubted = with_counts uneven (reached_by defined one)

-- ---- what tells two answers apart: the number of a refusal, 0 where there is none; the length that a header says; the
-- slot that is found

abbrev pub opening_number : Result ⊤ Reason → ℕ
opening_number (Ok unit) = 0
opening_number (Err why) = number_of (Answer.Denied why)

abbrev pub located_number : Result ℕ Reason → ℕ
located_number (Ok i) = 0
located_number (Err why) = number_of (Answer.Denied why)

abbrev pub asked_number : Result Fields Reason → ℕ
asked_number (Ok fields) = 0
asked_number (Err why) = number_of (Answer.Denied why)

abbrev pub asked_length : Result Fields Reason → ℕ
asked_length (Ok fields) = fields.header_size
asked_length (Err why) = 0

abbrev pub sought_number : Result ℕ Reason → ℕ
sought_number (Ok number) = 0
sought_number (Err why) = number_of (Answer.Denied why)

-- by a number: what is still to come and 100, so that none and unknown differ, or the number of the refusal
abbrev amount_number : Option ℕ → ℕ
amount_number None = 99
amount_number (Some bytes) = 100 + bytes

abbrev pub awaited_number : Result (Option ℕ) Reason → ℕ
awaited_number (Ok amount) = amount_number amount
awaited_number (Err why) = number_of (Answer.Denied why)

abbrev pub found_slot : Option ℕ → ℕ
found_slot None = slots_most
found_slot (Some i) = i

-- ---- the collector's own definitions with one piece replaced

-- groups are taken otherwise, and segments as they are
abbrev pub grouped : (List ℕ → State → Reply) → Handed → State → Reply
grouped takes (group bytes) s = takes bytes s
grouped takes (segment heard last bytes) s = take_segment (by_itself heard last bytes) s

-- a call
abbrev calling : (Start → Opened) → (Handed → State → Reply) → (ℕ → State → Reply) → Collecting
calling opens takes drops = record {
  opens = opens;
  takes = takes;
  drops = drops;
  locates = locate;
  shows = show;
  tells = queries.parameters;
  names = queries.name;
  finds = queries.find;
  awaits = missing;
  addresses = address;
  asks = asking;
}

abbrev pub opening_by : (Start → Opened) → Collecting
opening_by opens = calling opens take drop_number

abbrev pub taking_by : (List ℕ → State → Reply) → Collecting
taking_by takes = calling open_with (grouped takes) drop_number

abbrev pub dropping_by : (ℕ → State → Reply) → Collecting
dropping_by drops = calling open_with take drops

-- a question
abbrev questioning : (ℕ → State → Result ℕ Reason) → (ℕ → Part → State → List ℕ)
    → (ℕ → State → Result Fields Reason) → (ℕ → State → List ℕ) → (List ℕ → State → Result ℕ Reason)
    → (ℕ → State → Result (Option ℕ) Reason) → (List ℕ → State → List ℕ) → (Question → State → State)
    → Collecting
questioning locates shows tells names finds awaits addresses asks = record {
  opens = open_with;
  takes = take;
  drops = drop_number;
  locates = locates;
  shows = shows;
  tells = tells;
  names = names;
  finds = finds;
  awaits = awaits;
  addresses = addresses;
  asks = asks;
}

abbrev pub locating_by : (ℕ → State → Result ℕ Reason) → Collecting
locating_by locates = questioning locates show queries.parameters queries.name queries.find missing address asking

abbrev pub showing_by : (ℕ → Part → State → List ℕ) → Collecting
showing_by shows = questioning locate shows queries.parameters queries.name queries.find missing address asking

abbrev pub telling_by : (ℕ → State → Result Fields Reason) → Collecting
telling_by tells = questioning locate show tells queries.name queries.find missing address asking

abbrev pub naming_by : (ℕ → State → List ℕ) → Collecting
naming_by names = questioning locate show queries.parameters names queries.find missing address asking

abbrev pub finding_by : (List ℕ → State → Result ℕ Reason) → Collecting
finding_by finds = questioning locate show queries.parameters queries.name finds missing address asking

abbrev pub awaiting_by : (ℕ → State → Result (Option ℕ) Reason) → Collecting
awaiting_by awaits =
    questioning locate show queries.parameters queries.name queries.find awaits address asking

abbrev pub addressing_by : (List ℕ → State → List ℕ) → Collecting
addressing_by addresses =
    questioning locate show queries.parameters queries.name queries.find missing addresses asking

abbrev pub asking_by : (Question → State → State) → Collecting
asking_by asks = questioning locate show queries.parameters queries.name queries.find missing address asks
