-- What holds of every group that is read: its bytes lie inside the group, within document 01's bounds, and what
-- document 01 ignores plays no part.
use Rattle.std.specs.Prelude.{◌≡◌, refl, Bool, true, false, not, ◌||◌, ◌&&◌, Option, Some, None, Result, Ok, Err, List, [], ℕ, zero, suc, ◌+◌, ◌-◌, ◌*◌, ◌≤◌, ◌<◌, length, take, drop, eqb, ltb}
use Rattle.std.proofs.Common.{sym, ap, ◌∙◌, subst, arith, ltb-false, le-ltb, eqb-true}
use Rattle.std.proofs.Math.Bool.{or-false, or_assoc, or_comm}
use Rattle.std.proofs.lemmas.Bool.{not-false, or_parts}
use Rattle.answer.specs.declared.Part.{Part}
use Rattle.answer.specs.declared.Part.TheVariants.{Header, Body}
use Rattle.answer.specs.declared.Refusal.{Refusal}
use Rattle.wire.specs.declared.Carried.{Carried}
use Rattle.wire.specs.Wire.{group_least, group_most, segment_least, segment_most, full_least, check_bytes, byte_at, crc_flag, segment_flag, user_access_flag, type_number, last_flag, segment_number, user_access, transport_flag, length_indicator, segmentation_header, segment_size, segment_start, check_start, end_user_address, end_user_address_length}
use Rattle.wire.specs.Ignored.{SameButIgnored, SameSegment}
use Rattle.wire.specs.Reading.{◌if◌otherwise◌, kind_of, check_holds, least_size, size_wrong, repetition_in, segment_of, carried_by, reading_of, address_of}

-- ---- a group is read exactly when it passes every check

-- what a group has passed that carries a segment of a part
pub record Passes (group : List ℕ) (part : Part) : Type 0 where
  pub bounded : (ltb (length group) group_least || ltb group_most (length group)) ≡ false
  pub checked : eqb (crc_flag group) 0 ≡ false
  pub headed : ltb (length group) 4 ≡ false
  pub holds : check_holds group ≡ true
  pub kind : kind_of (type_number group) ≡ Some part
  pub flagged : (eqb (segment_flag group) 0 || eqb (user_access_flag group) 0) ≡ false
  pub accessed : ltb (check_start group) (user_access group + 1) ≡ false
  pub addressed : (eqb (transport_flag group) 0 || ltb (length_indicator group) 2) ≡ false
  pub segmented : ltb (check_start group) (segment_start group) ≡ false
  pub sized : size_wrong (least_size part (segment_number group) (last_flag group)) (segment_size group)
      (check_start group - segment_start group) ≡ false

passed : (refusal : Refusal) (test : Bool) (next : Result Carried Refusal) (segment : Carried)
    → (refusal if test otherwise next) ≡ Ok segment → (test ≡ false) × (next ≡ Ok segment)
passed refusal true next segment e = absurd (cc)
passed refusal false next segment e = (refl, e)

carried-part : (kind : Option Part) (next : Part → Result Carried Refusal) (segment : Carried)
    → carried_by kind next ≡ Ok segment → (part : Part) × (kind ≡ Some part) × (next part ≡ Ok segment)
carried-part (Some part) next segment e = (part, refl, e)
carried-part None next segment e = absurd (cc)

pub read-passes : (group : List ℕ) (segment : Carried) → reading_of group ≡ Ok segment → (part : Part)
    × Passes group part × (segment_of group part ≡ segment)
unfolding reading_of
read-passes group segment e =
    let bounded = passed _ _ _ segment e in
    let checked = passed _ _ _ segment bounded.1 in
    let headed = passed _ _ _ segment checked.1 in
    let holds = passed _ _ _ segment headed.1 in
    let kind = carried-part _ _ segment holds.1 in
    let flagged = passed _ _ _ segment kind.2 in
    let accessed = passed _ _ _ segment flagged.1 in
    let addressed = passed _ _ _ segment accessed.1 in
    let segmented = passed _ _ _ segment addressed.1 in
    let sized = passed _ _ _ segment segmented.1 in
    let passes : Passes group kind.0 = record {
      bounded = bounded.0;
      checked = checked.0;
      headed = headed.0;
      holds = not-false (check_holds group) holds.0;
      kind = kind.1;
      flagged = flagged.0;
      accessed = accessed.0;
      addressed = addressed.0;
      segmented = segmented.0;
      sized = sized.0;
    } in
    let same : ◌≡◌ {A = Result Carried Refusal} (Ok (segment_of group kind.0)) (Ok segment) = sized.1 in
    (kind.0, passes, cc)

pub passes-read : (group : List ℕ) (part : Part) → Passes group part → reading_of group ≡ Ok (segment_of group part)
unfolding reading_of
passes-read group part p = rw (
  p.bounded,
  p.checked,
  p.headed,
  p.holds,
  p.kind,
  p.flagged,
  p.accessed,
  p.addressed,
  p.segmented,
  p.sized,
)

-- ---- where the bytes lie

-- the segment's bytes: between the segmentation header and the check word, up to 8,189 of them, at least 16 where the
-- segment is not the last one, and none only where it is number 0 of a body, and the last one
pub record Inside (group : List ℕ) (segment : Carried) : Type 0 where
  pub ends : segment.bytes.start + segment.bytes.length + check_bytes ≡ length group
  pub most : segment.bytes.length ≤ segment_most
  pub enough : segment.last ≡ false → full_least ≤ segment.bytes.length
  pub empty : segment.bytes.length ≡ 0 → (segment.heard.part ≡ Body) × (segment.heard.segment ≡ 0)
      × (segment.last ≡ true)
  pub whole : length group ≤ group_most
  -- the end user address: between the transport number and the segmentation header, up to 13 bytes
  pub address : segment.address.start + segment.address.length + 2 ≡ segment.bytes.start
  pub short : segment.address.length ≤ 13

size-right : (least size left : ℕ) → size_wrong least size left ≡ false → (size ≡ left) × (least ≤ size)
    × (size ≤ segment_most)
unfolding size_wrong
size-right least size left e =
    let most = or_parts _ (ltb segment_most size) e in
    let equal = or_parts (ltb size least) _ most.0 in
    let same : size ≡ left = eqb-true size left (not-false (eqb size left) equal.1) in
    (same, ltb-false size least equal.0, ltb-false _ size most.1)

long-enough : (part : Part) (number : ℕ) (last : Bool) (size : ℕ) → least_size part number last ≤ size → last ≡ false
    → full_least ≤ size
long-enough part number true size h f = absurd (cc)
long-enough Header number false size h f = h
long-enough Body number false size h f = h

empty-only : (part : Part) (number : ℕ) (last : Bool) (size : ℕ) → least_size part number last ≤ size → size ≡ 0
    → (part ≡ Body) × (number ≡ 0) × (last ≡ true)
empty-only Header number true size h z = absurd (omega arith)
empty-only Header number false size h z = absurd (omega arith)
empty-only Body zero true size h z = (refl, refl, refl)
empty-only Body (suc number) true size h z = absurd (omega arith)
empty-only Body zero false size h z = absurd (omega arith)
empty-only Body (suc number) false size h z = absurd (omega arith)

-- NOTHING CHANGES for a size field that is not 0: it is wrong where document 01 says
pub size-as-before : (part : Part) (number : ℕ) (last : Bool) (size left : ℕ) → segment_least ≤ size
    → size_wrong (least_size part number last) size left
    ≡ (ltb size segment_least || not (eqb size left) || ltb segment_most size || (not last && ltb size full_least))
unfolding size_wrong
size-as-before part number last size left h = go part number last
  where
    first : ltb size segment_least ≡ false
    first = le-ltb size segment_least h

    short : (a b c : Bool) → (c || a || b) ≡ (a || b || c)
    short a b c = or_assoc c a b ∙ or_comm c (a || b)

    go : (part : Part) (number : ℕ) (last : Bool)
        → (ltb size (least_size part number last) || not (eqb size left) || ltb segment_most size)
        ≡ (ltb size segment_least || not (eqb size left) || ltb segment_most size || (not last && ltb size full_least))
    go Header number false = rw first (short (not (eqb size left)) (ltb segment_most size) (ltb size full_least))
    go Body number false = rw first (short (not (eqb size left)) (ltb segment_most size) (ltb size full_least))
    go Header number true = rw first (simp or-false)
    go Body (suc number) true = rw first (simp or-false)
    go Body zero true = rw (first, le-ltb size 0 (omega arith)) (simp or-false)

inside-passes : (group : List ℕ) (part : Part) → Passes group part → Inside group (segment_of group part)
unfolding segment_of
inside-passes group part p =
    let size = size-right (least_size part (segment_number group) (last_flag group)) (segment_size group)
    (check_start group - segment_start group) p.sized in
    let whole : group_least ≤ length group = ltb-false (length group) group_least (or_parts _ _ p.bounded).0 in
    let starts : segment_start group ≤ check_start group =
    ltb-false (check_start group) (segment_start group) p.segmented in
    let indicated : 2 ≤ length_indicator group =
    ltb-false (length_indicator group) 2 (or_parts (eqb (transport_flag group) 0) _ p.addressed).1 in
    record {
      ends = omega (arith, size.0);
      most = size.2;
      enough = long-enough part (segment_number group) (last_flag group) (segment_size group) size.1;
      empty = empty-only part (segment_number group) (last_flag group) (segment_size group) size.1;
      whole = ltb-false group_most (length group) (or_parts (ltb (length group) group_least) _ p.bounded).1;
      address = omega (arith, indicated);
      short = omega arith;
    }

pub inside : (group : List ℕ) (segment : Carried) → reading_of group ≡ Ok segment → Inside group segment
inside group segment e =
    let read = read-passes group segment e in
    subst (Inside group) read.2 (inside-passes group read.0 read.1)

-- ---- how large the numbers are

-- a transport number has 16 bits, a segment number 15, each index four and the repetition count three
pub record Narrow (carried : Carried) : Type 0 where
  pub number : carried.heard.number < 0x10000
  pub segment : carried.heard.segment < 0x8000
  pub index : carried.repetition.index < 0x10
  pub continuity : carried.repetition.continuity < 0x10
  pub count : carried.repetition.count < 8

word_low : (a b : ℕ) → a < 0x100 → b < 0x100 → a * 0x100 + b < 0x10000
word_low a b h g = omega arith

narrow-read : (group : List ℕ) (part : Part) → ((at : ℕ) → byte_at group at < 0x100) → Narrow (segment_of group part)
unfolding segment_of
narrow-read group part low = record {
  number = word_low (byte_at group (user_access group + 1)) _ (low (user_access group + 1)) (low (user_access group + 1 + 1));
  segment = omega arith;
  index = omega arith;
  continuity = omega (arith, low 1);
  count = omega (
    arith,
    word_low (byte_at group (segmentation_header group)) _ (low (segmentation_header group))
        (low (segmentation_header group + 1)),
  );
}

-- of a group of bytes
pub narrow : (group : List ℕ) (carried : Carried) → ((at : ℕ) → byte_at group at < 0x100)
    → reading_of group ≡ Ok carried → Narrow carried
narrow group carried low e =
    let read = read-passes group carried e in
    subst Narrow read.2 (narrow-read group read.0 low)

-- ---- what is ignored

-- the other group passes every check too: it is long enough for its own address, and no longer than a group may be
same-passes : (group other : List ℕ) (part : Part) → SameButIgnored group other → byte_at other 0 < 0x100
    → check_holds other ≡ true → Passes group part → Passes other part
same-passes group other part same byte holds p =
    let size = size-right (least_size part (segment_number group) (last_flag group)) (segment_size group)
    (check_start group - segment_start group) p.sized in
    let whole : group_least ≤ length group = ltb-false (length group) group_least (or_parts _ _ p.bounded).0 in
    let starts : segment_start group ≤ check_start group =
    ltb-false (check_start group) (segment_start group) p.segmented in
    let left : check_start other - segment_start other ≡ check_start group - segment_start group =
    omega (arith, whole, starts, same.flags, same.long) in
    record {
      bounded = rw (
        le-ltb (length other) group_least (omega (arith, whole, starts, same.flags, same.long)),
        le-ltb group_most (length other) (omega (arith, whole, starts, size.0, size.2, same.flags, same.long, byte)),
      ) refl;
      checked = cc;
      headed = le-ltb (length other) 4 (omega (arith, whole, starts, same.flags, same.long));
      holds = holds;
      kind = cc;
      flagged = cc;
      accessed = le-ltb (check_start other) (user_access other + 1)
          (omega (arith, whole, starts, same.flags, same.long));
      addressed = rw (
        same.addressed,
        (or_parts (eqb (transport_flag group) 0) (ltb (length_indicator group) 2) p.addressed).0,
        le-ltb (length_indicator other) 2 same.indicated,
      ) refl;
      segmented = le-ltb (check_start other) (segment_start other)
          (omega (arith, whole, starts, same.flags, same.long));
      sized = rw (same.number, same.last, same.size, left) p.sized;
    }

same-carried : (group other : List ℕ) (part : Part) → SameButIgnored group other
    → SameSegment group (segment_of group part) other (segment_of other part)
unfolding segment_of
same-carried group other part same = record {
  heard = rw (same.transport, same.number) refl;
  last = same.last;
  bytes = rw same.size same.bytes;
}

-- THE SAME SEGMENT: the other group, with a check word of its own that holds, is read too, and carries it
pub ignored : (group other : List ℕ) (carried : Carried) → SameButIgnored group other → byte_at other 0 < 0x100
    → check_holds other ≡ true → reading_of group ≡ Ok carried
    → (again : Carried) × (reading_of other ≡ Ok again) × SameSegment group carried other again
ignored group other carried same byte holds e =
    let read = read-passes group carried e in
    let passes = same-passes group other read.0 same byte holds read.1 in (
      segment_of other read.0,
      passes-read other read.0 passes,
      subst (λ (c : Carried). SameSegment group c other (segment_of other read.0)) read.2
          (same-carried group other read.0 same),
    )

-- what the sender meant by a repeat is told as it stands in the group
pub read-repetition : (group : List ℕ) (carried : Carried) → reading_of group ≡ Ok carried
    → carried.repetition ≡ repetition_in group
unfolding segment_of
read-repetition group carried e =
    subst (λ (c : Carried). c.repetition ≡ repetition_in group) (read-passes group carried e).2 refl

-- and the end user address is what stands there; a group that is not read has none
pub address-exactly : (group : List ℕ)
    → ((carried : Carried) → reading_of group ≡ Ok carried
    → address_of group ≡ take (end_user_address_length group) (drop (end_user_address group) group))
    × ((why : Refusal) → reading_of group ≡ Err why → address_of group ≡ [])
unfolding address_of segment_of
address-exactly group = (
  (λ carried e. rw (e ∙ ap Ok (sym (read-passes group carried e).2)) refl),
  (λ why e. rw e refl),
)
