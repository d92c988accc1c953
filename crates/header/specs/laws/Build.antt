-- A header built from a list of well-formed parameters, and that it reads back as that list.
use Rattle.std.specs.Prelude.{◌≡◌, refl, List, [], ◌∷◌, ◌++◌, map, Some, ℕ, ◌+◌, ◌*◌, ◌/◌, ◌%◌, ◌<◌, take, drop}
use Rattle.std.proofs.Common.{sym, ap, ◌∙◌, append_assoc, append-nil, zero-add, length-append, take_at, drop_at}
use native.Mathlib.Omega.{arith}
use borrow.Author.Tests.{lt-ltb, le-ltb}
use Rattle.std.proofs.Math.ListN.{length}
use Rattle.std.proofs.Math.Seq.{get_or-append-add, get_or-append_seam}
use Rattle.header.specs.declared.Parameter.{Parameter}
use Rattle.header.specs.Parameters.{length_at, by_code, parameter_at, found_at, listed, put, parameters_from, parameters}
use Rattle.header.specs.laws.Parameters.{within-is, from_end, from_step}

-- ---- the builder

-- how the length is written: code 0, 1 or 2, or code 3 with one byte of length or two
pub data Form : Type 0 where
  bare : Form
  byte : Form
  word : Form
  short : Form
  long : Form

-- a parameter to be written
pub record Item : Type 0 where
  pub form : Form
  pub identifier : ℕ
  pub bytes : List ℕ

-- the bytes before the data
abbrev pub lead : Form → ℕ → ℕ → List ℕ
lead bare i n = i ∷ []
lead byte i n = (64 + i) ∷ []
lead word i n = (128 + i) ∷ []
lead short i n = (192 + i) ∷ n ∷ []
lead long i n = (192 + i) ∷ (128 + n / 256) ∷ (n % 256) ∷ []

-- how much data a form can have
abbrev pub Holds : Form → ℕ → Type 0
Holds bare n = n ≡ 0
Holds byte n = n ≡ 1
Holds word n = n ≡ 4
Holds short n = n < 128
Holds long n = n < 32768

pub record WellFormed (i : Item) : Type 0 where
  pub named : i.identifier < 64
  pub holds : Holds i.form (length i.bytes)

abbrev pub AllWellFormed : List Item → Type 0
AllWellFormed [] = Unit {0}
AllWellFormed (i ∷ is) = WellFormed i × AllWellFormed is

abbrev pub lead_of : Item → List ℕ
lead_of i = lead i.form i.identifier (length i.bytes)

unfoldable pub written : Item → List ℕ
written i = lead_of i ++ i.bytes

unfoldable pub written_all : List Item → List ℕ
written_all [] = []
written_all (i ∷ is) = written i ++ written_all is

-- the core, and each parameter after it
unfoldable pub built : List ℕ → List Item → List ℕ
built core is = core ++ written_all is

-- where a parameter stands that is written at `at`
unfoldable pub place : ℕ → Item → Parameter
place at i = record { identifier = i.identifier; start = at + length (lead_of i); size = length i.bytes }

unfoldable pub places : ℕ → List Item → List Parameter
places at [] = []
places at (i ∷ is) = place at i ∷ places (at + length (written i)) is

-- ---- one parameter reads back

record_is : (i : ℕ) {a b n m : ℕ} → a ≡ b → n ≡ m → ◌≡◌ {A = Parameter} (record { identifier = i; start = a; size = n })
    (record { identifier = i; start = b; size = m })
record_is i e f = λ j. record { identifier = i; start = e j; size = f j }

module _ (front : List ℕ) (k : ℕ) (h : k < 64) (bs : List ℕ) where
  -- the first byte has the code and the identifier
  code_reads : (c : ℕ) (ys : List ℕ) → c < 4 → parameter_at (front ++ ((c * 64 + k) ∷ ys)) (length front)
      ≡ by_code (front ++ ((c * 64 + k) ∷ ys)) (length front) c k
  unfolding parameter_at
  code_reads c ys g =
      let q : (c * 64 + k) / 64 ≡ c = omega arith in
      let r : (c * 64 + k) % 64 ≡ k = omega arith in
      rw (get_or-append_seam front (c * 64 + k) ys 0, q, r)

  short-reads : length bs < 128 → (b : ℕ) (ys : List ℕ) → length_at (front ++ (b ∷ length bs ∷ ys)) k (length front + 1)
      ≡ record { identifier = k; start = length front + 2; size = length bs }
  unfolding length_at
  short-reads g b ys =
      rw (get_or-append-add front (b ∷ length bs ∷ ys) 1 0, lt-ltb (length bs) 128 g) (record_is k (omega arith) refl)

  long-reads : length bs < 32768 → (b : ℕ) (ys : List ℕ)
      → length_at (front ++ (b ∷ (128 + length bs / 256) ∷ (length bs % 256) ∷ ys)) k (length front + 1)
      ≡ record { identifier = k; start = length front + 3; size = length bs }
  unfolding length_at
  long-reads g b ys =
      let n = length bs in
      let e : length front + 1 + 1 ≡ length front + 2 = omega arith in
      let a = get_or-append-add front (b ∷ (128 + n / 256) ∷ (n % 256) ∷ ys) 1 0 in
      let d = get_or-append-add front (b ∷ (128 + n / 256) ∷ (n % 256) ∷ ys) 2 0 in
      rw (a, le-ltb (128 + n / 256) 128 (omega arith), e, d) (record_is k (omega arith) (omega arith))

  form-reads : (f : Form) → Holds f (length bs) → (rest : List ℕ)
      → parameter_at (front ++ ((lead f k (length bs) ++ bs) ++ rest)) (length front)
      ≡ record { identifier = k; start = length front + length (lead f k (length bs)); size = length bs }
  form-reads bare e rest = rw zero-add at (code_reads 0 (bs ++ rest) (omega arith)) ∙ record_is k refl (sym e)
  form-reads byte e rest = code_reads 1 (bs ++ rest) (omega arith) ∙ record_is k refl (sym e)
  form-reads word e rest = code_reads 2 (bs ++ rest) (omega arith) ∙ record_is k refl (sym e)
  form-reads short e rest = code_reads 3 (length bs ∷ (bs ++ rest)) (omega arith) ∙ short-reads e (192 + k) (bs ++ rest)
  form-reads long e rest = code_reads 3 ((128 + length bs / 256) ∷ (length bs % 256) ∷ (bs ++ rest)) (omega arith)
      ∙ long-reads e (192 + k) (bs ++ rest)

lead-some : (f : Form) (i n : ℕ) → 0 < length (lead f i n)
lead-some bare i n = omega arith
lead-some byte i n = omega arith
lead-some word i n = omega arith
lead-some short i n = omega arith
lead-some long i n = omega arith

written-length : (i : Item) → length (written i) ≡ length (lead_of i) + length i.bytes
unfolding written
written-length i = length-append (lead_of i) i.bytes

module _ (front : List ℕ) (i : Item) (w : WellFormed i) (rest : List ℕ) where
  whole_length : length (front ++ (written i ++ rest))
      ≡ length front + (length (lead_of i) + length i.bytes + length rest)
  whole_length = rw (length-append, length-append, written-length)

  found-written : found_at (front ++ (written i ++ rest)) (length front) ≡ Some (place (length front) i)
  unfolding found_at written place
  found-written =
      rw (form-reads front i.identifier w.named i.bytes i.form w.holds rest)
      (within-is _
      (record { identifier = i.identifier; start = length front + length (lead_of i); size = length i.bytes })
      (omega (arith, whole_length)))

place_end : (at : ℕ) (i : Item) → (place at i).start + (place at i).size ≡ at + length (written i)
unfolding place
place_end at i = omega (arith, written-length i)

place-said : (front : List ℕ) (i : Item) (rest : List ℕ)
    → take (place (length front) i).size (drop (place (length front) i).start (front ++ (written i ++ rest)))
    ≡ i.bytes
unfolding place written
place-said front i rest =
    let d : drop (length front + length (lead_of i)) ((front ++ lead_of i) ++ (i.bytes ++ rest)) ≡ i.bytes ++ rest =
    drop_at (front ++ lead_of i) (i.bytes ++ rest) (length front + length (lead_of i))
    (length-append front (lead_of i)) in
    rw (append_assoc (lead_of i), ← append_assoc front, d) (take_at i.bytes rest (length i.bytes) refl)

-- ---- the list reads back

written-lists : (front : List ℕ) (is : List Item) → AllWellFormed is → parameters_from (front ++ written_all is)
    (length front) ≡ listed (places (length front) is)
unfolding written_all places
written-lists front [] w = from_end (front ++ []) (length front) (rw append-nil (omega arith))
written-lists front (i ∷ is) w =
    let more : length front < length (front ++ (written i ++ written_all is)) =
    omega (
      arith,
      whole_length front i w.0 (written_all is),
      lead-some i.form i.identifier (length i.bytes),
    ) in
    let next : parameters_from (front ++ (written i ++ written_all is)) (length front + length (written i))
    ≡ listed (places (length front + length (written i)) is) =
    rw (append_assoc, length-append) at (written-lists (front ++ written i) is w.1) in
    from_step (front ++ (written i ++ written_all is)) (length front) more
    ∙ rw (found-written front i w.0 (written_all is), place_end (length front) i)
    (ap (put (place (length front) i)) next)

-- what a parameter says: its identifier and its data
abbrev pub said : List ℕ → Parameter → record { identifier : ℕ; bytes : List ℕ }
said h p = record { identifier = p.identifier; bytes = take p.size (drop p.start h) }

abbrev pub meant : Item → record { identifier : ℕ; bytes : List ℕ }
meant i = record { identifier = i.identifier; bytes = i.bytes }

said-place : (front : List ℕ) (i : Item) (rest : List ℕ) → said (front ++ (written i ++ rest)) (place (length front) i)
    ≡ meant i
unfolding place
said-place front i rest = λ j. record { identifier = i.identifier; bytes = place-said front i rest j }

written-said : (front : List ℕ) (is : List Item) → map (said (front ++ written_all is)) (places (length front) is)
    ≡ map meant is
unfolding written_all places
written-said front [] = refl
written-said front (i ∷ is) =
    let next : map (said (front ++ (written i ++ written_all is))) (places (length front + length (written i)) is)
    ≡ map meant is =
    rw (append_assoc, length-append) at (written-said (front ++ written i) is) in
    λ j. said-place front i (written_all is) j ∷ next j

-- a header built from well-formed parameters reads back as that list, in its order, each with its data
pub built-reads : (core : List ℕ) (is : List Item) → length core ≡ 7 → AllWellFormed is
    → (parameters (built core is) ≡ listed (places 7 is)) × (map (said (built core is)) (places 7 is) ≡ map meant is)
unfolding built
built-reads core is e w = (rw (← e) (written-lists core is w), rw (← e) (written-said core is))
