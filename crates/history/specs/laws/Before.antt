-- A history in which the empty last segment never comes is answered as document 01 alone says: CONFLICT where no object
-- and cut have the segment and all that is stored among their segments, STORED only while some segment is missing.
use Rattle.std.specs.Prelude.{◌≡◌, refl, ◌⊎◌, ◌↔◌, Bool, true, false, List, [], ◌∷◌, ℕ, ◌<◌, eqb, length}
use Rattle.std.proofs.Common.{ap, inl, inr, arith}
use Rattle.answer.specs.declared.Answer.{Answer}
use Rattle.answer.specs.declared.Part.{Part}
use Rattle.answer.specs.declared.Part.TheVariants.{Header, Body}
use Rattle.cut.specs.Lists.{pick, Each, Among}
use Rattle.cut.specs.Requirement.{Segment, empty, Fits, Finished}
use Rattle.cut.specs.Parts.{headers_with, bodies_with, those}
use Rattle.cut.specs.laws.Empty.{FitsBare, as_before}
use Rattle.object.specs.laws.Step.{late}
use Rattle.collector.specs.State.{Start}
use Rattle.collector.specs.Arrival.{Arrival}
use Rattle.history.specs.Handed.{Brought, arrives, refused, brought_by}
use Rattle.history.specs.Held.{SlotFor}
use Rattle.history.specs.History.{Call, hand, drop, ask, Collecting, reached, told, is_stored, is_dropped, with, after_handed, under, stored_under}
use Rattle.history.specs.Ours.{ours}
use Rattle.history.specs.Promise.{Run, stored, Passing, segment_of, heard_of, repetition_of, since, answer_to, FitsStored, FitsWith}
use Rattle.history.specs.laws.Promises.{conflict-promised, storing-promised}

abbrev Some : Segment → Type 0
Some s = 0 < length s.bytes

-- what the call brings, if it brings a segment, has bytes
abbrev pub Filled : Call → Type 0
Filled (hand given) = (arrived : Arrival) → brought_by given ≡ arrives arrived → 0 < length arrived.segment.bytes
Filled (drop number) = Unit {0}
Filled (ask question) = Unit {0}

-- ---- all that is stored has bytes

with-some : (part kind : Part) (s : Segment) (rest : List Segment) → Some s → Each Some rest
    → Each Some (with part kind s rest)
with-some Header Header s rest h e = (h, e)
with-some Header Body s rest h e = e
with-some Body Header s rest h e = e
with-some Body Body s rest h e = (h, e)

handed-some : (part : Part) (number : ℕ) (b : Brought) (answer : Answer) (rest : List Segment)
    → ((arrived : Arrival) → b ≡ arrives arrived → Some arrived.segment) → Each Some rest
    → Each Some (after_handed is_stored part number b answer rest)
handed-some part number (refused why) answer rest h e = e
handed-some part number (arrives arrived) answer rest h e = go (eqb arrived.number number) (is_stored answer)
  where
    go : (a b : Bool) → Each Some (pick a (pick b (with part arrived.part arrived.segment rest) rest) rest)
    go true true = with-some part arrived.part arrived.segment rest (h arrived refl) e
    go true false = e
    go false b = e

stored_some : (k : Collecting) (start : Start) (calls : List Call) → Each Filled calls → (part : Part) (number : ℕ)
    → Each Some (stored_under part number (told k start calls))
unfolding under
stored_some k start [] f part number = tt
stored_some k start (hand given ∷ calls) f part number =
    handed-some part number (brought_by given) (k.takes given (reached k start calls)).answer
    (stored_under part number (told k start calls)) f.0 (stored_some k start calls f.1 part number)
stored_some k start (drop other ∷ calls) f part number = go (eqb other number)
    (is_dropped (k.drops other (reached k start calls)).answer) (stored_some k start calls f.1 part number)
  where
    go : (a b : Bool) → Each Some (stored_under part number (told k start calls))
        → Each Some (pick a (pick b [] (stored_under part number (told k start calls)))
        (stored_under part number (told k start calls)))
    go true true e = tt
    go true false e = e
    go false b e = e
stored_some k start (ask question ∷ calls) f part number = stored_some k start calls f.1 part number

-- ---- as before

module _ (r : Run) (filled : Each Filled r.calls) (g : Passing) (some : Some (segment_of g)) where
  number : ℕ
  number = g.arrived.number

  headers-some : (kind : Part) → Each Some (headers_with kind (segment_of g) (stored ours r Header number))
  headers-some Header = (some, stored_some ours r.start r.calls filled Header number)
  headers-some Body = stored_some ours r.start r.calls filled Header number

  bodies-some : (kind : Part) → Each Some (bodies_with kind (segment_of g) (stored ours r Body number))
  bodies-some Header = stored_some ours r.start r.calls filled Body number
  bodies-some Body = (some, stored_some ours r.start r.calls filled Body number)

  bare : Fits r.start.limit (headers_with g.arrived.part (segment_of g) (stored ours r Header number))
      (bodies_with g.arrived.part (segment_of g) (stored ours r Body number))
      ↔ FitsBare r.start.limit (headers_with g.arrived.part (segment_of g) (stored ours r Header number))
      (bodies_with g.arrived.part (segment_of g) (stored ours r Body number))
  bare = as_before r.start.limit (headers_with g.arrived.part (segment_of g) (stored ours r Header number))
      (bodies_with g.arrived.part (segment_of g) (stored ours r Body number)) (headers-some g.arrived.part)
      (bodies-some g.arrived.part)

  pub conflict-before : (answer_to ours (since ours r) g ≡ Answer.Conflict (heard_of g))
      ↔ (¬ (FitsBare r.start.limit
      (headers_with g.arrived.part (segment_of g) (stored ours r Header g.arrived.number))
      (bodies_with g.arrived.part (segment_of g) (stored ours r Body g.arrived.number))))
  unfolding number
  conflict-before = (
    (λ e f. (conflict-promised r g).0 e (bare.1 f)),
    (λ n. (conflict-promised r g).1 (λ f. n (bare.0 f))),
  )

  pub stored-before : (answer_to ours (since ours r) g ≡ Answer.Stored (heard_of g) (repetition_of g))
      ↔ (((f : FitsWith (since ours r) g) × (¬ (Finished f)))
      × (¬ (Among (segment_of g) (stored ours r g.arrived.part g.arrived.number)))
      × SlotFor g.arrived.number (since ours r).state)
  stored-before = (
    (λ e. let m = (storing-promised r g).0 e in ((m.0.0, missing m.0.0 m.0.1 m.1), m.1, m.2)),
    (λ m. (storing-promised r g).1 ((m.0.0, inl m.0.1), m.1, m.2)),
  )
    where
      these : (part : Part) → those part (stored ours r Header g.arrived.number)
          (stored ours r Body g.arrived.number) ≡ stored ours r part g.arrived.number
      these Header = refl
      these Body = refl

      never : Among (segment_of g) (those g.arrived.part (stored ours r Header g.arrived.number)
          (stored ours r Body g.arrived.number))
          ⊎ ((g.arrived.part ≡ Body) × (segment_of g ≡ empty) × (stored ours r Body g.arrived.number ≡ []))
          → ¬ (¬ (Among (segment_of g) (stored ours r g.arrived.part g.arrived.number)))
      never (inl i) n = n (rw these at i)
      never (inr e) n = omega (arith, ap (λ (s : Segment). length s.bytes) e.1)

      missing : (f : FitsWith (since ours r) g)
          → (¬ (Finished f)) ⊎ ((h : FitsStored (since ours r) g.arrived.number) × Finished h)
          → ¬ (Among (segment_of g) (stored ours r g.arrived.part g.arrived.number)) → ¬ (Finished f)
      missing f (inl d) n = d
      missing f (inr d) n = absurd (never (late g.arrived.part r.start.limit (segment_of g)
          (stored ours r Header g.arrived.number) (stored ours r Body g.arrived.number) f d.0 d.1) n)
