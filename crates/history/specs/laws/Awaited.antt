-- How many bytes of a number's object are still to come, where the slots hold just what is stored: what the stored
-- segments give; and it never rises while the number is held.
use Rattle.std.specs.Prelude.{◌≡◌, ◌≢◌, ◌↔◌, Option, Bool, true, false, List, [], ◌∷◌, ℕ, ◌≤◌, eqb, Ok, Err, Some, None}
use Rattle.std.proofs.Math.Path.{refl}
use Rattle.std.proofs.Common.{sym, ap, ◌∙◌, arith, ne_eqb}
use Rattle.answer.specs.declared.Answer.{Answer}
use Rattle.answer.specs.declared.Part.{Part}
use Rattle.answer.specs.declared.Part.TheVariants.{Header, Body}
use Rattle.answer.specs.declared.Reason.TheVariants as Reason
use Rattle.cut.specs.Requirement.{Segment, Fits, Finished}
use Rattle.cut.specs.Parts.{headers_with, bodies_with}
use Rattle.cut.specs.Lists.{pick, Each}
use Rattle.cut.specs.Missing.{missing_of, outside_of, amount_of}
use Rattle.cut.specs.laws.Missing.{missing-outside, missing-none, missing-falls, amount-back}
use Rattle.collector.specs.State.{State, find}
use Rattle.collector.specs.Calls.{sound}
use Rattle.collector.specs.Arrival.{Arrival}
use Rattle.queries.specs.Missing.{missing}
use Rattle.history.specs.Handed.{Brought, arrives, refused, brought_by}
use Rattle.history.specs.Held.{limit_of}
use Rattle.history.specs.History.{Call, hand, drop, ask, CallBytes, Keeps, Event, event, after, is_stored, after_handed, under, stored_under}
use Rattle.history.specs.Taking.{take}
use Rattle.history.specs.laws.Call.{defined}
use Rattle.history.specs.laws.Sound.{Intact}
use Rattle.history.specs.laws.Stage.{none-finished}
use Rattle.history.specs.laws.Stands.{StandsFor, Stands}
use Rattle.history.specs.laws.Reached.{leaves-intact, leaves-stands}

-- of nothing, nothing is known
none-unknown : missing_of [] [] ≡ None
unfolding missing_of
none-unknown = refl

nothing_known : (hs bs : List Segment) → hs ≡ [] → bs ≡ [] → (bytes : ℕ) → missing_of hs bs ≢ Some bytes
nothing_known hs bs h b bytes f =
    let g = sym none-unknown ∙ (rw (h, b) at f) in
    let z : ◌≡◌ {A = ℕ} 0 1 = cc in
    absurd (omega arith)

-- ---- one number

module _ (number : ℕ) (s : State) (hs bs : List Segment) (good : sound s ≡ true) (w : StandsFor number s hs bs) where
  awaited-held : (i : ℕ) → find number s ≡ Some i → missing number s ≡ Ok (missing_of hs bs)
  unfolding missing
  awaited-held i e =
      rw (good, e) (ap Ok (ap amount_of (w.held i e).missing ∙ amount-back (missing_of hs bs)))

  awaited-unheld : find number s ≡ None → missing number s ≡ Err Reason.NotHeld
  unfolding missing
  awaited-unheld e = rw (good, e) refl

  pub awaited-exactly : find number s ≢ None → missing number s ≡ Ok (missing_of hs bs)
  awaited-exactly d = go (find number s) refl
    where
      go : (found : Option ℕ) → find number s ≡ found → missing number s ≡ Ok (missing_of hs bs)
      go None e = absurd (d e)
      go (Some i) e = awaited-held i e

  pub awaited-not-held : (missing number s ≡ Err Reason.NotHeld) ↔ (find number s ≡ None)
  awaited-not-held = (λ e. go (find number s) refl e, awaited-unheld)
    where
      go : (found : Option ℕ) → find number s ≡ found → missing number s ≡ Err Reason.NotHeld
          → find number s ≡ None
      go None f e = f
      go (Some i) f e = let held = awaited-held i f in let z : ◌≡◌ {A = ℕ} 0 1 = cc in absurd (omega arith)

  -- a number of bytes is told of a number that is held, and is what the segments give
  pub awaited-known : (bytes : ℕ) → missing number s ≡ Ok (Some bytes) → missing_of hs bs ≡ Some bytes
  awaited-known bytes e = go (find number s) refl
    where
      go : (found : Option ℕ) → find number s ≡ found → missing_of hs bs ≡ Some bytes
      go None f = let none = awaited-unheld f in let z : ◌≡◌ {A = ℕ} 0 1 = cc in absurd (omega arith)
      go (Some i) f = let held : Ok (missing_of hs bs) ≡ Ok (Some bytes) = sym (awaited-held i f)
          ∙ e in cc

  pub none-awaited : (missing number s ≡ Ok (Some 0)) ↔ ((f : Fits (limit_of s) hs bs) × Finished f)
  none-awaited = (λ e. there (find number s) refl e, λ r. back (find number s) refl r.0 r.1)
    where
      there : (found : Option ℕ) → find number s ≡ found → missing number s ≡ Ok (Some 0)
          → (f : Fits (limit_of s) hs bs) × Finished f
      there None f e = let none = awaited-unheld f in let z : ◌≡◌ {A = ℕ} 0 1 = cc in absurd (omega arith)
      there (Some i) f e =
          let object = (w.held i f).gathers.object in
          (object, (missing-none (limit_of s) hs bs object).0 (awaited-known 0 e))

      back : (found : Option ℕ) → find number s ≡ found → (f : Fits (limit_of s) hs bs) → Finished f
          → missing number s ≡ Ok (Some 0)
      back None e f d = absurd (none-finished (limit_of s) hs bs f d (w.rest e).0)
      back (Some i) e f d = awaited-held i e ∙ ap Ok ((missing-none (limit_of s) hs bs f).1 d)

  pub outside-exactly : (bytes : ℕ) → missing number s ≡ Ok (Some bytes) → (f : Fits (limit_of s) hs bs)
      → outside_of f ≡ bytes
  outside-exactly bytes e f = sym (missing-outside (limit_of s) hs bs f bytes (awaited-known bytes e))

  -- where the segments give a number, it is told: some are stored, so the number is held
  pub known-awaited : (bytes : ℕ) → missing_of hs bs ≡ Some bytes → missing number s ≡ Ok (Some bytes)
  known-awaited bytes e = go (find number s) refl
    where
      go : (found : Option ℕ) → find number s ≡ found → missing number s ≡ Ok (Some bytes)
      go None f = absurd (nothing_known hs bs (w.rest f).0 (w.rest f).1 bytes e)
      go (Some i) f = awaited-held i f ∙ ap Ok e

-- ---- it never rises

-- of two lists of segments: what the first give is known of the second too, and no larger
abbrev Falls : List Segment → List Segment → List Segment → List Segment → Type 0
Falls hs bs hs' bs' = (bytes : ℕ) → missing_of hs bs ≡ Some bytes
    → (fewer : ℕ) × (missing_of hs' bs' ≡ Some fewer) × (fewer ≤ bytes)

falls-self : (hs bs : List Segment) → Falls hs bs hs bs
falls-self hs bs bytes e = (bytes, e, omega arith)

falls-then : (hs bs hs' bs' hs'' bs'' : List Segment) → Falls hs bs hs' bs' → Falls hs' bs' hs'' bs''
    → Falls hs bs hs'' bs''
falls-then hs bs hs' bs' hs'' bs'' f g bytes e =
    let x = f bytes e in
    let y = g x.0 x.1 in
    (y.0, y.1, omega (arith, x.2, y.2))

-- a segment more, that is stored
stored_falls : (part : Part) (segment : Segment) (number : ℕ) (s : State) (hs bs : List Segment)
    → StandsFor number s (headers_with part segment hs) (bodies_with part segment bs)
    → Falls hs bs (headers_with part segment hs) (bodies_with part segment bs)
stored_falls part segment number s hs bs w = go (find number s) refl part w
  where
    go : (found : Option ℕ) → find number s ≡ found → (part : Part)
        → StandsFor number s (headers_with part segment hs) (bodies_with part segment bs)
        → Falls hs bs (headers_with part segment hs) (bodies_with part segment bs)
    go None e Header w = let none = (w.rest e).0 in let z : ◌≡◌ {A = ℕ} 0 1 = cc in absurd (omega arith)
    go None e Body w = let none = (w.rest e).1 in let z : ◌≡◌ {A = ℕ} 0 1 = cc in absurd (omega arith)
    go (Some i) e part w = missing-falls part (limit_of s) segment hs bs (w.held i e).gathers.object

-- a group or a segment
module _ (number : ℕ) (s : State) (hs bs : List Segment) where
  came-falls : (arrived : Arrival) (answer : Answer) (own stored : Bool)
      → StandsFor number s (pick own (pick stored (headers_with arrived.part arrived.segment hs) hs) hs)
      (pick own (pick stored (bodies_with arrived.part arrived.segment bs) bs) bs)
      → Falls hs bs (pick own (pick stored (headers_with arrived.part arrived.segment hs) hs) hs)
      (pick own (pick stored (bodies_with arrived.part arrived.segment bs) bs) bs)
  came-falls arrived answer true true w = stored_falls arrived.part arrived.segment number s hs bs w
  came-falls arrived answer true false w = falls-self hs bs
  came-falls arrived answer false stored w = falls-self hs bs

  brought-falls : (brought : Brought) (answer : Answer)
      → StandsFor number s (after_handed is_stored Header number brought answer hs)
      (after_handed is_stored Body number brought answer bs)
      → Falls hs bs (after_handed is_stored Header number brought answer hs)
      (after_handed is_stored Body number brought answer bs)
  brought-falls (refused why) answer w = falls-self hs bs
  brought-falls (arrives arrived) answer w =
      came-falls arrived answer (eqb arrived.number number) (is_stored answer) w

-- one call
leaves_falls : (number : ℕ) (call : Call) (s : State) (events : List Event) → CallBytes call → Keeps number call
    → Intact s → Stands s events
    → Falls (stored_under Header number events) (stored_under Body number events)
    (stored_under Header number (event defined call s ∷ events))
    (stored_under Body number (event defined call s ∷ events))
unfolding under
leaves_falls number (hand given) s events y d whole w =
    brought-falls number (take given s).left (stored_under Header number events) (stored_under Body number events)
    (brought_by given) (take given s).answer (leaves-stands (hand given) s events y whole w number)
leaves_falls number (drop other) s events y d whole w =
    rw (ne_eqb other number (λ e. d (sym e))) (falls-self (stored_under Header number events)
    (stored_under Body number events))
leaves_falls number (ask question) s events y d whole w =
    falls-self (stored_under Header number events) (stored_under Body number events)

-- what came back of more calls, before what had come back
abbrev told_more : List Call → State → List Event → List Event
told_more [] s events = events
told_more (call ∷ more) s events = event defined call (after defined more s) ∷ told_more more s events

pub record Lasting (number : ℕ) (more : List Call) (s : State) (events : List Event) : Type 0 where
  pub intact : Intact (after defined more s)
  pub stands : Stands (after defined more s) (told_more more s events)
  pub falls : Falls (stored_under Header number events) (stored_under Body number events)
      (stored_under Header number (told_more more s events)) (stored_under Body number (told_more more s events))

-- any calls
lasts : (number : ℕ) (more : List Call) (s : State) (events : List Event) → Each CallBytes more
    → Each (Keeps number) more → Intact s → Stands s events → Lasting number more s events
lasts number [] s events y d whole w = record {
  intact = whole;
  stands = w;
  falls = falls-self (stored_under Header number events) (stored_under Body number events);
}
lasts number (call ∷ more) s events y d whole w =
    let before = lasts number more s events y.1 d.1 whole w in
    let t : State = after defined more s in
    let said : List Event = told_more more s events in
    record {
      intact = leaves-intact call t y.0 before.intact;
      stands = leaves-stands call t said y.0 before.intact before.stands;
      falls = falls-then (stored_under Header number events) (stored_under Body number events)
          (stored_under Header number said) (stored_under Body number said)
          (stored_under Header number (event defined call t ∷ said))
          (stored_under Body number (event defined call t ∷ said))
          before.falls (leaves_falls number call t said y.0 d.0 before.intact before.stands);
    }

-- IT NEVER RISES while the number is held
pub never-rises : (number bytes : ℕ) (more : List Call) (s : State) (events : List Event) → Each CallBytes more
    → Each (Keeps number) more → Intact s → Stands s events → missing number s ≡ Ok (Some bytes)
    → (fewer : ℕ) × (missing number (after defined more s) ≡ Ok (Some fewer)) × (fewer ≤ bytes)
never-rises number bytes more s events y d whole w e =
    let l = lasts number more s events y d whole w in
    let known = awaited-known number s (stored_under Header number events) (stored_under Body number events)
    whole.undamaged (w number) bytes e in
    let x = l.falls bytes known in (
      x.0,
      known-awaited number (after defined more s) (stored_under Header number (told_more more s events))
          (stored_under Body number (told_more more s events)) l.intact.undamaged (l.stands number) x.0 x.1,
      x.2,
    )
