-- What the questions are answered in a state whose slots hold just what is stored.
use Rattle.std.specs.Prelude.{◌≡◌, ◌≢◌, ◌↔◌, Option, None, Some, true, Result, Ok, Err, ℕ, ◌≤◌}
use Rattle.std.proofs.Math.Path.{refl}
use Rattle.std.proofs.Common.{sym, ap, ◌∙◌, arith}
use mathlib.Core.List.{List, []}
use Rattle.answer.specs.declared.Reason.{Reason}
use Rattle.answer.specs.declared.Part.{Part}
use Rattle.answer.specs.declared.Part.TheVariants.{Header, Body}
use Rattle.cut.specs.Requirement.{Segment, Fits, Finished}
use Rattle.cut.specs.laws.Decision.{false-true}
use Rattle.header.specs.declared.Fields.{Fields}
use Rattle.header.specs.declared.Refusal.{Refusal}
use Rattle.header.specs.Parameters.{read_header}
use Rattle.header.specs.Names.{name_data}
use Rattle.object.specs.declared.Stage.{Stage}
use Rattle.slots.specs.Find.{is_free}
use Rattle.name_search.specs.Requirement.{Named}
use Rattle.collector.specs.State.{State, find}
use Rattle.collector.specs.Calls.{locate, located_as, located_in, show, sound}
use Rattle.queries.specs.Questions as queries
use Rattle.queries.specs.Questions.{asked_of, parameters, named_of, name}
use Rattle.queries.specs.laws.Theorems.{find-lowest, find-nobody}
use Rattle.queries.specs.Said.{reason_of, asked_as}
use Rattle.history.specs.laws.Slots.{held-is}
use Rattle.history.specs.Held.{limit_of, slot_of, stage_at, stage_for}
use Rattle.history.specs.laws.Ready.{found-holds}
use Rattle.history.specs.laws.Stands.{StandsFor}
use Rattle.history.specs.laws.Stage.{all_finished, finished-all, finished-shown}

-- ---- an answer is of one kind

unheld-unread : (reading : Result Fields Refusal) → asked_as reading ≢ Err Reason.NotHeld
unheld-unread (Ok fields) e = let z : ◌≡◌ {A = ℕ} 0 1 = cc in absurd (omega arith)
unheld-unread (Err Refusal.Header) e = let z : ◌≡◌ {A = ℕ} 0 1 = cc in absurd (omega arith)
unheld-unread (Err Refusal.Duplicate) e = let z : ◌≡◌ {A = ℕ} 0 1 = cc in absurd (omega arith)

missing-unread : (reading : Result Fields Refusal) → asked_as reading ≢ Err Reason.Unfinished
missing-unread (Ok fields) e = let z : ◌≡◌ {A = ℕ} 0 1 = cc in absurd (omega arith)
missing-unread (Err Refusal.Header) e = let z : ◌≡◌ {A = ℕ} 0 1 = cc in absurd (omega arith)
missing-unread (Err Refusal.Duplicate) e = let z : ◌≡◌ {A = ℕ} 0 1 = cc in absurd (omega arith)

refused-once : (a b : Refusal) → reason_of a ≡ reason_of b → a ≡ b
refused-once Refusal.Header Refusal.Header e = refl
refused-once Refusal.Header Refusal.Duplicate e = let z : ◌≡◌ {A = ℕ} 0 1 = cc in absurd (omega arith)
refused-once Refusal.Duplicate Refusal.Header e = let z : ◌≡◌ {A = ℕ} 0 1 = cc in absurd (omega arith)
refused-once Refusal.Duplicate Refusal.Duplicate e = refl

asked-once : (a b : Result Fields Refusal) → asked_as a ≡ asked_as b → a ≡ b
asked-once (Ok f) (Ok g) e = let same : f ≡ g = cc in ap Ok same
asked-once (Ok f) (Err why) e = let z : ◌≡◌ {A = ℕ} 0 1 = cc in absurd (omega arith)
asked-once (Err why) (Ok f) e = let z : ◌≡◌ {A = ℕ} 0 1 = cc in absurd (omega arith)
asked-once (Err a) (Err b) e = let same : reason_of a ≡ reason_of b = cc in
    ap Err (refused-once a b same)

-- ---- one number

module _ (number : ℕ) (s : State) (hs bs : List Segment) (good : sound s ≡ true) (w : StandsFor number s hs bs) where
  -- a number with no slot, an object that is not finished, a finished one
  pub data Asks : Type 0 where
    unheld : find number s ≡ None → locate number s ≡ Err Reason.NotHeld
        → queries.parameters number s ≡ Err Reason.NotHeld → Asks
    missing : (i : ℕ) → find number s ≡ Some i → ((f : Fits (limit_of s) hs bs) → ¬ (Finished f))
        → locate number s ≡ Err Reason.Unfinished
        → queries.parameters number s ≡ Err Reason.Unfinished → Asks
    whole : (i : ℕ) → find number s ≡ Some i → (f : Fits (limit_of s) hs bs) → Finished f → locate number s ≡ Ok i
        → queries.parameters number s ≡ asked_as (read_header (show number Header s)) → Asks

  held_stage : (i : ℕ) → find number s ≡ Some i → (slot_of i s).stage ≢ Stage.Free
  unfolding is_free
  held_stage i e f = false-true (held-is number (slot_of i s) (found-holds s good number i e)).0 (rw f refl)

  located : (found : Option ℕ) → find number s ≡ found → locate number s ≡ located_in found s.collector
  unfolding locate
  located found e = rw (good, e) refl

  told-as : (l : Result ℕ Reason) → locate number s ≡ l
      → queries.parameters number s ≡ asked_of l (show number Header s)
  unfolding parameters
  told-as l e = rw e refl

  -- which of the three it is
  pub asks : Asks
  asks = go (find number s) refl
    where
      held : (i : ℕ) → find number s ≡ Some i → (stage : Stage) → (slot_of i s).stage ≡ stage → Asks
      held i e Stage.Free f = absurd (held_stage i e f)
      held i e Stage.Gathering f =
          let at : locate number s ≡ Err Reason.Unfinished =
          located (Some i) e ∙ ap (λ (x : Stage). located_as x i) f in
          let stage : stage_for number s ≡ Stage.Gathering = ap (λ (x : Option ℕ). stage_at x s) e ∙ f in
          missing i e (λ g d. let other = all_finished number s hs bs w g d in let z : ◌≡◌ {A = ℕ} 0 1 = cc in
          absurd (omega arith)) at (told-as (Err Reason.Unfinished) at)
      held i e (Stage.Finished header body) f =
          let at : locate number s ≡ Ok i = located (Some i) e ∙ ap (λ (x : Stage). located_as x i) f in
          let all = finished-all number s hs bs w header body (ap (λ (x : Option ℕ). stage_at x s) e ∙ f) in
          whole i e all.0 all.1 at (told-as (Ok i) at)

      go : (found : Option ℕ) → find number s ≡ found → Asks
      go None e = let at : locate number s ≡ Err Reason.NotHeld = located None e in
          unheld e at (told-as (Err Reason.NotHeld) at)
      go (Some i) e = held i e (slot_of i s).stage refl

  no_slot : (i : ℕ) → find number s ≡ Some i → find number s ≢ None
  no_slot i e d = let z : ◌≡◌ {A = ℕ} 0 1 = cc in absurd (omega arith)

  -- no object is finished under a number with no slot
  unheld-missing : find number s ≡ None → (f : Fits (limit_of s) hs bs) → ¬ (Finished f)
  unheld-missing e f d = let stage = ap (λ (x : Option ℕ). stage_at x s) e in let other =
      all_finished number s hs bs w f d in let z : ◌≡◌ {A = ℕ} 0 1 = cc in absurd (omega arith)

  shown-header : (f : Fits (limit_of s) hs bs) → Finished f → show number Header s ≡ f.header
  shown-header f d = (finished-shown number s hs bs w good f d).0

  pub not-held : ((locate number s ≡ Err Reason.NotHeld) ↔ (find number s ≡ None))
      × ((queries.parameters number s ≡ Err Reason.NotHeld) ↔ (find number s ≡ None))
  not-held = go asks
    where
      go : Asks → ((locate number s ≡ Err Reason.NotHeld) ↔ (find number s ≡ None))
          × ((queries.parameters number s ≡ Err Reason.NotHeld) ↔ (find number s ≡ None))
      go (unheld e l t) = ((λ x. e, λ x. l), (λ x. e, λ x. t))
      go (missing i e m l t) = (
        (
          λ x. let z : ◌≡◌ {A = ℕ} 0 1 = cc in absurd (omega arith),
          λ x. absurd (no_slot i e x),
        ),
        (
          λ x. let z : ◌≡◌ {A = ℕ} 0 1 = cc in absurd (omega arith),
          λ x. absurd (no_slot i e x),
        ),
      )
      go (whole i e f d l t) = (
        (
          λ x. let z : ◌≡◌ {A = ℕ} 0 1 = cc in absurd (omega arith),
          λ x. absurd (no_slot i e x),
        ),
        (
          λ x. absurd (unheld-unread (read_header (show number Header s)) (sym t ∙ x)),
          λ x. absurd (no_slot i e x),
        ),
      )

  pub unfinished : ((locate number s ≡ Err Reason.Unfinished)
      ↔ ((find number s ≢ None) × ((f : Fits (limit_of s) hs bs) → ¬ (Finished f))))
      × ((queries.parameters number s ≡ Err Reason.Unfinished)
      ↔ ((find number s ≢ None) × ((f : Fits (limit_of s) hs bs) → ¬ (Finished f))))
  unfinished = go asks
    where
      go : Asks → ((locate number s ≡ Err Reason.Unfinished)
          ↔ ((find number s ≢ None) × ((f : Fits (limit_of s) hs bs) → ¬ (Finished f))))
          × ((queries.parameters number s ≡ Err Reason.Unfinished)
          ↔ ((find number s ≢ None) × ((f : Fits (limit_of s) hs bs) → ¬ (Finished f))))
      go (unheld e l t) = (
        (λ x. let z : ◌≡◌ {A = ℕ} 0 1 = cc in absurd (omega arith), λ x. absurd (x.0 e)),
        (λ x. let z : ◌≡◌ {A = ℕ} 0 1 = cc in absurd (omega arith), λ x. absurd (x.0 e)),
      )
      go (missing i e m l t) = ((λ x. (no_slot i e, m), λ x. l), (λ x. (no_slot i e, m), λ x. t))
      go (whole i e f d l t) = (
        (λ x. let z : ◌≡◌ {A = ℕ} 0 1 = cc in absurd (omega arith), λ x. absurd (x.1 f d)),
        (λ x. absurd (missing-unread (read_header (show number Header s)) (sym t ∙ x)), λ x. absurd (x.1 f d)),
      )

  pub located-exactly : (i : ℕ) → (locate number s ≡ Ok i)
      ↔ ((find number s ≡ Some i) × (f : Fits (limit_of s) hs bs) × Finished f)
  located-exactly i = go asks
    where
      go : Asks → (locate number s ≡ Ok i)
          ↔ ((find number s ≡ Some i) × (f : Fits (limit_of s) hs bs) × Finished f)
      go (unheld e l t) = (λ x. let z : ◌≡◌ {A = ℕ} 0 1 = cc in absurd (omega arith), λ x. absurd (no_slot i x.0 e))
      go (missing j e m l t) = (
        λ x. let z : ◌≡◌ {A = ℕ} 0 1 = cc in absurd (omega arith),
        λ x. absurd (m x.1 x.2),
      )
      go (whole j e f d l t) = (
        λ x. let same : j ≡ i = cc in
            (e ∙ ap Some same, f, d),
        λ x. let same : j ≡ i = cc x.0 in l ∙ ap Ok same,
      )

  pub read-exactly : (reading : Result Fields Refusal) → (queries.parameters number s ≡ asked_as reading)
      ↔ ((f : Fits (limit_of s) hs bs) × Finished f × (read_header f.header ≡ reading))
  read-exactly reading = go asks
    where
      go : Asks → (queries.parameters number s ≡ asked_as reading)
          ↔ ((f : Fits (limit_of s) hs bs) × Finished f × (read_header f.header ≡ reading))
      go (unheld e l t) = (
        λ x. absurd (unheld-unread reading (sym x ∙ t)),
        λ x. absurd (unheld-missing e x.0 x.1),
      )
      go (missing i e m l t) = (λ x. absurd (missing-unread reading (sym x ∙ t)), λ x. absurd (m x.0 x.1))
      go (whole i e f d l t) = (
        λ x. (
          f,
          d,
          ap read_header (sym (shown-header f d)) ∙ asked-once (read_header (show number Header s)) reading
              (sym t ∙ x),
        ),
        λ x. t ∙ ap asked_as (ap read_header (shown-header x.0 x.1) ∙ x.2),
      )

  pub name-finished : (f : Fits (limit_of s) hs bs) → Finished f → queries.name number s ≡ name_data f.header
  unfolding name
  name-finished f d = go asks
    where
      go : Asks → named_of (locate number s) (show number Header s) ≡ name_data f.header
      go (unheld e l t) = absurd (unheld-missing e f d)
      go (missing i e m l t) = absurd (m f d)
      go (whole i e g h l t) = rw (l, shown-header f d) refl

  pub name-missing : ((f : Fits (limit_of s) hs bs) → ¬ (Finished f)) → queries.name number s ≡ []
  unfolding name
  name-missing m = go asks
    where
      go : Asks → named_of (locate number s) (show number Header s) ≡ []
      go (unheld e l t) = rw l refl
      go (missing i e n l t) = rw l refl
      go (whole i e f d l t) = absurd (m f d)

-- ---- whose a name is

module _ (s : State) (kept : Part → ℕ → List Segment) (good : sound s ≡ true)
    (stands : (number : ℕ) → StandsFor number s (kept Header number) (kept Body number)) (sought : List ℕ) where
  -- a finished object of a number that has the name
  abbrev Has : ℕ → Type 0
  Has number = (f : Fits (limit_of s) (kept Header number) (kept Body number)) × Finished f × Named sought f.header

  finished-located : (number : ℕ) → Has number → (i : ℕ) × (locate number s ≡ Ok i)
      × Named sought (show number Header s)
  finished-located number h = go (asks number s (kept Header number) (kept Body number) good (stands number))
    where
      go : Asks number s (kept Header number) (kept Body number) good (stands number) → (i : ℕ)
          × (locate number s ≡ Ok i) × Named sought (show number Header s)
      go (unheld e l t) = absurd (unheld-missing number s (kept Header number) (kept Body number) good (stands number) e
          h.0 h.1)
      go (missing i e m l t) = absurd (m h.0 h.1)
      go (whole i e f d l t) = (
        i,
        l,
        rw (shown-header number s (kept Header number) (kept Body number) good (stands number) h.0 h.1) h.2,
      )

  located-finished : (number i : ℕ) → locate number s ≡ Ok i → Named sought (show number Header s) → Has number
  located-finished number i e n =
      let x = (located-exactly number s (kept Header number) (kept Body number) good (stands number) i).0 e in (
        x.1,
        x.2,
        rw (shown-header number s (kept Header number) (kept Body number) good (stands number) x.1 x.2)
            at n,
      )

  pub found-exactly : (number : ℕ) → (queries.find sought s ≡ Ok number)
      ↔ (Has number × ((other : ℕ) → Has other → number ≤ other))
  found-exactly number = (
    λ e. let l = (find-lowest sought s good number).0 e in (
      located-finished number l.slot l.located l.named,
      λ other h. let x = finished-located other h in
          l.lowest other x.0 x.1 x.2,
    ),
    λ h. let x = finished-located number h.0 in
        (find-lowest sought s good number).1
        (record {
          slot = x.0;
          located = x.1;
          named = x.2;
          lowest =
              λ other i e n. h.1 other (located-finished other i e n);
        }),
  )

  pub nobody-exactly : (queries.find sought s ≡ Err Reason.NotFound) ↔ ((number : ℕ) → ¬ (Has number))
  nobody-exactly = (
    λ e number h. let x = finished-located number h in (find-nobody sought s good).0 e number x.0 x.1 x.2,
    λ none. (find-nobody sought s good).1 (λ number i e n. none number (located-finished number i e n)),
  )
