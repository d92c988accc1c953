-- The stage of a number's slot and what is shown of it, where the slots hold just what was stored.
use Rattle.std.specs.Prelude.{◌≡◌, refl, Option, None, Some, true, List, [], ℕ, length}
use Rattle.std.proofs.Common.{sym, ap, ◌∙◌, subst, zero-mul, arith}
use Rattle.answer.specs.declared.Part.{Part}
use Rattle.answer.specs.declared.Part.TheVariants.{Header, Body}
use Rattle.cut.specs.Requirement.{header_numbers, body_numbers, Segment, Fits, Finished, joined}
use Rattle.cut.specs.laws.Finished.{segment_of, segment-is, finished-every, finished-one}
use Rattle.object.specs.declared.Stage.{Stage}
use Rattle.object.specs.State.{StageFor}
use Rattle.object.specs.laws.Held.{Holds}
use Rattle.object.specs.laws.Shown.{holds-shows}
use Rattle.collector.specs.State.{State, find}
use Rattle.collector.specs.Calls.{show, sound}
use Rattle.history.specs.Held.{lent_of, limit_of, slot_of, stage_at, stage_for}
use Rattle.history.specs.laws.Shown.{front_of, held-shown, unheld-shown}
use Rattle.history.specs.laws.Stands.{StandsFor}

-- where nothing is stored, no object is finished: it has a header
pub none-finished : (limit : ℕ) (hs bs : List Segment) (f : Fits limit hs bs) → Finished f → hs ≡ [] → ⊥
none-finished limit hs bs f w e =
    absurd (rw e at (w.header (segment_of f.header f.header_cut 0)
    (segment-is f.header f.header_cut 0 (omega (arith, zero-mul f.header_cut, f.object.header_low)))))

-- a stage is the one that the segments give, whichever object and cut fit them
stage-every : (limit : ℕ) (hs bs : List Segment) (f g : Fits limit hs bs) (stage : Stage) → StageFor f stage
    → StageFor g stage
stage-every limit hs bs f g Stage.Free w = w
stage-every limit hs bs f g Stage.Gathering w = λ d. w (finished-every limit hs bs g f d)
stage-every limit hs bs f g (Stage.Finished h b) w =
    let one = finished-one limit hs bs f g w.0 in
    (finished-every limit hs bs f g w.0, w.1 ∙ ap length (sym one.0), w.2 ∙ ap length (sym one.1))

stage-finished : (limit : ℕ) (hs bs : List Segment) (f : Fits limit hs bs) (stage : Stage) → StageFor f stage
    → Finished f → stage ≡ Stage.Finished (length f.header) (length f.body)
stage-finished limit hs bs f Stage.Free w d = absurd w
stage-finished limit hs bs f Stage.Gathering w d = absurd (w d)
stage-finished limit hs bs f (Stage.Finished h b) w d = rw (w.1, w.2) refl

finished-fits : (limit : ℕ) (hs bs : List Segment) (f : Fits limit hs bs) (stage : Stage) (h b : ℕ) → StageFor f stage
    → stage ≡ Stage.Finished h b → Finished f
finished-fits limit hs bs f stage h b w e = (subst (λ (x : Stage). StageFor f x) e w).0

module _ (number : ℕ) (s : State) (hs bs : List Segment) (w : StandsFor number s hs bs) where
  -- the stage is finished, with the two lengths of the object, where every segment of it is in
  pub all_finished : (f : Fits (limit_of s) hs bs) → Finished f
      → stage_for number s ≡ Stage.Finished (length f.header) (length f.body)
  all_finished f d = go (find number s) refl
    where
      go : (found : Option ℕ) → find number s ≡ found
          → stage_at found s ≡ Stage.Finished (length f.header) (length f.body)
      go None e = absurd (none-finished (limit_of s) hs bs f d (w.rest e).0)
      go (Some i) e = let h = w.held i e in
          stage-finished (limit_of s) hs bs f (slot_of i s).stage
          (stage-every (limit_of s) hs bs h.gathers.object f (slot_of i s).stage h.stage) d

  -- and only there
  pub finished-all : (h b : ℕ) → stage_for number s ≡ Stage.Finished h b → (f : Fits (limit_of s) hs bs) × Finished f
  finished-all h b = go (find number s) refl
    where
      go : (found : Option ℕ) → find number s ≡ found → stage_at found s ≡ Stage.Finished h b
          → (f : Fits (limit_of s) hs bs) × Finished f
      go None e g = let z : ◌≡◌ {A = ℕ} 0 1 = cc in absurd (omega arith)
      go (Some i) e g = let k = w.held i e in (
        k.gathers.object,
        finished-fits (limit_of s) hs bs k.gathers.object (slot_of i s).stage h b
            k.stage g,
      )

  -- what is shown of a finished object: the stored segments joined by number, and the header and the body of every
  -- object and cut that fits
  pub finished-shown : sound s ≡ true → (f : Fits (limit_of s) hs bs) → Finished f → (show number Header s ≡ f.header)
      × (show number Body s ≡ f.body) × (show number Header s ≡ joined header_numbers hs)
      × (show number Body s ≡ joined body_numbers bs)
  finished-shown good f d = go (find number s) refl (all_finished f d)
    where
      go : (found : Option ℕ) → find number s ≡ found
          → stage_at found s ≡ Stage.Finished (length f.header) (length f.body)
          → (show number Header s ≡ f.header) × (show number Body s ≡ f.body)
          × (show number Header s ≡ joined header_numbers hs) × (show number Body s ≡ joined body_numbers bs)
      go None e g = absurd (none-finished (limit_of s) hs bs f d (w.rest e).0)
      go (Some i) e g =
          let shows = holds-shows (limit_of s) (slot_of i s) (lent_of i s) hs bs (w.held i e) (length f.header)
          (length f.body) g in
          let front : (part : Part) → show number part s
          ≡ front_of part (Stage.Finished (length f.header) (length f.body)) (lent_of i s) =
          λ part. held-shown number part s good i e ∙ ap (λ (x : Stage). front_of part x (lent_of i s)) g in (
            front Header ∙ (shows.every f).0,
            front Body ∙ (shows.every f).1,
            front Header ∙ shows.by_number.0,
            front Body ∙ shows.by_number.1,
          )

  -- nothing is shown of one that is not finished
  pub unfinished-shown : sound s ≡ true → ((f : Fits (limit_of s) hs bs) → ¬ (Finished f)) → (part : Part)
      → show number part s ≡ []
  unfinished-shown good none part = go (find number s) refl
    where
      staged : (i : ℕ) → Holds (limit_of s) (slot_of i s) (lent_of i s) hs bs → (stage : Stage) → (slot_of i s).stage ≡ stage
          → front_of part stage (lent_of i s) ≡ []
      staged i h Stage.Free e = refl
      staged i h Stage.Gathering e = refl
      staged i h (Stage.Finished x y) e =
          absurd (none h.gathers.object
          (finished-fits (limit_of s) hs bs h.gathers.object (slot_of i s).stage x y h.stage e))

      go : (found : Option ℕ) → find number s ≡ found → show number part s ≡ []
      go None e = unheld-shown number part s good e
      go (Some i) e = held-shown number part s good i e ∙ staged i (w.held i e) (slot_of i s).stage refl
