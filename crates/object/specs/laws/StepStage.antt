-- The stage of a slot that holds segments: finished exactly when every segment of the object is in.
use Rattle.std.specs.Prelude.{◌≡◌, refl, ◌↔◌, Bool, true, false, Option, Some, None, List, ℕ, length}
use Rattle.std.proofs.Common.{sym, ap, ◌∙◌, subst, arith}
use Rattle.octets.specs.Octets.{sum_of}
use Rattle.cut.specs.Requirement.{Segment, Fits, Finished}
use Rattle.cut.specs.declared.Sizes.{Sizes}
use Rattle.cut.specs.declared.Bounds.{Bounds}
use Rattle.cut.specs.Decision.{finished}
use Rattle.cut.specs.Kept.{settle, Summary, summary, record_of, core_of}
use Rattle.cut.specs.laws.Decision.{false-true}
use Rattle.cut.specs.laws.Finished.{finished-core, finished-every, finished-one}
use Rattle.cut.specs.laws.Marks.{finished-marked}
use Rattle.object.specs.declared.Slot.{Slot}
use Rattle.object.specs.declared.Stage.{Stage}
use Rattle.object.specs.laws.Held.{Gathers, Holds}
use Rattle.object.specs.State.{StageFor}
use Rattle.object.specs.laws.HeldSlot.{core-read}
use Rattle.object.specs.Parts.{Lent, Parts}
use Rattle.object.specs.Stage.{stage_by, stage_of}

-- only the ends of the records play a part
finished-kept : (core : Option Sizes) (b c : Bounds) (σ τ : Summary) (h k : ℕ)
    → finished core h (record_of b σ) k (record_of c τ)
    ≡ finished core h σ.part k τ.part
unfolding settle
finished-kept None b c σ τ h k = refl
finished-kept (Some sizes) b c σ τ h k = refl

stage-as : (limit : ℕ) (hs bs : List Segment) (f : Fits limit hs bs) (done : Bool) (core : Option Sizes)
    → core_of hs ≡ core
    → (done ≡ true) ↔ Finished f → StageFor f (stage_by done core)
stage-as limit hs bs f false core e i = λ w. false-true refl (i.1 w)
stage-as limit hs bs f true None e i = let x = sym e
    ∙ finished-core limit hs bs f (i.0 refl) in let z : ◌≡◌ {A = ℕ} 0 1 = cc in absurd (omega arith)
stage-as limit hs bs f true (Some sizes) e i =
    let x = sym e
    ∙ finished-core limit hs bs f (i.0 refl) in
    let b : sizes.body ≡ length f.body = cc in
    let h : sizes.header ≡ length f.header = cc in
    (i.0 refl, h, b)

-- the stage that the parts give is the one that the segments give, whichever object is asked
pub stage-right : (limit : ℕ) (ps : Parts) (hs bs : List Segment) → Gathers limit ps hs bs → (f : Fits limit hs bs)
    → StageFor f (stage_of ps)
unfolding stage_of
stage-right limit ps hs bs g f =
    rw (core-read limit ps hs bs g, g.header.kept, g.body.kept, finished-kept)
    (stage-as limit hs bs f
    (finished (core_of hs) (sum_of ps.header.marks) (summary hs).part (sum_of ps.body.marks)
    (summary bs).part) (core_of hs) refl
    (finished-marked limit hs bs f ps.header.marks ps.body.marks g.header.marked g.body.marked))

-- there is one such stage
pub stage-one : (limit : ℕ) (hs bs : List Segment) (f : Fits limit hs bs) (x y : Stage) → StageFor f x → StageFor f y
    → x ≡ y
stage-one limit hs bs f Stage.Free y a b = absurd a
stage-one limit hs bs f Stage.Gathering Stage.Free a b = absurd b
stage-one limit hs bs f Stage.Gathering Stage.Gathering a b = refl
stage-one limit hs bs f Stage.Gathering (Stage.Finished h k) a b = absurd (a b.0)
stage-one limit hs bs f (Stage.Finished h k) Stage.Free a b = absurd b
stage-one limit hs bs f (Stage.Finished h k) Stage.Gathering a b = absurd (b a.0)
stage-one limit hs bs f (Stage.Finished h k) (Stage.Finished h' k') a b = rw (a.1, a.2, b.1, b.2) refl

-- FINISHED: the stage says so, with two lengths, exactly when every segment of an object of these lengths is in
pub finished-exactly : (limit : ℕ) (slot : Slot) (lent : Lent) (hs bs : List Segment) → Holds limit slot lent hs bs
    → (header body : ℕ) → (slot.stage ≡ Stage.Finished header body)
    ↔ ((f : Fits limit hs bs) × Finished f × (header ≡ length f.header) × (body ≡ length f.body))
finished-exactly limit slot lent hs bs h header body = (
  (λ e. let s = subst (λ (x : Stage). StageFor o x) e h.stage in (o, s.0, s.1, s.2)),
  (λ r.
      let one = finished-one limit hs bs r.0 o r.1 in
      stage-one limit hs bs o slot.stage (Stage.Finished header body) h.stage (
        finished-every limit hs bs r.0 o r.1,
        r.2 ∙ ap length (sym one.0),
        r.3
            ∙ ap length (sym one.1),
      )),
)
  where
    o : Fits limit hs bs
    o = h.gathers.object
