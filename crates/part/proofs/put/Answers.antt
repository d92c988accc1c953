-- `part::put` meets its contract: the place of the last one is settled, then the segment is copied to its own.
-- Assumes nothing.
use mathlib.Core.Path.{◌≡◌, ap, ◌∙◌}
use mathlib.Core.List.{List}
use Prim.Native.Nat.{ℕ, ◌+◌, ◌-◌, ◌≤◌}
use native.Mathlib.Omega.{arith}
use lib.ListN.{length, set}
use borrow.Rule.Slice.PartMut.{put_mid}
use Rattle.octets.specs.Octets.{over}
use Rattle.octets.specs.laws.Over.{over-start}
use Rattle.part.specs.Memory.{place_of}
use Rattle.part.specs.Moves.{settled, put}
use Rattle.part.specs.laws.Inside.{place-lies}
use Rattle.part.proofs.put.Goals as goal

pub returns : goal.returns
unfolding put settled
returns c =
    let a = c.args in
    let s = a.segment.now in
    let moved : List ℕ = c.settle.new.share in
    let kept : length moved ≡ length a.share.now = c.settle.auto.share in
    let lies = place-lies s.last (length moved) a.new.size s.number (length s.bytes.now)
    (omega (arith, c.requires.can_put.inside, kept)) in
    let at = c.place_of-at.result in
    let count = length s.bytes.now in
    let fits : at + (at + count - at) ≤ length moved =
    omega (arith, c.place_of-at.ensures, lies) in
    let share = ap (put_mid at (at + count - at) moved) c.copy_in.ensures
    ∙ over-start moved at (at + count - at) s.bytes.now (omega arith) fits
    ∙ ap (λ (p : ℕ). over moved p s.bytes.now) c.place_of-at.ensures in
    let laid = ap (λ (l : List ℕ). over l (place_of s.last a.new.size (length l) s.number count)
    s.bytes.now) c.settle.ensures in
    ap (λ (l : List ℕ). record { kept = a.new; marks = set a.marks.now s.number 1; share = l }) (share ∙ laid)
