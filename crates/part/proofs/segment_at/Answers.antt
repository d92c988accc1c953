-- `part::segment_at` meets its contract: the bytes at its place.
-- Assumes nothing.
use mathlib.Core.Path.{◌≡◌, ap₂}
use Prim.Native.Nat.{ℕ, suc, ◌+◌, ◌-◌}
use native.Mathlib.Omega.{arith}
use lib.Dec.{eqb}
use lib.ListN.{length, take, drop}
use Rattle.part.specs.Memory.{place_of, length_of, segment_at}
use Rattle.part.proofs.segment_at.Goals as goal

pub returns : goal.returns
unfolding segment_at
returns c =
    let a = c.args in
    let last = eqb (suc a.number) a.kept.end in
    let count : c.length_of-count.result ≡ length_of last a.kept = cc in
    let place : c.place_of-at.result ≡ place_of last a.kept.size (length a.share.now) a.number
    (length_of last a.kept) = cc in
    let at = c.place_of-at.result in
    let long : at + c.length_of-count.result - at ≡ length_of last a.kept = omega (arith, count) in
    ap₂ (λ (n p : ℕ). take n (drop p a.share.now)) long place
