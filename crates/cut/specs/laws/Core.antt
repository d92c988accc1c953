-- The core fields: they read back what was written, and only the first seven bytes play a part.
use Rattle.std.specs.Prelude.{◌≡◌, List, [], ◌∷◌, ◌++◌, ℕ, ◌+◌, ◌*◌, ◌/◌, ◌%◌, ◌≤◌, ◌<◌, take}
use Rattle.std.proofs.Math.Nat.{div-div-eq-div-mul}
use native.Mathlib.Omega.{arith}
use Rattle.std.proofs.Common.{get_or-take}
use Rattle.cut.specs.Requirement.{header_least, body_size, header_size, content_type, content_sub_type}
use Rattle.cut.specs.Lists.{Bytes}

-- the core of a header of H bytes whose body has B, of type T and subtype U
unfoldable pub core_bytes : ℕ → ℕ → ℕ → ℕ → List ℕ
core_bytes B H T U = (B / 0x100000) ∷ (B / 0x1000 % 0x100) ∷ (B / 0x10 % 0x100) ∷ (B % 0x10 * 0x10 + H / 0x200)
    ∷ (H / 2 % 0x100) ∷ (H % 2 * 0x80 + T * 2 + U / 0x100) ∷ (U % 0x100) ∷ []

low4 : (x y : ℕ) → y < 0x10 → (x * 0x10 + y) % 0x10 ≡ y
low4 x y h = omega arith

parts : (H m q r : ℕ) → m / 0x100 ≡ q → m * 2 + r ≡ H → q * 0x200 + m % 0x100 * 2 + r ≡ H
parts H m q r e f = omega arith

module _ (B H T U : ℕ) (r : List ℕ) (b : B < 0x10000000) (h : H < 0x2000) (t : T < 0x40) (u : U < 0x200) where
  -- each of the four fields reads back
  pub core-body : body_size (core_bytes B H T U ++ r) ≡ B
  unfolding body_size core_bytes
  core-body = omega arith

  pub core-header : header_size (core_bytes B H T U ++ r) ≡ H
  unfolding header_size core_bytes
  core-header =
      let q : H / 2 / 0x100 ≡ H / 0x200 = div-div-eq-div-mul H 2 0x100 in
      let e1 : (B % 0x10 * 0x10 + H / 0x200) % 0x10 ≡ H / 0x200 = low4 (B % 0x10) (H / 0x200) (omega arith) in
      let e2 : (H % 2 * 0x80 + T * 2 + U / 0x100) / 0x80 ≡ H % 2 = omega arith in
      let e3 : H / 0x200 * 0x200 + H / 2 % 0x100 * 2 + H % 2 ≡ H = parts H (H / 2) (H / 0x200) (H % 2) q (omega arith)
      in
      rw (e1, e2) e3

  pub core-type : content_type (core_bytes B H T U ++ r) ≡ T
  unfolding content_type core_bytes
  core-type = omega arith

  pub core-sub-type : content_sub_type (core_bytes B H T U ++ r) ≡ U
  unfolding content_sub_type core_bytes
  core-sub-type = omega arith

pub core-is-bytes : (B H T U : ℕ) → B < 0x10000000 → H < 0x2000 → T < 0x40 → U < 0x200 → Bytes (core_bytes B H T U)
unfolding core_bytes
core-is-bytes B H T U b h t u = omega arith

-- the fields are read off any front that has the core
pub front-body : (n : ℕ) (h : List ℕ) → header_least ≤ n → body_size (take n h) ≡ body_size h
unfolding body_size
front-body n h g =
    rw (
      get_or-take n h 0 0 (omega arith),
      get_or-take n h 1 0 (omega arith),
      get_or-take n h 2 0 (omega arith),
      get_or-take n h 3 0 (omega arith),
    )

pub front-header : (n : ℕ) (h : List ℕ) → header_least ≤ n → header_size (take n h) ≡ header_size h
unfolding header_size
front-header n h g =
    rw (get_or-take n h 3 0 (omega arith), get_or-take n h 4 0 (omega arith), get_or-take n h 5 0 (omega arith))
