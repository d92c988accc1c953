-- Lists, for any use: a choice by a test, what holds of each element, what is among them, and a run of bytes written
-- over a list.
use Rattle.octets.specs.Octets.{over}
use Rattle.std.specs.Prelude.{◌≡◌, refl, List, [], ◌∷◌, ◌++◌, ℕ, zero, suc, ◌+◌, ◌≤◌, ◌<◌, length, take, drop, replicate}
use Rattle.std.proofs.Common.{subst, inl, inr, arith, length-take, length-drop, drop_at, take-add}
use Rattle.cut.specs.Lists.{Each, Among, Bytes}

-- ---- each, and among

pub each_map : {A : Type 0} {P Q : A → Type 0} → ((x : A) → P x → Q x) → (xs : List A) → Each P xs → Each Q xs
each_map f [] t = tt
each_map f (x ∷ xs) t = (f x t.0, each_map f xs t.1)

pub each-zip : {A : Type 0} {P Q R : A → Type 0} → ((x : A) → P x → Q x → R x) → (xs : List A) → Each P xs → Each Q xs
    → Each R xs
each-zip f [] t u = tt
each-zip f (x ∷ xs) t u = (f x t.0 u.0, each-zip f xs t.1 u.1)

pub each-zip3 : {A : Type 0} {P Q R W : A → Type 0} → ((x : A) → P x → Q x → R x → W x) → (xs : List A) → Each P xs
    → Each Q xs → Each R xs → Each W xs
each-zip3 f [] t u v = tt
each-zip3 f (x ∷ xs) t u v = (f x t.0 u.0 v.0, each-zip3 f xs t.1 u.1 v.1)

pub each-among : {A : Type 0} (P : A → Type 0) (x : A) (ys : List A) → Each P ys → Among x ys → P x
each-among P x [] e i = absurd i
each-among P x (y ∷ ys) e (inl i) = subst P i e.0
each-among P x (y ∷ ys) e (inr i) = each-among P x ys e.1 i

pub among-each : {A : Type 0} {P : A → Type 0} (ys : List A) → ((x : A) → Among x ys → P x) → Each P ys
among-each [] f = tt
among-each (y ∷ ys) f = (f y (inl refl), among-each ys (λ x i. f x (inr i)))

pub each_take : {A : Type 0} (P : A → Type 0) (n : ℕ) (l : List A) → Each P l → Each P (take n l)
each_take P zero l e = tt
each_take P (suc n) [] e = tt
each_take P (suc n) (x ∷ l) e = (e.0, each_take P n l e.1)

pub each-drop : {A : Type 0} (P : A → Type 0) (n : ℕ) (l : List A) → Each P l → Each P (drop n l)
each-drop P zero l e = e
each-drop P (suc n) [] e = tt
each-drop P (suc n) (x ∷ l) e = each-drop P n l e.1

pub each_append : {A : Type 0} (P : A → Type 0) (l r : List A) → Each P l → Each P r → Each P (l ++ r)
each_append P [] r a b = b
each_append P (x ∷ l) r a b = (a.0, each_append P l r a.1 b)

pub bytes_take : (n : ℕ) (l : List ℕ) → Bytes l → Bytes (take n l)
bytes_take n l b = each_take (λ b. b < 256) n l b

pub bytes_drop : (n : ℕ) (l : List ℕ) → Bytes l → Bytes (drop n l)
bytes_drop n l b = each-drop (λ b. b < 256) n l b

pub bytes-append : (l r : List ℕ) → Bytes l → Bytes r → Bytes (l ++ r)
bytes-append l r a b = each_append (λ b. b < 256) l r a b

pub bytes-zeros : (n : ℕ) → Bytes (replicate n 0)
bytes-zeros zero = tt
bytes-zeros (suc n) = (omega arith, bytes-zeros n)

-- ---- parts of a list

pub take-length : (i : ℕ) (l : List ℕ) → i ≤ length l → length (take i l) ≡ i
take-length i l h = simp length-take (omega arith)

pub part_length : (k i : ℕ) (l : List ℕ) → i + k ≤ length l → length (take k (drop i l)) ≡ k
part_length k i l h = simp (length-take, length-drop) (omega arith)

pub drop-take : (j n : ℕ) (l : List ℕ) → j ≤ length l → drop j (take (j + n) l) ≡ take n (drop j l)
drop-take j n l h = rw take-add (drop_at (take j l) (take n (drop j l)) j (take-length j l h))

-- ---- a run of bytes laid over a list

pub over-bytes : (l : List ℕ) (i : ℕ) (vs : List ℕ) → Bytes l → Bytes vs → Bytes (over l i vs)
unfolding over
over-bytes l i vs a b = bytes-append (take i l ++ vs) (drop (i + length vs) l)
    (bytes-append (take i l) vs (bytes_take i l a) b) (bytes_drop (i + length vs) l a)
