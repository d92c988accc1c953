-- Lists, for any use: tests together, a choice by a test, what holds of each element, what is among them, and bytes.
use Rattle.std.specs.Prelude.{◌≡◌, ◌⊎◌, Bool, true, false, List, [], ◌∷◌, ℕ, ◌<◌}

-- a if the test passes, else b
abbrev pub pick : {A : Type 0} → Bool → A → A → A
pick true a b = a
pick false a b = b

abbrev pub both : Bool → Bool → Bool
both true b = b
both false b = false

-- every test passes
abbrev pub all : List Bool → Bool
all [] = true
all (b ∷ bs) = both b (all bs)

-- P holds of each element
abbrev pub Each : {A : Type 0} → (A → Type 0) → List A → Type 0
Each P [] = Unit {0}
Each P (x ∷ xs) = P x × Each P xs

-- x is one of them
abbrev pub Among : {A : Type 0} → A → List A → Type 0
Among x [] = ⊥
Among x (y ∷ ys) = (y ≡ x) ⊎ Among x ys

-- each is a byte
abbrev pub Bytes : List ℕ → Type 0
Bytes l = Each (λ b. b < 256) l
