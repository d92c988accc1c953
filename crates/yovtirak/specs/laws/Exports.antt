-- Laws of the calls' words, and of a call whose words hold no state.
use Rattle.std.specs.Prelude.{◌≡◌, refl, Bool, true, false, List, [], ◌∷◌, ℕ, ◌≤◌, eqb, length, set, Option, Some, None}
use Rattle.std.proofs.Math.Decide.{ℕ_discrete}
use Rattle.std.proofs.Common.{ap, arith, ne_eqb, eqb-true}
use Rattle.answer.specs.declared.Part.{Part}
use Rattle.answer.specs.declared.Part.TheVariants.{Header, Body}
use Rattle.counts.specs.declared.Counts.{Counts}
use Rattle.cut.specs.Lists.{pick}
use Rattle.cut.specs.laws.Decision.{both_true}
use Rattle.collector.specs.declared.Collector.{Collector}
use Rattle.layout.specs.Layout.{readable, collector_from, counts_from}
use Rattle.yovtirak.specs.Exports.{part_word, lent_right, held_in}

pub part_small : (part : Part) → part_word part ≤ 1
part_small Header = omega arith
part_small Body = omega arith

-- words that hold a state are as many as a state has
pub readable-length : (words : List ℕ) → readable words ≡ true → length words ≡ 178
unfolding readable
readable-length words e = go (ℕ_discrete (length words) 178)
  where
    go : Dec (length words ≡ 178) → length words ≡ 178
    go (yes d) = d
    go (no d) = let f : false ≡ true = rw (ne_eqb (length words) 178 d) at e in let z : ◌≡◌ {A = ℕ} 0 1 = cc in
        absurd (omega arith)

-- what is held by the words that are lent
pub record Holds (words counts : List ℕ) (c : Collector) (n : Counts) : Type 0 where
  pub right : lent_right words counts ≡ true
  pub collector : collector_from words ≡ c
  pub counted : counts_from counts ≡ n
  pub state_length : length words ≡ 178
  pub counts_length : length counts ≡ 5

pub holds : (words counts : List ℕ) (c : Collector) (n : Counts) → held_in words counts ≡ Some (c, n)
    → Holds words counts c n
holds words counts c n = go (lent_right words counts) refl
  where
    go : (b : Bool) → lent_right words counts ≡ b
        → pick {A = Option (Collector × Counts)} b (Some (collector_from words, counts_from counts)) None ≡ Some (c, n)
        → Holds words counts c n
    go true e h =
        let both = both_true (eqb (length counts) 5) (readable words) e in
        let same : ◌≡◌ {A = Collector × Counts} (collector_from words, counts_from counts) (c, n) = cc in
        record {
          right = e;
          collector = ap (λ (pair : Collector × Counts). pair.0) same;
          counted = ap (λ (pair : Collector × Counts). pair.1) same;
          state_length = readable-length words both.1;
          counts_length = eqb-true (length counts) 5 both.0;
        }
    go false e h = let z : ◌≡◌ {A = ℕ} 0 1 = cc in absurd (omega arith)

pub holds-nothing : (words counts : List ℕ) → held_in words counts ≡ None → lent_right words counts ≡ false
holds-nothing words counts = go (lent_right words counts)
  where
    go : (b : Bool)
        → pick {A = Option (Collector × Counts)} b (Some (collector_from words, counts_from counts)) None ≡ None
        → b ≡ false
    go true h = let z : ◌≡◌ {A = ℕ} 0 1 = cc in absurd (omega arith)
    go false h = refl

pub three-put : (l : List ℕ) (a b c : ℕ) → length l ≡ 3 → set (set (set l 0 a) 1 b) 2 c ≡ a ∷ b ∷ c ∷ []
three-put [] a b c h = absurd (omega (arith, h))
three-put (x ∷ []) a b c h = absurd (omega (arith, h))
three-put (x ∷ y ∷ []) a b c h = absurd (omega (arith, h))
three-put (x ∷ y ∷ z ∷ []) a b c h = refl
three-put (x ∷ y ∷ z ∷ w ∷ l) a b c h = absurd (omega (arith, h))
