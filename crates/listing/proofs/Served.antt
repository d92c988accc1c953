-- What one line leaves, by what the reader told of it.
-- Assumes nothing.
use mathlib.Core.Path.{◌≡◌, refl, sym, ap, ◌∙◌}
use mathlib.Core.List.{List}
use Prim.Native.Nat.{ℕ, ◌+◌}
use lib.ListN.{length, take, drop}
use lib.Seq.{take_at}
use Rattle.std.specs.Prelude.{Some, None}
use Rattle.octets.specs.Octets.{over}
use Rattle.slots.specs.Stores.{Stores}
use Rattle.collector.specs.State.{Reply}
use Rattle.collector.specs.Calls.{take_group, drop_number}
use Rattle.listing_input.specs.declared.Line.TheVariants.{Group, Drop, Malformed}
use Rattle.listing_input.specs.Line.{Asked, taking, dropping, neither, asked_of, told, left}
use Rattle.listing_input.specs.laws.Run.{over_nothing}
use Rattle.listing.specs.declared.Held.{Held}
use Rattle.listing.specs.Listed.{Served, served_by, state_of, served_as, served, answer_as, answer_to}

told-group : (asked : Asked) (count : ℕ) → told asked ≡ Group count → (asked ≡ taking (left asked))
    × (count ≡ length (left asked))
told-group (taking bytes) count e = (refl, cc)
told-group (dropping number) count e = cc
told-group neither count e = cc

told-drop : (asked : Asked) (number : ℕ) → told asked ≡ Drop number → asked ≡ dropping number
told-drop (taking bytes) number e = cc
told-drop (dropping asked) number e = cc
told-drop neither number e = cc

told-malformed : (asked : Asked) → told asked ≡ Malformed → asked ≡ neither
told-malformed (taking bytes) e = cc
told-malformed (dropping asked) e = cc
told-malformed neither e = refl

-- bytes that are laid over the start of a memory stand at its front
laid-front : (group bytes : List ℕ) → take (length bytes) (over group 0 bytes) ≡ bytes
unfolding over
laid-front group bytes = take_at bytes (drop (0 + length bytes) group) (length bytes) refl

module _ (line : List ℕ) (held : Held) (group : List ℕ) (stores : Stores) (after : List ℕ)
    (laid : after ≡ over group 0 (left (asked_of line))) where
  -- the front of the group's memory is the group
  group-front : (count : ℕ) (front : List ℕ) → told (asked_of line) ≡ Group count → front ≡ take count after
      → (asked_of line ≡ taking (left (asked_of line))) × (front ≡ left (asked_of line))
  group-front count front reads fronts =
      let asked = told-group (asked_of line) count reads in
      (asked.0, fronts ∙ rw (laid, asked.1) (laid-front group (left (asked_of line))))

  pub served-group : (count : ℕ) (front : List ℕ) (reply : Reply) → told (asked_of line) ≡ Group count
      → front ≡ take count after
      → reply ≡ take_group front (state_of held stores) → served_by reply after ≡ served line held group stores
  unfolding served
  served-group count front reply reads fronts answers =
      let group-is = group-front count front reads fronts in
      rw (answers, group-is.1, laid) (ap (λ (a : Asked). served_as a held group stores) (sym group-is.0))

  pub answer-group : (count : ℕ) (front : List ℕ) (reply : Reply) → told (asked_of line) ≡ Group count
      → front ≡ take count after
      → reply ≡ take_group front (state_of held stores) → Some reply.answer ≡ answer_to line held stores
  unfolding answer_to
  answer-group count front reply reads fronts answers =
      let group-is = group-front count front reads fronts in
      rw (answers, group-is.1) (ap (λ (a : Asked). answer_as a held stores) (sym group-is.0))

  pub served-drop : (number : ℕ) (reply : Reply) → told (asked_of line) ≡ Drop number
      → reply ≡ drop_number number (state_of held stores)
      → served_by reply after ≡ served line held group stores
  unfolding served
  served-drop number reply reads answers =
      let asked = told-drop (asked_of line) number reads in
      let same : after ≡ group = laid ∙ ap (λ (a : Asked). over group 0 (left a)) asked ∙ sym (over_nothing group 0) in
      rw (asked, answers, same)

  pub served-malformed : told (asked_of line) ≡ Malformed
      → ◌≡◌ {A = Served} (record { held = held; group = after; stores = stores }) (served line held group stores)
  unfolding served
  served-malformed reads =
      let asked = told-malformed (asked_of line) reads in
      let same : after ≡ group = laid ∙ ap (λ (a : Asked). over group 0 (left a)) asked ∙ sym (over_nothing group 0) in
      rw (asked, same)

module _ (line : List ℕ) (held : Held) (stores : Stores) where
  pub answer-drop : (number : ℕ) (reply : Reply) → told (asked_of line) ≡ Drop number
      → reply ≡ drop_number number (state_of held stores) → Some reply.answer ≡ answer_to line held stores
  unfolding answer_to
  answer-drop number reply reads answers = rw (told-drop (asked_of line) number reads, answers)

  pub answer-malformed : told (asked_of line) ≡ Malformed → None ≡ answer_to line held stores
  unfolding answer_to
  answer-malformed reads = rw (told-malformed (asked_of line) reads)
