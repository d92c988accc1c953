-- A text laid over a line's memory behind what is written, and where what follows it starts.
use Rattle.std.specs.Prelude.{◌≡◌, List, [], ◌∷◌, ◌++◌, ℕ, ◌+◌, ◌≤◌, length}
use Rattle.std.proofs.Common.{ap, ◌∙◌, subst, append_assoc, zero-add, arith, length-append}
use Rattle.octets.specs.Octets.{over}
use Rattle.answer.specs.declared.Heard.{Heard}
use Rattle.listing_input.specs.laws.Run.{over-joined}
use Rattle.listing_output.specs.declared.Line.{Line}
use Rattle.listing_output.specs.Number.{decimal, four_digits}
use Rattle.listing_output.specs.Text.{space, part_of, segment_text}

pub record Put (before after : Line) (text : List ℕ) : Type 0 where
  pub lent : after.out.ghost_name ≡ before.out.ghost_name
  pub long : length after.out.now ≡ length before.out.now
  pub ends : after.at ≡ before.at + length text
  pub laid : after.out.now ≡ over before.out.now before.at text

module _ {before after : Line} {text : List ℕ} (put : Put before after text) where
  -- the same text, said otherwise
  pub put_same : {other : List ℕ} → text ≡ other → Put before after other
  put_same e = subst (λ (t : List ℕ). Put before after t) e put

  -- one text and then another are one text
  pub put_then : {last : Line} {more : List ℕ} → Put after last more → after.at ≤ length before.out.now
      → Put before last (text ++ more)
  put_then {more = more} then fits = record {
    lent = then.lent ∙ put.lent;
    long = then.long ∙ put.long;
    ends = then.ends ∙ rw (put.ends, length-append) (omega arith);
    laid = then.laid ∙ rw (put.laid, put.ends)
        (over-joined before.out.now before.at text (rw (← put.ends) fits) more);
  }

-- a text from the start on, that there is room for
pub put_whole : {before after : Line} {text : List ℕ} {room : ℕ} → Put before after text → before.at ≡ 0
    → after.at ≤ room → (after.at ≡ length text) × ((after.out.now ≡ over before.out.now 0 text) × (after.at ≤ room))
put_whole put start fits = (put.ends ∙ rw start (zero-add _), (put.laid ∙ rw start, fits))

-- a segment's values and what follows them, field by field
pub segment-then : (heard : Heard) (rest : List ℕ) → segment_text heard ++ rest
    ≡ (four_digits heard.number ++ (space ∷ []))
    ++ ((part_of heard.part ++ (space ∷ [])) ++ ((decimal heard.segment ++ (space ∷ [])) ++ rest))
segment-then heard rest =
    append_assoc (four_digits heard.number ++ (space ∷ [])) _ rest
    ∙ ap (λ (text : List ℕ). (four_digits heard.number ++ (space ∷ [])) ++ text)
    (append_assoc (part_of heard.part ++ (space ∷ [])) _ rest)
