-- What an input leaves is what its lines leave, one after the other. Chunks need no word here: what two parts of an
-- input leave, one after the other, is what the whole leaves (`input-joined`).
use Rattle.std.specs.Prelude.{◌≡◌, List, [], ◌∷◌, ◌++◌, ℕ, length}
use Rattle.std.proofs.Math.Path.{refl, ap}
use Rattle.std.proofs.Common.{◌∙◌, arith, length-take}
use Rattle.std.proofs.Math.Decide.{ℕ_discrete}
use Rattle.listing_input.specs.Split.{newline, ended, behind, unended, lines_of}
use Rattle.listing_input.specs.Gather.{most}
use Rattle.listing_input.specs.Line.{Asked, asked_of}
use Rattle.listing_input.specs.laws.Chunks.{Holds, holds-nothing, holds_more, ended-newline, ended-other, behind-newline, behind-other}
use Rattle.listing_input.specs.laws.Theorems.{front-asks}
use Rattle.listing.specs.Listed.{Served, served_as, served, Listed, line_listed, piece_listed, input_listed, end_listed, left_of, lines_served}
use Rattle.listing.specs.laws.Listed.{listed-newline, listed-other, end-some, end_none}

-- ---- what is asked

lines-joined : (first then : List (List ℕ)) (left : Served)
    → lines_served (first ++ then) left ≡ lines_served then (lines_served first left)
unfolding lines_served
lines-joined [] then left = refl
lines-joined (line ∷ first) then left = lines-joined first then (served line left.held left.group left.stores)

-- ---- a line, as far as it is kept

module _ (l : Listed) (begun : List ℕ) (holds : Holds l.line l.listing.kept begun) where
  line-left : left_of (line_listed l) ≡ served begun l.listing.held l.group l.stores
  unfolding line_listed served
  line-left = ap (λ (asked : Asked). served_as asked l.listing.held l.group l.stores)
      (ap asked_of holds.held ∙ front-asks begun)

  line-holds : Holds (line_listed l).line (line_listed l).listing.kept []
  unfolding line_listed
  line-holds = holds-nothing l.line holds.long

  piece-left : (piece : List ℕ) → left_of (piece_listed piece l) ≡ left_of l
  unfolding piece_listed
  piece-left piece = refl

  piece-holds : (piece : List ℕ) → Holds (piece_listed piece l).line (piece_listed piece l).listing.kept
      (begun ++ piece)
  unfolding piece_listed
  piece-holds piece = holds_more holds piece

-- ---- the input

-- the lines that newlines ended are done, and what is behind the last one is kept
record Follows (begun input : List ℕ) (l m : Listed) : Type 0 where
  left : left_of m ≡ lines_served (ended begun input) (left_of l)
  rest : Holds m.line m.listing.kept (behind begun input)

follows : (input begun : List ℕ) (l : Listed) → Holds l.line l.listing.kept begun
    → Follows begun input l (input_listed input l)
unfolding input_listed ended behind lines_served
follows [] begun l holds = record { left = refl; rest = holds }
follows (character ∷ input) begun l holds =
    one (ℕ_discrete character newline) (follows input [] (line_listed l) (line-holds l begun holds))
    (follows input (begun ++ (character ∷ [])) (piece_listed (character ∷ []) l)
    (piece-holds l begun holds (character ∷ [])))
  where
    one : Dec (character ≡ newline) → Follows [] input (line_listed l) (input_listed input (line_listed l))
        → Follows (begun ++ (character ∷ [])) input (piece_listed (character ∷ []) l)
        (input_listed input (piece_listed (character ∷ []) l))
        → Follows begun (character ∷ input) l (input_listed (character ∷ input) l)
    one (yes p) ends goes =
        rw (listed-newline character input l p)
        (record {
          left = ends.left ∙ rw (ended-newline character begun input p, line-left l begun holds);
          rest = rw (behind-newline character begun input p) ends.rest;
        })
    one (no n) ends goes =
        rw (listed-other character input l n)
        (record {
          left = goes.left ∙ rw (ended-other character begun input n, piece-left l begun holds (character ∷ []));
          rest = rw (behind-other character begun input n) goes.rest;
        })

-- the input's end ends a line of which there are characters
end-left : (l : Listed) (begun : List ℕ) → Holds l.line l.listing.kept begun
    → left_of (end_listed l) ≡ lines_served (unended begun) (left_of l)
unfolding lines_served
end-left l [] holds = ap left_of (end_none l (omega (arith, holds.counted)))
end-left l (character ∷ begun) holds =
    ap left_of (end-some l (omega (arith, holds.counted, length-take most (character ∷ begun)))) ∙ line-left l
    (character ∷ begun) holds

-- from the start of the input on, each of its lines is done once, in order
pub lines-done : (input : List ℕ) (l : Listed) → length l.line ≡ most → l.listing.kept ≡ 0
    → left_of (end_listed (input_listed input l)) ≡ lines_served (lines_of input) (left_of l)
unfolding lines_of
lines-done input l long none =
    let start : Holds l.line l.listing.kept [] = rw none (holds-nothing l.line long) in
    let now = follows input [] l start in
    end-left (input_listed input l) (behind [] input)
    now.rest ∙ rw (now.left, lines-joined (ended [] input) (unended (behind [] input)) (left_of l))
