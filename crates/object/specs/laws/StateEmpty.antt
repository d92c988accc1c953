-- The empty last segment in a state: a mark for body number 0 with a recorded length of 0 is that segment; a record of
-- it without the mark, or beside a BodySize above 0, is damage by document 01's own list.
use Rattle.std.specs.Prelude.{◌≡◌, refl, Some, ℕ, ◌<◌, get_or}
use Rattle.std.proofs.Common.{sym, ap, ◌∙◌, arith}
use Rattle.answer.specs.declared.Part.TheVariants.{Header, Body}
use Rattle.cut.specs.Requirement.{empty}
use Rattle.cut.specs.declared.Record.{Record}
use Rattle.cut.specs.declared.Sizes.{Sizes}
use Rattle.cut.specs.Kept.{settle, core_of}
use Rattle.cut.specs.Lists.{Among}
use Rattle.cut.specs.laws.Segment.{Numbered}
use Rattle.cut.specs.laws.Theorem.{end-numbered}
use Rattle.cut.specs.laws.Empty.{size-zero}
use Rattle.part.specs.Memory.{Memory, segment_at, held_in}
use Rattle.part.specs.laws.Held.{at-among, held_reads, held-numbered}
use Rattle.object.specs.declared.Slot.{Slot}
use Rattle.object.specs.Parts.{Lent, marks_of, parts_of, memory_of}
use Rattle.object.specs.State.{marked_segments, Sound}

-- the record of a part whose last segment is number 0, of length 0
pub record EmptyIn (kept : Record) : Type 0 where
  pub end : kept.end ≡ 1
  pub tail : kept.tail ≡ 0

-- what is read at number 0 of such a part is the empty segment
empty-read : (m : Memory) → EmptyIn m.kept → segment_at m 0 ≡ empty
unfolding segment_at
empty-read m e = rw (e.end, e.tail) refl

module _ (limit : ℕ) (slot : Slot) (lent : Lent) (kept : EmptyIn slot.body) where
  body : Memory
  body = memory_of Body (parts_of slot lent)

  kept-body : EmptyIn body.kept
  unfolding body parts_of
  kept-body = kept

  -- with its mark, it is among the marked segments
  marked-among : Numbered 0 (marked_segments Body slot lent) → Among empty (marked_segments Body slot lent)
  unfolding body
  marked-among i = rw (empty-read body kept-body) at (at-among body 0 (held_in body) (held_reads body) i)

  pub empty-marked : 0 < get_or (marks_of Body lent.marks) 0 0 → Among empty (marked_segments Body slot lent)
  unfolding body parts_of
  empty-marked h = marked-among ((held-numbered body 0).0 h)

  number_in : Sound limit slot lent → Numbered 0 (marked_segments Body slot lent)
  unfolding settle
  number_in d = end-numbered (marked_segments Body slot lent) 0 (sym (ap (λ (p : Record). p.end) d.body) ∙ kept.end)

  -- without it, the state is damaged
  pub unmarked-damaged : get_or (marks_of Body lent.marks) 0 0 ≡ 0 → ¬ (Sound limit slot lent)
  unfolding body parts_of
  unmarked-damaged e d = omega (arith, (held-numbered body 0).1 (number_in d))

  -- and so it is beside a BodySize above 0
  pub sized-damaged : (sizes : Sizes) → core_of (marked_segments Header slot lent) ≡ Some sizes → 0 < sizes.body
      → ¬ (Sound limit slot lent)
  sized-damaged sizes e h d =
      omega (
        arith,
        size-zero limit (marked_segments Header slot lent) (marked_segments Body slot lent) d.object
            (marked-among (number_in d)) sizes e,
      )
