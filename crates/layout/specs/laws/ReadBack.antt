-- Nothing is lost: the words of a collector hold a state, and read back as that collector.
use Rattle.std.specs.Prelude.{◌≡◌, false, List, [], ◌∷◌, ◌++◌, ℕ, zero, suc, ◌+◌, ◌*◌, ◌≤◌, ◌<◌, eqb, leb, get_or, drop}
use Rattle.std.proofs.Math.Path.{refl, ap}
use Rattle.std.proofs.Common.{sym, ◌∙◌, add-zero, arith, get_or-drop, drop-drop}
use Rattle.std.proofs.Math.Bool.{true}
use Rattle.std.proofs.Math.Nat.{add_assoc}
use borrow.Author.Tests.{lt-ltb, eq-eqb, le-leb}
use Rattle.std.proofs.Math.ListN.{length}
use Rattle.object.specs.declared.Slot.{Slot}
use Rattle.object.specs.declared.Stage.{Stage}
use Rattle.object.specs.declared.Stage.TheVariants.{Free, Gathering, Finished}
use Rattle.collector.specs.declared.Collector.{Collector}
use Rattle.layout.specs.Layout.{word, stage_tag, header_word, body_word, slot_words, slots_words, words_of, stage_from, stage_at, record_at, slot_in, slots_from, collector_from, slot_readable, readable_from, readable}
use Rattle.cut.specs.Lists.{pick}

-- transport numbers of 16 bits and bytes still to come of 32, as a slot's always are
abbrev pub Narrow : List Slot → Type 0
Narrow [] = Unit
Narrow (slot ∷ slots) = (slot.number < 65536) × (slot.missing < 4294967296) × Narrow slots

stage-back : (stage : Stage) → stage_from (stage_tag stage) (header_word stage) (body_word stage) ≡ stage
stage-back Free = refl
stage-back Gathering = refl
stage-back (Finished header body) = refl

module _ (words : List ℕ) (at : ℕ) (slot : Slot) (rest : List ℕ) (here : drop at words ≡ slot_words slot ++ rest) where
  word-here : (j : ℕ) → word words (at + j) ≡ word (slot_words slot ++ rest) j
  word-here j = sym (get_or-drop at words j 0) ∙ ap (λ (l : List ℕ). get_or l j 0) here

  first-here : word words at ≡ slot.number
  first-here = ap (λ (j : ℕ). word words j) (sym (add-zero at)) ∙ word-here 0

  pub slot-back : slot.number < 65536 → slot.missing < 4294967296 → slot_in words at ≡ slot
  unfolding slot_in stage_at record_at
  slot-back n m =
      simp (
        add_assoc,
        first-here,
        word-here,
        lt-ltb slot.number 65536 n,
        stage-back slot.stage,
        lt-ltb slot.missing 4294967296 m,
      ) refl

  pub slot-reads : slot.number < 65536 → slot.missing < 4294967296 → slot_readable words at ≡ true
  unfolding slot_readable
  slot-reads n m =
      rw (
        word-here 1,
        first-here,
        word-here 10,
        lt-ltb slot.number 65536 n,
        lt-ltb slot.missing 4294967296 m,
      )
      (three slot.stage)
    where
      three : (stage : Stage) → pick (eqb (stage_tag stage) 0) true (pick (leb (stage_tag stage) 2) true false) ≡ true
      three Free = refl
      three Gathering = refl
      three (Finished header body) = refl

pub slots-back : (words : List ℕ) (at : ℕ) (slots : List Slot) → drop at words ≡ slots_words slots → Narrow slots
    → slots_from words (length slots) at ≡ slots
unfolding slots_from slots_words
slots-back words at [] e n = refl
slots-back words at (slot ∷ slots) e n =
    let next : drop (at + 11) words ≡ slots_words slots = sym (drop-drop 11 at words) ∙ ap (drop 11) e in
    rw (slot-back words at slot (slots_words slots) e n.0 n.1, slots-back words (at + 11) slots next n.2) refl

slots_read : (words : List ℕ) (at count : ℕ) (slots : List Slot) → drop at words ≡ slots_words slots → Narrow slots
    → count ≤ length slots → readable_from words count at ≡ true
unfolding readable_from slots_words
slots_read words at zero slots e n h = refl
slots_read words at (suc count) [] e n h = absurd (omega (arith, h))
slots_read words at (suc count) (slot ∷ slots) e n h =
    let next : drop (at + 11) words ≡ slots_words slots = sym (drop-drop 11 at words) ∙ ap (drop 11) e in
    rw (slot-reads words at slot (slots_words slots) e n.0 n.1)
    (slots_read words (at + 11) count slots next n.2 (omega (arith, h)))

slots_length : (slots : List Slot) → length (slots_words slots) ≡ length slots * 11
unfolding slots_words
slots_length [] = refl
slots_length (slot ∷ slots) = omega (arith, slots_length slots)

module _ (c : Collector) (sixteen : length c.slots ≡ 16) (narrow : Narrow c.slots) where
  -- what is written reads back
  pub written_back : collector_from (words_of c) ≡ c
  unfolding collector_from words_of
  written_back =
      let e : slots_from (words_of c) 16 2 ≡ c.slots =
      ap (λ (n : ℕ). slots_from (words_of c) n 2) (sym sixteen) ∙ slots-back (words_of c) 2 c.slots refl narrow in
      rw e refl

  -- and holds a state
  pub written-reads : c.count ≤ 16 → readable (words_of c) ≡ true
  unfolding readable words_of
  written-reads h =
      let n : length (words_of c) ≡ 178 = omega (arith, slots_length c.slots, sixteen) in
      rw (eq-eqb (length (words_of c)) 178 n, le-leb c.count 16 h)
      (slots_read (words_of c) 2 c.count c.slots refl narrow (omega (arith, sixteen)))
