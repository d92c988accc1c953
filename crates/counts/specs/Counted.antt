-- Document 01, "Five counts": which answers each one counts, and that it stays at 2147483647.
use Rattle.std.specs.Prelude.{Bool, cond, ◌&&◌, ℕ, ◌+◌, leb, ltb}
use Rattle.answer.specs.declared.Answer.{Answer}
use Rattle.answer.specs.declared.Answer.TheVariants.{Stored, Complete, Repeat, Dropped, Refused, Conflict, Full, Denied}
use Rattle.counts.specs.declared.Counts.{Counts}

abbrev pub ceiling : ℕ
ceiling = 2147483647

-- one more, up to the ceiling
unfoldable pub risen : ℕ → ℕ
risen count = cond (ltb count ceiling) (count + 1) count

abbrev pub none_yet : Counts
none_yet = record { taken = 0; repeated = 0; refused = 0; completed = 0; dropped = 0 }

abbrev pub one_taken : Counts → Counts
one_taken c = record c { taken = risen c.taken }

abbrev pub one_completed : Counts → Counts
one_completed c = record c { taken = risen c.taken; completed = risen c.completed }

abbrev pub one_repeated : Counts → Counts
one_repeated c = record c { repeated = risen c.repeated }

abbrev pub one_refused : Counts → Counts
one_refused c = record c { refused = risen c.refused }

abbrev pub one_dropped : Counts → Counts
one_dropped c = record c { dropped = risen c.dropped }

-- taken (0 and 1), repeated (2), refused (10 to 18), completed (1), dropped (3); no other answer is counted
abbrev pub counted : Answer → Counts → Counts
counted (Stored heard repetition) c = one_taken c
counted (Complete heard repetition) c = one_completed c
counted (Repeat heard repetition) c = one_repeated c
counted (Dropped number) c = one_dropped c
counted (Refused refusal) c = one_refused c
counted (Conflict heard) c = one_refused c
counted (Full heard) c = one_refused c
counted (Denied reason) c = c

-- no count lies outside 0 to 2147483647
unfoldable pub within : Counts → Bool
within c = leb c.taken ceiling
    && (leb c.repeated ceiling && (leb
    c.refused ceiling && (leb c.completed ceiling && leb c.dropped ceiling)))
