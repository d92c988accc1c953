-- The five counts: none passes the ceiling.
use Rattle.std.specs.Prelude.{◌≡◌, refl, Bool, true, false, cond, ◌&&◌, ℕ, ◌+◌, ◌≤◌, leb, ltb}
use Rattle.std.proofs.Common.{arith, leb-true, le-leb, ltb-true}
use Rattle.answer.specs.declared.Answer.{Answer}
use Rattle.counts.specs.declared.Counts.{Counts}
use Rattle.counts.specs.Counted.{ceiling, risen, counted, within}
use Rattle.cut.specs.laws.Decision.{false-true}
use Rattle.history.specs.State.{Low}

and-true : (a b : Bool) → (a && b) ≡ true → (a ≡ true) × (b ≡ true)
and-true true b e = (refl, e)
and-true false b e = absurd (false-true refl e)

pub within_low : (c : Counts) → within c ≡ true → Low c
unfolding within
within_low c e =
    let t = and-true (leb c.taken ceiling)
    (leb c.repeated ceiling && (leb
    c.refused ceiling && (leb c.completed ceiling && leb c.dropped ceiling))) e in
    let r = and-true (leb c.repeated ceiling)
    (leb c.refused ceiling && (leb c.completed ceiling && leb c.dropped ceiling)) t.1 in
    let f = and-true (leb c.refused ceiling) (leb c.completed ceiling && leb c.dropped ceiling) r.1 in
    let d = and-true (leb c.completed ceiling) (leb c.dropped ceiling) f.1 in
    record {
      taken = leb-true c.taken ceiling t.0;
      repeated = leb-true c.repeated ceiling r.0;
      refused = leb-true c.refused ceiling f.0;
      completed = leb-true c.completed ceiling d.0;
      dropped = leb-true c.dropped ceiling d.1;
    }

pub low-within : (c : Counts) → Low c → within c ≡ true
unfolding within
low-within c w = rw (
  le-leb c.taken ceiling w.taken,
  le-leb c.repeated ceiling w.repeated,
  le-leb c.refused ceiling w.refused,
  le-leb c.completed ceiling w.completed,
  le-leb c.dropped ceiling w.dropped,
) refl

risen-low : (n : ℕ) → n ≤ ceiling → risen n ≤ ceiling
unfolding risen
risen-low n h = go (ltb n ceiling) refl
  where
    go : (b : Bool) → ltb n ceiling ≡ b → cond b (n + 1) n ≤ ceiling
    go true e = omega (arith, ltb-true n ceiling e)
    go false e = h

pub counted-low : (a : Answer) (c : Counts) → Low c → Low (counted a c)
counted-low (Answer.Stored heard repetition) c w =
    record {
      taken = risen-low c.taken w.taken;
      repeated = w.repeated;
      refused = w.refused;
      completed =
          w.completed;
      dropped = w.dropped;
    }
counted-low (Answer.Complete heard repetition) c w =
    record {
      taken = risen-low c.taken w.taken;
      repeated = w.repeated;
      refused = w.refused;
      completed =
          risen-low c.completed w.completed;
      dropped = w.dropped;
    }
counted-low (Answer.Repeat heard repetition) c w =
    record {
      taken = w.taken;
      repeated = risen-low c.repeated w.repeated;
      refused = w.refused;
      completed =
          w.completed;
      dropped = w.dropped;
    }
counted-low (Answer.Dropped number) c w =
    record {
      taken = w.taken;
      repeated = w.repeated;
      refused = w.refused;
      completed = w.completed;
      dropped =
          risen-low c.dropped w.dropped;
    }
counted-low (Answer.Refused why) c w =
    record {
      taken = w.taken;
      repeated = w.repeated;
      refused = risen-low c.refused w.refused;
      completed =
          w.completed;
      dropped = w.dropped;
    }
counted-low (Answer.Conflict heard) c w =
    record {
      taken = w.taken;
      repeated = w.repeated;
      refused = risen-low c.refused w.refused;
      completed =
          w.completed;
      dropped = w.dropped;
    }
counted-low (Answer.Full heard) c w =
    record {
      taken = w.taken;
      repeated = w.repeated;
      refused = risen-low c.refused w.refused;
      completed =
          w.completed;
      dropped = w.dropped;
    }
counted-low (Answer.Denied reason) c w = w
