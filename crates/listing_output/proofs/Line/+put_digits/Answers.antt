-- `listing_output::Line::put_digits` meets its contract: the last digit stands behind those in front of it.
-- Assumes nothing.
use Rattle.std.proofs.Common.{◌≡◌, sym, ap, ℕ, ◌%◌, length, length-append, arith}
use Rattle.listing_output.specs.laws.Put.{put_same, put_then}
use Rattle.listing_output.proofs.Digits.{decimal-one, decimal-more}
use Rattle.listing_output.proofs.Line.+put_digits.Goals as goal
use Rattle.listing_output.proofs.Line.+put_digits.Goals.{then-number-ge10, else-number-ge10}

pub put_digits-requires : goal.put_digits-requires
put_digits-requires t c =
    let more = decimal-more c.args.number c.ranges.number.fits c.if-number-ge10.true in
    (omega arith, omega (arith, ap (length {A = ℕ}) more, length-append {A = ℕ}))

pub push-requires : goal.push-requires
push-requires t c = elim c.if-number-ge10.branch [
  | then-number-ge10 w ↦
      let more = decimal-more c.args.number c.ranges.number.fits w.if-number-ge10.true in
      let puts = w.put_digits.ensures in
      rw w.self-is (omega (arith, puts.ends, puts.long, ap (length {A = ℕ}) more, length-append {A = ℕ}))
  | else-number-ge10 w ↦
      let one = decimal-one c.args.number c.ranges.number.fits w.if-number-ge10.false in
      rw w.self-is (omega (arith, ap (length {A = ℕ}) one))
]

pub returns : goal.returns
returns t c = elim c.if-number-ge10.branch [
  | then-number-ge10 w ↦
      let more = decimal-more c.args.number c.ranges.number.fits w.if-number-ge10.true in
      let puts = w.put_digits.ensures in
      put_same (put_then puts (rw w.self-is at c.push.ensures)
      (omega (arith, puts.ends, ap (length {A = ℕ}) more, length-append {A = ℕ}))) (sym more)
  | else-number-ge10 w ↦
      let last : c.args.number % 10 ≡ c.args.number = omega arith in
      put_same (rw w.self-is at c.push.ensures)
      (rw last (sym (decimal-one c.args.number c.ranges.number.fits w.if-number-ge10.false)))
]
