-- `object::store` meets its contract: what each call leaves, put together.
-- Assumes nothing.
use mathlib.Core.Path.{◌∙◌, ap}
use Prim.Native.Nat.{◌-◌}
use native.Mathlib.Omega.{arith}
use lib.ListN.{length, drop, length-take, length-drop}
use lib.Seq.{take_all}
use borrow.Rule.Slice.PartMut.{put_mid}
use Rattle.answer.specs.declared.Part.TheVariants.{Header, Body}
use Rattle.cut.specs.Requirement.{header_numbers, Segment, sent}
use Rattle.part.specs.Memory.{Memory}
use Rattle.part.specs.Moves.{settled, put}
use Rattle.object.specs.Asked.{Fitting}
use Rattle.object.specs.laws.Stored.{record_is, number_small, can-move, can-put, own-small, still-is, still-move, summed-header, summed-body, stored-header, stored-body}
use Rattle.object.specs.laws.Inside.{lent-bits, after_small, still-small, header-small}
use Rattle.object.proofs.Laws.{back_whole}
use Rattle.object.specs.Parts.{Lent, shares, parts_of}
use Rattle.object.proofs.store.Goals as goal

pub with-new-requires : goal.with-new-requires
with-new-requires c =
    let lent : Lent = shares c.args.header.now c.args.body.now c.args.marks.now in
    let s : Segment = sent c.args.segment.now in
    number_small c.args.tally
    c.args.limit
    c.args.core s
    c.args.slot lent
    c.args.part
    c.requires

pub slice_bounds-put-end-in-Header : goal.slice_bounds-put-end-in-Header
slice_bounds-put-end-in-Header c = simp length-take (omega (arith, c.requires.marks))

pub put-requires : goal.put-requires
unfolding parts_of
put-requires c =
    let lent : Lent = shares c.args.header.now c.args.body.now c.args.marks.now in
    let s : Segment = sent c.args.segment.now in
    let told = c.in-Header.is in
    let f : Fitting c.args.tally Header c.args.limit c.args.core s c.args.slot lent = rw told at c.requires in
    let new = (rw (c.bounds_of-bounds.ensures, c.kept_of.ensures, c.total_in-own.ensures, told) at c.with-new.ensures)
    ∙ record_is c.args.tally c.args.limit c.args.core s c.args.slot lent Header f in
    rw new record {
      can_move = can-move c.args.tally c.args.limit c.args.core s c.args.slot lent Header f;
      can_put = can-put c.args.tally c.args.limit c.args.core s c.args.slot lent Header f;
    }

pub settle-requires : goal.settle-requires
unfolding parts_of
settle-requires c =
    let lent : Lent = shares c.args.header.now c.args.body.now c.args.marks.now in
    let s : Segment = sent c.args.segment.now in
    let told = c.in-Header.is in
    let f : Fitting c.args.tally Header c.args.limit c.args.core s c.args.slot lent = rw told at c.requires in
    let still = (rw c.bounds_of-within.ensures at c.within-still.ensures)
    ∙ still-is c.args.tally c.args.limit c.args.core s c.args.slot lent f in
    rw still (still-move c.args.tally c.args.limit c.args.core s c.args.slot lent f)

pub overflow_add-tally : goal.overflow_add-tally
overflow_add-tally c =
    let lent : Lent = shares c.args.header.now c.args.body.now c.args.marks.now in
    let s : Segment = sent c.args.segment.now in
    omega (
      arith,
      c.total_in-own.ensures,
      own-small c.args.tally c.args.limit c.args.core s c.args.slot lent c.args.part c.requires,
    )

pub staged-requires : goal.staged-requires
unfolding put settled parts_of
staged-requires c =
    let lent : Lent = shares c.args.header.now c.args.body.now c.args.marks.now in
    let s : Segment = sent c.args.segment.now in
    let told = c.in-Header.is in
    let f : Fitting c.args.tally Header c.args.limit c.args.core s c.args.slot lent = rw told at c.requires in
    let own = rw told at c.total_in-own.ensures in
    let new = (rw (
      c.bounds_of-bounds.ensures,
      c.kept_of.ensures,
      c.total_in-own.ensures,
      told,
    ) at
    c.with-new.ensures) ∙ record_is
    c.args.tally c.args.limit c.args.core s c.args.slot lent Header f in
    let still = (rw c.bounds_of-within.ensures at
    c.within-still.ensures) ∙ still-is c.args.tally c.args.limit
    c.args.core
    s c.args.slot
    lent f in (
      rw own (summed-header c.args.tally c.args.limit
          c.args.core s c.args.slot lent c.put.new.marks f (ap (λ (m : Memory). m.marks)
          c.put.ensures)),
      rw new (after_small Header c.args.limit s
          (parts_of c.args.slot lent) f.fits),
      rw still (still-small c.args.limit s
          (parts_of c.args.slot lent) f.fits),
    )

pub put-requires-in-Body : goal.put-requires-in-Body
unfolding parts_of
put-requires-in-Body c =
    let lent : Lent = shares c.args.header.now c.args.body.now c.args.marks.now in
    let s : Segment = sent c.args.segment.now in
    let told = c.in-Body.is in
    let f : Fitting c.args.tally Body c.args.limit c.args.core s c.args.slot lent = rw told at c.requires in
    let new = (rw (c.bounds_of-bounds.ensures, c.kept_of.ensures, c.total_in-own.ensures, told) at c.with-new.ensures)
    ∙ record_is c.args.tally c.args.limit c.args.core s c.args.slot lent Body f in
    let rest = take_all (length c.args.marks.now - header_numbers) (drop header_numbers c.args.marks.now)
    (rw length-drop (omega arith)) in
    rw (new, rest) record {
      can_move = can-move c.args.tally c.args.limit c.args.core s c.args.slot lent Body f;
      can_put = can-put c.args.tally c.args.limit c.args.core s c.args.slot lent Body f;
    }

pub overflow_add-tally-in-Body : goal.overflow_add-tally-in-Body
overflow_add-tally-in-Body c =
    let lent : Lent = shares c.args.header.now c.args.body.now c.args.marks.now in
    let s : Segment = sent c.args.segment.now in
    omega (
      arith,
      c.total_in-own.ensures,
      own-small c.args.tally c.args.limit c.args.core s c.args.slot lent c.args.part c.requires,
    )

pub staged-requires-in-Body : goal.staged-requires-in-Body
unfolding put settled parts_of
staged-requires-in-Body c =
    let lent : Lent = shares c.args.header.now c.args.body.now c.args.marks.now in
    let s : Segment = sent c.args.segment.now in
    let told = c.in-Body.is in
    let f : Fitting c.args.tally Body c.args.limit c.args.core s c.args.slot lent = rw told at c.requires in
    let own = rw told at c.total_in-own.ensures in
    let rest = take_all (length c.args.marks.now - header_numbers) (drop header_numbers c.args.marks.now)
    (rw length-drop (omega arith)) in
    let whole = back_whole c.args.marks.now c.put-in-Body.new.marks (omega (arith, c.requires.marks)) in
    let new = (rw (
      c.bounds_of-bounds.ensures,
      c.kept_of.ensures,
      c.total_in-own.ensures,
      told,
    ) at c.with-new.ensures) ∙ record_is c.args.tally
    c.args.limit
    c.args.core s
    c.args.slot lent Body f in (
      rw (own, whole) (summed-body c.args.tally
          c.args.limit
          c.args.core s
          c.args.slot lent
          c.put-in-Body.new.marks f
          (ap (λ (m : Memory). m.marks) (rw rest at
          c.put-in-Body.ensures))),
      header-small c.args.limit
          c.args.slot.stage
          (parts_of c.args.slot lent)
          (lent-bits c.args.slot lent f.bits)
          f.sound,
      rw new (after_small Body c.args.limit s
          (parts_of c.args.slot lent) f.fits),
    )

pub returns-in-Header : goal.returns-in-Header
unfolding parts_of
returns-in-Header c =
    let lent : Lent = shares c.args.header.now c.args.body.now c.args.marks.now in
    let s : Segment = sent c.args.segment.now in
    let told = c.in-Header.is in
    let f : Fitting c.args.tally Header c.args.limit c.args.core s c.args.slot lent = rw told at c.requires in
    let new = (rw (c.bounds_of-bounds.ensures, c.kept_of.ensures, c.total_in-own.ensures, told) at c.with-new.ensures)
    ∙ record_is c.args.tally c.args.limit c.args.core s c.args.slot lent Header f in
    let still = (rw c.bounds_of-within.ensures at c.within-still.ensures)
    ∙ still-is c.args.tally c.args.limit c.args.core s c.args.slot lent f in
    rw told (stored-header c.args.limit s
    c.args.slot lent f.marks c.staged.result
    c.with-new.result
    c.within-still.result c.put.new.marks c.put.new.share c.settle.new.share new still
    c.put.ensures
    c.settle.ensures c.staged.ensures)

pub returns-in-Body : goal.returns-in-Body
unfolding parts_of
returns-in-Body c =
    let lent : Lent = shares c.args.header.now c.args.body.now c.args.marks.now in
    let s : Segment = sent c.args.segment.now in
    let told = c.in-Body.is
    in
    let f : Fitting c.args.tally Body c.args.limit c.args.core s c.args.slot lent = rw told at c.requires in
    let new = (rw (c.bounds_of-bounds.ensures, c.kept_of.ensures, c.total_in-own.ensures, told) at c.with-new.ensures)
    ∙ record_is c.args.tally c.args.limit c.args.core s c.args.slot lent Body f in
    let rest = take_all (length c.args.marks.now - header_numbers) (drop header_numbers c.args.marks.now)
    (rw length-drop (omega arith)) in
    let whole = back_whole c.args.marks.now c.put-in-Body.new.marks (omega (arith, c.requires.marks)) in
    rw told (stored-body c.args.limit s
    c.args.slot lent f.marks c.staged-in-Body.result
    c.with-new.result
    c.put-in-Body.new.marks
    (put_mid header_numbers (length c.args.marks.now -
    header_numbers) c.args.marks.now
    c.put-in-Body.new.marks)
    c.put-in-Body.new.share new
    (rw rest at c.put-in-Body.ensures) whole c.staged-in-Body.ensures)
