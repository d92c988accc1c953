-- The shares of a slot, lent and laid back into their places; the other slots' shares stay.
use Rattle.std.specs.Prelude.{◌≡◌, ◌≢◌, List, ℕ, ◌+◌, ◌-◌, ◌*◌, ◌≤◌, length, take, drop}
use Rattle.std.proofs.Math.Path.{refl}
use Rattle.std.proofs.Common.{ap, ◌∙◌, add-zero, arith}
use borrow.Rule.Slice.PartMut.{put_mid}
use Rattle.octets.specs.Octets.{over, zeros, share}
use Rattle.octets.specs.laws.Over.{over-exact, cleared-whole, over-length, over-inside, part_length}
use Rattle.octets.specs.laws.Shares.{share_other}
use Rattle.cut.specs.Requirement.{header_most}
use Rattle.object.specs.declared.Slot.{Slot}
use Rattle.object.specs.declared.Outcome.{Outcome}
use Rattle.object.specs.Take.{Taken}
use Rattle.object.specs.Parts.{Lent}
use Rattle.slots.specs.Stores.{slot_marks, Stores, lent_at, with_lent}
use Rattle.slots.specs.Take.{Placed, placed_at, Inside}

-- a share, lent from its start to its end
pub share-lent : (w i : ℕ) (l : List ℕ) → take (i * w + w - i * w) (drop (i * w) l) ≡ share w i l
share-lent w i l = let e : i * w + w - i * w ≡ w = omega arith in rw e refl

-- the three of a slot
pub shares-lent : (limit i : ℕ) (header body marks : List ℕ)
    → ◌≡◌ {A = Lent} (record {
      header = take (i * header_most + header_most - i * header_most) (drop (i * header_most) header);
      body = take (i * limit + limit - i * limit) (drop (i * limit) body);
      marks = take (i * slot_marks + slot_marks - i * slot_marks) (drop (i * slot_marks) marks);
    }) (lent_at limit i (record { header = header; body = body; marks = marks }))
unfolding lent_at
shares-lent limit i header body marks =
    rw (share-lent header_most i header, share-lent limit i body, share-lent slot_marks i marks) refl

-- laid back
pub share_back : (w i : ℕ) (l run : List ℕ) → length run ≡ w → put_mid (i * w) (i * w + w - i * w) l run
    ≡ over l (i * w) run
share_back w i l run h = over-exact l (i * w) (i * w + w) run (omega arith)

-- the three of a slot
pub shares-back : (limit i : ℕ) (stores : Stores) (outcome : Outcome) (slot : Slot) (header body marks : List ℕ)
    → (taken : Taken) → length header ≡ header_most → length body ≡ limit → length marks ≡ slot_marks
    → record { outcome = outcome; slot = slot; lent = record { header = header; body = body; marks = marks } } ≡ taken
    → ◌≡◌ {A = Placed} (record {
      outcome = outcome;
      slot = slot;
      stores = record {
        header = put_mid (i * header_most) (i * header_most + header_most - i * header_most) stores.header header;
        body = put_mid (i * limit) (i * limit + limit - i * limit) stores.body body;
        marks = put_mid (i * slot_marks) (i * slot_marks + slot_marks - i * slot_marks) stores.marks marks;
      };
    }) (placed_at limit i stores taken)
unfolding with_lent
shares-back limit i stores outcome slot header body marks taken h b m e =
    let at-header = share_back header_most i stores.header header h in
    let at_body = share_back limit i stores.body body b in
    let at-marks = share_back slot_marks i stores.marks marks m in
    rw (at-header, at_body, at-marks) (ap (placed_at limit i stores) e)

-- a slot's marks, cleared
pub marks-cleared : (i : ℕ) (marks : List ℕ) → i * slot_marks + slot_marks ≤ length marks
    → put_mid (i * slot_marks) (i * slot_marks + slot_marks - i * slot_marks) marks
    (zeros (length (take (i * slot_marks + slot_marks - i * slot_marks) (drop (i * slot_marks) marks))))
    ≡ over marks (i * slot_marks) (zeros slot_marks)
marks-cleared i marks h =
    let e : i * slot_marks + slot_marks - i * slot_marks ≡ slot_marks = omega arith in
    cleared-whole marks (i * slot_marks) (i * slot_marks + slot_marks) (omega arith) h
    ∙ ap (λ (n : ℕ). over marks (i * slot_marks) (zeros n)) e

-- ---- what other shares leave

-- the shares of a slot have the widths that its limit gives
pub record Wide (limit : ℕ) (lent : Lent) : Type 0 where
  pub header : length lent.header ≡ header_most
  pub body : length lent.body ≡ limit
  pub marks : length lent.marks ≡ slot_marks

back_at : (w i : ℕ) (l run : List ℕ) → length run ≡ w → i * w + w ≤ length l → share w i (over l (i * w) run) ≡ run
back_at w i l run h g = ap (λ (k : ℕ). take k (drop (i * w) (over l (i * w) run))) (sym-length h)
    ∙ over-inside l (i * w) run (omega arith)
  where
    sym-length : length run ≡ w → w ≡ length run
    sym-length e = omega arith

other_at : (w i k : ℕ) (l run : List ℕ) → length run ≡ w → i * w + w ≤ length l → i ≢ k → share w k (over l (i * w) run)
    ≡ share w k l
other_at w i k l run h g d = ap (λ (at : ℕ). share w k (over l at run)) (from (add-zero (i * w)))
    ∙ share_other w i 0 l run (omega arith) g k d
  where
    from : i * w + 0 ≡ i * w → i * w ≡ i * w + 0
    from e = omega arith

module _ (limit i : ℕ) (lent : Lent) (stores : Stores) (wide : Wide limit lent) (inside : Inside limit i stores) where
  pub lent_back : lent_at limit i (with_lent limit i lent stores) ≡ lent
  unfolding lent_at with_lent
  lent_back = rw (
    back_at header_most i stores.header lent.header wide.header inside.header,
    back_at limit i stores.body lent.body wide.body inside.body,
    back_at slot_marks i stores.marks lent.marks wide.marks inside.marks,
  ) refl

  pub lent_other : (k : ℕ) → i ≢ k → lent_at limit k (with_lent limit i lent stores) ≡ lent_at limit k stores
  unfolding lent_at with_lent
  lent_other k d = rw (
    other_at header_most i k stores.header lent.header wide.header inside.header d,
    other_at limit i k stores.body lent.body wide.body inside.body d,
    other_at slot_marks i k stores.marks lent.marks wide.marks inside.marks d,
  ) refl

  -- and no length changes
  pub stores-lengths : (length (with_lent limit i lent stores).header ≡ length stores.header)
      × (length (with_lent limit i lent stores).body ≡ length stores.body)
      × (length (with_lent limit i lent stores).marks ≡ length stores.marks)
  unfolding with_lent
  stores-lengths = (
    over-length stores.header (i * header_most) lent.header (omega (arith, wide.header, inside.header)),
    over-length stores.body (i * limit) lent.body (omega (arith, wide.body, inside.body)),
    over-length stores.marks (i * slot_marks) lent.marks (omega (arith, wide.marks, inside.marks)),
  )

-- what is lent of a slot is wide enough
pub lent-wide : (limit i : ℕ) (stores : Stores) → Inside limit i stores → Wide limit (lent_at limit i stores)
unfolding lent_at
lent-wide limit i stores inside = record {
  header = part_length stores.header (i * header_most) header_most inside.header;
  body = part_length stores.body (i * limit) limit inside.body;
  marks = part_length stores.marks (i * slot_marks) slot_marks inside.marks;
}
