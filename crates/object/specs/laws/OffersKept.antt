-- After any offers to a slot it holds just what was stored, so the next outcome is decided by that alone; and segments
-- of one object and cut never conflict.
use Rattle.std.specs.Prelude.{◌≡◌, refl, ◌≢◌, List, [], ◌∷◌, ℕ, ◌≤◌, length, take}
use Rattle.std.proofs.Common.{sym, ap, ◌∙◌, subst, inl, inr, zero-mul, arith}
use Rattle.answer.specs.declared.Part.{Part}
use Rattle.answer.specs.declared.Part.TheVariants.{Header, Body}
use Rattle.cut.specs.Requirement.{limit_most, Segment, Fits, Finished}
use Rattle.cut.specs.Parts.{headers_with, bodies_with, those}
use Rattle.cut.specs.laws.Theorem.{fits-sent}
use Rattle.cut.specs.laws.Order.{SameSet}
use Rattle.cut.specs.laws.Finished.{segment_of, segment-is, finished-every, finished-one}
use Rattle.cut.specs.Lists.{Each, Among, Bytes}
use Rattle.object.specs.declared.Slot.{Slot}
use Rattle.object.specs.declared.Stage.{Stage}
use Rattle.object.specs.declared.Outcome.{Outcome}
use Rattle.object.specs.declared.Outcome.TheVariants.{Stored, Complete, Repeat, Conflict}
use Rattle.object.specs.Take.{Taken, take_into}
use Rattle.object.specs.laws.Shape.{IsLent}
use Rattle.object.specs.laws.Held.{Gathers, Vacant}
use Rattle.object.specs.laws.Step.{Tells, outcome-tells, conflict-exactly}
use Rattle.object.specs.laws.StepSound.{vacant-gathers, taken-lent, added-sound}
use Rattle.object.specs.laws.StepStage.{stage-one}
use Rattle.object.specs.laws.Shown.{holds-shows}
use Rattle.object.specs.State.{marked_segments}
use Rattle.object.specs.laws.StateParts.{part_same}
use Rattle.object.specs.laws.Offers.{Offer, if_stored, stored_headers, stored_bodies, After, Standing, none, some, AllOffered}
use Rattle.object.specs.Source.{Source, SegmentOf, SentBy}
use Rattle.object.specs.Parts.{Lent, parts_of}

-- ---- what it holds

told-gathers : (o : Outcome) (part : Part) (limit : ℕ) (s : Segment) (slot : Slot) (lent : Lent) (hs bs : List Segment)
    (t : Taken) → Gathers limit (parts_of slot lent) hs bs → Tells o part limit s slot lent hs bs t
    → Gathers limit (parts_of t.slot t.lent) (if_stored o (headers_with part s hs) hs)
    (if_stored o (bodies_with part s bs) bs)
told-gathers Stored part limit s slot lent hs bs t g w = w.0.holds.gathers
told-gathers Complete part limit s slot lent hs bs t g w = w.0.holds.gathers
told-gathers Repeat part limit s slot lent hs bs t g w = rw w.1 g
told-gathers Conflict part limit s slot lent hs bs t g w = rw w.1 g

offer-gathers : (limit : ℕ) (o : Offer) (os : List Offer) (slot' slot : Slot) (lent' lent : Lent) → limit ≤ limit_most
    → Bytes o.segment.bytes → Gathers limit (parts_of slot' lent') (stored_headers os) (stored_bodies os)
    × IsLent limit lent' → take_into o.part limit o.segment slot' lent'
    ≡ record { outcome = o.outcome; slot = slot; lent = lent }
    → Gathers limit (parts_of slot lent) (stored_headers (o ∷ os)) (stored_bodies (o ∷ os)) × IsLent limit lent
offer-gathers limit o os slot' slot lent' lent z y old e =
    let w = outcome-tells o.part limit o.segment slot' lent' (stored_headers os) (stored_bodies os) z y old.0
    o.outcome (ap (λ (x : Taken). x.outcome) e) in
    let g = told-gathers o.outcome o.part limit o.segment slot' lent' (stored_headers os) (stored_bodies os)
    (take_into o.part limit o.segment slot' lent') old.0 w in
    let l = taken-lent o.part limit o.segment slot' lent' (stored_headers os) (stored_bodies os) z y old.1
    old.0 in
    (rw e at g, rw e at l)

-- THE HISTORY: the slot holds just what was stored, and what is lent for it is as it has to be
pub offers-gather : (limit : ℕ) (slot₀ : Slot) (lent₀ : Lent) (os : List Offer) (slot : Slot) (lent : Lent)
    → limit ≤ limit_most → Vacant limit slot₀ lent₀ → After limit slot₀ lent₀ os slot lent
    → Gathers limit (parts_of slot lent) (stored_headers os) (stored_bodies os) × IsLent limit lent
offers-gather limit slot₀ lent₀ [] slot lent z v a = rw (a.0, a.1) (vacant-gathers limit slot₀ lent₀ z v, v.lends)
offers-gather limit slot₀ lent₀ (o ∷ os) slot lent z v a = offer-gathers limit o os a.0 slot a.1 lent z a.3
    (offers-gather limit slot₀ lent₀ os a.0 a.1 z v a.2) a.4

-- ---- and its stage is the one that this gives

told-stands : (o : Outcome) (part : Part) (limit : ℕ) (s : Segment) (slot₀ slot : Slot) (lent₀ lent : Lent)
    (hs bs : List Segment) (t : Taken) → Standing limit slot₀ lent₀ slot lent hs bs
    → Tells o part limit s slot lent hs bs t → Standing limit slot₀ lent₀ t.slot t.lent
    (if_stored o (headers_with part s hs) hs) (if_stored o (bodies_with part s bs) bs)
told-stands Stored part limit s slot₀ slot lent₀ lent hs bs t g w =
    some w.0.holds (added-sound part limit s slot hs bs t w.0)
told-stands Complete part limit s slot₀ slot lent₀ lent hs bs t g w =
    some w.0.holds (added-sound part limit s slot hs bs t w.0)
told-stands Repeat part limit s slot₀ slot lent₀ lent hs bs t g w = rw w.1 g
told-stands Conflict part limit s slot₀ slot lent₀ lent hs bs t g w = rw w.1 g

offer-stands : (limit : ℕ) (o : Offer) (os : List Offer) (slot₀ slot' slot : Slot) (lent₀ lent' lent : Lent)
    → limit ≤ limit_most → Bytes o.segment.bytes → Gathers limit (parts_of slot' lent') (stored_headers os)
    (stored_bodies os) → Standing limit slot₀ lent₀ slot' lent' (stored_headers os) (stored_bodies os)
    → take_into o.part limit o.segment slot' lent' ≡ record { outcome = o.outcome; slot = slot; lent = lent }
    → Standing limit slot₀ lent₀ slot lent (stored_headers (o ∷ os)) (stored_bodies (o ∷ os))
offer-stands limit o os slot₀ slot' slot lent₀ lent' lent z y g old e =
    let w = outcome-tells o.part limit o.segment slot' lent' (stored_headers os) (stored_bodies os) z y g
    o.outcome (ap (λ (x : Taken). x.outcome) e) in
    let k = told-stands o.outcome o.part limit o.segment slot₀ slot' lent₀ lent' (stored_headers os)
    (stored_bodies os) (take_into o.part limit o.segment slot' lent') old w in
    rw e at k

pub offers-stand : (limit : ℕ) (slot₀ : Slot) (lent₀ : Lent) (os : List Offer) (slot : Slot) (lent : Lent)
    → limit ≤ limit_most → Vacant limit slot₀ lent₀ → After limit slot₀ lent₀ os slot lent
    → Standing limit slot₀ lent₀ slot lent (stored_headers os) (stored_bodies os)
offers-stand limit slot₀ lent₀ [] slot lent z v a = none refl refl a.0 a.1
offers-stand limit slot₀ lent₀ (o ∷ os) slot lent z v a = offer-stands limit o os slot₀ a.0 slot lent₀ a.1 lent z
    a.3 (offers-gather limit slot₀ lent₀ os a.0 a.1 z v a.2).0
    (offers-stand limit slot₀ lent₀ os a.0 a.1 z v a.2) a.4

-- the marked segments are just those that were stored
pub offers-marked : (part : Part) (limit : ℕ) (slot₀ : Slot) (lent₀ : Lent) (os : List Offer) (slot : Slot)
    (lent : Lent) → limit ≤ limit_most → Vacant limit slot₀ lent₀ → After limit slot₀ lent₀ os slot lent
    → SameSet (those part (stored_headers os) (stored_bodies os)) (marked_segments part slot lent)
offers-marked part limit slot₀ lent₀ os slot lent z v a = part_same part limit (parts_of slot lent) (stored_headers os)
    (stored_bodies os) (offers-gather limit slot₀ lent₀ os slot lent z v a).0

-- ---- segments of one object and cut

-- what was stored of segments that it sends is sent by it
stored-sent : (limit : ℕ) (o : Source limit) (part : Part) (s : Segment) (outcome : Outcome) (hs bs : List Segment)
    → SentBy o part s → Each (SentBy o Header) hs → Each (SentBy o Body) bs
    → Each (SentBy o Header) (if_stored outcome (headers_with part s hs) hs)
    × Each (SentBy o Body) (if_stored outcome (bodies_with part s bs) bs)
stored-sent limit o Header s Stored hs bs u h b = ((u, h), b)
stored-sent limit o Body s Stored hs bs u h b = (h, (u, b))
stored-sent limit o Header s Complete hs bs u h b = ((u, h), b)
stored-sent limit o Body s Complete hs bs u h b = (h, (u, b))
stored-sent limit o part s Repeat hs bs u h b = (h, b)
stored-sent limit o part s Conflict hs bs u h b = (h, b)

offers-sent : (limit : ℕ) (o : Source limit) (os : List Offer) → Each (λ x. SentBy o x.part x.segment) os
    → Each (SentBy o Header) (stored_headers os) × Each (SentBy o Body) (stored_bodies os)
offers-sent limit o [] u = (tt, tt)
offers-sent limit o (x ∷ os) u = let r = offers-sent limit o os u.1 in stored-sent limit o x.part x.segment
    x.outcome (stored_headers os) (stored_bodies os) u.0 r.0 r.1

-- it never conflicts, in any order, with any repeats
pub source-agrees : (limit : ℕ) (o : Source limit) (slot₀ : Slot) (lent₀ : Lent) (os : List Offer) (slot : Slot)
    (lent : Lent) → limit ≤ limit_most → Vacant limit slot₀ lent₀ → After limit slot₀ lent₀ os slot lent
    → Each (λ x. SentBy o x.part x.segment) os → (part : Part) (s : Segment) → Bytes s.bytes → SentBy o part s
    → (take_into part limit s slot lent).outcome ≢ Conflict
source-agrees limit o slot₀ lent₀ os slot lent z v a u part s y w e =
    let g = (offers-gather limit slot₀ lent₀ os slot lent z v a).0 in
    let r = offers-sent limit o os u in
    (conflict-exactly part limit s slot lent (stored_headers os) (stored_bodies os) z y g).0 e (with part r.0 r.1 w)
  where
    with : (part : Part) → Each (SentBy o Header) (stored_headers os) → Each (SentBy o Body) (stored_bodies os)
        → SentBy o part s → Fits limit (headers_with part s (stored_headers os)) (bodies_with part s (stored_bodies os))
    with Header h b w = fits-sent o (s ∷ stored_headers os) (stored_bodies os) (w, h) b
    with Body h b w = fits-sent o (stored_headers os) (s ∷ stored_bodies os) h (w, b)

-- what was stored stays stored, and a segment that did not conflict is stored
more-among : (o : Outcome) (p part : Part) (s t : Segment) (hs bs : List Segment) → Among t (those part hs bs)
    → Among t (those part (if_stored o (headers_with p s hs) hs) (if_stored o (bodies_with p s bs) bs))
more-among Stored Header Header s t hs bs i = inr i
more-among Stored Header Body s t hs bs i = i
more-among Stored Body Header s t hs bs i = i
more-among Stored Body Body s t hs bs i = inr i
more-among Complete Header Header s t hs bs i = inr i
more-among Complete Header Body s t hs bs i = i
more-among Complete Body Header s t hs bs i = i
more-among Complete Body Body s t hs bs i = inr i
more-among Repeat p part s t hs bs i = i
more-among Conflict p part s t hs bs i = i

told-among : (o : Outcome) (part : Part) (limit : ℕ) (s : Segment) (slot : Slot) (lent : Lent) (hs bs : List Segment)
    (t : Taken) → Tells o part limit s slot lent hs bs t → o ≢ Conflict
    → Among s (those part (if_stored o (headers_with part s hs) hs) (if_stored o (bodies_with part s bs) bs))
told-among Stored Header limit s slot lent hs bs t w d = inl refl
told-among Stored Body limit s slot lent hs bs t w d = inl refl
told-among Complete Header limit s slot lent hs bs t w d = inl refl
told-among Complete Body limit s slot lent hs bs t w d = inl refl
told-among Repeat part limit s slot lent hs bs t w d = w.0
told-among Conflict part limit s slot lent hs bs t w d = absurd (d refl)

offer-among : (limit : ℕ) (c : Source limit) (o : Offer) (os : List Offer) (slot₀ slot' slot : Slot)
    (lent₀ lent' lent : Lent) → limit ≤ limit_most → Vacant limit slot₀ lent₀ → After limit slot₀ lent₀ os slot' lent'
    → Bytes o.segment.bytes → Each (λ x. SentBy c x.part x.segment) (o ∷ os)
    → take_into o.part limit o.segment slot' lent' ≡ record { outcome = o.outcome; slot = slot; lent = lent }
    → Among o.segment (those o.part (stored_headers (o ∷ os)) (stored_bodies (o ∷ os)))
offer-among limit c o os slot₀ slot' slot lent₀ lent' lent z v a y u e =
    let f : (take_into o.part limit o.segment slot' lent').outcome ≡ o.outcome =
    ap (λ (x : Taken). x.outcome) e in
    let g = (offers-gather limit slot₀ lent₀ os slot' lent' z v a).0 in
    told-among o.outcome o.part limit o.segment slot' lent' (stored_headers os) (stored_bodies os)
    (take_into o.part limit o.segment slot' lent')
    (outcome-tells o.part limit o.segment slot' lent' (stored_headers os) (stored_bodies os) z y g o.outcome f)
    (λ x. source-agrees limit c slot₀ lent₀ os slot' lent' z v a u.1 o.part o.segment y u.0 (f ∙ x))

offered-among : (limit : ℕ) (c : Source limit) (slot₀ : Slot) (lent₀ : Lent) (os : List Offer) (slot : Slot)
    (lent : Lent) → limit ≤ limit_most → Vacant limit slot₀ lent₀ → After limit slot₀ lent₀ os slot lent
    → Each (λ x. SentBy c x.part x.segment) os → (o : Offer) → Among o os
    → Among o.segment (those o.part (stored_headers os) (stored_bodies os))
offered-among limit c slot₀ lent₀ [] slot lent z v a u o i = absurd i
offered-among limit c slot₀ lent₀ (x ∷ os) slot lent z v a u o (inl e) =
    subst (λ (y : Offer). Among y.segment (those y.part (stored_headers (x ∷ os)) (stored_bodies (x ∷ os)))) e
    (offer-among limit c x os slot₀ a.0 slot lent₀ a.1 lent z v a.2 a.3 u a.4)
offered-among limit c slot₀ lent₀ (x ∷ os) slot lent z v a u o (inr i) = more-among x.outcome x.part o.part
    x.segment o.segment (stored_headers os) (stored_bodies os)
    (offered-among limit c slot₀ lent₀ os a.0 a.1 z v a.2 u.1 o i)

-- once all its segments have come, the slot is finished with it
pub source-finishes : (limit : ℕ) (c : Source limit) (slot₀ : Slot) (lent₀ : Lent) (os : List Offer) (slot : Slot)
    (lent : Lent) → limit ≤ limit_most → Vacant limit slot₀ lent₀ → After limit slot₀ lent₀ os slot lent
    → Each (λ x. SentBy c x.part x.segment) os → AllOffered c os
    → (slot.stage ≡ Stage.Finished (length c.header) (length c.body))
    × (take (length c.header) lent.header ≡ c.header) × (take (length c.body) lent.body ≡ c.body)
source-finishes limit c slot₀ lent₀ os slot lent z v a u all = go (offers-stand limit slot₀ lent₀ os slot lent z v a)
  where
    hs : List Segment
    hs = stored_headers os

    bs : List Segment
    bs = stored_bodies os

    in-stored : (part : Part) (s : Segment) → SegmentOf c part s → Among s (those part hs bs)
    in-stored part s w =
        let o = all part s w in
        subst (λ (p : Part). Among s (those p hs bs)) o.2
        (subst (λ (t : Segment). Among t (those o.0.part hs bs)) o.3
        (offered-among limit c slot₀ lent₀ os slot lent z v a u o.0 o.1))

    fit : Fits limit hs bs
    fit = let r = offers-sent limit c os u in fits-sent c hs bs r.0 r.1

    done : Finished fit
    done = record { header = in-stored Header; body = in-stored Body }

    empty : hs ≡ [] → ⊥
    empty e =
        let w = segment-is c.header c.header_cut 0 (omega (arith, zero-mul c.header_cut, c.object.header_low))
        in
        absurd (rw e at (in-stored Header (segment_of c.header c.header_cut 0) w))

    go : Standing limit slot₀ lent₀ slot lent hs bs
        → (slot.stage ≡ Stage.Finished (length c.header) (length c.body))
        × (take (length c.header) lent.header ≡ c.header) × (take (length c.body) lent.body ≡ c.body)
    go (none h b e f) = absurd (empty h)
    go (some h e) =
        let f : Fits limit hs bs = h.gathers.object in
        let one = finished-one limit hs bs fit f done in
        let stage : slot.stage ≡ Stage.Finished (length c.header) (length c.body) =
        stage-one limit hs bs f slot.stage (Stage.Finished (length c.header) (length c.body)) h.stage
        (finished-every limit hs bs fit f done, ap length (sym one.0), ap length (sym one.1)) in
        let shown = (holds-shows limit slot lent hs bs h (length c.header) (length c.body) stage).every fit in
        (stage, shown.0, shown.1)
