-- `listing_input::decode` meets its contract: the bytes of the digits that are left come behind those that are stored.
-- Assumes nothing.
use Rattle.std.proofs.Common.{◌≡◌, sym, ap, ◌∙◌, ℕ, ◌+◌, ◌<◌, arith, List, ◌++◌, length, length-append, get_or}
use lib.ListN.{set, length-set}
use Rattle.octets.specs.Octets.{over}
use Rattle.listing_input.specs.Hex.{byte_of, bytes_of}
use Rattle.listing_input.specs.laws.Theorems.{bytes-length}
use Rattle.listing_input.proofs.Hex.{decoded, none-decoded}
use Rattle.listing_input.proofs.decode.Goals as goal

-- one pair's byte is stored
stored : (left pair rest group : List ℕ) (at i next byte : ℕ) → left ≡ pair ++ rest → i ≡ at → next ≡ at + 1
    → byte ≡ byte_of (get_or pair 0 0) (get_or pair 1 0) → length pair ≡ 2 → at < length group
    → over (set group i byte) next (bytes_of rest) ≡ over group at (bytes_of left)
stored left pair rest group at i next byte l e n b two h = rw (l, e, n, b) (decoded pair rest group at two h)

pub loop-i-preserved : goal.loop-i-preserved
loop-i-preserved c =
    let steps = c.in-Some.ensures.steps in
    let loop = c.loop-i in
    let two = steps.0.1.1 ∙ loop.invariant.paired in
    let parted = ap length steps.0.1.0 ∙ length-append c.in-Some.pair.now c.next.new.self.iter.rest.now in
    record {
      paired = steps.0.0 ∙ loop.invariant.paired;
      counted = omega (arith, loop.invariant.counted, steps.2);
      long = length-set loop.group c.in-Some.i c.byte.result ∙ loop.invariant.long;
      laid = stored loop.i-iterator.iter.rest.now c.in-Some.pair.now c.next.new.self.iter.rest.now loop.group
          loop.i-iterator.count c.in-Some.i c.next.new.self.count c.byte.result steps.0.1.0 steps.1 steps.2
          c.byte.ensures two (omega (arith, loop.invariant.counted, loop.invariant.long, c.requires))
          ∙ loop.invariant.laid;
    }

pub returns-clause-value : goal.returns-clause-value
returns-clause-value c = sym (bytes-length c.args.digits.now)

pub returns-clause-group_after : goal.returns-clause-group_after
returns-clause-group_after c =
    let loop = c.loop-i in
    let rest = loop.i-iterator.iter.rest.now in
    sym (none-decoded rest loop.group loop.i-iterator.count
    (omega (arith, c.in-None.ensures.steps.0.1.0, loop.invariant.paired)))
    ∙ loop.invariant.laid
