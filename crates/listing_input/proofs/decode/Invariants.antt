-- `listing_input::decode` meets its contract: the bytes of the digits that are left come behind those that are stored.
-- Assumes nothing.
use Rattle.std.proofs.Common.{◌≡◌, ◌+◌, ◌*◌, length}
use Rattle.octets.specs.Octets.{over}
use Rattle.listing_input.specs.Hex.{bytes_of}
use Rattle.listing_input.proofs.decode.Given as goal

abbrev pub invariant-loop-i : goal.invariant-loop-i
invariant-loop-i l = record {
  paired : l.i-iterator.iter.size ≡ 2;
  counted : l.i-iterator.count * 2 + length l.i-iterator.iter.rest.now ≡ length l.digits;
  long : length l.group ≡ length l.initial.group;
  laid : over l.group l.i-iterator.count (bytes_of l.i-iterator.iter.rest.now)
      ≡ over l.initial.group 0 (bytes_of l.digits);
}
