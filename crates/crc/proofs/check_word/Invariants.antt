-- `crc::check_word` meets its contract: what is left of the bytes, divided on from the remainder so far, gives what
-- the whole gives from all ones.
use Rattle.std.proofs.Common.{◌≡◌, drop}
use Rattle.crc.specs.CheckWord.{divided}
use Rattle.crc.proofs.check_word.Given as goal

abbrev pub invariant-loop-byte : goal.invariant-loop-byte
invariant-loop-byte l = divided (drop l.byte-index l.bytes) l.remainder ≡ divided l.bytes 0xFFFF
