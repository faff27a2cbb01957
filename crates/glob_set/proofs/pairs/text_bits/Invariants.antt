-- The bits so far and the bits of the bytes that are left are all bits of the text.
use Rattle.std.proofs.Common.{◌≡◌, bit_or, drop}
use Rattle.glob_set.specs.Private.Pairs.{pair_bits}
use Rattle.glob_set.proofs.pairs.text_bits.Given as goal

abbrev pub invariant-loop-byte : goal.invariant-loop-byte
invariant-loop-byte l = bit_or l.bits (pair_bits l.last (drop l.byte-index l.bytes)) ≡ pair_bits 0 l.bytes
