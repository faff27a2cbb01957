-- The bytes that were gone past are written, and are of ASCII if the answer so far is true.
use Rattle.std.proofs.Common.{◌≡◌, length, take, IsTrue}
use Rattle.std.specs.Str.{IsAscii}
use Rattle.glob_pattern.proofs.grammar.widen.Given as goal

abbrev pub invariant-loop-n : goal.invariant-loop-n
invariant-loop-n l = record {
  count : length l.characters ≡ length l.bytes;
  written : take l.n l.characters ≡ take l.n l.bytes;
  ascii : IsTrue l.ascii → IsAscii (take l.n l.bytes);
}
