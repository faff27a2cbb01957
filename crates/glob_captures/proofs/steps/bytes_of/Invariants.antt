use Rattle.std.proofs.Common.{◌≡◌, length, take}
use Rattle.std.specs.Prelude.{encode_utf8_all}
use Rattle.glob_captures.proofs.steps.bytes_of.Given as goal

abbrev pub invariant-loop-c : goal.invariant-loop-c
invariant-loop-c l = l.bytes ≡ length (encode_utf8_all (take l.c-index l.characters))
