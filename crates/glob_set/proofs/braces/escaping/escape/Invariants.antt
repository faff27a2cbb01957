-- The characters so far are escaped.
use Rattle.std.proofs.Common.{◌≡◌, encode_utf8_all, string_bytes}
use Rattle.glob_set.specs.BraceEscaping.{escaped_text}
use Rattle.glob_set.proofs.braces.escaping.escape.Given as goal

abbrev pub invariant-loop-c : goal.invariant-loop-c
invariant-loop-c g l = string_bytes l.escaped ≡ encode_utf8_all (escaped_text l.yielded)
