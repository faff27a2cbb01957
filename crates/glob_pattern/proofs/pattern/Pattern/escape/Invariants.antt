-- The characters so far are escaped.
use Rattle.std.proofs.Common.{◌≡◌, encode_utf8_all, string_bytes}
use Rattle.glob_pattern.specs.Escaping.{escaped_text}
use Rattle.glob_pattern.proofs.pattern.Pattern.escape.Given as goal

abbrev pub invariant-loop-c : goal.invariant-loop-c
invariant-loop-c g l = string_bytes l.escaped ≡ encode_utf8_all (escaped_text l.yielded)
