-- The character is at the end of the texts so far, and the others are as they were.
use Rattle.std.proofs.Common.{◌≡◌, ◌++◌, map, take, drop, string_bytes}
use Rattle.std.specs.Prelude.{encode_utf8}
use Rattle.glob_set.specs.Braces.{each_with}
use Rattle.glob_set.proofs.braces.expanding.push_to_each.Given as goal

abbrev pub invariant-loop-text : goal.invariant-loop-text
invariant-loop-text g l =
    map string_bytes l.text-items
    ≡ each_with (take l.text-index (map string_bytes l.initial.text-items)) (encode_utf8 l.c)
    ++ drop l.text-index (map string_bytes l.initial.text-items)
