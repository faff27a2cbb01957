-- The second texts so far are behind the first one.
use Rattle.std.proofs.Common.{◌≡◌, ◌++◌, map, take, string_bytes}
use Rattle.glob_set.proofs.braces.expanding.push_joined.Given as goal

abbrev pub invariant-loop-second : goal.invariant-loop-second
invariant-loop-second g l =
    map string_bytes l.texts.items
    ≡ map string_bytes l.fn.texts.items
    ++ map (λ second. l.first ++ second) (map string_bytes (take l.second-index l.seconds))
