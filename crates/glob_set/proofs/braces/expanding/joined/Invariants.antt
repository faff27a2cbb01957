-- The first texts so far have each of the second ones behind them.
use Rattle.std.proofs.Common.{◌≡◌, map, take, string_bytes}
use Rattle.glob_set.specs.Braces.{joined}
use Rattle.glob_set.proofs.braces.expanding.joined.Given as goal

abbrev pub invariant-loop-first : goal.invariant-loop-first
invariant-loop-first g l =
    map string_bytes l.texts.items
    ≡ joined (map string_bytes (take l.first-index l.firsts)) (map string_bytes l.seconds)
