-- The words so far are the texts of the arguments so far.
use Rattle.std.proofs.Common.{◌≡◌, map, take, string_bytes}
use Rattle.glob_console.proofs.words.as_strs.Given as goal

abbrev pub invariant-loop-argument : goal.invariant-loop-argument
invariant-loop-argument g l = map (λ w. w.now) l.words.items ≡ map string_bytes (take l.argument-index l.arguments)
