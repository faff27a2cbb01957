-- The names so far and the words that are left are the names before and all words.
use Rattle.std.proofs.Common.{◌≡◌, ◌++◌, drop, map, string_bytes}
use Rattle.globs.proofs.find.aim.add_names.Given as goal

abbrev pub invariant-loop-word : goal.invariant-loop-word
invariant-loop-word g l =
    map string_bytes l.names.items ++ map (λ w. w.now) (drop l.word-index l.words)
    ≡ map string_bytes l.initial.names.items ++ map (λ w. w.now) l.words
