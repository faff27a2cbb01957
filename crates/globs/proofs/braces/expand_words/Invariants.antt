-- The texts so far are the alternatives of the words so far.
use Rattle.std.proofs.Common.{map, take, string_bytes}
use Rattle.glob_set.specs.BraceSets.{AreAlternativesOf}
use Rattle.globs.proofs.braces.expand_words.Given as goal

abbrev pub invariant-loop-word : goal.invariant-loop-word
invariant-loop-word g l = AreAlternativesOf (map (λ w. w.now) (take l.word-index l.words)) (map string_bytes l.texts.items)
