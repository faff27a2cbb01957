-- Reading what is left ends as reading all does.
use Rattle.std.proofs.Common.{◌≡◌, drop}
use Rattle.glob_set.specs.Private.BraceSteps.{after_lexemes, start_reading, reading_of}
use Rattle.glob_set.proofs.braces.expanding.expand_all.Given as goal

abbrev pub invariant-loop-lexeme : goal.invariant-loop-lexeme
invariant-loop-lexeme g l =
    after_lexemes (reading_of l.texts.items l.groups.items) (drop l.lexeme-index l.lexemes)
    ≡ after_lexemes start_reading l.lexemes
