use Rattle.std.proofs.Common.{arith}
use Rattle.std.proofs.lemmas.List.{length-map}
use Rattle.glob_pattern.specs.Grammar.Tokens.{shape_of}
use Rattle.glob_pattern.proofs.PositionLemmas.Running.{one-word}
use Rattle.glob_pattern.proofs.pattern.automaton.Automaton.words.Goals as goal

pub returns-then-end-le-WORD-clause-words : goal.returns-then-end-le-WORD-clause-words
returns-then-end-le-WORD-clause-words g c =
    rw c.from_ref.ensures.value (one-word _ _ _ (omega (arith, c.if-end-le-WORD.true))
    (omega (arith, length-map c.args.tokens.now shape_of, c.requires.within)) c.requires.first_word)

pub returns-then-end-le-WORD-clause-short : goal.returns-then-end-le-WORD-clause-short
returns-then-end-le-WORD-clause-short g c = λ lt. c.from_ref.ensures.len

pub returns-else-end-le-WORD-clause-words : goal.returns-else-end-le-WORD-clause-words
returns-else-end-le-WORD-clause-words g c = rw c.as_slice.ensures.value (c.requires.all_words (omega (arith, c.if-end-le-WORD.false)))

pub returns-else-end-le-WORD-clause-short : goal.returns-else-end-le-WORD-clause-short
returns-else-end-le-WORD-clause-short g c = λ lt. absurd (omega (arith, lt, c.if-end-le-WORD.false))
