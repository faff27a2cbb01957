use Rattle.std.proofs.Common.{◌≡◌, ◌<◌, map, arith}
use Rattle.glob_pattern.specs.Grammar.Tokens.{shape_of}
use Rattle.glob_pattern.specs.Private.Positions.{AreShapeWords}
use Rattle.glob_pattern.proofs.pattern.automaton.Automaton.new.Goals as goal
use Rattle.glob_pattern.proofs.pattern.automaton.Automaton.new.Goals.{then-end-le-WORD, else-end-le-WORD+in_ok-words}

pub returns : goal.returns
returns g c =
    let words : 63 < c.args.end → AreShapeWords
    (map shape_of c.args.tokens.now) c.args.end c.if-end-le-WORD.words.items = elim c.if-end-le-WORD.branch [
      | then-end-le-WORD w ↦ λ more. absurd (omega (arith, more, w.if-end-le-WORD.true))
      | else-end-le-WORD+in_ok-words w ↦ λ more. rw w.words-is w.in_ok-words.ensures
    ] in
    record {
      within = c.requires;
      first_word = c.new-2.ensures;
      all_words = words;
      accepting = c.free_end.ensures;
      masked = λ count enough few.
          let same : c.div_ceil.result ≡ count = omega (arith, c.div_ceil.ensures, enough, few) in
          rw (← same) c.in_ok-masks.ensures.masks;
    }
