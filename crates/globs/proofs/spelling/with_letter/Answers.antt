use Rattle.std.proofs.Common.{◌∙◌}
use Rattle.globs.proofs.SpellingLemmas.{no_letter, one_letter}
use Rattle.globs.proofs.spelling.with_letter.Goals as goal

pub returns-in-Ok : goal.returns-in-Ok
returns-in-Ok c =
    c.with_flag.ensures ∙ one_letter c.args.name c.args.letter c.args.settings c.in-Ok.flag.now c.in-Ok.ensures.cases.0
    c.in-Ok.ensures.cases.1

pub returns-in-Err : goal.returns-in-Err
returns-in-Err c = no_letter c.args.name c.args.letter c.args.settings c.in-Err.ensures.cases.0
