use Rattle.std.proofs.Common.{◌∙◌, sym}
use Rattle.globs.proofs.RequestLemmas.{asked_words, wrong_words}
use Rattle.globs.proofs.command.Command.parse_named.Goals as goal

pub returns-in-Ok-Some-clause-asked : goal.returns-in-Ok-Some-clause-asked
returns-in-Ok-Some-clause-asked g c =
    asked_words _ _ c.in-Some.name _ (sym c.named.ensures ∙ c.in-Some.is) (rw c.in-Ok-Some.field-0-is at c.in-Ok-Some.ensures.asked)

pub returns-in-Ok-None-clause-asked : goal.returns-in-Ok-None-clause-asked
returns-in-Ok-None-clause-asked g c =
    asked_words _ _ c.in-Some.name _ (sym c.named.ensures ∙ c.in-Some.is) (rw c.in-Ok-None.field-0-is at c.in-Ok-None.ensures.asked)

pub returns-in-Err-clause-wrong : goal.returns-in-Err-clause-wrong
returns-in-Err-clause-wrong g c =
    wrong_words _ _ c.in-Some.name c.in-Err.fault (sym c.named.ensures ∙ c.in-Some.is) c.in-Err.ensures.wrong
