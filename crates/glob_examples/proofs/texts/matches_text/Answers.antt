use Rattle.std.proofs.Common.{chars}
use Rattle.std.proofs.lemmas.Bool.{false≢true}
use Rattle.glob.specs.Matching.Options.{new_options}
use Rattle.glob.proofs.PatternLemmas.{no_match_by_fault}
use Rattle.glob_examples.proofs.texts.matches_text.Goals as goal

-- a pattern with a fault matches nothing
pub returns-in-Err-Syntax : goal.returns-in-Err-Syntax
returns-in-Err-Syntax g c =
    let fault = rw c.in-Err-Syntax.field-0-is at c.in-Err-Syntax.ensures.refused in
    let none = no_match_by_fault new_options (chars c.args.pattern.now) (chars c.args.text.now) _ fault in
    (λ no. absurd (false≢true no), λ matches. absurd (none matches))
