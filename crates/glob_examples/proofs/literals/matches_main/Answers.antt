use Rattle.std.specs.Prelude.{codes, true}
use Rattle.std.proofs.Common.{◌≡◌, refl, sym, subst}
use Rattle.std.specs.Str.{chars}
use Rattle.glob.specs.Computing.Deciding.{is_match, tokens_match}
use Rattle.glob.specs.Computing.Reading.{units_from}
use Rattle.glob.specs.Matching.Options.{new_options}
use Rattle.glob.specs.Matching.Texts.{Matches}
use Rattle.glob.proofs.PatternLemmas.{match_by_computing}
use Rattle.glob_examples.proofs.literals.matches_main.Goals as goal

-- the definitions compute the answer
computed : is_match new_options (chars (codes "*.rs")) (chars (codes "main.rs")) ≡ true
unfolding is_match tokens_match units_from chars
computed = refl

-- by the lemma this is a match, and the pattern has the text from which it was made
pub returns : goal.returns
returns g c =
    let matches = match_by_computing new_options (chars (codes "*.rs")) (chars (codes "main.rs")) computed in
    c.in_ok-matches.ensures.answer.1
    (subst (λ p. Matches new_options (chars p) (chars (codes "main.rs"))) (sym c.in_ok-pattern.ensures.text) matches)
