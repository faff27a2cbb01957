use Rattle.std.proofs.Common.{◌≡◌, false, ◌&&◌}
use Rattle.std.proofs.lemmas.Bool.{and_left, and_right}
use Rattle.glob_pattern.specs.Grammar.Tokens.{is_recursive, ends_recursive}
use Rattle.glob_pattern.proofs.GrammarLemmas.Folding.{tokens_of_units-push_deep, tokens_of_units-push_other}
use Rattle.glob_pattern.proofs.grammar.push_stars.Goals as goal
use Rattle.glob_pattern.proofs.grammar.push_stars.Goals.{else-is_recursive-via-then-is_recursive+else-ends_recursive}
use Rattle.glob_pattern.proofs.grammar.push_stars.Goals.{else-is_recursive-via-else-is_recursive}

pub returns-then-ends_recursive : goal.returns-then-ends_recursive
returns-then-ends_recursive g c = λ units e. tokens_of_units-push_deep c.args.tokens.now.items units c.args.token (cc) (cc) e

pub returns : goal.returns
returns g c = λ units e.
    let token = c.args.token in
    let tokens = c.args.tokens.now.items in
    let other : (is_recursive token && ends_recursive tokens) ≡ false =
    elim c.else-is_recursive.branch [
      | else-is_recursive-via-then-is_recursive+else-ends_recursive w ↦ and_right (is_recursive token) (ends_recursive tokens) (cc)
      | else-is_recursive-via-else-is_recursive w ↦ and_left (is_recursive token) (ends_recursive tokens) (cc)
    ]
    in rw c.in_ok-push.ensures.items (tokens_of_units-push_other tokens units token other e)
