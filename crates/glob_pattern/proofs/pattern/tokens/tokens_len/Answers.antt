use Rattle.std.proofs.Common.{chars, length, ap, sym, ◌∙◌}
use Rattle.glob_pattern.specs.Matching.Literals.{HasCount}
use Rattle.glob_pattern.specs.Computing.Tokens.{tokens_of}
use Rattle.glob_pattern.proofs.GrammarLemmas.Accepted.{one_reading}
use Rattle.glob_pattern.proofs.pattern.tokens.tokens_len.Goals as goal

-- each reading is the one that is computed
pub returns-clause-only : goal.returns-clause-only
unfolding HasCount
returns-clause-only g c = λ tokens has.
    let pattern = chars c.args.pattern.now in
    ap length (one_reading pattern tokens (tokens_of pattern) has c.tokens_in.ensures.read) ∙ ap length (sym c.tokens_in.ensures.tokens)

pub returns-clause-count : goal.returns-clause-count
returns-clause-count g c = ap length c.tokens_in.ensures.tokens

pub returns-clause-read : goal.returns-clause-read
returns-clause-read g c = c.tokens_in.ensures.read
