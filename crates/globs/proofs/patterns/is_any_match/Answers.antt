use Rattle.globs.proofs.FilterLemmas.{any_match_same}
use Rattle.globs.proofs.patterns.is_any_match.Goals as goal

pub returns : goal.returns
returns g c = any_match_same _ _ _ c.in_ok-is_match.ensures.answer
