use Rattle.glob_search.proofs.WholeMatches.{is_taken-whole}
use Rattle.glob_search.proofs.laws.search_takes_whole_matches.Goals as goal

pub returns : goal.returns
returns g = is_taken-whole
