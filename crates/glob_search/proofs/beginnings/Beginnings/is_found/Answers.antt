use Rattle.std.proofs.Common.{◌∙◌}
use Rattle.glob_search.proofs.BeginningLemmas.Queries.{found-is}
use Rattle.glob_search.proofs.beginnings.Beginnings.is_found.Goals as goal

pub returns : goal.returns
returns g c = record { found = λ a names bs live. c.has_whole.ensures ∙ found-is a names c.args.self.now bs c.args.alive.now live }
