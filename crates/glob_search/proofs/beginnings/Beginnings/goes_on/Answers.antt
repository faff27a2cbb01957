use Rattle.std.proofs.Common.{◌∙◌}
use Rattle.glob_search.proofs.BeginningLemmas.Queries.{goes_on-is}
use Rattle.glob_search.proofs.beginnings.Beginnings.goes_on.Goals as goal

pub returns : goal.returns
returns g c = record { goes_on = λ a names bs live. c.has_further.ensures ∙ goes_on-is a names c.args.self.now bs c.args.alive.now live }
