use Rattle.std.proofs.Common.{◌∙◌}
use Rattle.glob_search.proofs.BeginningLemmas.Looking.{unlisted-is}
use Rattle.glob_search.proofs.beginnings.Beginnings.is_literal.Goals as goal

pub returns : goal.returns
returns g c = record {
  unlisted = λ a names bs live. c.are_looked_up.ensures ∙ unlisted-is a names c.args.self.now bs
      c.args.alive.now live;
}
