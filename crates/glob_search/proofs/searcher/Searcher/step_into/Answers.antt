use Rattle.std.proofs.Common.{refl}
use Rattle.glob_search.proofs.EngineLemmas.Stepping.{frame-active}
use Rattle.glob_search.proofs.searcher.Searcher.step_into.Goals as goal

pub returns-clause-some : goal.returns-clause-some
returns-clause-some g c = λ _. record {
  last = record {
    path = c.args.opening.path;
    alive = c.args.opening.alive;
    source = c.args.source;
    entries = c.args.entries;
    files = 0;
    active = c.len-active.result;
  };
  frames = c.in_ok-push.ensures.items;
  still = refl;
  is = frame-active c.args.opening c.args.source c.args.entries c.len-active.ensures;
}
