use Rattle.glob_tree.proofs.SystemLemmas.Holding.{fails_held, found_held}
use Rattle.glob_tree.proofs.mem_system.MemSystemSystem.stat.Goals as goal

pub returns : goal.returns
returns g c = record {
  found = λ f held direct. (found_held c.args.self.now f held.0 c.args.path.now c.metadata.result
      c.metadata.ensures.found).1;
  fails = λ f held direct. (fails_held c.args.self.now f held.0 c.args.path.now c.metadata.result c.metadata.ensures.fails).1;
}
