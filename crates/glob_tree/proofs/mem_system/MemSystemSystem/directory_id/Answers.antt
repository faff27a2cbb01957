use Rattle.glob_tree.proofs.SystemLemmas.Holding.{fails_held, number_held}
use Rattle.glob_tree.proofs.mem_system.MemSystemSystem.directory_id.Goals as goal

pub returns : goal.returns
returns g c = record {
  number = λ f held direct. number_held c.args.self.now f held.0 c.args.path.now c.number.result c.number.ensures.found;
  fails = λ f held direct. (fails_held c.args.self.now f held.0 c.args.path.now c.number.result c.number.ensures.fails).1;
}
