use Rattle.std.proofs.Common.{subst}
use Rattle.glob_tree.specs.FileSystems.{IsStatAnswer, stat_found}
use Rattle.glob_replay_walks.proofs.HeldLemmas.{fails_held, files_are, stat_is}
use Rattle.glob_replay_walks.proofs.mem_files.MemFilesSystem.stat.Goals as goal

pub returns : goal.returns
returns g c = record {
  found = λ f held direct.
      let kinds = c.args.self.now.kinds.items in
      let links = c.args.self.now.links.items in
      let strays = c.args.self.now.strays.items in
      subst (λ x. IsStatAnswer (stat_found x c.args.path.now) c.stat_answer.result) (files_are kinds links strays f held.0).0
      (subst (λ o. IsStatAnswer o c.stat_answer.result) (stat_is kinds links strays c.args.path.now
      c.in_ok-found.field-0 c.in_ok-found.ensures) c.stat_answer.ensures.found);
  fails = λ f held direct. (fails_held c.args.self.now.kinds.items c.args.self.now.links.items c.args.self.now.strays.items
      f held.0 c.args.path.now c.stat_answer.result c.stat_answer.ensures.fails).1;
}
