use Rattle.std.proofs.Common.{subst}
use Rattle.glob_tree.specs.FileSystems.{IsStatAnswer, lstat_found}
use Rattle.glob_replay_walks.proofs.HeldLemmas.{fails_held, files_are, lstat_is}
use Rattle.glob_replay_walks.proofs.mem_files.MemFilesSystem.lstat.Goals as goal

pub returns : goal.returns
returns g c = record {
  found = λ f held direct.
      let kinds = c.args.self.now.kinds.items in
      let links = c.args.self.now.links.items in
      let strays = c.args.self.now.strays.items in
      subst (λ x. IsStatAnswer (lstat_found x c.args.path.now) c.lstat_answer.result) (files_are kinds links strays f held.0).0
      (subst (λ o. IsStatAnswer o c.lstat_answer.result) (lstat_is kinds links strays c.args.path.now
      c.in_ok-found.field-0 c.in_ok-found.ensures) c.lstat_answer.ensures.found);
  fails = λ f held direct. (fails_held c.args.self.now.kinds.items c.args.self.now.links.items c.args.self.now.strays.items
      f held.0 c.args.path.now c.lstat_answer.result c.lstat_answer.ensures.fails).0;
}
