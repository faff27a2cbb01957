use Rattle.std.proofs.Common.{[], subst}
use Rattle.glob_tree.specs.FileSystems.{FileSystem, IsNumberAnswer, no_number, number_found, stat_found}
use Rattle.glob_replay_walks.specs.MemFiles.{content_of, links_of, strays_of}
use Rattle.glob_replay_walks.proofs.HeldLemmas.{fails_held, files_are, number_is, stat_is}
use Rattle.glob_replay_walks.proofs.mem_files.MemFilesSystem.directory_id.Goals as goal

pub returns : goal.returns
returns g c = record {
  number = λ f held direct.
      let kinds = c.args.self.now.kinds.items in
      let links = c.args.self.now.links.items in
      let strays = c.args.self.now.strays.items in
      let files : FileSystem = record {
        content = content_of kinds;
        links = links_of links;
        strays = strays_of strays;
        numbers = [];
        hidden = [];
      } in
      subst (λ x. IsNumberAnswer (stat_found x c.args.path.now) (number_found x c.args.path.now) c.number_answer.result)
      (files_are kinds links strays f held.0).0
      (subst (λ n. IsNumberAnswer (stat_found files c.args.path.now) n c.number_answer.result)
      (number_is kinds links strays c.args.path.now)
      (subst (λ o. IsNumberAnswer o no_number c.number_answer.result)
      (stat_is kinds links strays c.args.path.now c.in_ok-found.field-0 c.in_ok-found.ensures) c.number_answer.ensures.found));
  fails = λ f held direct. (fails_held c.args.self.now.kinds.items c.args.self.now.links.items c.args.self.now.strays.items
      f held.0 c.args.path.now c.number_answer.result c.number_answer.ensures.fails).1;
}
