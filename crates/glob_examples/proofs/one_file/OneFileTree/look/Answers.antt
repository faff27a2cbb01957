use Rattle.std.proofs.Common.{◌≡◌, sym, subst}
use Rattle.glob.specs.Content.{look_result}
use Rattle.glob_examples.proofs.OneFile.{look_there, told_content}
use Rattle.glob_examples.proofs.one_file.OneFileTree.look.Goals as goal

pub returns-clause-seen : goal.returns-clause-seen
returns-clause-seen c = λ content told.
    let name = c.args.self.now.name.now in
    let path = c.args.path.now in
    let seen = c.look_below.result in
    subst (λ tree. seen ≡ look_result tree path) (told_content name content told)
    (sym (look_there name path seen c.look_below.ensures))
