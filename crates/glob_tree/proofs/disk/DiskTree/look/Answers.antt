use Rattle.std.proofs.Common.{◌≡◌, sym, subst}
use Rattle.std.specs.Prelude.{IfOk}
use Rattle.glob_tree.specs.Disks.{DiskModel}
use Rattle.glob_tree.specs.FileSystems.{IsHeld}
use Rattle.glob_tree.proofs.SystemLemmas.Answering.{look_of_content}
use Rattle.glob_tree.proofs.disk.DiskTree.look.Goals as goal

pub returns-clause-seen : goal.returns-clause-seen
returns-clause-seen g c = λ x told.
    look_of_content c.args.self.now.files x told c.args.path.now (λ look. IfOk c.look.result (λ seen. seen ≡ look))
    (λ f held direct. c.look.ensures f (subst (λ (d : DiskModel). IsHeld d.files f) (sym c.self.view_is) held) direct)
