use Rattle.std.proofs.Common.{refl, sym, subst}
use Rattle.glob_tree.specs.FileSystems.{IsHeld}
use Rattle.glob_tree.proofs.SystemLemmas.Finding.{seen_there, seen_link}
use Rattle.glob_tree.proofs.disk.FollowedLookups.look.Goals as goal

pub returns-then-is_symlink : goal.returns-then-is_symlink
returns-then-is_symlink g c = λ f held direct.
    let files = subst (λ d. IsHeld d f) (sym c.self.view_is) held in
    seen_link f c.args.path.now c.lstat-found.result c.stat.result (c.if-is_symlink.ensures.symlink refl)
    (c.lstat-found.ensures.found f files direct) (c.stat.ensures.found f files direct)
    c.look_of.result c.look_of.ensures

pub returns : goal.returns
returns g c = λ f held direct.
    let files = subst (λ d. IsHeld d f) (sym c.self.view_is) held in
    seen_there f c.args.path.now c.lstat-found.result (c.lstat-found.ensures.found f files direct)
    (c.if-is_symlink.ensures.other refl) c.look_of-2.result c.look_of-2.ensures
