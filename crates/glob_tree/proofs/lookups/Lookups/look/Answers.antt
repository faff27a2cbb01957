use Rattle.std.proofs.Common.{rules, ◌≡◌, false}
use Rattle.glob_tree.proofs.SystemLemmas.Reporting.{said_below}
use Rattle.glob_tree.proofs.lookups.Lookups.look.Goals as goal

pub returns-else-branch-clause-said : goal.returns-else-branch-clause-said
returns-else-branch-clause-said g c = λ f held direct.
    let none : c.in_ok-has_way.field-0 ≡ false = search rules in
    let (way, reported) = c.in_ok-has_way.ensures.said f held direct none in
    said_below c.args.self.now.links f c.args.path.now _ _ way reported
