use Rattle.std.proofs.Common.{rules, ◌≡◌, true}
use Rattle.glob_tree.specs.Paths.{is_proper}
use Rattle.glob_tree.proofs.ContentLemmas.Directories.{IsName-from_proper}
use Rattle.glob_tree.proofs.reading.entry_named.Goals as goal

pub returns-clause-kind : goal.returns-clause-kind
returns-clause-kind g c = λ f seen direct looked.
    let proper : is_proper c.args.name.now ≡ true = search rules in
    c.in_ok-is_dir.ensures.directory f seen (direct c.args.name.now (IsName-from_proper c.args.name.now proper).plain) looked

pub returns-clause-said : goal.returns-clause-said
returns-clause-said g c = λ f held direct looked.
    let proper : is_proper c.args.name.now ≡ true = search rules in
    c.in_ok-is_dir.ensures.said f held (direct c.args.name.now (IsName-from_proper c.args.name.now proper).plain) looked
