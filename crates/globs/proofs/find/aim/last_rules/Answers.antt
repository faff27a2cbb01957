use Rattle.std.proofs.Common.{◌≡◌, ◌&&◌, map, subst, sym}
use Rattle.std.specs.Prelude.{IfOk}
use Rattle.glob_search.specs.Aims.{outer_of}
use Rattle.globs.specs.Find.Above.{is_start_ignored}
use Rattle.globs.specs.Find.Aiming.{last_lists}
use Rattle.globs.proofs.find.aim.last_rules.Goals as goal

pub returns-then-is_git-clause-lists : goal.returns-then-is_git-clause-lists
returns-then-is_git-clause-lists g c known is =
    let place = map (λ n. n.now) c.args.place.now in
    subst (λ git. IfOk c.rules_above.result (λ last. outer_of last.lists.items ≡ last_lists git place known)) (sym c.if-is_git.true)
    (c.rules_above.ensures.lists known is)

pub returns-then-is_git-clause-ignored : goal.returns-then-is_git-clause-ignored
returns-then-is_git-clause-ignored g c known is =
    let place = map (λ n. n.now) c.args.place.now in
    subst (λ git. IfOk c.rules_above.result (λ last. last.is_ignored ≡ (git && is_start_ignored known place))) (sym c.if-is_git.true)
    (c.rules_above.ensures.ignored known is)
