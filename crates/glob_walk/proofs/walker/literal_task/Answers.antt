use Rattle.std.proofs.Common.{◌+◌, cond, ap, sym, subst, ◌∙◌}
use Rattle.glob_tree.specs.Looks.{is_there}
use Rattle.glob_tree.specs.Paths.{child}
use Rattle.glob_walk.specs.Components.{is_current_or_parent}
use Rattle.glob_walk.specs.Private.Depths.{IsTaskDeep}
use Rattle.glob_walk.specs.declared.task.TaskState.TheVariants.{Unseen}
use Rattle.glob_walk.proofs.WalkLemmas.Depths.{literal_deep}
use Rattle.glob_walk.proofs.walker.literal_task.Goals as goal

pub returns-clause-deep : goal.returns-clause-deep
returns-clause-deep g c = λ c' n content plain deep.
    let plan = c.args.plan.now in
    let t = c.args.component.now in
    let w = c.of_literal-accepted.result in
    subst (λ path. IsTaskDeep c' plan n (c.args.number + 1) path (Unseen w))
    (sym (c.in_ok-child.ensures ∙ ap (child c.args.path.now) c.as_str-name.ensures))
    (literal_deep c' plan c.args.number n c.args.path.now c.args.is_dir t w content c.requires.at c.requires.literal
    (λ seen. c.of_literal-accepted.ensures seen ∙ ap (λ b. cond b c.args.is_dir (is_there seen))
    (c.is_current_or_parent.ensures ∙ ap is_current_or_parent c.as_str-name.ensures)) plain deep)
