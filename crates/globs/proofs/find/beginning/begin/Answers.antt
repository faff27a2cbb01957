use Rattle.std.proofs.Common.{◌∙◌, ◌&&◌, [], ap, map, subst}
use Rattle.glob_search.specs.States.{HasGiven}
use Rattle.glob_search.specs.Visiting.{gifts}
use Rattle.globs.specs.Find.Above.{is_start_ignored}
use Rattle.globs.specs.Find.Aiming.{last_lists}
use Rattle.globs.proofs.AimLemmas.{aim_is}
use Rattle.globs.proofs.find.beginning.begin.Goals as goal

pub returns-in-Ok-clause-fresh : goal.returns-in-Ok-clause-fresh
returns-in-Ok-clause-fresh g c c' text_at is told =
    subst (λ a. HasGiven (gifts c' a) c' a text_at [] c.in-Ok.search)
    (aim_is c.args.options.now c.args.list _ _ c.in_ok-settings.settings (map (λ p. p.now) c.args.patterns.now)
    (map (λ n. n.now) c.args.above.now) text_at c.in_ok-settings.ensures
    (c.in_ok-last.ensures.lists text_at told
    ∙ ap (λ o. last_lists o.settings.is_git (map (λ n. n.now) c.args.above.now) text_at) c.options.view_is)
    (c.in_ok-last.ensures.ignored text_at told
    ∙ ap (λ o. o.settings.is_git && is_start_ignored text_at (map (λ n. n.now) c.args.above.now)) c.options.view_is))
    (c.in-Ok.ensures.fresh c' text_at is)
