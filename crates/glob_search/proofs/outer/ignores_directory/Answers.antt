use Rattle.std.proofs.Common.{true, false, ap, sym, ◌∙◌}
use Rattle.std.specs.Prelude.{option_map, unwrap_or}
use Rattle.glob_search.proofs.DecidingLemmas.{ignores_by, outer-says}
use Rattle.glob_search.proofs.outer.ignores_directory.Goals as goal

pub returns-in-Some : goal.returns-in-Some
returns-in-Some g c =
    sym (ap (λ o. unwrap_or o false)
    (outer-says c.args.lists.now c.args.name.now true c.in_ok-rule.field-0 c.in_ok-rule.ensures
    ∙ ap (option_map ignores_by) c.in-Some.is))

pub returns-in-None : goal.returns-in-None
returns-in-None g c =
    sym (ap (λ o. unwrap_or o false)
    (outer-says c.args.lists.now c.args.name.now true c.in_ok-rule.field-0 c.in_ok-rule.ensures
    ∙ ap (option_map ignores_by) c.in-None.is))
