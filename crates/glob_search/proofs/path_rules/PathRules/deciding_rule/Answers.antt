use Rattle.std.proofs.Common.{◌≡◌, subst, sym}
use Rattle.std.specs.Prelude.{IfOk, option_map}
use Rattle.glob_search.specs.Asking.{Agrees, decision_of, rule_about}
use Rattle.glob_search.proofs.path_rules.PathRules.deciding_rule.Goals as goal

pub returns-clause-decides : goal.returns-clause-decides
returns-clause-decides g c = λ a known same read.
    subst (λ s. IfOk c.deciding_rule.result (λ rule. option_map (λ r. decision_of r) rule
    ≡ rule_about a known s.files c.args.path.now c.args.is_dir)) c.self.view_is
    (c.deciding_rule.ensures.decides a known same (subst (λ s. Agrees a known s) (sym c.self.view_is) read))
