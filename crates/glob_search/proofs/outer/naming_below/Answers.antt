use Rattle.std.proofs.Common.{◌≡◌, ◌∙◌, ap, subst, sym}
use Rattle.std.specs.Prelude.{IfOk}
use Rattle.glob_rules.specs.Deciding.{naming_rule}
use Rattle.glob_tree.specs.Paths.{join}
use Rattle.glob_search.proofs.ActiveLemmas.{join-nothing}
use Rattle.glob_search.proofs.outer.naming_below.Goals as goal

pub returns-then-is_empty : goal.returns-then-is_empty
returns-then-is_empty g c =
    let prefix = c.as_str-prefix.result.now in
    let path = c.args.path.now in
    subst (λ p. IfOk c.naming_rule.result (λ rule. rule ≡ naming_rule c.args.outer.now.list p c.args.is_dir))
    (sym (ap (λ p. join p path) (sym c.as_str-prefix.ensures.value)
    ∙ join-nothing prefix path (sym c.is_empty.ensures ∙ c.if-is_empty.true)))
    c.naming_rule.ensures.rule
