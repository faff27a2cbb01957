use Rattle.std.proofs.Common.{IfSome, subst}
use Rattle.glob_set.specs.Private.Components.{IsReadAt}
use Rattle.glob_set.proofs.KeyLemmas.{HasKey-beginning, HasKey-separator}
use Rattle.glob_set.proofs.pattern_keys.key_before.Goals as goal

pub returns-then-is_separator : goal.returns-then-is_separator
returns-then-is_separator g c =
    HasKey-separator c.args.pattern.now c.args.token c.in_ok-component.component (c.is_separator.ensures c.if-is_separator.true)
    (subst (λ o. IfSome o (IsReadAt c.args.pattern.now c.args.token)) c.in_ok-component.was c.requires)

pub returns : goal.returns
returns g c =
    HasKey-beginning c.args.pattern.now c.args.token c.in_ok-component.component
    (subst (λ o. IfSome o (IsReadAt c.args.pattern.now c.args.token)) c.in_ok-component.was c.requires)
