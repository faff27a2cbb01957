use Rattle.std.proofs.Common.{◌+◌, IfSome, sym, subst}
use Rattle.glob_set.specs.Private.Components.{IsReadAt}
use Rattle.glob_set.proofs.KeyLemmas.{IsReadAt-separator, IsReadAt-literal}
use Rattle.glob_set.proofs.pattern_keys.read_token.Goals as goal

pub returns-then-is_separator : goal.returns-then-is_separator
returns-then-is_separator g c =
    subst (IsReadAt c.args.pattern.now (c.args.token + 1)) (sym c.start.ensures)
    (IsReadAt-separator c.args.pattern.now c.args.token (c.is_separator.ensures c.if-is_separator.true))

pub returns-in-Some : goal.returns-in-Some
returns-in-Some g c =
    subst (IsReadAt c.args.pattern.now (c.args.token + 1)) (sym c.after_char.ensures)
    (IsReadAt-literal c.args.pattern.now c.args.token c.in-Some.c c.in_ok-component.component c.in-Some.ensures.literal
    (subst (λ o. IfSome o (IsReadAt c.args.pattern.now c.args.token)) c.in_ok-component.was c.requires.component))
