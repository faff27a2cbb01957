use Rattle.std.proofs.Common.{◌≡◌, sym, subst}
use Rattle.glob_set.specs.Private.Components.{IsReadAt, start}
use Rattle.glob_set.proofs.KeyLemmas.{IsReadAt-recursive, start_of}
use Rattle.glob_set.proofs.pattern_keys.read_wildcard.Goals as goal

pub returns-then-is_inner_recursive : goal.returns-then-is_inner_recursive
returns-then-is_inner_recursive g c =
    let pattern = c.args.pattern.now in
    let none : c.args.component ≡ start = start_of c.args.component c.if-component-eq0.true c.if-component-eq0-2.true in
    subst (IsReadAt pattern _) (sym none)
    (IsReadAt-recursive pattern c.args.token (c.is_inner_recursive.ensures c.if-is_inner_recursive.true)
    (subst (IsReadAt pattern c.args.token) none c.requires.component))
