use Rattle.std.proofs.Common.{◌≡◌, All, IfSome, sym, subst, arith, chars}
use Rattle.std.proofs.lemmas.List.Elements.{All-push}
use Rattle.glob_pattern.specs.Matching.Literals.{HasCount}
use Rattle.glob_set.specs.declared.key.Key.TheVariants.{Component}
use Rattle.glob_set.specs.Private.Components.{IsReadAt}
use Rattle.glob_set.specs.Private.Keys.{HasKey}
use Rattle.glob_set.proofs.KeyLemmas.{IsReadAt-start, HasKey-end}
use Rattle.glob_set.proofs.pattern_keys.push_components.Goals as goal

pub loop-token-init : goal.loop-token-init
loop-token-init g c = record {
  component = subst (IsReadAt c.args.pattern.now 0) (sym c.start.ensures) (IsReadAt-start c.args.pattern.now);
  keys = c.requires;
}

pub returns-in_ok-push : goal.returns-in_ok-push
returns-in_ok-push g c =
    let pattern = c.args.pattern.now in
    let l = c.loop-token in
    let end : l.token ≡ c.tokens_len-token-end.result = omega arith in
    let read = subst (λ o. IfSome o (IsReadAt pattern l.token)) c.in-Some.is l.invariant.component in
    subst (All (HasKey pattern)) (sym c.in_ok-push.ensures.items)
    (All-push (HasKey pattern) l.keys.items (Component c.in-Some.last.hash) l.invariant.keys
    (HasKey-end pattern l.token c.in-Some.last (subst (HasCount (chars pattern)) (sym end) c.tokens_len-token-end.ensures.only) read))
