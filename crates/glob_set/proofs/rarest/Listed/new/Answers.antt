use Rattle.std.proofs.Common.{◌≡◌, ◌++◌, ◌∷◌, [], length, refl, sym, ap, subst, ◌∙◌, arith}
use Rattle.glob_set.specs.Private.Keys.{AreListed}
use Rattle.glob_set.proofs.KeyLists.{listed_more}
use Rattle.glob_set.proofs.rarest.Listed.new.Goals as goal

pub loop-pattern-preserved : goal.loop-pattern-preserved
loop-pattern-preserved g c =
    let l = c.loop-pattern in
    let patterns = c.args.patterns.now in
    let long : c.len.result ≡ length l.keys.items = omega (arith, c.len.ensures, l.keys.ok) in
    let starts = c.in_ok-push.ensures.items ∙ ap (λ n. l.starts.items ++ n ∷ []) long in
    listed_more patterns l.pattern-index l.keys.items c.append.new.self.items c.push.new.self.items _
    c.pattern-item.result c.find_keys.new.keys.items
    (omega arith) c.pattern-item.is c.in_ok-find_keys.ensures c.in_ok-append.ensures.items refl
    (subst (AreListed patterns l.pattern-index l.keys.items) (sym starts) l.invariant)

pub returns : goal.returns
returns g c =
    let l = c.loop-pattern in
    let patterns = c.args.patterns.now in
    let end : l.pattern-index ≡ length patterns = omega arith in
    let long : c.len-2.result ≡ length l.keys.items = omega (arith, c.len-2.ensures, l.keys.ok) in
    let starts = c.in_ok-push-2.ensures.items ∙ ap (λ n. l.starts.items ++ n ∷ []) long in
    subst (λ n. AreListed patterns n l.keys.items c.push-2.new.self.items) end
    (subst (AreListed patterns l.pattern-index l.keys.items) (sym starts) l.invariant)
