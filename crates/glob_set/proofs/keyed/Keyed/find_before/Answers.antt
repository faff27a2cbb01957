use Rattle.std.proofs.Common.{List, Option, inl, inr, subst}
use Rattle.glob_set.specs.declared.key.Key.{Key}
use Rattle.glob_set.specs.Private.Keys.{AreKinds}
use Rattle.glob_set.proofs.TextKeys.{Finds-before}
use Rattle.glob_set.proofs.keyed.Keyed.find_before.Goals as goal

pub returns-clause-all : goal.returns-clause-all
returns-clause-all g c =
    let kinds = c.self.inside.kinds in
    Finds-before c.args.self.now kinds (subst (λ (ks : List (Option Key)). AreKinds ks kinds) c.self.view_is c.self.invariant.1)
    c.args.component c.args.byte c.is_asked.result c.find_if.new.found (λ mark. c.is_asked.ensures.1 (inl mark))
    (λ used. c.is_asked.ensures.1 (inr (c.has_length-is_used.ensures.1 used))) c.find_if.ensures.all
