use Rattle.std.proofs.Common.{List, Option, subst}
use Rattle.glob_set.specs.declared.key.Key.{Key}
use Rattle.glob_set.specs.Private.Keys.{AreKinds}
use Rattle.glob_set.proofs.TextKeys.{Finds-no_component}
use Rattle.glob_set.proofs.keyed.Keyed.find_components.Goals as goal

pub returns-else-self-clause-all : goal.returns-else-self-clause-all
returns-else-self-clause-all g c =
    let kinds = c.self.inside.kinds in
    Finds-no_component c.args.self.now kinds (subst (λ (ks : List (Option Key)). AreKinds ks kinds) c.self.view_is c.self.invariant.1)
    c.args.text.now c.args.found.now c.if-self.false
