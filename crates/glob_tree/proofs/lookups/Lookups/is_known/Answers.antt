use Rattle.std.proofs.Common.{true, sym, subst}
use Rattle.std.specs.String.{string_bytes}
use Rattle.glob_tree.specs.Private.Looking.{IsOnWay, IsSeen, LookupsModel}
use Rattle.glob_tree.proofs.SystemLemmas.Looking.{on_way}
use Rattle.glob_tree.proofs.lookups.Lookups.is_known.Goals as goal

pub returns-clause-known : goal.returns-clause-known
returns-clause-known g c = λ yes f seen.
    on_way f.content c.args.directory.now (string_bytes c.self.inside.way)
    (subst (λ w. IsOnWay c.args.directory.now w true) c.as_str.ensures.value
    (subst (IsOnWay c.args.directory.now c.as_str.result.now) yes c.is_on_way.ensures))
    (c.self.invariant f (subst (λ (d : LookupsModel _). IsSeen d.links d.files f) (sym c.self.view_is) seen))
