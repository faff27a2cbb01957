use Rattle.std.proofs.Common.{subst, sym}
use Rattle.glob_search.specs.Asking.{Agrees}
use Rattle.glob_search.proofs.path_rules.PathRules.is_ignored.Goals as goal

pub returns-clause-ignored : goal.returns-clause-ignored
returns-clause-ignored g c = λ a known same read.
    c.is_ignored.ensures.ignored a known same (subst (λ s. Agrees a known s) (sym c.self.view_is) read)
