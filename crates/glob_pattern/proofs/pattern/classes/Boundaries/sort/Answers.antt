use Rattle.std.proofs.Common.{eqb, sym, subst}
use Rattle.std.specs.List.{Contains}
use Rattle.std.specs.List.Sorted.{IsNonDecreasing}
use Rattle.std.proofs.lemmas.List.Filters.{dedup_is}
use Rattle.std.proofs.lemmas.List.Kept.{Contains-dedup_nat}
use Rattle.std.proofs.lemmas.List.Sorted.{Contains-permutation}
use Rattle.std.proofs.lemmas.Map.Keys.{IsStrictlyIncreasing-dedup}
use Rattle.glob_pattern.proofs.ClassLemmas.Ranks.{non_decreasing}
use Rattle.glob_pattern.proofs.pattern.classes.Boundaries.sort.Goals as goal

pub returns-clause-order : goal.returns-clause-order
returns-clause-order g c =
    let kept = dedup_is eqb _ _ c.dedup.ensures.filtered in
    subst IsNonDecreasing (sym kept) (non_decreasing _ (IsStrictlyIncreasing-dedup _ c.sort_unstable.ensures.sorted))

pub returns-clause-grows : goal.returns-clause-grows
returns-clause-grows g c =
    let kept = dedup_is eqb _ _ c.dedup.ensures.filtered in
    record {
      ascii = λ d h. h;
      beyond = λ d h. subst (λ xs. Contains xs d) (sym kept) (Contains-dedup_nat _ d
          (Contains-permutation _ _ d c.sort_unstable.ensures.permutation h));
    }
