use Rattle.std.proofs.Common.{◌<◌, length, sym, ap, subst, ◌∙◌, arith}
use Rattle.std.proofs.lemmas.Bool.{eqb-false, eqb-true}
use Rattle.std.proofs.lemmas.List.{length-take-le}
use Rattle.std.proofs.lemmas.List.Sorted.{IsNonDecreasingBy-from_sort}
use Rattle.std.specs.List.Sorted.{IsNonDecreasing}
use Rattle.std.specs.Vec.{vec_len}
use Rattle.glob_set.specs.Private.Keyed.{few_or_many}
use Rattle.glob_set.proofs.KeyedLemmas.{few_alone, many_alone, none_of}
use Rattle.glob_set.proofs.MatchLists.{first_part}
use Rattle.glob_set.proofs.found.Found.sort.Goals as goal

pub returns-then-is_empty-clause-order : goal.returns-then-is_empty-clause-order
returns-then-is_empty-clause-order g c =
    let sorted = c.sort_unstable.new.self in
    let none = none_of c.self.inside.many.items (omega (
      arith,
      c.self.inside.many.ok,
      eqb-true
          (vec_len c.self.inside.many) 0 (sym c.is_empty.ensures ∙ c.if-is_empty.true),
    )) in
    subst IsNonDecreasing
    (sym (few_alone _ c.self.inside.many.items none ∙ first_part c.self.inside.len sorted _
    (c.sort_unstable.ensures.len ∙ length-take-le c.self.inside.len c.self.inside.few (omega (arith, c.self.invariant, c.self.told)))))
    (IsNonDecreasingBy-from_sort (λ x. x) sorted c.sort_unstable.ensures.sorted)

pub returns-else-is_empty-clause-order : goal.returns-else-is_empty-clause-order
returns-else-is_empty-clause-order g c =
    let sorted = c.sort_unstable-else-is_empty.new.self in
    let many = c.sort_unstable-else-is_empty.ensures.len ∙ c.as_mut_slice.ensures.len in
    let some : 0 < length sorted = omega (
      arith,
      many,
      eqb-false (vec_len c.self.inside.many) 0 (sym c.is_empty.ensures
          ∙ c.if-is_empty.false),
    ) in
    subst IsNonDecreasing (sym (ap (few_or_many _) (first_part _ sorted _ many) ∙ many_alone _ sorted some))
    (IsNonDecreasingBy-from_sort (λ x. x) sorted c.sort_unstable-else-is_empty.ensures.sorted)
