use Rattle.std.proofs.Common.{[], IsPermutation, nat_eq, subst, ◌∙◌}
use Rattle.std.specs.List.Retain.{IsFiltered, DiffersFromLast}
use Rattle.glob_set.proofs.MatchLists.{all_matches-sorted, first_part}
use Rattle.glob_set.proofs.set.PatternSet.matches_into.Goals as goal

pub returns-in-Ok-clause-all : goal.returns-in-Ok-clause-all
returns-in-Ok-clause-all g c =
    let set = c.args.self.now in
    let sorted = c.sort_unstable.new.self in
    let new = c.dedup.new.self.items in
    all_matches-sorted set.options set.patterns c.args.text.now c.find_matches.new.numbers.items sorted new c.in-Ok.ensures
    (subst (λ ks. IsPermutation ks sorted) c.as_mut_slice.ensures.value c.sort_unstable.ensures.permutation) c.sort_unstable.ensures.sorted
    (subst (λ ks. IsFiltered (DiffersFromLast nat_eq) [] ks new) (first_part _ sorted _ (c.sort_unstable.ensures.len
    ∙ c.as_mut_slice.ensures.len)) c.dedup.ensures.filtered)
