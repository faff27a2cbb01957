use Rattle.std.proofs.Common.{rules, subst, string_bytes}
use Rattle.std.specs.Cmp.Lexicographic.{slice_cmp}
use Rattle.std.specs.List.Sorted.{IsBinarySearchResult}
use Rattle.std.specs.Ordering.{nat_cmp}
use Rattle.std.proofs.lemmas.Fn.{always_returns_same}
use Rattle.glob_search.proofs.beginnings.node.Node.find_literal.Goals as goal

pub returns-clause-place : goal.returns-clause-place
returns-clause-place g c =
    subst (λ ls. IsBinarySearchResult (λ l. slice_cmp nat_cmp (string_bytes l.text) c.args.text.now) ls
    c.binary_search_by.result) c.as_slice.ensures.value
    (c.binary_search_by.ensures.position (λ l. slice_cmp nat_cmp (string_bytes l.text) c.args.text.now)
    (always_returns_same _ _ _ (λ a r q k. search rules)))
