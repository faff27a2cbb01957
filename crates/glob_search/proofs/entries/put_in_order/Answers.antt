use Rattle.std.proofs.Common.{sym, subst, rules}
use Rattle.std.proofs.lemmas.Fn.{dedup_same}
use Rattle.std.proofs.lemmas.List.Sorted.{answers_always}
use Rattle.glob_tree.proofs.ContentLemmas.Contents.{IsContent-from_test}
use Rattle.glob_search.specs.Private.Listings.{AreFalling}
use Rattle.glob_search.proofs.EngineLemmas.Falling.{falls-once}
use Rattle.glob_search.proofs.EngineLemmas.Ordered.{falls, falls-ranks, ordered, same_name}
use Rattle.glob_search.proofs.entries.put_in_order.Goals as goal

pub returns-clause-order : goal.returns-clause-order
returns-clause-order g c = λ content names good all.
    ordered content (IsContent-from_test content good) names c.args.entries.now.items c.sort_unstable_by.new.self.items
    c.dedup_by.new.self.items all
    c.sort_unstable_by.ensures.permutation
    (c.sort_unstable_by.ensures.sorted falls falls-ranks (answers_always _ _ _ (λ f a r q k. search rules)))
    (dedup_same _ same_name _ (λ x y b f' x' y' k. search rules) _ _ c.dedup_by.ensures.filtered)

pub returns-clause-falls : goal.returns-clause-falls
returns-clause-falls g c =
    subst AreFalling (sym (dedup_same _ same_name _ (λ x y b f' x' y' k. search rules) _ _ c.dedup_by.ensures.filtered))
    (falls-once c.sort_unstable_by.new.self.items (c.sort_unstable_by.ensures.sorted falls falls-ranks
    (answers_always _ _ _ (λ f a r q k. search rules))))
