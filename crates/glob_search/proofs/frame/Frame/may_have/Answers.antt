use Rattle.std.proofs.Common.{sym, subst, ◌∙◌, rules}
use Rattle.std.specs.Cmp.Lexicographic.{slice_cmp}
use Rattle.std.specs.List.Sorted.{IsBinarySearchResult}
use Rattle.std.specs.Ordering.{nat_cmp}
use Rattle.std.proofs.lemmas.Fn.{always_returns_same}
use Rattle.glob_search.proofs.EngineLemmas.Searched.{absent-from_search, not-looked_up}
use Rattle.glob_search.proofs.frame.Frame.may_have.Goals as goal

pub returns-in-Listed : goal.returns-in-Listed
returns-in-Listed g c = λ none.
    absent-from_search c.args.self.now c.args.name.now c.binary_search_by.result (sym c.is_ok.ensures.value ∙ none)
    (subst (λ es. IsBinarySearchResult (λ e. slice_cmp nat_cmp c.args.name.now e.name) es c.binary_search_by.result)
    c.as_slice.ensures.value
    (c.binary_search_by.ensures.position (λ e. slice_cmp nat_cmp c.args.name.now e.name) (always_returns_same _ _ _
    (λ a r q k. search rules)))) (not-looked_up c.args.self.now.source c.in-Listed.is)
