use Rattle.std.proofs.Common.{◌≡◌, List, map, subst, sym}
use Rattle.std.specs.Prelude.{Contains}
use Rattle.std.specs.Borrow.{Bor}
use Rattle.std.specs.Cmp.Lexicographic.{slice_cmp}
use Rattle.std.specs.List.{AllPairs, dedup}
use Rattle.std.specs.Ordering.{nat_cmp}
use Rattle.std.specs.declared.cmp.Ordering.TheVariants.{Less}
use Rattle.std.proofs.lemmas.List.Filters.{dedup_is}
use Rattle.std.proofs.lemmas.List.Sorted.{Contains-permutation, IsPermutation-map, IsPermutation-sym}
use Rattle.glob_text.specs.Text.{Text}
use Rattle.glob_search.proofs.BeginningLemmas.Names.{are-names, once-ascends, once-back, once-there, same_now}
use Rattle.glob_search.proofs.beginnings.Beginnings.literal_names.Goals as goal

pub returns : goal.returns
returns g c =
    let now : List (Bor Text) → List Text = map (λ t. t.now) in
    let all = c.in_ok-names.names.items in
    let sorted = c.sort_unstable.new.self.items in
    let once = c.dedup.new.self.items in
    let kept : once ≡ dedup same_now sorted = dedup_is same_now sorted once c.dedup.ensures.filtered in
    let up = subst (λ (ts : List (Bor Text)). AllPairs (λ s t. slice_cmp nat_cmp s t ≡ Less) (now ts)) (sym kept)
    (once-ascends sorted c.sort_unstable.ensures.sorted) in
    let moved = IsPermutation-map (λ (t : Bor Text). t.now) all sorted c.sort_unstable.ensures.permutation in
    record {
      names = λ a names bs live unlisted. are-names a names c.args.self.now bs c.args.alive.now live unlisted (now once) up
          (λ t in'. subst (λ (ts : List (Bor Text)). Contains (now ts) t) (sym kept)
          (once-there sorted t (Contains-permutation (now all) (now sorted) t moved (subst (λ ts. Contains ts t)
          (sym c.in_ok-names.ensures) in'))))
          (λ t in'. subst (λ ts. Contains ts t) c.in_ok-names.ensures
          (Contains-permutation (now sorted) (now all) t (IsPermutation-sym (now all) (now sorted) moved)
          (once-back sorted t (subst (λ (ts : List (Bor Text)). Contains (now ts) t) kept in'))));
      ascend = up;
    }
