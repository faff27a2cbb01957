-- Names that ascend.
use Rattle.std.proofs.Common.{◌≡◌, ℕ, zero, suc, ◌<◌, List, [], ◌∷◌, length, get_or, refl, ap, sym, subst, ◌∙◌, arith}
use Rattle.std.specs.Prelude.{AllPairs, Contains, ⊤}
use Rattle.std.specs.Cmp.Lexicographic.{slice_cmp}
use Rattle.std.specs.Ordering.{is_eq, nat_cmp, ordering_reverse}
use Rattle.std.specs.declared.cmp.Ordering.{Ordering}
use Rattle.std.specs.declared.cmp.Ordering.TheVariants.{Less, Equal, Greater}
use Rattle.std.proofs.lemmas.Cmp.{nat_list_cmp_total}
use Rattle.std.proofs.lemmas.Map.Text.{is_eq-slice_cmp}
use Rattle.std.proofs.lemmas.Slice.Eq.{bytes_eq-Decides}
use Rattle.glob_text.specs.Text.{Text}
use Rattle.glob_tree.specs.Answers.{names_of}
use Rattle.glob_tree.specs.Content.{DirEntry}
use Rattle.glob_tree.proofs.ContentLemmas.Sorting.{IsRising}
use Rattle.glob_search.proofs.OrderLemmas.Parts.{Contains-map}

abbrev pub IsLess : Text → Text → Type 0
IsLess s t = slice_cmp nat_cmp s t ≡ Less

-- each name is less than the names after it
abbrev pub Rises : List Text → Type 0
Rises [] = ⊤
Rises (n ∷ ns) = ((m : Text) → Contains ns m → IsLess n m) × Rises ns

pub less-trans : (s t u : Text) → IsLess s t → IsLess t u → IsLess s u
less-trans s t u h k = nat_list_cmp_total.trans s t u h k

pub same-from_equal : (s t : Text) → slice_cmp nat_cmp s t ≡ Equal → s ≡ t
same-from_equal s t h = (bytes_eq-Decides s t).0 (sym (is_eq-slice_cmp s t) ∙ ap is_eq h)

pub greater-from_less : (s t : Text) → IsLess s t → slice_cmp nat_cmp t s ≡ Greater
greater-from_less s t h = nat_list_cmp_total.antisymm t s ∙ ap ordering_reverse h

pub less-not_same : (s t : Text) → IsLess s t → s ≡ t → ⊥
less-not_same s t h same =
    let one : slice_cmp nat_cmp s s ≡ Less = ap (slice_cmp nat_cmp s) same ∙ h in
    let two : slice_cmp nat_cmp s s ≡ Greater = greater-from_less s s one in
    differ (sym one ∙ two)
  where
    differ : Less ≡ Greater → ⊥
    differ e = cc

pub equal-same : (s : Text) → slice_cmp nat_cmp s s ≡ Equal
equal-same s = by_answer (slice_cmp nat_cmp s s) refl
  where
    by_answer : (o : Ordering) → slice_cmp nat_cmp s s ≡ o → o ≡ Equal
    by_answer Less h = absurd (less-not_same s s h refl)
    by_answer Equal h = refl
    by_answer Greater h = absurd (less-not_same s s (nat_list_cmp_total.antisymm s s ∙ ap ordering_reverse h) refl)

pub rises-names : (es : List DirEntry) → IsRising es → Rises (names_of es)
rises-names [] up = tt
rises-names (e ∷ es) up = (
  λ m in'. let (f, there, is) = Contains-map (λ f. f.0) es m in' in subst (IsLess e.0) is (up.0 f there),
  rises-names es up.1,
)

pub rises-from_pairs : (ns : List Text) → AllPairs IsLess ns → Rises ns
rises-from_pairs [] up = tt
rises-from_pairs (n ∷ ns) up = (
  λ m (k, lt, is). subst (IsLess n) is (up 0 (suc k) m (omega arith) (omega (arith, lt))),
  rises-from_pairs ns (λ i j d above below. up (suc i) (suc j) d (omega (arith, above)) (omega (arith, below))),
)

pub pairs-from_rises : (ns : List Text) → Rises ns → AllPairs IsLess ns
pairs-from_rises [] up i j d above below = absurd (omega (arith, below))
pairs-from_rises (n ∷ ns) up zero zero d above below = absurd (omega (arith, above))
pairs-from_rises (n ∷ ns) up zero (suc j) d above below = up.0 (get_or ns j d) (
  j,
  omega (arith, below),
  same-place ns
      j d (omega (arith, below)),
)
  where
    same-place : (ms : List Text) (k : ℕ) (d : Text) → k < length ms → get_or ms k (get_or ms k d) ≡ get_or ms k d
    same-place [] k d h = absurd (omega (arith, h))
    same-place (m ∷ ms) zero d h = refl
    same-place (m ∷ ms) (suc k) d h = any-default ms k (get_or ms k d) d (omega (arith, h))
      where
        any-default : (ms : List Text) (k : ℕ) (d e : Text) → k < length ms → get_or ms k d ≡ get_or ms k e
        any-default [] k d e h = absurd (omega (arith, h))
        any-default (m ∷ ms) zero d e h = refl
        any-default (m ∷ ms) (suc k) d e h = any-default ms k d e (omega (arith, h))
pairs-from_rises (n ∷ ns) up (suc i) zero d above below = absurd (omega (arith, above))
pairs-from_rises (n ∷ ns) up (suc i) (suc j) d above below = pairs-from_rises ns up.1 i j d (omega (arith, above)) (omega (arith, below))
