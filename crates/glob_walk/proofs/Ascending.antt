-- Sorted entries are the same entries in ascending order of names.
use Rattle.std.proofs.Common.{◌≡◌, Bool, true, false, cond, List, [], ◌∷◌, refl, ap, sym, ◌∙◌, arith}
use Rattle.std.specs.Prelude.{All, AllPairs}
use Rattle.std.specs.List.Sorted.{IsPermutation}
use Rattle.std.specs.Cmp.Lexicographic.{slice_cmp}
use Rattle.std.specs.Ordering.{nat_cmp, is_le, ordering_reverse}
use Rattle.std.specs.Cmp.{IsTotalOrder}
use Rattle.std.specs.BTreeMap.Comparable.{le_lt_trans}
use Rattle.std.specs.declared.cmp.Ordering.{Ordering}
use Rattle.std.specs.declared.cmp.Ordering.TheVariants.{Less, Equal, Greater}
use Rattle.std.proofs.lemmas.Bool.{both_ways}
use Rattle.std.proofs.lemmas.Cmp.{nat_list_cmp_total}
use Rattle.std.proofs.lemmas.List.Sorted.{IsPermutation-refl, IsPermutation-cons, IsPermutation-middle}
use Rattle.std.proofs.lemmas.List.Sorted.{IsPermutation-trans, All-permutation}
use Rattle.std.proofs.lemmas.List.Elements.{All-nil, All-cons, All-weaker}
use Rattle.std.proofs.lemmas.List.Kept.{AllPairs-cons}
use Rattle.glob_tree.specs.Content.{DirEntry, is_before, insert_entry, sorted_entries}
use Rattle.glob_walk.specs.Laws.{IsAscendingOrder}

insert_entry-keeps : (e : DirEntry) (es : List DirEntry) → IsPermutation (e ∷ es) (insert_entry e es)
insert_entry-keeps e [] = IsPermutation-refl (e ∷ [])
insert_entry-keeps e (f ∷ es) = by_test (is_before e f) (insert_entry-keeps e es)
  where
    by_test : (b : Bool) → IsPermutation (e ∷ es) (insert_entry e es) → IsPermutation (e ∷ f ∷ es) (cond b (e ∷ f ∷ es)
        (f ∷ insert_entry e es))
    by_test true kept = IsPermutation-refl (e ∷ f ∷ es)
    by_test false kept = IsPermutation-trans (e ∷ f ∷ es) (f ∷ e ∷ es) (f ∷ insert_entry e es) (IsPermutation-middle
        (e ∷ []) f es) (IsPermutation-cons f _ _ kept)

pub sorted_entries-keep : (es : List DirEntry) → IsPermutation es (sorted_entries es)
sorted_entries-keep [] = IsPermutation-refl []
sorted_entries-keep (e ∷ es) = IsPermutation-trans _ _ _ (IsPermutation-cons e _ _ (sorted_entries-keep es))
    (insert_entry-keeps e (sorted_entries es))

-- in byte order, e's name is not after f's
abbrev AtMost : DirEntry → DirEntry → Type 0
AtMost e f = is_before e f ≡ true

AtMost-trans : (e f g : DirEntry) → AtMost e f → AtMost f g → AtMost e g
AtMost-trans e f g h k = by_answer (slice_cmp nat_cmp f.0 g.0) refl
  where
    total : IsTotalOrder (slice_cmp nat_cmp)
    total = nat_list_cmp_total

    by_answer : (o : Ordering) → slice_cmp nat_cmp f.0 g.0 ≡ o → AtMost e g
    by_answer Less is = ap is_le (le_lt_trans total e.0 f.0 g.0 h is)
    by_answer Equal is =
        let same : slice_cmp nat_cmp e.0 g.0 ≡ slice_cmp nat_cmp e.0 f.0 =
        total.antisymm e.0 g.0 ∙ ap ordering_reverse (sym (total.congr f.0 g.0 e.0 is)) ∙ sym (total.antisymm e.0 f.0) in
        ap is_le same ∙ h
    by_answer Greater is = absurd (both_ways (is_before f g) (ap is_le is) k)

AtMost-other : (e f : DirEntry) → is_before e f ≡ false → AtMost f e
AtMost-other e f h = by_answer (slice_cmp nat_cmp e.0 f.0) refl
  where
    by_answer : (o : Ordering) → slice_cmp nat_cmp e.0 f.0 ≡ o → AtMost f e
    by_answer Less is = absurd (both_ways (is_before e f) h (ap is_le is))
    by_answer Equal is = absurd (both_ways (is_before e f) h (ap is_le is))
    by_answer Greater is = ap is_le (nat_list_cmp_total.antisymm f.0 e.0 ∙ ap ordering_reverse is)

-- no name is after the names that follow
abbrev Rises : List DirEntry → Type 0
Rises [] = Unit {0}
Rises (e ∷ es) = All (AtMost e) es × Rises es

Rises-insert_entry : (e : DirEntry) (es : List DirEntry) → Rises es → Rises (insert_entry e es)
Rises-insert_entry e [] up = (All-nil (AtMost e), tt)
Rises-insert_entry e (f ∷ es) up = by_test (is_before e f) refl (Rises-insert_entry e es up.1)
  where
    by_test : (b : Bool) → is_before e f ≡ b → Rises (insert_entry e es) → Rises (cond b (e ∷ f ∷ es) (f ∷ insert_entry e es))
    by_test true h rest = (
      All-cons (AtMost e) f es h (All-weaker (AtMost f) (AtMost e) (λ g k. AtMost-trans e f g h k) es up.0),
      up,
    )
    by_test false h rest = (
      All-permutation (AtMost f) (e ∷ es) (insert_entry e es) (insert_entry-keeps e es) (All-cons (AtMost f) e es
          (AtMost-other e f h) up.0),
      rest,
    )

Rises-sorted_entries : (es : List DirEntry) → Rises (sorted_entries es)
Rises-sorted_entries [] = tt
Rises-sorted_entries (e ∷ es) = Rises-insert_entry e (sorted_entries es) (Rises-sorted_entries es)

AllPairs-from_rises : (es : List DirEntry) → Rises es → AllPairs AtMost es
AllPairs-from_rises [] up = λ i j d above below. absurd (omega (arith, below))
AllPairs-from_rises (e ∷ es) up = AllPairs-cons AtMost e es up.0 (AllPairs-from_rises es up.1)

pub sorted_entries-ascend : (es : List DirEntry) → IsAscendingOrder es (sorted_entries es)
sorted_entries-ascend es = record {
  same = sorted_entries-keep es;
  rising = AllPairs-from_rises (sorted_entries es) (Rises-sorted_entries es);
}
