-- The shapes of a list of tokens, token by token.
use Rattle.std.proofs.Common.{◌≡◌, ◌∙◌, ◌+◌, ◌-◌, ◌<◌, ◌≤◌, ◌≢◌, ◌⊎◌, ◌↔◌, ℕ, Bool, List, length, map, get_or, inl, inr}
use Rattle.std.proofs.Common.{⊎_elim, sym, ap, IsTrue, arith}
use Rattle.std.proofs.lemmas.Bool.{cases_eq}
use Rattle.std.proofs.lemmas.List.{get_or-map}
use Rattle.std.specs.Int.{IsBitSet}
use Rattle.glob_pattern.specs.Private.Positions.{HasShapes}
use Rattle.glob_pattern.specs.Private.Ends.{HasOnes}
use Rattle.glob_pattern.specs.declared.matcher.Shape.{Shape}
use Rattle.glob_pattern.specs.declared.matcher.Shape.TheVariants.{One, Deep}
use Rattle.glob_pattern.specs.declared.matcher.shape_word.ShapeWord.{ShapeWord}

-- the element of a mapped list at a place
pub mapped_at : {A B : Type 0} (f : A → B) (xs : List A) (n : ℕ) (x : A) (d : B) → n < length xs → x ≡ get_or xs n x
    → get_or (map f xs) n d ≡ f x
mapped_at f xs n x d lt at = get_or-map f xs n x d lt ∙ ap f (sym at)

-- the next shape is in the word too
pub HasShapes-next : (shapes : List Shape) (start n : ℕ) (shape : Shape) (word next : ShapeWord) (followed : Bool)
    → start ≤ n → get_or shapes n One ≡ shape → IsTrue followed ↔ (n + 1 < length shapes)
    → HasShapes shapes start n word
    → ((j : ℕ) → IsBitSet next.tokens j ↔ (IsBitSet word.tokens j ⊎ (j ≡ n - start)))
    → ((j : ℕ) → IsBitSet next.wildcards j ↔ (IsBitSet word.wildcards j ⊎ ((j ≡ n - start) × (shape ≢ One))))
    → ((j : ℕ) → IsBitSet next.recursive j ↔ (IsBitSet word.recursive j ⊎ ((j ≡ n - start) × (shape ≡ Deep) × IsTrue followed)))
    → HasShapes shapes start (n + 1) next
HasShapes-next shapes start n shape word next followed from at more has tokens wildcards recursive = record {
  tokens = λ j lt. let h = has.tokens j lt in let t = tokens j in (
    λ x. ⊎_elim (λ w. omega (arith, h.0 w)) (λ e. omega (arith, e)) (t.0 x),
    λ before. ⊎_elim (λ e. t.1 (inr e)) (λ ne. t.1 (inl (h.1 (omega (arith, before, ne))))) (cases_eq j (n - start)),
  );
  wildcards = λ j lt. let h = has.wildcards j lt in let t = wildcards j in (
    λ x. ⊎_elim (λ w. let p = h.0 w in (omega (arith, p.0), p.1)) (λ (e, s). let here : start + j ≡ n = omega
        (arith, e) in (omega (arith, e), rw (here, at) s)) (t.0 x),
    λ (before, s). ⊎_elim (λ e. let here : start + j ≡ n = omega (arith, e) in t.1 (inr (e, rw (here, at) at s)))
        (λ ne. t.1 (inl (h.1 (omega (arith, before, ne), s)))) (cases_eq j (n - start)),
  );
  recursive = λ j lt. let h = has.recursive j lt in let t = recursive j in (
    λ x. ⊎_elim (λ w. let p = h.0 w in (omega (arith, p.0), p.1, p.2)) (λ (e, s, f). let here : start + j ≡ n = omega
        (arith, e) in (omega (arith, e), rw (here, at) s, omega (arith, e, more.0 f))) (t.0 x),
    λ (before, s, f). ⊎_elim (λ e. let here : start + j ≡ n = omega (arith, e) in t.1
        (inr (e, rw (here, at) at s, more.1 (omega (arith, e, f)))))
        (λ ne. t.1 (inl (h.1 (omega (arith, before, ne), s, f)))) (cases_eq j (n - start)),
  );
}

-- one more shape at the start, or at the end, is of one character
pub HasOnes-first : (shapes : List Shape) (lead : ℕ) → HasOnes shapes lead 0 → lead < length shapes → get_or shapes
    lead One ≡ One → HasOnes shapes (lead + 1) 0
HasOnes-first shapes lead ones lt one = record {
  within = omega arith;
  first = λ j below. ⊎_elim (λ e. rw e one) (λ ne. ones.first j (omega (arith, below, ne))) (cases_eq j lead);
  last = λ i below. absurd (omega arith);
}

pub HasOnes-last : (shapes : List Shape) (lead trail : ℕ) → HasOnes shapes lead trail → lead + trail < length shapes
    → get_or shapes (length shapes - 1 - trail) One ≡ One
    → HasOnes shapes lead (trail + 1)
HasOnes-last shapes lead trail ones lt one = record {
  within = omega arith;
  first = ones.first;
  last = λ i below. ⊎_elim (λ e. rw e one) (λ ne. ones.last i (omega (arith, below, ne))) (cases_eq i trail);
}
