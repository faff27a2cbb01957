-- Folds over bytes, read forwards or backwards.
use Rattle.std.proofs.Common.{◌≡◌, ℕ, ◌+◌, ◌<◌, List, [], ◌∷◌, length, take, drop, drop-cons, reverse, get_or, fold, sym, ap, ◌∙◌, add-one}
use Rattle.std.proofs.lemmas.List.{reverse-append, take_more}
use Rattle.std.proofs.lemmas.List.Sums.{fold-append}

-- one more from the start
pub fold_more : {S : Type 0} (f : S → ℕ → S) (s now : S) (bytes : List ℕ) (i : ℕ) → i < length bytes → now ≡ fold f s (take i bytes)
    → f now (get_or bytes i 0) ≡ fold f s (take (i + 1) bytes)
fold_more f s now bytes i below is =
    ap (λ t. f t (get_or bytes i 0)) is
    ∙ sym (ap (fold f s) (take_more bytes i 0 below) ∙ fold-append f s (take i bytes) (get_or bytes i 0 ∷ []))

-- one more from the end
pub fold_back : {S : Type 0} (f : S → ℕ → S) (s now : S) (bytes : List ℕ) (left : ℕ) → left < length bytes
    → now ≡ fold f s (reverse (drop (left + 1) bytes))
    → f now (get_or bytes left 0) ≡ fold f s (reverse (drop left bytes))
fold_back f s now bytes left below is =
    let byte = get_or bytes left 0 in
    let rest = drop (left + 1) bytes in
    ap (λ t. f t byte) is
    ∙ sym (ap (λ bs. fold f s (reverse bs)) (drop-cons bytes left 0 below ∙ ap (λ n. byte ∷ drop n bytes) (sym (add-one left)))
    ∙ ap (fold f s) (reverse-append (byte ∷ []) rest) ∙ fold-append f s (reverse rest) (byte ∷ []))
