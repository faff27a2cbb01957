-- The first place in a list where a test passes, and the first in a suffix of the list.
use Rattle.std.proofs.Common.{◌≡◌, ℕ, ◌+◌, ◌≤◌, Bool, not, List, length, take, drop, sym, ap, ◌∙◌, arith}
use Rattle.std.specs.List.{position_or_len}
use Rattle.std.proofs.lemmas.Bool.{cond-true, eq-eqb}
use Rattle.std.proofs.lemmas.List.{take-append-drop, length-take-le}
use Rattle.std.proofs.lemmas.List.Folds.{prefix_len-append}
use Rattle.std.proofs.lemmas.List.Sums.{prefix_len-le-length}

-- if no place of the front passes, the first place is in what follows
pub first-past : (p : ℕ → Bool) (n : ℕ) (xs : List ℕ) → n ≤ length xs → n ≤ position_or_len p (take n xs)
    → position_or_len p xs ≡ n + position_or_len p (drop n xs)
first-past p n xs within none =
    let long : length (take n xs) ≡ n = length-take-le n xs within in
    let all : position_or_len p (take n xs) ≡ length (take n xs) = omega (
      arith,
      long,
      none,
      prefix_len-le-length
          (λ x. not (p x)) (take n xs),
    ) in
    ap (position_or_len p) (sym (take-append-drop n xs))
    ∙ prefix_len-append (λ x. not (p x)) (take n xs) (drop n xs)
    ∙ cond-true _ _ _ (eq-eqb _ _ all)
    ∙ ap (λ m. m + position_or_len p (drop n xs)) long
