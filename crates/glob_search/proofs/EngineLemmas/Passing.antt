-- Ignore files that are skipped.
use Rattle.std.proofs.Common.{◌≡◌, ℕ, ◌+◌, ◌<◌, ◌≤◌, List, [], ◌∷◌, Option, None, Some, ⊎_elim, length, get_or, refl, ap, sym, subst, ◌∙◌, arith}
use Rattle.std.specs.Prelude.{Vec, vec_len}
use Rattle.std.proofs.Math.Nat.{eq-or-lt_of_le}
use Rattle.glob_text.specs.Text.{Text}
use Rattle.glob_search.specs.Private.Steps.{IsAbsent}
use Rattle.glob_search.specs.declared.frame.Frame.{Frame}

pub nil-from_length : {X : Type 0} (xs : List X) → length xs ≡ 0 → xs ≡ []
nil-from_length [] h = refl
nil-from_length (x ∷ xs) h = absurd (omega (arith, h))

pub no-items : {X A : Type 0} (v : Vec X A) → vec_len v ≡ 0 → v.items ≡ []
no-items v h = nil-from_length v.items (omega (arith, h, v.ok.0))

-- how many files were read does not matter
pub absent-of : {A : Type 0} (first now : Frame A) (n : ℕ) (name : Text) → now ≡ record first { files = now.files }
    → IsAbsent (record now { files = n }) name → IsAbsent first name
absent-of first now n name is a =
    let s : IsAbsent (record first { files = n }) name = subst (λ f. IsAbsent (record f { files = n }) name) is a in
    record { known = s.known; absent = s.absent }

-- one more file
pub absent-more : {A : Type 0} (first : Frame A) (names : List Text) (low n : ℕ) (name : Text) → ((k : ℕ) → low ≤ k
    → k < n → IsAbsent first (get_or names k []))
    → get_or names n [] ≡ name → IsAbsent first name → (k : ℕ) → low ≤ k → k < n + 1 → IsAbsent first (get_or names k [])
absent-more first names low n name before is here k from below = ⊎_elim
    (λ same. subst (IsAbsent first) (sym is ∙ ap (λ m. get_or names m []) (sym same)) here)
    (λ lt. before k from lt)
    (eq-or-lt_of_le k-le)
  where
    k-le : k ≤ n
    k-le = omega (arith, below)

pub same-but_files : {A : Type 0} (first now : Frame A) (n : ℕ) → now ≡ record first { files = now.files }
    → record now { files = n } ≡ record first { files = n }
same-but_files {A} first now n is = let f : Frame A → Frame A = λ h. record h { files = n } in ap f is

pub not-next : {X : Type 0} (o : Option X) (x : X) → o ≡ None → o ≡ Some x → ⊥
not-next {X = X} o x none some = nothing (sym none ∙ some)
  where
    nothing : None ≡ Some x → ⊥
    nothing e = cc
