-- What the kind of a component says about its text.
use Rattle.std.proofs.Common.{◌≡◌, Bool, true, false, cond, [], ◌∷◌, refl, ap}
use Rattle.std.proofs.lemmas.Bool.{both_ways}
use Rattle.std.proofs.lemmas.Slice.Eq.{bytes_eq-Decides}
use Rattle.glob_pattern.specs.Grammar.Characters.{star}
use Rattle.glob_text.specs.Text.{Text}
use Rattle.glob_walk.specs.Components.{Literal, Recursive, Wild, component_kind, is_literal, is_recursive}

pub recursive_is : (t : Text) → is_recursive t ≡ true → t ≡ star ∷ star ∷ []
recursive_is t h = (bytes_eq-Decides t (star ∷ star ∷ [])).0 h

pub recursive-kind : (t : Text) → is_recursive t ≡ true → component_kind t ≡ Recursive
recursive-kind t h = ap component_kind (recursive_is t h)

pub literal_not_recursive : (t : Text) → is_literal t ≡ true → is_recursive t ≡ false
literal_not_recursive t e = by_test (is_recursive t) refl
  where
    by_test : (b : Bool) → is_recursive t ≡ b → b ≡ false
    by_test true r = absurd (both_ways (is_literal t) (ap is_literal (recursive_is t r)) e)
    by_test false r = refl

pub kind-Literal : (t : Text) → component_kind t ≡ Literal → is_literal t ≡ true
kind-Literal t = by_tests (is_literal t) (is_recursive t)
  where
    by_tests : (b r : Bool) → cond b Literal (cond r Recursive Wild) ≡ Literal → b ≡ true
    by_tests true r h = refl
    by_tests false true h = absurd (cc)
    by_tests false false h = absurd (cc)

pub kind-Recursive : (t : Text) → component_kind t ≡ Recursive → is_recursive t ≡ true
kind-Recursive t = by_tests (is_literal t) (is_recursive t)
  where
    by_tests : (b r : Bool) → cond b Literal (cond r Recursive Wild) ≡ Recursive → r ≡ true
    by_tests true r h = absurd (cc)
    by_tests false true h = refl
    by_tests false false h = absurd (cc)

pub kind-Wild : (t : Text) → component_kind t ≡ Wild → (is_literal t ≡ false) × (is_recursive t ≡ false)
kind-Wild t = by_tests (is_literal t) (is_recursive t)
  where
    by_tests : (b r : Bool) → cond b Literal (cond r Recursive Wild) ≡ Wild → (b ≡ false) × (r ≡ false)
    by_tests true r h = absurd (cc)
    by_tests false true h = absurd (cc)
    by_tests false false h = (refl, refl)
