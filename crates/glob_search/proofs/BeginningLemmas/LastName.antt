-- What components take, by the last component and the last name.
use Rattle.std.proofs.Common.{◌≡◌, Bool, true, false, ◌&&◌, ◌||◌, List, [], ◌∷◌, ◌++◌, refl, ap, ap₂, sym, ◌∙◌}
use Rattle.std.specs.Str.{chars}
use mathlib.Core.Bool.{and-false, and-true, or-false}
use Rattle.glob_text.specs.Text.{Text}
use Rattle.glob_pattern.specs.Matching.Components.{is_open, is_recursive}
use Rattle.glob_pattern.specs.Computing.Deciding.{is_match}
use Rattle.glob_pattern.specs.declared.options.MatchOptions.{MatchOptions}
use Rattle.glob_tree.specs.Content.{Key}
use Rattle.glob_search.specs.Searching.{takes}
use Rattle.glob_search.proofs.OrderLemmas.Beginnings.{takes-recursive, takes-other}

-- without components, no name is taken
pub none-takes : (o : MatchOptions) (ns : Key) (n : Text) → takes o [] (ns ++ n ∷ []) ≡ false
none-takes o [] n = refl
none-takes o (m ∷ ms) n = refl

module _ (o : MatchOptions) (t : Text) where
  -- a component that is not `**` takes one name
  pub other-last-none : is_recursive t ≡ false → (ts : List Text) → takes o (ts ++ t ∷ []) [] ≡ false
  other-last-none r [] = ap (λ b. b && true) r
  other-last-none r (u ∷ us) = ap (λ b. is_recursive u && b) (other-last-none r us) ∙ and-false (is_recursive u)

  pub other-last : is_recursive t ≡ false → (ts : List Text) (ns : Key) (n : Text)
      → takes o (ts ++ t ∷ []) (ns ++ n ∷ []) ≡ (takes o ts ns && is_match o (chars t) (chars n))
  other-last r [] [] n = takes-other o t [] n [] r ∙ and-true (is_match o (chars t) (chars n))
  other-last r [] (m ∷ ms) n =
      takes-other o t [] m (ms ++ n ∷ []) r ∙ ap (λ b. is_match o (chars t) (chars m) && b) (none-takes o ms n)
      ∙ and-false (is_match o (chars t) (chars m))
  other-last r (u ∷ us) [] n = by_test (is_recursive u) refl (other-last r us [] n)
    where
      by_test : (b : Bool) → is_recursive u ≡ b → takes o (us ++ t ∷ []) (n ∷ []) ≡ (takes o us [] && is_match o (chars t) (chars n))
          → takes o (u ∷ (us ++ t ∷ [])) (n ∷ []) ≡ (takes o (u ∷ us) [] && is_match o (chars t) (chars n))
      by_test true is skip =
          takes-recursive o u (us ++ t ∷ []) n [] is
          ∙ ap₂ (λ x y. x || (is_open o n && y)) skip (other-last-none r (u ∷ us))
          ∙ close (is_open o n) (takes o us [] && is_match o (chars t) (chars n))
          ∙ ap (λ b. (b && takes o us []) && is_match o (chars t) (chars n)) (sym is)
        where
          close : (open' b : Bool) → (b || (open' && false)) ≡ b
          close true b = or-false b
          close false b = or-false b
      by_test false is skip =
          takes-other o u (us ++ t ∷ []) n [] is
          ∙ ap (λ b. is_match o (chars u) (chars n) && b) (other-last-none r us)
          ∙ and-false (is_match o (chars u) (chars n))
          ∙ ap (λ b. (b && takes o us []) && is_match o (chars t) (chars n)) (sym is)
  other-last r (u ∷ us) (m ∷ ms) n = by_test (is_recursive u) refl (other-last r us (m ∷ ms) n)
      (other-last r (u ∷ us) ms n) (other-last r us ms n)
    where
      by_test : (b : Bool) → is_recursive u ≡ b
          → takes o (us ++ t ∷ []) (m ∷ (ms ++ n ∷ [])) ≡ (takes o us (m ∷ ms) && is_match o (chars t) (chars n))
          → takes o (u ∷ (us ++ t ∷ [])) (ms ++ n ∷ []) ≡ (takes o (u ∷ us) ms && is_match o (chars t) (chars n))
          → takes o (us ++ t ∷ []) (ms ++ n ∷ []) ≡ (takes o us ms && is_match o (chars t) (chars n))
          → takes o (u ∷ (us ++ t ∷ [])) (m ∷ (ms ++ n ∷ [])) ≡ (takes o (u ∷ us) (m ∷ ms) && is_match o (chars t) (chars n))
      by_test true is skip again next =
          takes-recursive o u (us ++ t ∷ []) m (ms ++ n ∷ []) is
          ∙ ap₂ (λ x y. x || (is_open o m && y)) skip again
          ∙ spread (takes o us (m ∷ ms)) (is_open o m) (takes o (u ∷ us) ms) (is_match o (chars t) (chars n))
          ∙ ap (λ b. b && is_match o (chars t) (chars n)) (sym (takes-recursive o u us m ms is))
        where
          spread : (a p b k : Bool) → ((a && k) || (p && (b && k))) ≡ ((a || (p && b)) && k)
          spread true true true true = refl
          spread true true true false = refl
          spread true true false true = refl
          spread true true false false = refl
          spread true false b true = refl
          spread true false b false = refl
          spread false true b k = refl
          spread false false b k = refl
      by_test false is skip again next =
          takes-other o u (us ++ t ∷ []) m (ms ++ n ∷ []) is
          ∙ ap (λ b. is_match o (chars u) (chars m) && b) next
          ∙ assoc (is_match o (chars u) (chars m)) (takes o us ms) (is_match o (chars t) (chars n))
          ∙ ap (λ b. b && is_match o (chars t) (chars n)) (sym (takes-other o u us m ms is))
        where
          assoc : (a b k : Bool) → (a && (b && k)) ≡ ((a && b) && k)
          assoc true b k = refl
          assoc false b k = refl

  -- `**` takes no name, or one more name that is open to it
  pub recursive-last-none : is_recursive t ≡ true → (ts : List Text) → takes o (ts ++ t ∷ []) [] ≡ takes o ts []
  recursive-last-none r [] = ap (λ b. b && true) r
  recursive-last-none r (u ∷ us) = ap (λ b. is_recursive u && b) (recursive-last-none r us)

  pub recursive-last : is_recursive t ≡ true → (ts : List Text) (ns : Key) (n : Text)
      → takes o (ts ++ t ∷ []) (ns ++ n ∷ []) ≡ (takes o ts (ns ++ n ∷ []) || (is_open o n && takes o (ts ++ t ∷ []) ns))
  recursive-last r [] [] n = takes-recursive o t [] n [] r
  recursive-last r [] (m ∷ ms) n =
      takes-recursive o t [] m (ms ++ n ∷ []) r
      ∙ ap (λ b. is_open o m && b) (recursive-last r [] ms n ∙ ap (λ b. b || (is_open o n && takes o (t ∷ []) ms)) (none-takes o ms n))
      ∙ swap (is_open o m) (is_open o n) (takes o (t ∷ []) ms)
      ∙ ap (λ b. is_open o n && b) (sym (takes-recursive o t [] m ms r))
    where
      swap : (a b k : Bool) → (a && (b && k)) ≡ (b && (a && k))
      swap true true k = refl
      swap true false k = refl
      swap false true k = refl
      swap false false k = refl
  recursive-last r (u ∷ us) [] n = by_test (is_recursive u) refl (recursive-last r us [] n)
    where
      by_test : (b : Bool) → is_recursive u ≡ b
          → takes o (us ++ t ∷ []) (n ∷ []) ≡ (takes o us (n ∷ []) || (is_open o n && takes o (us ++ t ∷ []) []))
          → takes o (u ∷ (us ++ t ∷ [])) (n ∷ []) ≡ (takes o (u ∷ us) (n ∷ []) || (is_open o n && takes o (u ∷ (us ++ t ∷ [])) []))
      by_test true is skip =
          takes-recursive o u (us ++ t ∷ []) n [] is
          ∙ ap (λ x. x || (is_open o n && takes o (u ∷ (us ++ t ∷ [])) []))
          (skip ∙ ap (λ b. takes o us (n ∷ []) || (is_open o n && b)) (recursive-last-none r us ∙ ap (λ b. b && takes o us []) (sym is))
          ∙ sym (takes-recursive o u us n [] is))
      by_test false is skip =
          takes-other o u (us ++ t ∷ []) n [] is
          ∙ ap (λ b. is_match o (chars u) (chars n) && b) (recursive-last-none r us)
          ∙ sym (takes-other o u us n [] is)
          ∙ sym (or-false (takes o (u ∷ us) (n ∷ [])))
          ∙ ap (λ b. takes o (u ∷ us) (n ∷ []) || b) (sym (and-false (is_open o n)) ∙ ap (λ b. is_open o n &&
          (b && takes o (us ++ t ∷ []) [])) (sym is))
  recursive-last r (u ∷ us) (m ∷ ms) n = by_test (is_recursive u) refl (recursive-last r us (m ∷ ms) n)
      (recursive-last r (u ∷ us) ms n) (recursive-last r us ms n)
    where
      by_test : (b : Bool) → is_recursive u ≡ b
          → takes o (us ++ t ∷ []) (m ∷ (ms ++ n ∷ [])) ≡ (takes o us (m ∷ (ms ++ n ∷ [])) || (is_open o n && takes o
          (us ++ t ∷ []) (m ∷ ms)))
          → takes o (u ∷ (us ++ t ∷ [])) (ms ++ n ∷ []) ≡ (takes o (u ∷ us) (ms ++ n ∷ []) || (is_open o n && takes o
          (u ∷ (us ++ t ∷ [])) ms))
          → takes o (us ++ t ∷ []) (ms ++ n ∷ []) ≡ (takes o us (ms ++ n ∷ []) || (is_open o n && takes o (us ++ t ∷ []) ms))
          → takes o (u ∷ (us ++ t ∷ [])) (m ∷ (ms ++ n ∷ [])) ≡ (takes o (u ∷ us) (m ∷ (ms ++ n ∷ [])) ||
          (is_open o n && takes o (u ∷ (us ++ t ∷ [])) (m ∷ ms)))
      by_test true is skip again next =
          takes-recursive o u (us ++ t ∷ []) m (ms ++ n ∷ []) is
          ∙ ap₂ (λ x y. x || (is_open o m && y)) skip again
          ∙ mix (takes o us (m ∷ (ms ++ n ∷ []))) (is_open o n) (takes o (us ++ t ∷ []) (m ∷ ms)) (is_open o m)
          (takes o (u ∷ us) (ms ++ n ∷ [])) (takes o (u ∷ (us ++ t ∷ [])) ms)
          ∙ ap₂ (λ x y. x || (is_open o n && y)) (sym (takes-recursive o u us m (ms ++ n ∷ []) is))
          (sym (takes-recursive o u (us ++ t ∷ []) m ms is))
        where
          mix : (a n b m c d : Bool) → ((a || (n && b)) || (m && (c || (n && d)))) ≡ ((a || (m && c)) || (n && (b || (m && d))))
          mix true n b m c d = refl
          mix false true true true true d = refl
          mix false true true true false d = refl
          mix false true true false c d = refl
          mix false true false true c d = refl
          mix false true false false c d = refl
          mix false false b true true d = refl
          mix false false b true false d = refl
          mix false false b false c d = refl
      by_test false is skip again next =
          takes-other o u (us ++ t ∷ []) m (ms ++ n ∷ []) is
          ∙ ap (λ b. is_match o (chars u) (chars m) && b) next
          ∙ spread (is_match o (chars u) (chars m)) (takes o us (ms ++ n ∷ [])) (is_open o n) (takes o (us ++ t ∷ []) ms)
          ∙ ap₂ (λ x y. x || (is_open o n && y)) (sym (takes-other o u us m (ms ++ n ∷ []) is))
          (sym (takes-other o u (us ++ t ∷ []) m ms is))
        where
          spread : (k a n b : Bool) → (k && (a || (n && b))) ≡ ((k && a) || (n && (k && b)))
          spread true a n b = refl
          spread false a true b = refl
          spread false a false b = refl
