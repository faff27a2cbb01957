-- Components whose last `**` is written as `**` and `*` take the names that the components take level by level.
use Rattle.std.proofs.Common.{◌≡◌, Bool, true, false, cond, ◌&&◌, ◌||◌, List, [], ◌∷◌, refl, ap, ap₂, sym, ◌∙◌}
use mathlib.Core.Bool.{or-false, and-true, and-false}
use Rattle.std.specs.Prelude.{⊤}
use Rattle.std.specs.Str.{chars}
use Rattle.std.proofs.lemmas.Bool.{cond-true}
use Rattle.glob_text.specs.Text.{Text}
use Rattle.glob_pattern.specs.Grammar.Characters.{star}
use Rattle.glob_pattern.specs.Matching.Components.{is_open, is_recursive, run_to_end, run_before, name_before, takes_names}
use Rattle.glob_pattern.specs.Computing.Deciding.{is_match}
use Rattle.glob_pattern.specs.declared.options.MatchOptions.{MatchOptions}
use Rattle.glob_tree.specs.Content.{Key}
use Rattle.glob_search.specs.Searching.{takes, ended}
use Rattle.glob_search.proofs.OrderLemmas.Beginnings.{takes-recursive, takes-other}

-- the component matches the name
abbrev pub matches : MatchOptions → (component name : Text) → Bool
matches o t n = is_match o (chars t) (chars n)

-- `*` matches each of the names exactly when `**` may take it
abbrev pub AreStarred : MatchOptions → Key → Type 0
AreStarred o [] = ⊤
AreStarred o (n ∷ ns) = (matches o (star ∷ []) n ≡ is_open o n) × AreStarred o ns

-- the components take these names by both definitions
abbrev Agree : MatchOptions → (ended components : List Text) → Type 0
Agree o es ts = (names : Key) → AreStarred o names → takes o es names ≡ takes_names o (matches o) ts names

-- components, at least one, take at least one name
none_taken : (o : MatchOptions) (t : Text) (ts : List Text) → takes_names o (matches o) (t ∷ ts) [] ≡ false
none_taken o t [] = by_test (is_recursive t)
  where
    by_test : (b : Bool) → cond b (run_to_end o []) (name_before (matches o t) (takes_names o (matches o) []) []) ≡ false
    by_test true = refl
    by_test false = refl
none_taken o t (u ∷ us) = by_test (is_recursive t)
  where
    by_test : (b : Bool) → cond b (run_before o (takes_names o (matches o) (u ∷ us)) []) (name_before (matches o t)
        (takes_names o (matches o) (u ∷ us)) []) ≡ false
    by_test true = refl
    by_test false = refl

nothing : (o : MatchOptions) → Agree o [] []
nothing o names starred = refl

-- `**` at the end, as `**` and `*`
last : (o : MatchOptions) (t : Text) → is_recursive t ≡ true → (names : Key) → AreStarred o names → takes o
    (t ∷ (star ∷ []) ∷ []) names ≡ run_to_end o names
last o t r [] starred = and-false (is_recursive t)
last o t r (n ∷ []) (here, rest) =
    takes-recursive o t ((star ∷ []) ∷ []) n [] r
    ∙ ap₂ (λ x y. x || (is_open o n && y)) (and-true (matches o (star ∷ []) n) ∙ here) (and-false (is_recursive t))
    ∙ ap (λ x. is_open o n || x) (and-false (is_open o n)) ∙ or-false (is_open o n)
last o t r (n ∷ m ∷ ns) (here, rest) =
    takes-recursive o t ((star ∷ []) ∷ []) n (m ∷ ns) r
    ∙ ap₂ (λ x y. x || (is_open o n && y)) (and-false (matches o (star ∷ []) n)) (last o t r (m ∷ ns) rest)

-- `**` before other components
before : (o : MatchOptions) (t : Text) (es : List Text) (u : Text) (us : List Text) → is_recursive t ≡ true → Agree o es (u ∷ us)
    → (names : Key) → AreStarred o names → takes o (t ∷ es) names ≡ run_before o (takes_names o (matches o) (u ∷ us)) names
before o t es u us r same [] starred = ap (λ x. is_recursive t && x) (same [] starred ∙ none_taken o u us) ∙ and-false (is_recursive t)
before o t es u us r same (n ∷ ns) (here, rest) =
    takes-recursive o t es n ns r
    ∙ ap₂ (λ x y. x || (is_open o n && y)) (same (n ∷ ns) (here, rest)) (before o t es u us r same ns rest)

-- any other component
one : (o : MatchOptions) (t : Text) (es ts : List Text) → is_recursive t ≡ false → Agree o es ts
    → (names : Key) → AreStarred o names → takes o (t ∷ es) names ≡ name_before (matches o t) (takes_names o (matches o) ts) names
one o t es ts r same [] starred = ap (λ x. x && takes o es []) r
one o t es ts r same (n ∷ ns) (here, rest) = takes-other o t es n ns r ∙ ap (λ x. matches o t n && x) (same ns rest)

-- `**` after `**` takes the same names
twice : (o : MatchOptions) (u : Text) (us : List Text) → is_recursive u ≡ true
    → (names : Key) → run_before o (takes_names o (matches o) (u ∷ us)) names ≡ takes_names o (matches o) (u ∷ us) names
twice o u [] r names =
    ap (λ b. run_before o (λ ns. cond b (run_to_end o ns) (name_before (matches o u) (takes_names o (matches o) []) ns)) names) r
    ∙ to_end names ∙ sym (cond-true (is_recursive u) _ _ r)
  where
    to_end : (names : Key) → run_before o (run_to_end o) names ≡ run_to_end o names
    to_end [] = refl
    to_end (n ∷ []) = ap (λ x. is_open o n || x) (and-false (is_open o n)) ∙ or-false (is_open o n)
    to_end (n ∷ m ∷ ns) = ap (λ x. (is_open o n && run_to_end o (m ∷ ns)) || (is_open o n && x)) (to_end (m ∷ ns))
        ∙ again (is_open o n && run_to_end o (m ∷ ns))
      where
        again : (x : Bool) → (x || x) ≡ x
        again true = refl
        again false = refl
twice o u (v ∷ vs) r names =
    ap (λ b. run_before o (λ ns. cond b (run_before o (takes_names o (matches o) (v ∷ vs)) ns)
    (name_before (matches o u) (takes_names o (matches o) (v ∷ vs)) ns)) names) r
    ∙ run (takes_names o (matches o) (v ∷ vs)) names ∙ sym (cond-true (is_recursive u) _ _ r)
  where
    again : (x y : Bool) → ((x || y) || y) ≡ (x || y)
    again true y = refl
    again false true = refl
    again false false = refl

    run : (follows : Key → Bool) (names : Key) → run_before o (run_before o follows) names ≡ run_before o follows names
    run follows [] = refl
    run follows (n ∷ ns) =
        ap (λ x. run_before o follows (n ∷ ns) || (is_open o n && x)) (run follows ns)
        ∙ again (follows (n ∷ ns)) (is_open o n && run_before o follows ns)

-- Components whose last `**` is written as `**` and `*` take exactly the names that the components take level by level,
-- if `*` matches exactly the names that `**` may take.
pub ended_takes : (o : MatchOptions) (ts : List Text) (names : Key) → AreStarred o names → takes o (ended ts) names ≡
    takes_names o (matches o) ts names
ended_takes o [] names starred = nothing o names starred
ended_takes o (t ∷ []) names starred = by_test (is_recursive t) refl
  where
    by_test : (b : Bool) → is_recursive t ≡ b → takes o (cond b (t ∷ (star ∷ []) ∷ []) (t ∷ [])) names
        ≡ cond b (run_to_end o names) (name_before (matches o t) (takes_names o (matches o) []) names)
    by_test true r = last o t r names starred
    by_test false r = one o t [] [] r (nothing o) names starred
ended_takes o (t ∷ u ∷ us) names starred = by_test (is_recursive t) refl (is_recursive u) refl (λ ms. ended_takes o (u ∷ us) ms)
  where
    by_test : (b : Bool) → is_recursive t ≡ b → (c : Bool) → is_recursive u ≡ c → Agree o (ended (u ∷ us)) (u ∷ us)
        → takes o (cond (b && c) (ended (u ∷ us)) (t ∷ ended (u ∷ us))) names
        ≡ cond b (run_before o (takes_names o (matches o) (u ∷ us)) names) (name_before (matches o t) (takes_names o
        (matches o) (u ∷ us)) names)
    by_test true r true s same = same names starred ∙ sym (twice o u us s names)
    by_test true r false s same = before o t (ended (u ∷ us)) u us r same names starred
    by_test false r c s same = one o t (ended (u ∷ us)) (u ∷ us) r same names starred
