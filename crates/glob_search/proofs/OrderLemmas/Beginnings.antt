-- If components take names, a beginning of them takes the first names.
use Rattle.std.proofs.Common.{◌≡◌, Bool, true, false, cond, ◌&&◌, ◌||◌, ◌⊎◌, inl, inr, ⊎_elim, List, [], ◌∷◌, ◌++◌}
use Rattle.std.proofs.Common.{refl, ap, sym, subst, ◌∙◌}
use Rattle.std.proofs.lemmas.Bool.{false≢true, and_parts, and_from, or_cases, or_left, or_right, cond-true, cond-false}
use Rattle.glob_text.specs.Text.{Text}
use Rattle.glob_pattern.specs.Grammar.Characters.{star}
use Rattle.glob_pattern.specs.Matching.Components.{is_open, is_recursive}
use Rattle.glob_pattern.specs.Computing.Deciding.{is_match}
use Rattle.glob_pattern.specs.declared.options.MatchOptions.{MatchOptions}
use Rattle.glob_tree.specs.Content.{Key}
use Rattle.std.specs.Str.{chars}
use Rattle.glob_search.specs.Searching.{takes, ended, ends_recursive}

-- `**` takes no name, or one and then more
pub takes-recursive : (o : MatchOptions) (t : Text) (ts : List Text) (n : Text) (ns : Key) → is_recursive t ≡ true
    → takes o (t ∷ ts) (n ∷ ns) ≡ (takes o ts (n ∷ ns) || (is_open o n && takes o (t ∷ ts) ns))
takes-recursive o t ts n ns r = cond-true (is_recursive t) _ _ r

-- any other component takes one name
pub takes-other : (o : MatchOptions) (t : Text) (ts : List Text) (n : Text) (ns : Key) → is_recursive t ≡ false
    → takes o (t ∷ ts) (n ∷ ns) ≡ (is_match o (chars t) (chars n) && takes o ts ns)
takes-other o t ts n ns r = cond-false (is_recursive t) _ _ r

pub ends-cons : (t : Text) (ts : List Text) → ends_recursive ts ≡ true → ends_recursive (t ∷ ts) ≡ true
ends-cons t [] e = absurd (false≢true e)
ends-cons t (u ∷ us) e = e

-- A beginning of the components that takes the first names. If more names follow, it is not all of the components,
-- unless these end in `**`.
pub record Begun (o : MatchOptions) (components : List Text) (names more : Key) : Type 0 where
  pub front : List Text
  pub rest : List Text
  pub parts : components ≡ front ++ rest
  pub takes_names : takes o front names ≡ true
  pub proper : rest ≡ [] → (more ≡ []) ⊎ (ends_recursive components ≡ true)

longer : (o : MatchOptions) (t : Text) (ts : List Text) (names others more : Key) (b : Begun o ts others more)
    → takes o (t ∷ b.front) names ≡ true
    → Begun o (t ∷ ts) names more
longer o t ts names others more b h = record {
  front = t ∷ b.front;
  rest = b.rest;
  parts = ap (λ us. t ∷ us) b.parts;
  takes_names = h;
  proper = λ none. ⊎_elim inl (λ e. inr (ends-cons t ts e)) (b.proper none);
}

-- `**` takes what nothing takes
pub recursive-takes : (o : MatchOptions) (t : Text) → is_recursive t ≡ true → (names : Key) → takes o [] names ≡ true
    → takes o (t ∷ []) names ≡ true
recursive-takes o t r [] e = and_from (is_recursive t) true r refl
recursive-takes o t r (n ∷ ns) e = absurd (false≢true e)

pub begun : (o : MatchOptions) (ts : List Text) (names more : Key) → takes o ts (names ++ more) ≡ true → Begun o ts names more
begun o [] [] [] h = record { front = []; rest = []; parts = refl; takes_names = refl; proper = λ none. inl refl }
begun o [] [] (m ∷ more) h = absurd (false≢true h)
begun o (t ∷ ts) [] more h = record { front = []; rest = t ∷ ts; parts = refl; takes_names = refl; proper = λ none. absurd (cc) }
begun o [] (n ∷ ns) more h = absurd (false≢true h)
begun o (t ∷ ts) (n ∷ ns) more h = by_test (is_recursive t) refl (λ g. begun o ts (n ∷ ns) more g)
    (λ g. begun o (t ∷ ts) ns more g) (λ g. begun o ts ns more g)
  where
    over : is_recursive t ≡ true → is_open o n ≡ true → Begun o (t ∷ ts) ns more → Begun o (t ∷ ts) (n ∷ ns) more
    over r open' b = by_front b.front b.rest b.parts b.takes_names b.proper
      where
        by_front : (front rest : List Text) → t ∷ ts ≡ front ++ rest → takes o front ns ≡ true →
            (rest ≡ [] → (more ≡ []) ⊎ (ends_recursive (t ∷ ts) ≡ true))
            → Begun o (t ∷ ts) (n ∷ ns) more
        by_front [] rest parts h proper = record {
          front = t ∷ [];
          rest = ts;
          parts = refl;
          takes_names = takes-recursive o t [] n ns r ∙ or_right (takes o [] (n ∷ ns)) (is_open o n && takes o (t ∷ []) ns)
              (and_from (is_open o n) (takes o (t ∷ []) ns) open' (recursive-takes o t r ns h));
          proper = λ none. inr (subst (λ us. ends_recursive (t ∷ us) ≡ true) (sym none) r);
        }
        by_front (u ∷ us) rest parts h proper =
            let same : t ≡ u = cc in
            record {
              front = u ∷ us;
              rest = rest;
              parts = parts;
              takes_names = subst (λ v. takes o (v ∷ us) (n ∷ ns) ≡ true) same
                  (takes-recursive o t us n ns r ∙ or_right (takes o us (n ∷ ns)) (is_open o n && takes o (t ∷ us) ns)
                  (and_from (is_open o n) (takes o (t ∷ us) ns) open' (subst (λ v. takes o (v ∷ us) ns ≡ true) (sym same) h)));
              proper = proper;
            }

    by_test : (b : Bool) → is_recursive t ≡ b
        → (takes o ts (n ∷ (ns ++ more)) ≡ true → Begun o ts (n ∷ ns) more)
        → (takes o (t ∷ ts) (ns ++ more) ≡ true → Begun o (t ∷ ts) ns more)
        → (takes o ts (ns ++ more) ≡ true → Begun o ts ns more)
        → Begun o (t ∷ ts) (n ∷ ns) more
    by_test true r skip again next = ⊎_elim
        (λ g. let b = skip g in longer o t ts (n ∷ ns) (n ∷ ns) more b (takes-recursive o t b.front n ns r ∙ or_left
        (takes o b.front (n ∷ ns)) _ b.takes_names))
        (λ g. let both = and_parts (is_open o n) (takes o (t ∷ ts) (ns ++ more)) g in over r both.0 (again both.1))
        (or_cases (takes o ts (n ∷ (ns ++ more))) (is_open o n && takes o (t ∷ ts) (ns ++ more))
        (sym (takes-recursive o t ts n (ns ++ more) r) ∙ h))
    by_test false r skip again next =
        let both = and_parts (is_match o (chars t) (chars n)) (takes o ts (ns ++ more)) (sym (takes-other o t ts n (ns ++ more) r) ∙ h) in
        let b = next both.1 in
        longer o t ts (n ∷ ns) ns more b (takes-other o t b.front n ns r ∙ and_from _ _ both.0 b.takes_names)

-- no list of components ends in `**` once it is ended
ended-some : (t : Text) (ts : List Text) → ended (t ∷ ts) ≡ [] → ⊥
ended-some t [] e = by_test (is_recursive t) e
  where
    by_test : (b : Bool) → cond b (t ∷ (star ∷ []) ∷ []) (t ∷ []) ≡ [] → ⊥
    by_test true e = cc
    by_test false e = cc
ended-some t (u ∷ us) e = by_test (is_recursive t && is_recursive u) e (λ g. ended-some u us g)
  where
    by_test : (b : Bool) → cond b (ended (u ∷ us)) (t ∷ ended (u ∷ us)) ≡ [] → (ended (u ∷ us) ≡ [] → ⊥) → ⊥
    by_test true e next = next e
    by_test false e next = cc

ends-after : (t : Text) (ts : List Text) → (ts ≡ [] → ⊥) → ends_recursive (t ∷ ts) ≡ ends_recursive ts
ends-after t [] some = absurd (some refl)
ends-after t (u ∷ us) some = refl

pub ended-ends : (ts : List Text) → ends_recursive (ended ts) ≡ false
ended-ends [] = refl
ended-ends (t ∷ []) = by_test (is_recursive t) refl
  where
    by_test : (b : Bool) → is_recursive t ≡ b → ends_recursive (cond b (t ∷ (star ∷ []) ∷ []) (t ∷ [])) ≡ false
    by_test true r = refl
    by_test false r = r
ended-ends (t ∷ u ∷ us) = by_test (is_recursive t && is_recursive u) (ended-ends (u ∷ us))
  where
    by_test : (b : Bool) → ends_recursive (ended (u ∷ us)) ≡ false → ends_recursive (cond b (ended (u ∷ us)) (t ∷ ended (u ∷ us))) ≡ false
    by_test true next = next
    by_test false next = ends-after t (ended (u ∷ us)) (ended-some u us) ∙ next
