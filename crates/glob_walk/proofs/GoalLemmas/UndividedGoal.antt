-- Case-sensitively, the components take exactly the names whose text the undivided pattern matches.
use Rattle.std.proofs.Common.{◌≡◌, Bool, true, false, cond, ◌&&◌, ◌||◌, List, [], ◌∷◌, Option, Some, None, refl, sym, ap, ap₂, ◌∙◌}
use Rattle.std.specs.Prelude.{Contains, bytes_eq, filter_map, option_and_then, not}
use Rattle.std.specs.List.{cons_option, list_all}
use Rattle.std.specs.Str.{is_utf8, IsUtf8}
use Rattle.std.proofs.lemmas.Bool.{and_parts, and_from}
use Rattle.std.proofs.lemmas.Slice.Eq.{bytes_eq-Decides}
use Rattle.std.proofs.lemmas.Str.{is_utf8-from_IsUtf8}
use Rattle.glob_text.specs.Text.{Text}
use Rattle.glob_tree.specs.Content.{Content, Key, kind_at, names_past, origin}
use Rattle.glob_tree.specs.declared.kind.Kind.{Kind}
use Rattle.glob_tree.proofs.ContentLemmas.Membership.{Contains-head, Contains-tail}
use Rattle.glob_tree.proofs.ContentLemmas.Contents.{IsContent, IsContent-from_test, kind_at-entry, names_past_is}
use Rattle.glob_pattern.specs.declared.options.MatchOptions.{MatchOptions}
use Rattle.glob_pattern.specs.Matching.Components.{is_open, name_before, run_before, run_to_end, takes_names}
use Rattle.glob_walk.specs.Components.{components, is_literal, is_recursive, matches_name}
use Rattle.glob_walk.specs.Goal.{is_plain, text_below, matches_undivided, matches_kind, wanted_text, goal}
use Rattle.glob_walk.specs.Goal.{taken_goal, walk_takes, walk_takes_name}
use Rattle.glob_walk.specs.Laws.{are_names, IsSensitiveWalk}
use Rattle.glob_walk.proofs.GoalLemmas.Characters.{AllUtf8}
use Rattle.glob_walk.proofs.GoalLemmas.KeysBelow.{names_at}
use Rattle.glob_walk.proofs.GoalLemmas.LiteralComponents.{own_only, own_name}
use Rattle.glob_walk.proofs.GoalLemmas.NamedPaths.{AreNames-from, AllUtf8-from, flat-from}
use Rattle.glob_walk.proofs.GoalLemmas.PatternParts.{components-utf8}
use Rattle.glob_walk.proofs.GoalLemmas.TakenNames.{takes-one, takes-run}
use Rattle.glob_walk.proofs.GoalLemmas.Undivided.{undivided_takes}

or_none : (b : Bool) → (b || false) ≡ b
or_none true = refl
or_none false = refl

or_again : (x y : Bool) → ((x || y) || x) ≡ (x || y)
or_again true y = refl
or_again false y = or_none y

and_yes : (b : Bool) → (b && true) ≡ b
and_yes true = refl
and_yes false = refl

module _ (o : MatchOptions) (a : Bool) where
  -- a last `**` takes all names that are open
  run_last : (t : Text) → is_recursive t ≡ true → (names : Key) → walk_takes o a (t ∷ []) names ≡ run_to_end o names
  run_last t r [] = refl
  run_last t r (n ∷ []) = takes-run o a t [] n [] r ∙ and_yes (is_open o n)
  run_last t r (n ∷ m ∷ ns) =
      takes-run o a t [] n (m ∷ ns) r
      ∙ ap (λ x. is_open o n && x) (or_none (walk_takes o a (t ∷ []) (m ∷ ns)) ∙ run_last t r (m ∷ ns))

  -- any other `**` takes names before the names that the components after it take
  run_same : (t u : Text) (us : List Text) → is_recursive t ≡ true → (follows : Key → Bool)
      → ((ms : Key) → list_all is_utf8 ms ≡ true → walk_takes o true (u ∷ us) ms ≡ follows ms)
      → (names : Key) → list_all is_utf8 names ≡ true → walk_takes o a (t ∷ u ∷ us) names ≡ run_before o follows names
  run_same t u us r follows same [] ok = refl
  run_same t u us r follows same (n ∷ []) ok =
      takes-run o a t (u ∷ us) n [] r ∙ ap (λ x. x || (is_open o n && false)) (same (n ∷ []) ok)
  run_same t u us r follows same (n ∷ m ∷ ms) ok =
      let both = and_parts (is_utf8 n) (list_all is_utf8 (m ∷ ms)) ok in
      takes-run o a t (u ∷ us) n (m ∷ ms) r
      ∙ ap₂ (λ x y. x || (is_open o n && y)) (same (n ∷ m ∷ ms) ok)
      (ap₂ (λ x y. x || y) (run_same t u us r follows same (m ∷ ms) both.1) (same (m ∷ ms) both.1)
      ∙ or_again (follows (m ∷ ms)) (is_open o m && run_before o follows ms))

module _ (o : MatchOptions) (case : o.case_sensitive ≡ true) where
  -- a component takes exactly the names that it matches
  name_same : (a : Bool) (t n : Text) → is_utf8 t ≡ true → is_utf8 n ≡ true → walk_takes_name o a t n ≡ matches_name o t n
  name_same true t n utf8 name = refl
  name_same false t n utf8 name = by_kind (is_literal t) refl
    where
      by_kind : (b : Bool) → is_literal t ≡ b → cond (not b) (matches_name o t n) (bytes_eq t n) ≡ matches_name o t n
      by_kind false e = refl
      by_kind true e = by_answers (bytes_eq t n) (matches_name o t n) refl refl
        where
          by_answers : (x y : Bool) → bytes_eq t n ≡ x → matches_name o t n ≡ y → bytes_eq t n ≡ matches_name o t n
          by_answers true true f g = f ∙ sym g
          by_answers false false f g = f ∙ sym g
          by_answers true false f g =
              f ∙ sym (ap (matches_name o t) (sym ((bytes_eq-Decides t n).0 f)) ∙ own_name o case t e utf8)
          by_answers false true f g = (bytes_eq-Decides t n).1 (own_only o case t n e utf8 name g) ∙ sym g

  -- all components take exactly the names that they match
  takes_same : (a : Bool) (ts : List Text) → list_all is_utf8 ts ≡ true → (names : Key) → list_all is_utf8 names ≡ true
      → walk_takes o a ts names ≡ takes_names o (matches_name o) ts names
  takes_same a [] utf8 [] ok = refl
  takes_same a [] utf8 (n ∷ ns) ok = refl
  takes_same a (t ∷ []) utf8 names ok = by_test (λ ms all. takes_same false [] refl ms all) (is_recursive t) refl names ok
    where
      by_test : ((ms : Key) → list_all is_utf8 ms ≡ true → walk_takes o false [] ms ≡ takes_names o (matches_name o) [] ms)
          → (b : Bool) → is_recursive t ≡ b → (ms : Key) → list_all is_utf8 ms ≡ true
          → walk_takes o a (t ∷ []) ms
          ≡ cond b (run_to_end o ms) (name_before (matches_name o t) (takes_names o (matches_name o) []) ms)
      by_test same true r ms all = run_last o a t r ms
      by_test same false r [] all = refl
      by_test same false r (m ∷ ms) all =
          let both = and_parts (is_utf8 m) (list_all is_utf8 ms) all in
          takes-one o a t [] m ms r
          ∙ ap₂ (λ x y. x && y) (name_same a t m (and_parts (is_utf8 t) true utf8).0 both.0) (same ms both.1)
  takes_same a (t ∷ u ∷ us) utf8 names ok =
      by_test (λ x ms all. takes_same x (u ∷ us) (and_parts (is_utf8 t) (list_all is_utf8 (u ∷ us)) utf8).1 ms all)
      (is_recursive t) refl names ok
    where
      by_test : ((x : Bool) (ms : Key) → list_all is_utf8 ms ≡ true
          → walk_takes o x (u ∷ us) ms ≡ takes_names o (matches_name o) (u ∷ us) ms)
          → (b : Bool) → is_recursive t ≡ b → (ms : Key) → list_all is_utf8 ms ≡ true
          → walk_takes o a (t ∷ u ∷ us) ms ≡ cond b (run_before o (takes_names o (matches_name o) (u ∷ us)) ms)
          (name_before (matches_name o t) (takes_names o (matches_name o) (u ∷ us)) ms)
      by_test same true r ms all = run_same o a t u us r (takes_names o (matches_name o) (u ∷ us)) (same true) ms all
      by_test same false r [] all = refl
      by_test same false r (m ∷ ms) all =
          let both = and_parts (is_utf8 m) (list_all is_utf8 ms) all in
          takes-one o a t (u ∷ us) m ms r
          ∙ ap₂ (λ x y. x && y) (name_same a t m (and_parts (is_utf8 t) _ utf8).0 both.0) (same false ms both.1)

all_utf8 : (ts : List Text) → AllUtf8 ts → list_all is_utf8 ts ≡ true
all_utf8 [] all = refl
all_utf8 (t ∷ ts) all = and_from (is_utf8 t) (list_all is_utf8 ts) (is_utf8-from_IsUtf8 t all.0) (all_utf8 ts all.1)

-- the pattern matches the text of names exactly when its components match them
pub plain_matches_names : (o : MatchOptions) (pattern : Text) → IsUtf8 pattern → is_plain pattern ≡ true
    → o.case_sensitive ≡ true → (n : Text) (ns : Key) → are_names (n ∷ ns) ≡ true
    → matches_undivided o pattern (text_below pattern (n ∷ ns)) ≡ takes_names o (matches_name o) (components pattern) (n ∷ ns)
plain_matches_names o pattern utf8 plain case n ns h =
    undivided_takes o case pattern utf8 plain n ns (AllUtf8-from (n ∷ ns) h) (flat-from (n ∷ ns) (AreNames-from (n ∷ ns) h))

-- and exactly when they take them
pub plain_matches_levels : (o : MatchOptions) (pattern : Text) → IsUtf8 pattern → is_plain pattern ≡ true
    → o.case_sensitive ≡ true → (n : Text) (ns : Key) → are_names (n ∷ ns) ≡ true
    → matches_undivided o pattern (text_below pattern (n ∷ ns)) ≡ walk_takes o false (components pattern) (n ∷ ns)
plain_matches_levels o pattern utf8 plain case n ns h =
    plain_matches_names o pattern utf8 plain case n ns h
    ∙ sym (takes_same o case false (components pattern) (all_utf8 (components pattern) (components-utf8 pattern utf8))
    (n ∷ ns) (all_utf8 (n ∷ ns) (AllUtf8-from (n ∷ ns) h)))

module _ (o : MatchOptions) (pattern : Text) where
  abbrev taken_text : Kind → Key → Option Text
  taken_text kind names = wanted_text pattern (walk_takes o false (components pattern)) kind names

  abbrev goal_text : Kind → Key → Option Text
  goal_text kind names = wanted_text pattern (λ ns. matches_undivided o pattern (text_below pattern ns)) kind names

-- the goal, if the pattern is plain and the options are case-sensitive
pub goal_is_taken : (c : Content) (o : MatchOptions) (pattern : Text) → IsSensitiveWalk c o pattern → taken_goal c o
    pattern ≡ goal c o pattern
unfolding taken_goal goal
goal_is_taken c o pattern p = by_entries c.kinds (λ e in'. in')
  where
    w : IsContent c
    w = IsContent-from_test c p.plain.content

    by_names : (e : Key × Kind) → Contains c.kinds e → (past : Option Key) → names_past (origin c pattern) e.0 ≡ past
        → option_and_then (taken_text o pattern e.1) past ≡ option_and_then (goal_text o pattern e.1) past
    by_names e in' None is = refl
    by_names e in' (Some []) is = refl
    by_names e in' (Some (n ∷ ns)) is =
        let proper = names_at c w (origin c pattern) (n ∷ ns) e.1 (ap (kind_at c)
        (sym (names_past_is (origin c pattern) e.0 (n ∷ ns) is)) ∙ kind_at-entry c w e in') in
        ap (λ b. cond (matches_kind pattern e.1 && b) (Some (text_below pattern (n ∷ ns))) None)
        (sym (plain_matches_levels o pattern p.plain.text p.plain.plain p.case n ns proper))

    by_entries : (es : List (Key × Kind)) → ((e : Key × Kind) → Contains es e → Contains c.kinds e)
        → filter_map (λ e. option_and_then (taken_text o pattern e.1) (names_past (origin c pattern) e.0)) es ≡
        filter_map (λ e. option_and_then (goal_text o pattern e.1) (names_past (origin c pattern) e.0)) es
    by_entries [] held = refl
    by_entries (e ∷ es) held =
        ap₂ cons_option (by_names e (held e (Contains-head e es)) (names_past (origin c pattern) e.0) refl)
        (by_entries es (λ f in'. held f (Contains-tail e es f in')))
