-- The goal of a plain walk: the texts of the keys below its start whose names the components take.
use Rattle.std.proofs.Common.{◌≡◌, ◌<◌, Bool, true, false, cond, ◌&&◌, ◌==◌, List, [], ◌∷◌, ◌++◌, length, Some}
use Rattle.std.proofs.Common.{None, refl, sym, ap, ◌∙◌, arith}
use Rattle.std.specs.Prelude.{Contains, option_and_then}
use Rattle.std.proofs.lemmas.Bool.{and_parts, and_from, cond-true}
use Rattle.std.proofs.lemmas.List.Splits.{length-slice_split}
use Rattle.std.proofs.lemmas.Option.{none-some, same_Some, option_and_then_some}
use Rattle.glob_text.specs.Text.{Text}
use Rattle.glob_text.specs.Characters.{slash}
use Rattle.glob_text.specs.Pieces.{ends_with}
use Rattle.glob_tree.specs.Content.{Content, Key, kind_at, names_past, origin}
use Rattle.glob_tree.specs.declared.kind.Kind.{Kind}
use Rattle.glob_tree.proofs.ContentLemmas.Membership.{Contains-filter_map, filter_map-contains}
use Rattle.glob_tree.proofs.ContentLemmas.Contents.{IsContent, IsContent-from_test, contains_kind_at, kind_at-entry}
use Rattle.glob_tree.proofs.ContentLemmas.Contents.{names_past-append, names_past_is}
use Rattle.glob_walk.specs.Components.{without_root, without_end_separator, components}
use Rattle.glob_walk.specs.Goal.{text_below, matches_kind, wanted_text, taken_goal, walk_takes}
use Rattle.glob_walk.specs.Laws.{are_names, IsPlainWalk}
use Rattle.glob_pattern.specs.declared.options.MatchOptions.{MatchOptions}
use Rattle.glob_walk.proofs.GoalLemmas.KeysBelow.{names_at}
use Rattle.glob_walk.proofs.GoalLemmas.TakenNames.{takes-none}
use Rattle.glob_walk.proofs.GoalLemmas.FoundIsTaken.{IsTakenAt}

-- components take at least one name
pub takes_some : (o : MatchOptions) (pattern : Text) → walk_takes o false (components pattern) [] ≡ true → ⊥
takes_some o pattern h = no_names (components pattern) (omega (
  arith,
  length-slice_split (λ c. c == slash)
      (without_end_separator (without_root pattern)),
)) h
  where
    no_names : (ts : List Text) → 0 < length ts → walk_takes o false ts [] ≡ true → ⊥
    no_names [] l g = omega arith
    no_names (t ∷ ts) l g = takes-none o false t ts g

-- these names lead from the start to a key of a wanted kind, and the components take them
abbrev pub IsTaken : Content → MatchOptions → (pattern : Text) → Key → Type 0
IsTaken c o pattern names = IsTakenAt c o (ends_with slash pattern) (components pattern) (origin c pattern) names

-- the text of such names
pub record IsGoal (c : Content) (o : MatchOptions) (pattern text : Text) : Type 0 where
  pub name : Text
  pub names : Key
  pub same : text ≡ text_below pattern (name ∷ names)
  pub taken : IsTaken c o pattern (name ∷ names)
  pub proper : are_names (name ∷ names) ≡ true

module _ (c : Content) (o : MatchOptions) (pattern : Text) (p : IsPlainWalk c pattern) where
  w : IsContent c
  w = IsContent-from_test c p.content

  abbrev taken : List Text → Bool
  taken names = walk_takes o false (components pattern) names

  -- the test for a goal
  is_wanted : Kind → Text → Key → Bool
  is_wanted kind n ns = matches_kind pattern kind && walk_takes o false (components pattern) (n ∷ ns)

  pub goal_of_taken : (n : Text) (ns : Key) → IsTaken c o pattern (n ∷ ns) → Contains (taken_goal c o pattern) (text_below pattern (n ∷ ns))
  unfolding taken_goal is_wanted
  goal_of_taken n ns is =
      let test : is_wanted is.kind n ns ≡ true = and_from (matches_kind pattern is.kind) _ is.allowed is.taken in
      filter_map-contains (λ e. option_and_then (wanted_text pattern taken e.1) (names_past (origin c pattern) e.0))
      c.kinds (origin c pattern ++ n ∷ ns, is.kind) (text_below pattern (n ∷ ns))
      (contains_kind_at c (origin c pattern ++ n ∷ ns) is.kind is.held)
      (ap (option_and_then (wanted_text pattern taken is.kind)) (names_past-append (origin c pattern) (n ∷ ns))
      ∙ cond-true (is_wanted is.kind n ns) (Some (text_below pattern (n ∷ ns))) None test)

  taken_text_is : (kind : Kind) (names : Key) (text : Text) → kind_at c (origin c pattern ++ names) ≡ Some kind
      → wanted_text pattern taken kind names ≡ Some text → IsGoal c o pattern text
  unfolding is_wanted
  taken_text_is kind [] text held h = absurd (none-some text h)
  taken_text_is kind (n ∷ ns) text held h = by_test (is_wanted kind n ns) refl h
    where
      by_test : (b : Bool) → (matches_kind pattern kind && walk_takes o false (components pattern) (n ∷ ns)) ≡ b
          → cond b (Some (text_below pattern (n ∷ ns))) None ≡ Some text → IsGoal c o pattern text
      by_test true e g =
          let both = and_parts (matches_kind pattern kind) (walk_takes o false (components pattern) (n ∷ ns)) e in
          record {
            name = n;
            names = ns;
            same = sym (same_Some (text_below pattern (n ∷ ns)) text g);
            taken = record { kind = kind; held = held; taken = both.1; allowed = both.0 };
            proper = names_at c w (origin c pattern) (n ∷ ns) kind held;
          }
      by_test false e g = absurd (none-some text g)

  pub taken_of_goal : (text : Text) → Contains (taken_goal c o pattern) text → IsGoal c o pattern text
  unfolding taken_goal
  taken_of_goal text h =
      let (e, in', gives) = Contains-filter_map (λ e. option_and_then (wanted_text pattern taken e.1)
      (names_past (origin c pattern) e.0)) c.kinds text h in
      option_and_then_some (wanted_text pattern taken e.1) (names_past (origin c pattern) e.0) text gives
      (λ names past is. taken_text_is e.1 names text (ap (kind_at c) (sym (names_past_is (origin c pattern) e.0
      names past)) ∙ kind_at-entry c w e in') is)
