-- A plain walk finds its goal, except for what is below directories that cannot be listed.
use Rattle.std.proofs.Common.{◌≡◌, ◌⊎◌, inl, inr, ⊎_elim, true, List, [], ◌∷◌, ◌++◌, map, sym, ap, subst, ◌∙◌}
use Rattle.std.specs.Prelude.{Contains}
use Rattle.std.proofs.lemmas.List.{append_assoc}
use Rattle.std.proofs.lemmas.List.Elements.{Contains-append_left}
use Rattle.glob_text.specs.Text.{Text}
use Rattle.glob_tree.specs.Content.{Content, Key, origin}
use Rattle.glob_tree.specs.declared.kind.Kind.TheVariants.{Shut}
use Rattle.glob_tree.proofs.ContentLemmas.Contents.{IsContent, IsContent-from_test}
use Rattle.glob_walk.specs.Walks.{Item, Unread, items, paths, IsBeginning, listing}
use Rattle.glob_walk.specs.Components.{start}
use Rattle.glob_walk.specs.Goal.{is_readable, taken_goal, IsHidden, ReachesTexts, GivesTexts, goal}
use Rattle.glob_walk.specs.Laws.{IsPlainWalk, IsSensitiveWalk}
use Rattle.glob_pattern.specs.declared.options.MatchOptions.{MatchOptions}
use Rattle.glob_walk.proofs.ListingLemmas.Marks.{paths-append}
use Rattle.glob_walk.proofs.GoalLemmas.KeysBelow.{names_at}
use Rattle.glob_walk.proofs.GoalLemmas.NamedPaths.{AreNames-from, under-start, LeadsTo-start, resolve-under}
use Rattle.glob_walk.proofs.GoalLemmas.Finds.{Miss, item_under, under, finds}
use Rattle.glob_walk.proofs.GoalLemmas.FoundParts.{map-contains}
use Rattle.glob_walk.proofs.GoalLemmas.TakenIsFound.{IsCovered}
use Rattle.glob_walk.proofs.GoalLemmas.GoalNames.{takes_some, IsTaken, IsGoal, goal_of_taken, taken_of_goal}
use Rattle.glob_walk.proofs.GoalLemmas.ItemsFound.{items-finds, found_is_taken, taken_is_found}
use Rattle.glob_walk.proofs.GoalLemmas.FoundParts.{hit_of_path, path_of_hit}
use Rattle.glob_walk.proofs.GoalLemmas.NoError.{no_error}
use Rattle.glob_walk.proofs.GoalLemmas.UndividedGoal.{goal_is_taken}

module _ (c : Content) (o : MatchOptions) (pattern : Text) (p : IsPlainWalk c pattern) where
  w : IsContent c
  w = IsContent-from_test c p.content

  -- the path of a key that the components take is a goal
  path_is_goal : (names : Key) → IsTaken c o pattern names → Contains (taken_goal c o pattern) (under (start pattern) names)
  path_is_goal [] is = absurd (takes_some o pattern is.taken)
  path_is_goal (n ∷ ns) is =
      subst (Contains (taken_goal c o pattern)) (sym (under-start pattern n ns (AreNames-from (n ∷ ns)
      (names_at c w (origin c pattern) (n ∷ ns) is.kind is.held))))
      (goal_of_taken c o pattern p n ns is)

  -- each path of the written listing is a goal
  pub paths_are_goals : (text : Text) → Contains (paths (items (listing c o pattern))) text → Contains (taken_goal c o pattern) text
  paths_are_goals text h =
      let (names, e, in') = hit_of_path (start pattern) (finds c o pattern) text
      (subst (λ is. Contains (paths is) text) (items-finds c o pattern p) h) in
      subst (Contains (taken_goal c o pattern)) (sym e) (path_is_goal names (found_is_taken c o pattern p names in'))

  -- a goal below a directory that cannot be listed is hidden
  hidden : (text : Text) (is : IsGoal c o pattern text) → IsCovered c (finds c o pattern) (origin c pattern)
      (is.name ∷ is.names) → IsHidden c pattern (items (listing c o pattern)) text
  hidden text is covered = record {
    path = under (start pattern) covered.upper;
    kind = covered.kind;
    above = origin c pattern ++ covered.upper;
    below = covered.lower;
    names = is.name ∷ is.names;
    unread = subst (λ x. Contains x (Unread (under (start pattern) covered.upper) covered.kind)) (sym (items-finds c o pattern p))
        (map-contains (item_under (start pattern)) (finds c o pattern) (Miss covered.upper covered.kind) covered.miss);
    leads = resolve-under c w (start pattern) (origin c pattern) covered.upper (Shut covered.kind)
        (LeadsTo-start c w pattern).resolved covered.shut
        (AreNames-from covered.upper (names_at c w (origin c pattern) covered.upper (Shut covered.kind) covered.shut));
    shut = covered.shut;
    longer = covered.longer;
    extends = ap (λ ns. origin c pattern ++ ns) covered.split ∙ sym (append_assoc (origin c pattern) covered.upper covered.lower);
    same = is.same;
  }

  -- each goal is a path of the written listing, or is hidden
  pub goals_are_reached : (text : Text) → Contains (taken_goal c o pattern) text
      → Contains (paths (items (listing c o pattern))) text ⊎ IsHidden c pattern (items (listing c o pattern)) text
  goals_are_reached text h =
      let is = taken_of_goal c o pattern p text h in
      ⊎_elim
      (λ hit. inl (subst (λ x. Contains (paths x) text) (sym (items-finds c o pattern p))
      (subst (Contains (paths (map (item_under (start pattern)) (finds c o pattern))))
      (under-start pattern is.name is.names (AreNames-from (is.name ∷ is.names) is.proper) ∙ sym is.same)
      (path_of_hit (start pattern) (finds c o pattern) (is.name ∷ is.names) hit))))
      (λ covered. inr (hidden text is covered))
      (taken_is_found c o pattern p (is.name ∷ is.names) is.taken)

-- A prefix of the items reaches the goal; `IsWhole` says whether it is all of them.
pub taken_walk_reaches : (c : Content) (o : MatchOptions) (pattern : Text) → IsPlainWalk c pattern →
    (given : List Item) → IsBeginning given (items (listing c o pattern))
    → (IsWhole : Type 0) → (IsWhole → given ≡ items (listing c o pattern)) → ReachesTexts c pattern (taken_goal c o pattern) IsWhole given
taken_walk_reaches c o pattern p given begins IsWhole whole = record {
  sound = λ text h. paths_are_goals c o pattern p text
      (subst (λ is. Contains (paths is) text) (sym begins.1)
      (subst (λ ps. Contains ps text) (sym (paths-append given begins.0)) (Contains-append_left (paths given) (paths begins.0) text h)));
  complete = λ is_whole text h.
      subst (λ is. Contains (paths is) text ⊎ IsHidden c pattern is text) (sym (whole is_whole)) (goals_are_reached c o pattern p text h);
}

-- Over a readable content, the items are exactly the goal.
pub taken_walk_gives : (c : Content) (o : MatchOptions) (pattern : Text) → IsPlainWalk c pattern → is_readable c
    pattern ≡ true → GivesTexts (taken_goal c o pattern) (items (listing c o pattern))
taken_walk_gives c o pattern p readable =
    let none = no_error c o pattern p readable in record {
      readable = none;
      exact = λ text. (
        paths_are_goals c o pattern p text,
        λ h. ⊎_elim (λ found. found) (λ hidden. absurd (none hidden.path hidden.kind hidden.unread))
            (goals_are_reached c o pattern p text h),
      );
    }

-- Both hold for a case-sensitive plain walk, whose goal is what the undivided pattern matches.
pub plain_walk_reaches : (c : Content) (o : MatchOptions) (pattern : Text) → IsSensitiveWalk c o pattern →
    (given : List Item) → IsBeginning given (items (listing c o pattern))
    → (IsWhole : Type 0) → (IsWhole → given ≡ items (listing c o pattern)) → ReachesTexts c pattern (goal c o pattern) IsWhole given
plain_walk_reaches c o pattern p given begins IsWhole whole =
    subst (λ wanted. ReachesTexts c pattern wanted IsWhole given) (goal_is_taken c o pattern p)
    (taken_walk_reaches c o pattern p.plain given begins IsWhole whole)

pub plain_walk_gives : (c : Content) (o : MatchOptions) (pattern : Text) → IsSensitiveWalk c o pattern → is_readable c
    pattern ≡ true → GivesTexts (goal c o pattern) (items (listing c o pattern))
plain_walk_gives c o pattern p readable =
    subst (λ wanted. GivesTexts wanted (items (listing c o pattern))) (goal_is_taken c o pattern p)
    (taken_walk_gives c o pattern p.plain readable)
