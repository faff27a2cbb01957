-- Laws of walks, as statements.
use Rattle.std.specs.Prelude.{◌≡◌, ℕ, ◌+◌, ◌*◌, ◌≤◌, false, not, if◌then◌else◌, List, [], ◌∷◌, length, Some, IsTrue}
use Rattle.std.specs.Prelude.{◌&&◌, Bool, IsPermutation, AllPairs}
use Rattle.std.specs.Str.{IsUtf8, is_utf8}
use Rattle.std.specs.List.{list_all}
use Rattle.glob_text.specs.Text.{Text}
use Rattle.glob_tree.specs.Paths.{is_proper}
use Rattle.glob_tree.specs.Content.{Content, Key, DirEntry, is_content, is_dir_at, is_before, resolve, sorted_entries}
use Rattle.glob_pattern.specs.Matching.Components.{takes_names}
use Rattle.glob_walk.specs.Components.{begins_recursive, components, is_recursive, matches_name}
use Rattle.glob_walk.specs.Walks.{Mark, Item, items, cost, paths, IsBeginning, descent, levels, listing}
use Rattle.glob_walk.specs.Goal.{is_plain, matches_undivided, text_below, is_readable, goal, taken_goal, walk_takes}
use Rattle.glob_walk.specs.Goal.{ReachesTexts, GivesTexts, IsOrderly}
use Rattle.glob_pattern.specs.declared.options.MatchOptions.{MatchOptions}

-- a plain walk: of a plain pattern over a content
pub record IsPlainWalk (c : Content) (pattern : Text) : Type 0 where
  pub content : IsTrue (is_content c)
  pub text : IsUtf8 pattern
  pub plain : IsTrue (is_plain pattern)

-- a case-sensitive plain walk
pub record IsSensitiveWalk (c : Content) (o : MatchOptions) (pattern : Text) : Type 0 where
  pub plain : IsPlainWalk c pattern
  pub case : IsTrue o.case_sensitive

-- names that the keys of a content may have
abbrev pub are_names : List Text → Bool
are_names names = list_all (λ name. is_utf8 name && is_proper name) names

-- Case-sensitively and under the separator rule, a plain pattern without a separator at its end matches the text of
-- names below the start exactly when its components take the names.
abbrev pub PlainMatchesLevels : Type 0
PlainMatchesLevels =
    (o : MatchOptions) (pattern : Text) → IsUtf8 pattern → IsTrue (is_plain pattern) → IsTrue o.case_sensitive
    → (n : Text) (ns : List Text) → IsTrue (are_names (n ∷ ns))
    → matches_undivided o pattern (text_below pattern (n ∷ ns)) ≡ walk_takes o false (components pattern) (n ∷ ns)

-- the same with a match for each name, also where a walk looks a literal component up
abbrev pub PlainMatchesNames : Type 0
PlainMatchesNames =
    (o : MatchOptions) (pattern : Text) → IsUtf8 pattern → IsTrue (is_plain pattern) → IsTrue o.case_sensitive
    → (n : Text) (ns : List Text) → IsTrue (are_names (n ∷ ns))
    → matches_undivided o pattern (text_below pattern (n ∷ ns)) ≡ takes_names o (matches_name o) (components pattern) (n ∷ ns)

-- in a case-sensitive plain walk, each path in a prefix of the items is a goal, and all items together reach the goal
abbrev pub SensitiveWalkReaches : Type 0
SensitiveWalkReaches =
    (c : Content) (o : MatchOptions) (pattern : Text) → IsSensitiveWalk c o pattern
    → (given : List Item) → IsBeginning given (items (listing c o pattern))
    → ReachesTexts c pattern (goal c o pattern) (given ≡ items (listing c o pattern)) given

-- over a readable content, the items of a case-sensitive plain walk are exactly the goal
abbrev pub SensitiveWalkGives : Type 0
SensitiveWalkGives =
    (c : Content) (o : MatchOptions) (pattern : Text) → IsSensitiveWalk c o pattern → IsTrue (is_readable c pattern)
    → GivesTexts (goal c o pattern) (items (listing c o pattern))

-- case-sensitively or not, the same holds for the keys whose names the components take
abbrev pub TakenWalkReaches : Type 0
TakenWalkReaches =
    (c : Content) (o : MatchOptions) (pattern : Text) → IsPlainWalk c pattern
    → (given : List Item) → IsBeginning given (items (listing c o pattern))
    → ReachesTexts c pattern (taken_goal c o pattern) (given ≡ items (listing c o pattern)) given

abbrev pub TakenWalkGives : Type 0
TakenWalkGives =
    (c : Content) (o : MatchOptions) (pattern : Text) → IsPlainWalk c pattern → IsTrue (is_readable c pattern)
    → GivesTexts (taken_goal c o pattern) (items (listing c o pattern))

abbrev pub PlainWalkOrderly : Type 0
PlainWalkOrderly =
    (c : Content) (o : MatchOptions) (pattern : Text) → IsPlainWalk c pattern
    → (given : List Item) → IsBeginning given (items (listing c o pattern)) → IsOrderly pattern (paths given)

-- case-sensitively, these are the keys whose texts the undivided pattern matches
abbrev pub TakenGoalIsGoal : Type 0
TakenGoalIsGoal = (c : Content) (o : MatchOptions) (pattern : Text) → IsSensitiveWalk c o pattern →
    taken_goal c o pattern ≡ goal c o pattern

-- How much components cost at most for each of n keys: a polynomial in n, whose degree is at most the number of places
-- with `**` (`**/**` is one place).
abbrev pub cost_per_key : (n : ℕ) → (components : List Text) → ℕ
cost_per_key n [] = 0
cost_per_key n (t ∷ ts) =
    if not (is_recursive t) then 1 + cost_per_key n ts
    else if begins_recursive ts then cost_per_key n ts
    else 2 + n * cost_per_key n ts

-- the whole walk of a plain pattern costs at most one unit, plus this for each key of the content
abbrev pub PlainWalkCosts : Type 0
PlainWalkCosts =
    (c : Content) (o : MatchOptions) (pattern : Text) → IsPlainWalk c pattern
    → cost (listing c o pattern) ≤ 1 + cost_per_key (length c.kinds) (components pattern) * length c.kinds

-- a descent below a directory gives the same marks for `levels` levels and for any greater number
abbrev pub EnoughLevelsAgree : Type 0
EnoughLevelsAgree =
    (c : Content) (o : MatchOptions) (each : Text → Text → Bool → List Mark) (path : Text) (k : Key)
    → IsTrue (is_content c) → resolve c path ≡ Some k → IsTrue (is_dir_at c k)
    → (n m : ℕ) → levels c ≤ n → levels c ≤ m → descent c o each n path ≡ descent c o each m path

-- the listing has the same entries, and each name is not after those that follow
pub record IsAscendingOrder (entries sorted : List DirEntry) : Type 0 where
  pub same : IsPermutation entries sorted
  pub rising : AllPairs (λ e later. IsTrue (is_before e later)) sorted

-- sorting puts entries into ascending byte order of names, and loses and adds none
abbrev pub EntriesAscend : Type 0
EntriesAscend = (entries : List DirEntry) → IsAscendingOrder entries (sorted_entries entries)
