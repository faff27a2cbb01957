-- What the walk of a plain pattern finds: the goal, which is the texts of all keys below its start that the undivided
-- pattern matches; the keys whose names its components take; and which paths come once and in order.
use Rattle.std.specs.Prelude.{◌≡◌, ◌≢◌, ◌≤◌, Bool, true, false, ◌&&◌, ◌||◌, not, if◌then◌else◌, List, [], ◌∷◌, ◌++◌}
use Rattle.std.specs.Prelude.{length, filter, filter_map, Contains, AllPairs, bytes_eq, Option, Some, None, is_none}
use Rattle.std.specs.Prelude.{option_and_then, ◌⊎◌, ◌↔◌, IsTrue}
use Rattle.std.specs.List.{list_all, list_any, join_with_byte}
use Rattle.std.specs.Cmp.Lexicographic.{slice_cmp}
use Rattle.std.specs.Ordering.{nat_cmp}
use Rattle.std.specs.Str.{chars}
use Rattle.std.specs.declared.cmp.Ordering.{Ordering}
use Rattle.std.specs.declared.cmp.Ordering.TheVariants.{Less}
use Rattle.std.specs.declared.io.ErrorKind.{ErrorKind}
use Rattle.glob_text.specs.Characters.{slash, dot}
use Rattle.glob_text.specs.Text.{Text}
use Rattle.glob_text.specs.Pieces.{is_empty, begins_with, pieces, ends_with}
use Rattle.glob_tree.specs.Content.{Content, IsTold, Key, is_dir, kind_at, names_past, origin, resolve}
use Rattle.glob_walk.specs.Components.{components, without_end_separator, is_literal}
use Rattle.glob_walk.specs.Components.{begins_recursive, is_recursive, is_current_or_parent, matches_name, walk_fault}
use Rattle.glob_pattern.specs.Computing.Deciding.{is_match}
use Rattle.glob_pattern.specs.Matching.Components.{is_open}
use Rattle.glob_walk.specs.Walks.{Answers, AreItems, Item, Unread, paths}
use Rattle.glob_pattern.specs.declared.options.MatchOptions.{MatchOptions}
use Rattle.glob_tree.specs.declared.kind.Kind.{Kind}
use Rattle.glob_tree.specs.declared.kind.Kind.TheVariants.{Dir, Shut, Other}
use Rattle.glob_walk.specs.declared.ending.End.{End}
use Rattle.glob_walk.specs.declared.ending.End.TheVariants.{Done}

-- The component is not empty, `.` or `..`; and if it has a wildcard and begins with a dot, it is right after `**`.
abbrev pub is_plain_component : (after_recursive : Bool) → Text → Bool
is_plain_component after_recursive t =
    not (is_empty t) && not (is_current_or_parent t) && (is_literal t || not (begins_with dot t) || after_recursive)

abbrev pub are_plain : (after_recursive : Bool) → List Text → Bool
are_plain after_recursive [] = true
are_plain after_recursive (t ∷ ts) = is_plain_component after_recursive t && are_plain (is_recursive t) ts

-- The pattern has no fault, and no component that means something else in the undivided text: an empty one, `.`, `..`,
-- or one that may find the special names `.` and `..` of a directory.
unfoldable pub is_plain : (pattern : Text) → Bool
is_plain pattern = is_none (walk_fault pattern) && are_plain false (components pattern)

-- the text of a key that has these names after the start
abbrev pub text_below : (pattern : Text) → Key → Text
text_below pattern names = if begins_with slash pattern then slash ∷ join_with_byte slash names else join_with_byte slash names

-- The whole pattern, without a separator at its end, matches the text: with the separator rule, with the walk's dot
-- rule, and case-sensitively even if the walk is not. In a case-insensitive walk a component `D` takes only `D`, while
-- `[D]` also takes `d`. No single match says both, so the clauses about the goal are for case-sensitive walks.
abbrev pub matches_undivided : MatchOptions → (pattern text : Text) → Bool
matches_undivided o pattern text =
    is_match (record o { case_sensitive = true; require_literal_separator = true })
    (chars (without_end_separator pattern)) (chars text)

abbrev pub ends_recursive : List Text → Bool
ends_recursive [] = false
ends_recursive (t ∷ []) = is_recursive t
ends_recursive (t ∷ u ∷ us) = ends_recursive (u ∷ us)

-- a pattern that ends in a separator or in `**` matches only directories
abbrev pub matches_kind : (pattern : Text) → Kind → Bool
matches_kind pattern kind = is_dir kind || not (ends_with slash pattern || ends_recursive (components pattern))

-- the text of a key of this kind with these names after the start, if they are wanted; the start itself, which has no
-- names, is never wanted
abbrev pub wanted_text : (pattern : Text) → (is_wanted : List Text → Bool) → Kind → Key → Option Text
wanted_text pattern is_wanted kind [] = None
wanted_text pattern is_wanted kind (n ∷ ns) =
    if matches_kind pattern kind && is_wanted (n ∷ ns) then Some (text_below pattern (n ∷ ns)) else None

-- the texts of the keys below the start whose names are wanted, in any order
abbrev pub wanted_texts : Content → (pattern : Text) → (is_wanted : List Text → Bool) → List Text
wanted_texts c pattern is_wanted =
    filter_map (λ e. option_and_then (wanted_text pattern is_wanted e.1) (names_past (origin c pattern) e.0)) c.kinds

-- the texts of the keys that the undivided pattern matches
unfoldable pub goal : Content → MatchOptions → (pattern : Text) → List Text
goal c o pattern = wanted_texts c pattern (λ names. matches_undivided o pattern (text_below pattern names))

abbrev pub is_shut : Kind → Bool
is_shut Dir = false
is_shut (Shut kind) = true
is_shut Other = false

-- neither the start nor a key below it is a directory that cannot be listed
unfoldable pub is_readable : Content → (pattern : Text) → Bool
is_readable c pattern = list_all (λ e. not (is_shut e.1) || is_none (names_past (origin c pattern) e.0)) c.kinds

-- no item is an error, and the paths are exactly the wanted texts
pub record GivesTexts (wanted : List Text) (given : List Item) : Type 0 where
  pub readable : (path : Text) (kind : ErrorKind) → ¬ (Contains given (Unread path kind))
  pub exact : (text : Text) → Contains (paths given) text ↔ Contains wanted text

-- Case-sensitively, if a walk over a readable content is done, no item is an error, and the paths are exactly the goal.
unfoldable pub FindsExactly : {A : Type 0} → (known : Option Content) → MatchOptions → (pattern : Text) → End → Answers A → Type 0
FindsExactly known o pattern end answers =
    (c : Content) (is : List Item) → IsTold known c → AreItems answers is → IsTrue (is_plain pattern)
    → IsTrue o.case_sensitive → IsTrue (is_readable c pattern) → end ≡ Done → GivesTexts (goal c o pattern) is

-- A component takes a name: a literal component takes only the name equal to it, unless it is right after `**`; any
-- other component takes each name that it matches.
abbrev pub walk_takes_name : MatchOptions → (after_recursive : Bool) → (component name : Text) → Bool
walk_takes_name o after_recursive t n = if after_recursive || not (is_literal t) then matches_name o t n else bytes_eq t n

-- The components take the names: `**` takes any number of names that the dot rule lets it take (at the end at least
-- one), and any other component takes one name. `takes_names` of `glob_pattern` says something else: there each
-- component takes what it matches, also a literal one. Case-sensitively the two agree.
abbrev pub walk_takes : MatchOptions → (after_recursive : Bool) → (components names : List Text) → Bool
walk_takes o after [] [] = true
walk_takes o after [] (n ∷ ns) = false
walk_takes o after (t ∷ ts) [] = false
walk_takes o after (t ∷ ts) (n ∷ ns) =
    if is_recursive t
    then walk_takes o true ts (n ∷ ns) || (is_open o n && (walk_takes o after (t ∷ ts) ns || walk_takes o true ts ns))
    else walk_takes_name o after t n && walk_takes o false ts ns

-- The texts of the keys whose names the components take, case-sensitively or not. Case-sensitively they are the goal.
unfoldable pub taken_goal : Content → MatchOptions → (pattern : Text) → List Text
taken_goal c o pattern = wanted_texts c pattern (walk_takes o false (components pattern))

-- The text of a key below a directory that cannot be listed and that an error item reports: `names` lead to the key
-- from the start, `above` is the key of the directory, and `below` leads on from there.
pub record IsHidden (c : Content) (pattern : Text) (given : List Item) (text : Text) : Type 0 where
  pub path : Text
  pub kind : ErrorKind
  pub above : Key
  pub below : Key
  pub names : Key
  pub unread : Contains given (Unread path kind)
  pub leads : resolve c path ≡ Some above
  pub shut : kind_at c above ≡ Some (Shut kind)
  pub longer : below ≢ []
  pub extends : origin c pattern ++ names ≡ above ++ below
  pub same : text ≡ text_below pattern names

-- each path is wanted; if the walk is whole, each wanted text is a path or is hidden
pub record ReachesTexts (c : Content) (pattern : Text) (wanted : List Text) (IsWhole : Type 0) (given : List Item) : Type 0 where
  pub sound : (text : Text) → Contains (paths given) text → Contains wanted text
  pub complete : IsWhole → (text : Text) → Contains wanted text
      → Contains (paths given) text ⊎ IsHidden c pattern given text

-- the components after the first place with `**`; `**/**` is one place
abbrev pub after_first_recursive : List Text → List Text
after_first_recursive [] = []
after_first_recursive (t ∷ ts) = if is_recursive t && not (begins_recursive ts) then ts else after_first_recursive ts

-- the pattern has `**` in at most one place
abbrev pub has_one_recursive : (pattern : Text) → Bool
has_one_recursive pattern = not (list_any is_recursive (after_first_recursive (components pattern)))

abbrev pub names_of : (path : Text) → List Text
names_of path = filter (λ piece. not (is_empty piece)) (pieces path)

-- name by name in byte order; a list of names is before one that extends it
abbrev pub path_cmp : Text → Text → Ordering
path_cmp path other = slice_cmp (slice_cmp nat_cmp) (names_of path) (names_of other)

-- each path once if `**` is in at most one place, and in order if at most one component follows it
pub record IsOrderly (pattern : Text) (paths : List Text) : Type 0 where
  pub once : has_one_recursive pattern ≡ true → AllPairs (λ path later. path ≢ later) paths
  pub ascending : has_one_recursive pattern ≡ true → length (after_first_recursive (components pattern)) ≤ 1
      → AllPairs (λ path later. path_cmp path later ≡ Less) paths

-- Case-sensitively, each path is a goal, and if the walk is done, each goal is a path or is hidden. `known` is the
-- tree's content, if that is known, and `is` are the items of the answers.
unfoldable pub FindsGoal : {A : Type 0} → (known : Option Content) → MatchOptions → (pattern : Text) → End → Answers A → Type 0
FindsGoal known o pattern end answers =
    (c : Content) (is : List Item) → IsTold known c → AreItems answers is → IsTrue (is_plain pattern)
    → IsTrue o.case_sensitive → ReachesTexts c pattern (goal c o pattern) (end ≡ Done) is

-- Case-sensitively or not, the components take the names of each path, and the paths come once and in order as far as
-- the places of `**` allow. If the walk is done, each key whose names the components take is a path or is hidden, and
-- over a readable content these are exactly the paths.
unfoldable pub FindsTaken : {A : Type 0} → (known : Option Content) → MatchOptions → (pattern : Text) → End → Answers A → Type 0
FindsTaken known o pattern end answers =
    (c : Content) (is : List Item) → IsTold known c → AreItems answers is → IsTrue (is_plain pattern)
    → ReachesTexts c pattern (taken_goal c o pattern) (end ≡ Done) is
    × (IsTrue (is_readable c pattern) → end ≡ Done → GivesTexts (taken_goal c o pattern) is)
    × IsOrderly pattern (paths is)
