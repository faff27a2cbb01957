-- What a search has to find: the keys below its start that a pattern matches, and that no rule ignores.
use Rattle.std.specs.Prelude.{ℕ, nat_le, nat_lt, Bool, true, false, ◌&&◌, ◌||◌, not, if◌then◌else◌, List, [], ◌∷◌, ◌++◌}
use Rattle.std.specs.Prelude.{length, map, flat_map, filter, filter_map, fold, Option, Some, None, option_map}
use Rattle.std.specs.Prelude.{unwrap_or}
use Rattle.std.specs.List.{list_any, list_all, join_with_byte}
use Rattle.std.specs.Option.{option_or}
use Rattle.std.specs.Str.{chars}
use Rattle.glob_text.specs.Characters.{slash}
use Rattle.glob_text.specs.Pieces.{pieces}
use Rattle.glob_text.specs.Text.{Text}
use Rattle.glob_pattern.specs.Computing.Deciding.{is_match}
use Rattle.glob_pattern.specs.Grammar.Characters.{is_wildcard, star}
use Rattle.glob_pattern.specs.Matching.Components.{is_open, is_recursive}
use Rattle.glob_pattern.specs.declared.options.MatchOptions.{MatchOptions}
use Rattle.glob_rules.specs.Deciding.{naming_rule}
use Rattle.glob_rules.specs.Lists.{Ignores}
use Rattle.glob_tree.specs.Content.{Content, Key, is_dir, kind_at, names_past}
use Rattle.glob_tree.specs.Paths.{join}
use Rattle.glob_tree.specs.declared.kind.Kind.{Kind}
use Rattle.glob_tree.specs.declared.kind.Kind.TheVariants.{Shut}

-- What a search is asked for. Paths have at most `depth` names. The rules of `first` override the rules of files in
-- directories, which override the rules of `last`. The lists in `last` belong to the start and the directories above
-- it; each comes with the path of the start from its directory on, which is empty for the start's own.
pub record Aim : Type 0 where
  pub options : MatchOptions
  pub patterns : List Text
  pub depth : ℕ
  pub is_wanted : Kind → Bool
  pub first : List Ignores
  pub rules_in : (directory : Key) → List Ignores
  pub last : List (Text × Ignores)

-- Whether the last rule of a list that names the path ignores it, if there is one. The directories above the path are
-- asked about when the search enters them.
abbrev pub said : Ignores → (path : Text) → (is_directory : Bool) → Option Bool
said list path d = option_map (λ rule. not rule.negative) (naming_rule list path d)

-- the same for the last list with such a rule
abbrev pub last_said : List Ignores → (path : Text) → (is_directory : Bool) → Option Bool
last_said lists path d = fold (λ before list. option_or (said list path d) before) None lists

-- the same for a path below the start, with lists that each come with the path of the start from their directory on
abbrev pub outer_said : List (Text × Ignores) → (path : Text) → (is_directory : Bool) → Option Bool
outer_said lists path d = fold (λ before l. option_or (said l.1 (join l.0 path) d) before) None lists

-- the same for the files of a directory and of the directories below it on the way to the path, the deepest first
abbrev pub files_said : Aim → (directory names : Key) → (is_directory : Bool) → Option Bool
files_said a directory [] d = None
files_said a directory (n ∷ ns) d =
    option_or (files_said a (directory ++ n ∷ []) ns d)
    (last_said (a.rules_in directory) (join_with_byte slash (n ∷ ns)) d)

-- the path of these names is ignored
abbrev pub is_ignored : Aim → (names : Key) → (is_directory : Bool) → Bool
is_ignored a names d =
    unwrap_or (option_or (last_said a.first (join_with_byte slash names) d)
    (option_or (files_said a [] names d) (outer_said a.last (join_with_byte slash names) d))) false

-- the lists ignore the directory with this name in the start
abbrev pub ignores_directory : List (Text × Ignores) → (name : Text) → Bool
ignores_directory lists name = unwrap_or (outer_said lists name true) false

-- these lists, as seen from a directory in the start: its path from each list's directory on is longer by its name
abbrev pub entered : (name : Text) → List (Text × Ignores) → List (Text × Ignores)
entered name lists = map (λ l. (join l.0 name, l.1)) lists

-- The components take the names: `**` takes any number of names, and any other component one name that it matches.
abbrev pub takes : MatchOptions → (components names : List Text) → Bool
takes o [] [] = true
takes o [] (n ∷ ns) = false
takes o (t ∷ ts) [] = is_recursive t && takes o ts []
takes o (t ∷ ts) (n ∷ ns) =
    if is_recursive t then takes o ts (n ∷ ns) || (is_open o n && takes o (t ∷ ts) ns)
    else is_match o (chars t) (chars n) && takes o ts ns

-- `**` after `**` is left out, and `**` at the end is written as `**` and `*`, since it takes at least one name
abbrev pub ended : List Text → List Text
ended [] = []
ended (t ∷ []) = if is_recursive t then t ∷ (star ∷ []) ∷ [] else t ∷ []
ended (t ∷ u ∷ us) = if is_recursive t && is_recursive u then ended (u ∷ us) else t ∷ ended (u ∷ us)

-- the components of each pattern
abbrev pub components : Aim → List (List Text)
components a = map (λ p. ended (pieces p)) a.patterns

-- a pattern takes the names
abbrev pub is_taken : Aim → (names : Key) → Bool
is_taken a names = list_any (λ ts. takes a.options ts names) (components a)

-- each proper beginning of some components, with the component that comes next
abbrev pub beginnings_from : (front components : List Text) → List (List Text × Text)
beginnings_from front [] = []
beginnings_from front (t ∷ ts) = (front, t) ∷ beginnings_from (front ++ t ∷ []) ts

-- the beginnings of all patterns whose components take the names: they are alive in the directory with these names
abbrev pub alive : Aim → (names : Key) → List (List Text × Text)
alive a names =
    filter (λ b. takes a.options b.0 names) (flat_map (beginnings_from []) (components a))

-- something is alive, so an entry of the directory may be found or entered
abbrev pub goes_on : Aim → (names : Key) → Bool
goes_on a names = list_any (λ b. true) (alive a names)

-- the last of the components is `**`
abbrev pub ends_recursive : List Text → Bool
ends_recursive [] = false
ends_recursive (t ∷ []) = is_recursive t
ends_recursive (t ∷ u ∷ us) = ends_recursive (u ∷ us)

-- the next component is a name that can be looked up, and no other name goes on
abbrev pub is_named : MatchOptions → List Text × Text → Bool
is_named o b = o.case_sensitive && not (ends_recursive b.0) && not (list_any is_wildcard b.1)

-- the directory is listed, unless everything that is alive goes on only by names that can be looked up
abbrev pub is_listed : Aim → (names : Key) → Bool
is_listed a names = not (list_all (is_named a.options) (alive a names))

abbrev pub is_shut : Option Kind → Bool
is_shut (Some (Shut kind)) = true
is_shut other = false

-- the directory has to be listed, and cannot be
abbrev pub is_closed : Content → Aim → (names : Key) → Bool
is_closed c a names = is_shut (kind_at c (c.current ++ names)) && is_listed a names

abbrev pub is_nil : (names : Key) → Bool
is_nil [] = true
is_nil (n ∷ ns) = false

-- no directory on the way down these names is closed
abbrev pub is_visible : Content → Aim → (directory names : Key) → Bool
is_visible c a directory [] = true
is_visible c a directory (n ∷ ns) =
    not (is_closed c a directory) && is_visible c a (directory ++ n ∷ []) ns

-- nothing on the way down these names is ignored
abbrev pub is_kept : Aim → (directory names : Key) → (is_directory : Bool) → Bool
is_kept a directory [] d = true
is_kept a directory (n ∷ ns) d =
    not (is_ignored a (directory ++ n ∷ []) (d || not (is_nil ns)))
    && is_kept a (directory ++ n ∷ []) ns d

-- the search gets to the path of the names
abbrev pub is_reached : Content → Aim → (names : Key) → (is_directory : Bool) → Bool
is_reached c a names d = is_visible c a [] names && is_kept a [] names d

-- a key of this kind, with these names below the start, is found
abbrev pub is_found : Content → Aim → Kind → (names : Key) → Bool
is_found c a kind names =
    not (is_nil names) && nat_le (length names) a.depth && a.is_wanted kind
    && is_taken a names && is_reached c a names (is_dir kind)

-- the keys below the start, as the names after it, and their kinds
abbrev pub below : Content → List (Key × Kind)
below c = filter_map (λ e. option_map (λ names. (names, e.1)) (names_past c.current e.0)) c.kinds

-- the names of all that is found, in no particular order
unfoldable pub found : Content → Aim → List Key
found c a = map (λ e. e.0) (filter (λ e. is_found c a e.1 e.0) (below c))

-- the search gets to the directory with these names, and cannot list it although something might be found there
abbrev pub is_unread : Content → Aim → (names : Key) → Bool
is_unread c a names =
    is_closed c a names && nat_lt (length names) a.depth && is_reached c a names true

-- the names of all such directories, in no particular order
unfoldable pub unread : Content → Aim → List Key
unread c a = map (λ e. e.0) (filter (λ e. is_unread c a e.0) (below c))
