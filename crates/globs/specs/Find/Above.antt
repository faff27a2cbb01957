-- Git's rules from the top of a repository down to the start of a search.
use Rattle.std.specs.Prelude.{ℕ, Bool, false, ◌||◌, List, [], ◌∷◌, ◌++◌, length, map, Option, None, Some, option_map, codes}
use Rattle.std.specs.Prelude.{is_some, if◌then◌else◌, suc, true}
use Rattle.std.specs.List.{repeat}
use Rattle.std.specs.Option.{option_or}
use Rattle.glob_rules.specs.Deciding.{naming_rule}
use Rattle.glob_rules.specs.Lists.{Ignores, rules_of}
use Rattle.glob_rules.specs.declared.rule.Rule.{Rule}
use Rattle.glob_search.specs.Asking.{Last, Origin}
use Rattle.glob_search.specs.Searching.{entered, ignores_directory}
use Rattle.glob_text.specs.Text.{Text}
use Rattle.glob_tree.specs.Content.{Key}
use Rattle.glob_tree.specs.Paths.{join}

-- the path of a file in the directory this many levels above the start, such as `../../.gitignore`
abbrev pub file_above : (levels : ℕ) → (file : Text) → Text
file_above levels file = repeat levels (codes "../") ++ file

-- the list of some rules, if there are any
abbrev pub lists_of : Option Ignores → List Ignores
lists_of None = []
lists_of (Some list) = list ∷ []

-- the list of the file at a path, if there is one, for the paths below its directory
abbrev pub read_at : (known : Text → Option Text) → (path : Text) → List (Text × Ignores)
read_at known path = map (λ list. ([], list)) (lists_of (option_map rules_of (known path)))

-- The lists that apply in the top of a repository, without its ignore file. `place` has the names from the top down to
-- the start.
abbrev pub lists_at_top : (known : Text → Option Text) → (place : Key) → List (Text × Ignores)
lists_at_top known place = read_at known (file_above (length place) (codes ".git/info/exclude"))

-- these lists, and the list of the ignore file of the directory from which these names lead down to the start
abbrev pub lists_in : (known : Text → Option Text) → List (Text × Ignores) → (names : Key) → List (Text × Ignores)
lists_in known lists names = lists ++ read_at known (file_above (length names) (codes ".gitignore"))

-- these lists as seen from the start, with the lists of the directories on the way to it
abbrev pub lists_down : (known : Text → Option Text) → List (Text × Ignores) → (names : Key) → List (Text × Ignores)
lists_down known lists [] = lists
lists_down known lists (n ∷ ns) = lists_down known (entered n (lists_in known lists (n ∷ ns))) ns

-- the lists ignore the start, or a directory on the way to it
abbrev pub is_ignored_down : (known : Text → Option Text) → List (Text × Ignores) → (names : Key) → Bool
is_ignored_down known lists [] = false
is_ignored_down known lists (n ∷ ns) =
    ignores_directory (lists_in known lists (n ∷ ns)) n
    || is_ignored_down known (entered n (lists_in known lists (n ∷ ns))) ns

-- the lists of the repository that apply at the start, without the start's own ignore file
abbrev pub lists_above : (known : Text → Option Text) → (place : Key) → List (Text × Ignores)
lists_above known place = lists_down known (lists_at_top known place) place

-- the start is ignored, so nothing below it is found
abbrev pub is_start_ignored : (known : Text → Option Text) → (place : Key) → Bool
is_start_ignored known place = is_ignored_down known (lists_at_top known place) place

-- the path of a file, if there is one
abbrev pub file_at : (known : Text → Option Text) → (path : Text) → List Text
file_at known path = if is_some (known path) then path ∷ [] else []

-- the files of the lists in `lists_down`
abbrev pub files_down : (known : Text → Option Text) → (files : List Text) → (names : Key) → List Text
files_down known files [] = files
files_down known files (n ∷ ns) =
    files_down known (files ++ file_at known (file_above (length (n ∷ ns)) (codes ".gitignore"))) ns

-- the files of the lists in `lists_above`
abbrev pub files_above : (known : Text → Option Text) → (place : Key) → List Text
files_above known place = files_down known (file_at known (file_above (length place) (codes ".git/info/exclude"))) place

-- Of some lists, the first of which has this index, the last rule that names the directory with this name in the start.
abbrev pub rule_from : (index : ℕ) → List (Text × Ignores) → (name : Text) → Option (Origin × Rule)
rule_from index [] name = None
rule_from index (l ∷ ls) name =
    option_or (rule_from (suc index) ls name)
    (option_map (λ rule. (Last index, rule)) (naming_rule l.1 (join l.0 name) true))

-- the rule that ignores the highest ignored directory on the way to the start
abbrev pub rule_down : (known : Text → Option Text) → List (Text × Ignores) → (names : Key) → Option (Origin × Rule)
rule_down known lists [] = None
rule_down known lists (n ∷ ns) =
    if ignores_directory (lists_in known lists (n ∷ ns)) n then rule_from 0 (lists_in known lists (n ∷ ns)) n
    else rule_down known (entered n (lists_in known lists (n ∷ ns))) ns

-- the rule that ignores the start, if there is one
abbrev pub start_rule : (known : Text → Option Text) → (place : Key) → Option (Origin × Rule)
start_rule known place = rule_down known (lists_at_top known place) place

-- a rule of the list with this index
abbrev pub outer_decision : Option (ℕ × Rule) → Option (Origin × Rule)
outer_decision rule = option_map (λ r. (Last r.0, r.1)) rule
