-- What a search is asked for, by its patterns, its settings, and the texts of ignore files.
use Rattle.std.specs.Prelude.{◌≡◌, ◌≢◌, Bool, true, not, IsTrue, List, [], ◌∷◌, ◌++◌, map, filter_map, Contains, Option}
use Rattle.std.specs.Prelude.{Some, IsSome, option_map, string_bytes, fold}
use Rattle.std.specs.List.{join_with_byte}
use Rattle.std.specs.Path.{cur_dir}
use Rattle.glob_text.specs.Characters.{dot, slash}
use Rattle.glob_text.specs.Text.{Text}
use Rattle.glob_rules.specs.Lists.{Ignores, refusals_of, rules_of}
use Rattle.glob_rules.specs.declared.error.RuleRefusal.{RuleRefusal}
use Rattle.glob_tree.specs.Content.{Content, Key, is_dir, is_dir_at, kind_at}
use Rattle.glob_tree.specs.Paths.{child}
use Rattle.glob_search.specs.Searching.{Aim}
use Rattle.glob_search.specs.declared.outer.OuterRules.{OuterRules}
use Rattle.glob_search.specs.declared.settings.Settings.{Settings}
use Rattle.glob_search.specs.declared.settings.Wanted.{Wanted}
use Rattle.glob_search.specs.declared.settings.Wanted.TheVariants.{All, Directories, Others}

-- the path of these names below the start; without names, `.`
abbrev pub path_of : (names : Key) → Text
path_of [] = dot ∷ []
path_of (n ∷ ns) = join_with_byte slash (n ∷ ns)

-- the same for any names, each joined to the path of the names before it
abbrev pub path_down : (names : Key) → Text
path_down names = fold child cur_dir names

-- whether directories, or other paths, are wanted
abbrev pub wants : Wanted → (is_directory : Bool) → Bool
wants All d = true
wants Directories d = d
wants Others d = not d

-- the rules of these files that exist in a directory
abbrev pub rules_from : (known : Text → Option Text) → (files : List Text) → (directory : Key) → List Ignores
rules_from known files directory =
    filter_map (λ file. option_map rules_of (known (path_of (directory ++ file ∷ [])))) files

-- the names of ignore files
abbrev pub files_of : {A : Type 0} → Settings A → List Text
files_of settings = map (λ file. string_bytes file) settings.rule_files.items

-- each list, with the path of the start from its directory on
abbrev pub outer_of : {A : Type 0} → List (OuterRules A) → List (Text × Ignores)
outer_of lists = map (λ l. (string_bytes l.prefix, l.list)) lists

-- what a search with these patterns and settings is asked for, if the texts of files are known
abbrev pub aim_of : {A : Type 0} → (patterns : List Text) → Settings A → (known : Text → Option Text) → Aim
aim_of patterns settings known = record {
  options = settings.options;
  patterns = patterns;
  depth = settings.depth;
  is_wanted = λ kind. wants settings.wanted (is_dir kind);
  first = settings.first.items;
  rules_in = rules_from known (files_of settings);
  last = outer_of settings.last.items;
}

-- The texts fit the content and the rules: the rules of a directory are the rules of its files with a text, in order,
-- and each file with a text is an entry of its directory.
pub record AreTextsOf (c : Content) (a : Aim) (files : List Text) (known : Text → Option Text) : Type 0 where
  pub rules : (directory : Key) → a.rules_in directory ≡ rules_from known files directory
  pub held : (directory : Key) (file : Text) → IsTrue (is_dir_at c (c.current ++ directory)) → Contains files file
      → IsSome (known (path_of (directory ++ file ∷ []))) → IsSome (kind_at c (c.current ++ (directory ++ file ∷ [])))

-- These are the refused lines, at least one, of the text of the ignore file at this path.
pub record AreRefused (known : Text → Option Text) (files : List Text) (path : Text) (refusals : List RuleRefusal) : Type 0 where
  pub directory : Key
  pub file : Text
  pub named : Contains files file
  pub at : path ≡ path_of (directory ++ file ∷ [])
  pub text : Text
  pub held : known path ≡ Some text
  pub all : refusals ≡ refusals_of text
  pub some : refusals ≢ []
