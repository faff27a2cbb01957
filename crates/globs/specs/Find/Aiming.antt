-- What the command line asks a search for.
use Rattle.std.specs.Prelude.{◌≡◌, ◌^◌, ◌-◌, ℕ, Bool, true, false, ◌&&◌, ◌||◌, not, if◌then◌else◌, IsTrue, List, []}
use Rattle.std.specs.Prelude.{◌∷◌, ◌++◌, Option, None, Some, codes, unwrap_or}
use Rattle.std.specs.List.{list_all, join_with_byte}
use Rattle.glob_rules.specs.Deciding.{is_ignored}
use Rattle.glob_rules.specs.Lists.{Ignores, rules_of}
use Rattle.glob_search.specs.Aims.{files_of, outer_of, rules_from, wants}
use Rattle.glob_search.specs.Searching.{Aim, is_kept, is_nil}
use Rattle.glob_search.specs.declared.settings.Settings.{Settings}
use Rattle.glob_search.specs.declared.settings.Wanted.{Wanted}
use Rattle.glob_search.specs.declared.settings.Wanted.TheVariants as wanted
use Rattle.glob_text.specs.Characters.{slash}
use Rattle.glob_text.specs.Text.{Text}
use Rattle.glob_tree.specs.Content.{Key, is_dir}
use Rattle.glob_tree.specs.Paths.{is_proper}
use Rattle.globs.specs.Chosen.{Chosen}
use Rattle.globs.specs.Find.Above.{is_start_ignored, lists_above}
use Rattle.globs.specs.Find.Kinds.{sifts}
use Rattle.globs.specs.declared.options.Kinds.{Kinds}

-- which paths are found: only directories, or only others, if only these are asked for
abbrev pub wanted_of : Kinds → Wanted
wanted_of kinds =
    if kinds.directories then (if sifts kinds then wanted.All else wanted.Directories)
    else (if sifts kinds then wanted.Others else wanted.All)

-- how many names a path may have
abbrev pub depth_of : Option ℕ → ℕ
depth_of depth = unwrap_or depth (2 ^ 64 - 1)

-- git's rules that override all others: they ignore each `.git`
abbrev pub git_lists : (is_git : Bool) → List Ignores
git_lists is_git = if is_git then rules_of (codes ".git") ∷ [] else []

-- git's rules that all others override; `place` has the names from the top of a repository down to the start
abbrev pub last_lists : (is_git : Bool) → (place : Key) → (known : Text → Option Text) → List (Text × Ignores)
last_lists is_git place known = if is_git then lists_above known place else []

-- the names from the top of a repository down to the start, if they are known; without `--git` they do not matter
abbrev pub placed : (is_git : Bool) → (place : Option Key) → Option Key
placed is_git place = if is_git then place else Some []

-- how many names a path may have; 0 if git's rules ignore the start
abbrev pub depth_at : (is_ignored : Bool) → Option ℕ → ℕ
depth_at is_ignored depth = if is_ignored then 0 else depth_of depth

-- the name of git's ignore files
abbrev pub git_names : (is_git : Bool) → List Text
git_names is_git = if is_git then codes ".gitignore" ∷ [] else []

-- the names of the ignore files in each directory; the last takes precedence
abbrev pub rule_files : Chosen → List Text
rule_files o = git_names o.settings.is_git ++ o.rule_files

-- there are rules on the command line
abbrev pub is_ruled : Chosen → Bool
is_ruled o = not (is_nil o.files) || not (is_nil o.rules)

-- The lists that override ignore files. The list of the command line comes first, if it has rules.
abbrev pub first_lists : (is_git is_ruled : Bool) → (list : Ignores) → List Ignores
first_lists is_git is_ruled list = if is_ruled then git_lists is_git ++ list ∷ [] else git_lists is_git

-- What the search is asked for. `list` has the rules of the command line.
abbrev pub aim : Chosen → (list : Ignores) → (patterns : List Text) → (place : Key) → (known : Text → Option Text) → Aim
aim o list patterns place known = record {
  options = o.settings.options;
  patterns = patterns;
  depth = depth_at (o.settings.is_git && is_start_ignored known place) o.settings.depth;
  is_wanted = λ kind. wants (wanted_of o.settings.kinds) (is_dir kind);
  first = first_lists o.settings.is_git (is_ruled o) list;
  rules_in = rules_from known (rule_files o);
  last = last_lists o.settings.is_git place known;
}

-- a search with these files reads their texts
abbrev pub heeds : (files : List Text) → Bool
heeds files = not (is_nil files)

-- what it knows about the texts; if it reads none, it is as if there were none
abbrev pub heeded : (heeds : Bool) → (known : Option (Text → Option Text)) → Option (Text → Option Text)
heeded heeds known = if heeds then known else Some (λ path. None)

-- If the only rules are those of the command line, a search leaves out exactly what their list ignores.
abbrev pub IgnoresByList : Chosen → Type 0
IgnoresByList o =
    (list : Ignores) (patterns : List Text) (place : Key) (known : Text → Option Text) → heeds (rule_files o) ≡ false
    → is_ruled o ≡ true → (n : Text) (ns : Key) (d : Bool) → IsTrue (list_all is_proper (n ∷ ns))
    → is_kept (aim o list patterns place known) [] (n ∷ ns) d ≡ not (is_ignored list (join_with_byte slash (n ∷ ns)) d)

-- settings that ask a search for this, with these last rules, and nothing if the start is ignored
pub record IsAsked {A : Type 0} (o : Chosen) (list : Ignores) (after : List (Text × Ignores)) (is_ignored : Bool) (s : Settings A)
    : Type 0 where
  pub options : s.options ≡ o.settings.options
  pub depth : s.depth ≡ depth_at is_ignored o.settings.depth
  pub wanted : s.wanted ≡ wanted_of o.settings.kinds
  pub limit : s.limit ≡ o.settings.limit
  pub first : s.first.items ≡ first_lists o.settings.is_git (is_ruled o) list
  pub last : outer_of s.last.items ≡ after
  pub files : files_of s ≡ rule_files o
