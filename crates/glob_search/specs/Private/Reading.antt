-- What reading the ignore files of a directory adds to the rules that are held.
use Rattle.std.specs.Prelude.{◌≡◌, List, [], ◌∷◌, ◌++◌, IsTrue, Option, filter_map, map, option_map, string_bytes}
use Rattle.std.specs.List.{list_all, join_with_byte}
use Rattle.glob_text.specs.Characters.{slash}
use Rattle.glob_text.specs.Text.{Text}
use Rattle.glob_tree.specs.Content.{Key}
use Rattle.glob_tree.specs.Paths.{is_proper}
use Rattle.glob_search.specs.Aims.{path_of, rules_from}
use Rattle.glob_search.specs.Private.Active.{above_of, after, active_lists}
use Rattle.glob_search.specs.declared.held.HeldRules.{HeldRules}

-- the paths of those of these files that a directory has
abbrev pub sources_in : (known : Text → Option Text) → (files : List Text) → (directory : Key) → List Text
sources_in known files directory =
    filter_map (λ file. option_map (λ text. path_of (directory ++ file ∷ []))
    (known (path_of (directory ++ file ∷ [])))) files

-- the paths of the files of the lists
abbrev pub sources_of : {A : Type 0} → HeldRules A → List Text
sources_of h = map (λ s. string_bytes s) h.sources.items

-- the rules of these files come after those of other directories
pub record Adds {A : Type 0} (known : Text → Option Text) (files : List Text) (directory : Key)
    (old new : HeldRules A) : Type 0 where
  pub lists : active_lists new.active.files.items
      ≡ active_lists old.active.files.items ++ after (above_of directory) (rules_from known files directory)
  pub sources : sources_of new ≡ sources_of old ++ sources_in known files directory

-- The files of the directory at a path are read, if its names are proper.
abbrev pub HasRead : {A : Type 0} → (known : Text → Option Text) → (path : Text) → (files : List Text)
    → (old new : HeldRules A) → Type 0
HasRead known path files old new =
    (directory : Key) → IsTrue (list_all is_proper directory) → path ≡ join_with_byte slash directory
    → Adds known files directory old new
