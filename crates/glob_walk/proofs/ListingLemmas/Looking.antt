-- A look at a path says what the path leads to.
use Rattle.std.proofs.Common.{◌≡◌, true, false, Option, Some, None, refl}
use Rattle.std.specs.Prelude.{is_some, option_map, unwrap_or}
use Rattle.glob_text.specs.Text.{Text}
use Rattle.glob_tree.specs.Content.{Content, Key, is_dir, kind_found, look_of, look_result}
use Rattle.glob_tree.specs.Looks.{is_there, is_directory}
use Rattle.glob_tree.specs.declared.kind.Kind.{Kind}
use Rattle.glob_tree.specs.declared.kind.Kind.TheVariants.{Dir, Shut, Other}
use Rattle.glob_tree.proofs.ContentLemmas.Directories.{LeadsTo}

-- it finds something
pub sees_something : (c : Content) (path : Text) → is_there (look_result c path) ≡ is_some (kind_found c path)
unfolding look_result
sees_something c path = of_kind (kind_found c path)
  where
    of_kind : (o : Option Kind) → is_there (look_of o) ≡ is_some o
    of_kind None = refl
    of_kind (Some Dir) = refl
    of_kind (Some (Shut kind)) = refl
    of_kind (Some Other) = refl

-- it finds a directory
pub sees_directory : (c : Content) (path : Text)
    → is_directory (look_result c path) ≡ unwrap_or (option_map is_dir (kind_found c path)) false
unfolding look_result
sees_directory c path = of_kind (kind_found c path)
  where
    of_kind : (o : Option Kind) → is_directory (look_of o) ≡ unwrap_or (option_map is_dir o) false
    of_kind None = refl
    of_kind (Some Dir) = refl
    of_kind (Some (Shut kind)) = refl
    of_kind (Some Other) = refl

-- the path leads to a directory
pub directory_found : (c : Content) (path : Text) (k : Key) → LeadsTo c path k
    → unwrap_or (option_map is_dir (kind_found c path)) false ≡ true
directory_found c path k at = rw at.resolved at.directory
