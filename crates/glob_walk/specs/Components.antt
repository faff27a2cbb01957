-- The parts of a walk's pattern: where it starts, its components, and its fault.
use Rattle.std.specs.Prelude.{◌-◌, Bool, false, ◌||◌, not, if◌then◌else◌, List, [], ◌∷◌, length, take, drop, bytes_eq, Option, None}
use Rattle.std.specs.Option.{option_or}
use Rattle.std.specs.Result.{result_err}
use Rattle.std.specs.List.{list_any}
use Rattle.std.specs.Path.{root_dir, cur_dir, parent_dir}
use Rattle.std.specs.Str.{chars}
use Rattle.glob_text.specs.Characters.{slash}
use Rattle.glob_pattern.specs.Grammar.Characters.{is_wildcard}
pub use Rattle.glob_pattern.specs.Matching.Components.{is_recursive}
use Rattle.glob_text.specs.Text.{Text}
use Rattle.glob_text.specs.Pieces.{begins_with, ends_with, pieces}
use Rattle.glob_pattern.specs.Grammar.Faults.{Fault}
use Rattle.glob_pattern.specs.Computing.Reading.{reading_of}
use Rattle.glob_pattern.specs.Computing.Deciding.{is_match}
use Rattle.glob_pattern.specs.declared.options.MatchOptions.{MatchOptions}

-- the path where the walk starts
abbrev pub start : Text → Text
start pattern = if begins_with slash pattern then root_dir else cur_dir

abbrev pub without_root : Text → Text
without_root pattern = if begins_with slash pattern then drop 1 pattern else pattern

abbrev pub without_end_separator : Text → Text
without_end_separator text = if ends_with slash text then take (length text - 1) text else text

-- the pieces after the root, without one separator at the end
abbrev pub components : Text → List Text
components pattern = pieces (without_end_separator (without_root pattern))

-- the component has no wildcard
abbrev pub is_literal : Text → Bool
is_literal component = not (list_any is_wildcard component)

abbrev pub begins_recursive : List Text → Bool
begins_recursive [] = false
begins_recursive (t ∷ ts) = is_recursive t

-- `.` and `..`
abbrev pub is_current_or_parent : Text → Bool
is_current_or_parent component = bytes_eq component cur_dir || bytes_eq component parent_dir

pub data ComponentKind : Type 0 where
  Literal : ComponentKind
  Recursive : ComponentKind
  Wild : ComponentKind

abbrev pub component_kind : Text → ComponentKind
component_kind t = if is_literal t then Literal else if is_recursive t then Recursive else Wild

-- the component matches the name, by characters
abbrev pub matches_name : MatchOptions → (component name : Text) → Bool
matches_name o component name = is_match o (chars component) (chars name)

abbrev pub first_fault : List Text → Option Fault
first_fault [] = None
first_fault (t ∷ ts) = option_or (result_err (reading_of (chars t))) (first_fault ts)

-- the fault of a walk's pattern: the fault of the whole text or, if that has none, of the first component with a fault
unfoldable pub walk_fault : Text → Option Fault
walk_fault pattern = first_fault (pattern ∷ components pattern)
