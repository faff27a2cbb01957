-- Patterns of paths below the place to which they lead.
use Rattle.std.specs.Prelude.{Bool, true, ◌&&◌, ◌||◌, not, List, [], ◌∷◌, bytes_eq}
use Rattle.std.specs.List.{list_any}
use Rattle.std.specs.Path.{cur_dir, parent_dir}
use Rattle.glob_text.specs.Text.{Text}
use Rattle.glob_text.specs.Pieces.{is_empty, pieces}
use Rattle.globs.specs.Find.Leads.{below_lead}

-- a component that is empty, `.` or `..`
abbrev pub is_no_name : (component : Text) → Bool
is_no_name c = is_empty c || (bytes_eq c cur_dir || bytes_eq c parent_dir)

-- after its lead the pattern has no such component, and so matches only below the place to which it leads
unfoldable pub is_below : (pattern : Text) → Bool
is_below pattern = not (list_any is_no_name (pieces (below_lead pattern)))

-- each of the patterns matches only below the place to which it leads
abbrev pub are_below : (patterns : List Text) → Bool
are_below [] = true
are_below (p ∷ ps) = is_below p && are_below ps
