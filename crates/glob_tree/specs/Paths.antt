-- The texts of paths. A path is a list of bytes, and its pieces are between separators.
use Rattle.std.specs.Prelude.{ℕ, Bool, ◌&&◌, ◌||◌, not, ◌==◌, if◌then◌else◌, ◌++◌, bytes_eq}
use Rattle.std.specs.List.{list_any, list_all}
use Rattle.std.specs.Path.{cur_dir, parent_dir, with_separator}
use Rattle.glob_text.specs.Characters.{slash, dot}
use Rattle.glob_text.specs.Pieces.{is_empty, begins_with, pieces}
use Rattle.glob_text.specs.Text.{Text}

-- the NUL character
abbrev pub nul : ℕ
nul = 0

-- the path, a separator unless the path is empty or ends in one, and the text
unfoldable pub join : (path text : Text) → Text
join path text = with_separator path ++ text

-- the piece is empty or `.`, so it stays where it is
abbrev pub stays : Text → Bool
stays piece = is_empty piece || bytes_eq piece cur_dir

-- the path is `.`, or `.` and more pieces that stay there
abbrev pub is_here : Text → Bool
is_here path = begins_with dot path && list_all stays (pieces path)

-- the path of a name in a directory
unfoldable pub child : (path name : Text) → Text
child path name = if is_here path then name else join path name

-- what no name contains: `/` and NUL
abbrev pub is_barred : ℕ → Bool
is_barred c = c == slash || c == nul

-- a proper name is not empty, `.` or `..`, and contains neither `/` nor NUL
abbrev pub is_proper : Text → Bool
is_proper name = not (stays name) && not (bytes_eq name parent_dir) && not (list_any is_barred name)
