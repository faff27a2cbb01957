-- What a search still has to do.
use Rattle.std.specs.Prelude.{◌≡◌, ◌-◌, if◌then◌else◌, List, [], ◌∷◌, ◌++◌, length, reverse, flat_map, Option, None}
use Rattle.std.specs.Prelude.{Some, bytes_eq, string_bytes, vec_len}
use Rattle.std.specs.Path.{cur_dir}
use Rattle.glob_text.specs.Pieces.{pieces}
use Rattle.glob_text.specs.Text.{Text}
use Rattle.glob_tree.specs.Content.{Content, Key, is_dir_at}
use Rattle.glob_tree.specs.declared.tree.Entry.{Entry}
use Rattle.glob_search.specs.Searching.{Aim}
use Rattle.glob_search.specs.Visiting.{Gift, levels, meet, visit}
use Rattle.glob_search.specs.declared.frame.Frame.{Frame}
use Rattle.glob_search.specs.declared.frame.Opening.{Opening}
use Rattle.glob_search.specs.declared.searcher.Searcher.{Searcher}
use Rattle.glob_search.specs.declared.way.Way.{Way}

-- the names of a path, from the start on
abbrev pub names_in : (path : Text) → Key
names_in path = if bytes_eq path cur_dir then [] else pieces path

-- the gifts of the directory of these names
unfoldable pub visited : Content → Aim → (names : Key) → List Gift
visited c a names = visit c a (levels c - length names) names

-- the gifts of an entry of the directory of these names
unfoldable pub met : Content → Aim → (names : Key) → Text → List Gift
met c a names n =
    meet c a (visited c a) (names ++ n ∷ []) (is_dir_at c (c.current ++ (names ++ n ∷ [])))

-- the gifts of these entries, visited from the last to the first
abbrev pub entries_left : {A : Type 0} → Content → Aim → (names : Key) → List (Entry A) → List Gift
entries_left c a names entries = flat_map (λ e. met c a names e.name) (reverse entries)

abbrev pub frame_left : {A : Type 0} → Content → Aim → Frame A → List Gift
frame_left c a f = entries_left c a (names_in (string_bytes f.path)) f.entries.items

abbrev pub opening_left : {A : Type 0} → Content → Aim → Option (Opening A) → List Gift
opening_left c a None = []
opening_left c a (Some o) = visited c a (names_in (string_bytes o.path))

-- The gifts that are left: of the directory entered next, and then of the directories on the way, the last one first.
abbrev pub way_left : {A : Type 0} → Content → Aim → Way A → List Gift
way_left c a w = opening_left c a w.entering ++ flat_map (frame_left c a) (reverse w.frames.items)

abbrev pub search_left : {A : Type 0} → Content → Aim → Searcher A → List Gift
search_left c a s = way_left c a s.way

-- no gifts are left
abbrev pub IsDone : {A : Type 0} → Way A → Type 0
IsDone w = (w.entering ≡ None) × (vec_len w.frames ≡ 0)
