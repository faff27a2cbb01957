-- What is left of the written listing in the frames of a walk.
use Rattle.std.specs.Prelude.{◌≡◌, ℕ, ◌+◌, ◌-◌, ◌*◌, Bool, true, false, if◌then◌else◌, List, [], ◌∷◌, ◌++◌, length}
use Rattle.std.specs.Prelude.{drop, flat_map, Option, Some, None, string_bytes, nat_le, Contains}
use Rattle.std.specs.Path.{cur_dir, parent_dir}
use Rattle.glob_text.specs.Text.{Text}
use Rattle.glob_walk.specs.Walks.{Mark, Next, enter, meet, look_up, is_entered}
use Rattle.glob_tree.specs.Content.{Content, DirEntry, look_result}
use Rattle.glob_tree.specs.Answers.{entries_of}
use Rattle.glob_tree.specs.Paths.{child, join}
use Rattle.glob_tree.specs.Looks.{is_directory}
use Rattle.glob_pattern.specs.declared.options.MatchOptions.{MatchOptions}
use Rattle.glob_walk.specs.declared.plan.Plan.{Plan}
use Rattle.glob_walk.specs.declared.frame.Frame.{Frame}
use Rattle.glob_walk.specs.declared.frame.Cursor.{Cursor}
use Rattle.glob_walk.specs.declared.frame.Cursor.TheVariants as cursor
use Rattle.glob_walk.specs.Private.Forms.{takes_name}
use Rattle.glob_walk.specs.Private.Tasks.{enter_from, is_dotted}

-- what follows at an entry that is met: the components from number `at` on
abbrev pub met_marks : {A : Type 0} → Content → Plan A → Text → DirEntry → Option ℕ → List Mark
met_marks c plan path e None = []
met_marks c plan path e (Some at) = enter_from c plan at (child path e.0) e.1

-- what follows at an entry, if the component takes its name
abbrev pub take_at : MatchOptions → (next : Next) → (component path name : Text) → Bool → List Mark
take_at o next component path name d = if takes_name o component name then next path d else []

-- an entry is met by the component, or under `**` by the one after it
abbrev pub first_of : Content → MatchOptions → Bool → Bool → List Text → Text → DirEntry → List Mark
first_of c o dirs recursive [] path e = []
first_of c o dirs false (t ∷ ts) path e = take_at o (enter c o dirs ts) t (child path e.0) e.0 e.1
first_of c o dirs true (t ∷ []) path e = meet c o dirs [] (child path e.0) e.0 e.1
first_of c o dirs true (t ∷ u ∷ us) path e = take_at o (enter c o dirs us) u (child path e.0) e.0 e.1

abbrev pub first_part : {A : Type 0} → Content → Plan A → Bool → ℕ → Text → DirEntry → List Mark
first_part c plan recursive component path e = first_of c plan.options plan.directories recursive
    (drop component plan.components.items) path e

-- after that, `**` enters it
abbrev pub second_part : {A : Type 0} → Content → Plan A → Bool → ℕ → Text → DirEntry → List Mark
second_part c plan false component path e = []
second_part c plan true component path e =
    if is_entered plan.options e.0 e.1 then enter_from c plan component (child path e.0) true else []

-- both parts, for an entry of a directory
abbrev pub first_marks : {A : Type 0} → Content → Plan A → Frame A → DirEntry → List Mark
first_marks c plan f e = first_part c plan f.recursive f.component (string_bytes f.path) e

abbrev pub second_marks : {A : Type 0} → Content → Plan A → Frame A → DirEntry → List Mark
second_marks c plan f e = second_part c plan f.recursive f.component (string_bytes f.path) e

-- all that follows at an entry
abbrev pub entry_marks : {A : Type 0} → Content → Plan A → Bool → ℕ → Text → DirEntry → List Mark
entry_marks c plan recursive component path e = first_part c plan recursive component path e ++
    second_part c plan recursive component path e

abbrev pub special_after : Content → MatchOptions → Bool → List Text → Text → Text → List Mark
special_after c o dirs [] path name = []
special_after c o dirs (t ∷ ts) path name =
    if takes_name o t name then look_up c true (enter c o dirs ts) (join path name) else []

abbrev pub special_marks : {A : Type 0} → Content → Plan A → ℕ → Text → Text → List Mark
special_marks c plan component path name =
    special_after c plan.options plan.directories (drop component plan.components.items) path name

abbrev pub entries_marks : {A : Type 0} → Content → Plan A → Bool → ℕ → Text → List DirEntry → List Mark
entries_marks c plan recursive component path es = flat_map (entry_marks c plan recursive component path) es

-- what is left after an entry was met: `**` enters it, and then come the entries after it
abbrev pub inside_marks : {A : Type 0} → Content → Plan A → Bool → ℕ → Text → List DirEntry → List Mark
inside_marks c plan recursive component path [] = []
inside_marks c plan recursive component path (e ∷ es) =
    second_part c plan recursive component path e ++ entries_marks c plan recursive component path es

-- what is left from a cursor on
abbrev pub cursor_marks : {A : Type 0} → Content → Plan A → Bool → ℕ → Text → List DirEntry → Cursor → List Mark
cursor_marks c plan recursive component path es cursor.Parent =
    special_marks c plan component path parent_dir
    ++ (special_marks c plan component path cur_dir ++ entries_marks c plan recursive component path es)
cursor_marks c plan recursive component path es cursor.Current =
    special_marks c plan component path cur_dir ++ entries_marks c plan recursive component path es
cursor_marks c plan recursive component path es (cursor.At i) = entries_marks c plan recursive component path (drop i es)
cursor_marks c plan recursive component path es (cursor.Inside i) = inside_marks c plan recursive component path (drop i es)

-- what is left in a directory
abbrev pub frame_marks : {A : Type 0} → Content → Plan A → Frame A → List Mark
frame_marks c plan f = cursor_marks c plan f.recursive f.component (string_bytes f.path) (entries_of f.entries.items) f.cursor

-- the number of steps left in a directory: at most two for each entry, and one each for `..` and `.`
abbrev pub cursor_steps : ℕ → Cursor → ℕ
cursor_steps n cursor.Parent = 2 * n + 2
cursor_steps n cursor.Current = 2 * n + 1
cursor_steps n (cursor.At i) = 2 * (n - i)
cursor_steps n (cursor.Inside i) = 2 * (n - i) - 1

abbrev pub steps_left : {A : Type 0} → Frame A → ℕ
steps_left f = cursor_steps (length f.entries.items) f.cursor

-- the number of entries not met yet
abbrev pub cursor_unmet : ℕ → Cursor → ℕ
cursor_unmet n cursor.Parent = n
cursor_unmet n cursor.Current = n
cursor_unmet n (cursor.At i) = n - i
cursor_unmet n (cursor.Inside i) = n - i - 1

abbrev pub unmet : {A : Type 0} → Frame A → ℕ
unmet f = cursor_unmet (length f.entries.items) f.cursor

-- the cursor is past the last entry
abbrev pub is_done_at : ℕ → Cursor → Bool
is_done_at n cursor.Parent = false
is_done_at n cursor.Current = false
is_done_at n (cursor.At i) = nat_le n i
is_done_at n (cursor.Inside i) = nat_le n i

-- nothing is left in a directory
abbrev pub is_done : {A : Type 0} → Frame A → Bool
is_done f = is_done_at (length f.entries.items) f.cursor

-- an entry reported as a directory is a directory
abbrev pub IsEntrySound : Content → Text → DirEntry → Type 0
IsEntrySound c path e = e.1 ≡ true → is_directory (look_result c (child path e.0)) ≡ true

pub record IsFrameSound {A : Type 0} (c : Content) (f : Frame A) : Type 0 where
  pub entries : (e : DirEntry) → Contains (entries_of f.entries.items) e → IsEntrySound c (string_bytes f.path) e

-- the first cursor in a directory: before `..` if the component begins with a dot, which `**` never does
abbrev pub first_cursor : List Text → Cursor
first_cursor ts = if is_dotted ts then cursor.Parent else cursor.At 0
