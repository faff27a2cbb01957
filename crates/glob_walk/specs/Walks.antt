-- What a walk does: the items that it gives, the written listing of what it looks up, lists and gives, and what the
-- answers of a whole walk are within a limit.
use Rattle.std.specs.Prelude.{◌≡◌, ℕ, zero, suc, ◌+◌, ◌≤◌, ◌<◌, max, Bool, true, false, ◌&&◌, ◌||◌, not, if◌then◌else◌, List, []}
use Rattle.std.specs.Prelude.{◌∷◌, ◌++◌, length, map, flat_map, fold, replicate, Option, Some, None, is_some, option_map, unwrap_or}
use Rattle.std.specs.Prelude.{Result, Ok, Err, ⊤}
use Rattle.std.specs.IoError.{error_kind}
use Rattle.std.specs.Path.{cur_dir, parent_dir, root_dir, path_buf_bytes}
use Rattle.std.specs.declared.io.ErrorKind.{ErrorKind}
use Rattle.std.specs.declared.path.buf.PathBuf.{PathBuf}
use Rattle.glob_text.specs.Characters.{slash, dot}
use Rattle.glob_text.specs.Text.{Text}
use Rattle.glob_text.specs.Pieces.{begins_with, ends_with}
use Rattle.glob_tree.specs.Paths.{join, child}
use Rattle.glob_tree.specs.Content.{Content, ListAnswer, Entries, Fails, NoDirectory, is_dir, kind_found, list_result, sorted_entries}
use Rattle.glob_pattern.specs.Grammar.Faults.{Fault}
use Rattle.glob_pattern.specs.Matching.Components.{is_open}
use Rattle.glob_pattern.specs.declared.error.PatternRefusal.{PatternRefusal}
use Rattle.glob_pattern.specs.declared.error.PatternRefusal.TheVariants as refusal
use Rattle.glob_pattern.specs.declared.options.MatchOptions.{MatchOptions}
use Rattle.glob_walk.specs.Components.{components, Literal, Recursive, Wild}
use Rattle.glob_walk.specs.Components.{component_kind, is_current_or_parent, begins_recursive, matches_name}
use Rattle.glob_walk.specs.declared.error.GlobCause.{GlobCause}
use Rattle.glob_walk.specs.declared.error.GlobCause.TheVariants as cause
use Rattle.glob_walk.specs.declared.error.GlobError.{GlobError}
use Rattle.glob_walk.specs.declared.ending.End.{End}
use Rattle.glob_walk.specs.declared.ending.End.TheVariants as end

-- what a walk gives: a path, or a path that could not be listed, and why
pub data Item : Type 0 where
  Found : Text → Item
  Unread : Text → ErrorKind → Item

-- what a walk does: a unit of work, for the path that is looked up or listed, or an item
pub data Mark : Type 0 where
  Work : Text → Mark
  Give : Item → Mark

-- what follows at a path or at an entry's name; the flag says whether it is a directory
abbrev pub Next : Type 0
Next = Text → Bool → List Mark

-- Looks the path up. If `is_found`, `next` says what follows. It is `true`, whatever is there, for the start (in a
-- well-formed content a directory) and for special names.
abbrev pub look_up : Content → (is_found : Bool) → (next : Next) → Text → List Mark
look_up c is_found next path =
    Work path ∷ (if is_found then next path (unwrap_or (option_map is_dir (kind_found c path)) false) else [])

-- A literal component is looked up by name, whatever the options, also below a file. `.` and `..` are there exactly in
-- a directory.
abbrev pub by_name : Content → (next : Next) → (component path : Text) → Bool → List Mark
by_name c next component path d =
    let is_there = is_some (kind_found c (child path component)) in
    look_up c (if is_current_or_parent component then d else is_there) next (child path component)

-- What follows a listing: one unit for each entry, then `before`, then what follows at each entry in ascending byte
-- order of names; or an error. Over a content only directories are listed, so the last case does not occur.
abbrev pub after_listing : Text → (before : List Mark) → (each : Next) → ListAnswer → List Mark
after_listing path before each (Entries entries) =
    replicate (length entries) (Work path) ++ before ++ flat_map (λ e. each e.0 e.1) (sorted_entries entries)
after_listing path before each (Fails kind) = Give (Unread path kind) ∷ []
after_listing path before each NoDirectory = []

-- lists a directory
abbrev pub list_directory : Content → Text → (before : List Mark) → (each : Next) → List Mark
list_directory c path before each = Work path ∷ after_listing path before each (list_result c path)

-- what follows at an entry, if the component matches its name
abbrev pub match_at : MatchOptions → (next : Next) → (component path name : Text) → Bool → List Mark
match_at o next component path name d = if matches_name o component name then next path d else []

-- Looks up first `..` and then `.` in a directory, if the component begins with a dot and matches that name, since no
-- listing has them: `.*` gives `./..` and `./.`.
abbrev pub special_names : Content → MatchOptions → (next : Next) → (component path : Text) → List Mark
special_names c o next component path =
    if not (begins_with dot component) then [] else flat_map
    (λ name. if matches_name o component name then look_up c true next (join path name) else []) (parent_dir ∷ cur_dir ∷ [])

-- a component with wildcards meets the special names, and then the entries of a directory
abbrev pub by_match : Content → MatchOptions → (next : Next) → (component path : Text) → List Mark
by_match c o next component path =
    list_directory c path (special_names c o next component path) (λ name d. match_at o next component (child path name) name d)

-- `**` enters the entry, and gives it if it is the last component: a directory whose name the dot rule lets it take
abbrev pub is_entered : MatchOptions → (name : Text) → Bool → Bool
is_entered o name d = d && is_open o name

-- `**` from a directory on, down n levels: at each entry, `each` says what follows by its path and name, and then it is
-- entered.
unfoldable pub descent : Content → MatchOptions → (each : Text → Text → Bool → List Mark) → ℕ → (path : Text) → List Mark
descent c o each zero path = []
descent c o each (suc n) path =
    list_directory c path [] (λ name d.
    each (child path name) name d ++ (if is_entered o name d then descent c o each n (child path name) else []))

-- One level more than the longest key has names, so a descent meets each key below it. To terminate, `descent` counts
-- them down; more of them change nothing (the law `enough_levels_give_the_same_marks`).
abbrev pub levels : Content → ℕ
levels c = suc (fold (λ n e. max n (length e.0)) 0 c.kinds)

module _ (c : Content) (o : MatchOptions) (directories : Bool) where
  unfoldable mutual
    -- what follows at a path with these components left; d says whether it is a directory
    pub enter : List Text → (path : Text) → Bool → List Mark
    enter [] path d = if not directories || d then Give (Found path) ∷ [] else []
    enter (t ∷ ts) path d = elim (component_kind t) [
      | Literal ↦ by_name c (enter ts) t path d
      | Wild ↦ if d then by_match c o (enter ts) t path else []
      | Recursive ↦
          if begins_recursive ts then enter ts path d
          else if d then descent c o (meet ts) (levels c) path
          else []
    ]

    -- what follows at an entry under `**`, with these components after it
    pub meet : List Text → (path name : Text) → Bool → List Mark
    meet [] path name d = if is_entered o name d then Give (Found path) ∷ [] else []
    meet (t ∷ ts) path name d = match_at o (enter ts) t path name d

-- the written listing of these components, from the root or from the current directory
abbrev pub listing_from : Content → MatchOptions → (rooted directories : Bool) → (components : List Text) → List Mark
listing_from c o rooted directories ts =
    look_up c true (enter c o directories ts) (if rooted then root_dir else cur_dir)

-- the written listing of a pattern; one that ends in a separator wants only directories
unfoldable pub listing : Content → MatchOptions → (pattern : Text) → List Mark
listing c o pattern = listing_from c o (begins_with slash pattern) (ends_with slash pattern) (components pattern)

-- the items, in order
abbrev pub items : List Mark → List Item
items [] = []
items (Work path ∷ ms) = items ms
items (Give item ∷ ms) = item ∷ items ms

-- the paths among the items
abbrev pub paths : List Item → List Text
paths [] = []
paths (Found path ∷ is) = path ∷ paths is
paths (Unread path kind ∷ is) = paths is

-- the items are a prefix of all of them
abbrev pub IsBeginning : (some all : List Item) → Type 0
IsBeginning some all = (rest : List Item) × (all ≡ some ++ rest)

-- the number of units of work
abbrev pub cost : List Mark → ℕ
cost [] = 0
cost (Work path ∷ ms) = suc (cost ms)
cost (Give item ∷ ms) = cost ms

-- everything before unit n + 1
abbrev pub front : ℕ → List Mark → List Mark
front n [] = []
front n (Give item ∷ ms) = Give item ∷ front n ms
front zero (Work path ∷ ms) = []
front (suc n) (Work path ∷ ms) = Work path ∷ front n ms

-- What was charged and given, and what is left, make up a written listing.
pub record IsUpTo (listing : List Mark) (spent : ℕ) (given : List Item) (left : List Mark) : Type 0 where
  pub done : List Mark
  pub whole : listing ≡ done ++ left
  pub units : spent ≡ cost done
  pub same : given ≡ items done

-- the pattern may be refused like this: because of its fault, or because an allocation failed
abbrev pub RefusesWith : Option Fault → PatternRefusal → Type 0
RefusesWith fault (refusal.Syntax e) = fault ≡ Some (record { place = e.pos; message = e.msg.now })
RefusesWith fault refusal.Memory = ⊤

-- the answers of a walk, as `walk_in` appends them to `items`
abbrev pub Answers : (A : Type 0) → Type 0
Answers A = List (Result (PathBuf A) (GlobError A))

-- What one answer of a walk says: an item of the listing, the path where the limit was reached, or that memory ran out.
pub data Outcome : Type 0 where
  Gives : Item → Outcome
  LimitAt : Text → Outcome
  NoMemory : Outcome

abbrev pub error_outcome : {A : Type 0} → GlobCause → GlobError A → Outcome
error_outcome cause.Read e = Gives (Unread (path_buf_bytes e.path) (error_kind e.error))
error_outcome cause.Memory e = NoMemory
error_outcome cause.Limit e = LimitAt (path_buf_bytes e.path)

abbrev pub outcome : {A : Type 0} → Result (PathBuf A) (GlobError A) → Outcome
outcome (Ok path) = Gives (Found (path_buf_bytes path))
outcome (Err e) = error_outcome e.cause e

-- how a walk ends with this answer, if it does
abbrev pub refusal_end : Outcome → Option End
refusal_end (Gives item) = None
refusal_end (LimitAt path) = Some end.Limit
refusal_end NoMemory = Some end.Memory

-- these are the items, one by one, and no answer is a refusal
abbrev pub AreItems : {A : Type 0} → Answers A → List Item → Type 0
AreItems answers is = map outcome answers ≡ map Gives is

-- none of the answers is a refusal
unfoldable pub HasNoRefusal : {A : Type 0} → Answers A → Type 0
HasNoRefusal answers = (is : List Item) × AreItems answers is

-- What was charged is a prefix of the listing, with these items; one more item at its end may have been lost.
pub record IsCutShort (listing : List Mark) (spent : ℕ) (is : List Item) : Type 0 where
  pub rest : List Mark
  pub lost : List Item
  pub charged : IsUpTo listing spent (is ++ lost) rest
  pub few : length lost ≤ 1

-- A whole walk within a limit, over a tree with a known content and this listing: all of it, with its cost; or the
-- items before the first unit that does not fit; or, if memory ran out, a prefix of the items, up to what was charged.
unfoldable pub IsWalk : {A : Type 0} → (listing : List Mark) → (limit : ℕ) → End → (spent : ℕ) → Answers A → Type 0
IsWalk ms limit end.Done spent answers = (cost ms ≤ limit) × (spent ≡ cost ms) × AreItems answers (items ms)
IsWalk ms limit end.Limit spent answers =
    (limit < cost ms) × (spent ≡ limit) × AreItems answers (items (front limit ms))
IsWalk ms limit end.Memory spent answers = (is : List Item) × AreItems answers is × IsCutShort ms spent is

-- `asks` and `asks'` count the tree's questions before and after the walk. In between, the tree was asked as much as
-- the walk charged; if the walk ends at its limit, at least as much, and the limit is spent.
unfoldable pub IsWalkAsked : (limit : ℕ) → (asks : ℕ) → End → (spent : ℕ) → (asks' : ℕ) → Type 0
IsWalkAsked limit asks end.Limit spent asks' = (spent ≡ limit) × (asks + spent ≤ asks')
IsWalkAsked limit asks end.Done spent asks' = asks' ≡ asks + spent
IsWalkAsked limit asks end.Memory spent asks' = asks' ≡ asks + spent
