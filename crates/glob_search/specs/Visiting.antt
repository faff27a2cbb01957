-- The order of what a search finds: down the tree, with the entries of each directory in ascending order.
use Rattle.std.specs.Prelude.{ℕ, zero, suc, max, nat_lt, Bool, ◌&&◌, if◌then◌else◌, List, [], ◌∷◌, ◌++◌, length}
use Rattle.std.specs.Prelude.{flat_map, fold, Option, Some, None}
use Rattle.std.specs.declared.io.ErrorKind.{ErrorKind}
use Rattle.glob_tree.specs.Content.{Content, Key, children, kind_at, sorted_entries}
use Rattle.glob_tree.specs.declared.kind.Kind.{Kind}
use Rattle.glob_tree.specs.declared.kind.Kind.TheVariants.{Dir, Shut}
use Rattle.glob_search.specs.Searching.{Aim, is_taken, goes_on, is_listed, is_ignored}

-- A gift of a search, by the names below its start: a path, or a directory that cannot be listed, and why.
pub data Gift : Type 0 where
  Found : (names : Key) → Gift
  Unread : (names : Key) → ErrorKind → Gift

-- the entry is found
abbrev pub found_at : Content → Aim → (names : Key) → Option Kind → List Gift
found_at c a names (Some kind) =
    if a.is_wanted kind && is_taken a names then Found names ∷ [] else []
found_at c a names None = []

-- what a directory gives, by its kind
abbrev pub inside : Aim → (names : Key) → Option Kind → (entries : List Gift) → List Gift
inside a names (Some (Shut kind)) entries =
    if is_listed a names then Unread names kind ∷ [] else entries
inside a names (Some Dir) entries = entries
inside a names other entries = []

-- what an entry gives: its own path if it is found, and then what is below it
abbrev pub meet : Content → Aim → (enter : Key → List Gift) → (names : Key) → (is_directory : Bool)
    → List Gift
meet c a enter names d =
    if is_ignored a names d then []
    else found_at c a names (kind_at c (c.current ++ names))
    ++ (if d && nat_lt (length names) a.depth && goes_on a names then enter names else [])

-- what the directory with these names gives, at most this many levels down
unfoldable pub visit : Content → Aim → (levels : ℕ) → (names : Key) → List Gift
visit c a zero names = []
visit c a (suc n) names =
    inside a names (kind_at c (c.current ++ names))
    (flat_map (λ e. meet c a (visit c a n) (names ++ e.0 ∷ []) e.1)
    (sorted_entries (children c (c.current ++ names))))

-- one level more than the longest key has names
abbrev pub levels : Content → ℕ
levels c = suc (fold (λ n e. max n (length e.0)) 0 c.kinds)

-- all that a search gives, in order
unfoldable pub gifts : Content → Aim → List Gift
gifts c a = if nat_lt 0 a.depth then visit c a (levels c) [] else []
