-- What a walk finds, as the names of keys: the recursion of the written listing, without paths, units and errors.
use Rattle.std.specs.Prelude.{ℕ, zero, suc, Bool, true, ◌||◌, not, if◌then◌else◌, List, [], ◌∷◌, ◌++◌, map, flat_map, Option, Some, None}
use Rattle.std.specs.declared.io.ErrorKind.{ErrorKind}
use Rattle.glob_text.specs.Text.{Text}
use Rattle.glob_text.specs.Pieces.{ends_with}
use Rattle.glob_text.specs.Characters.{slash}
use Rattle.glob_walk.specs.Walks.{Item, Found, Unread, is_entered, levels}
use Rattle.glob_tree.specs.Paths.{child}
use Rattle.glob_tree.specs.Content.{Content, Key, DirEntry, kind_at, is_dir, children, sorted_entries, origin}
use Rattle.glob_walk.specs.Components.{components, Literal, Recursive, Wild, component_kind}
use Rattle.glob_walk.specs.Components.{begins_recursive, matches_name}
use Rattle.glob_pattern.specs.declared.options.MatchOptions.{MatchOptions}
use Rattle.glob_tree.specs.declared.kind.Kind.{Kind}
use Rattle.glob_tree.specs.declared.kind.Kind.TheVariants.{Dir, Shut, Other}

-- the path extended by these names
abbrev pub under : Text → Key → Text
under path [] = path
under path (n ∷ ns) = under (child path n) ns

-- what is found: the names of a key, or of a directory that cannot be listed
pub data Find : Type 0 where
  Hit : Key → Find
  Miss : Key → ErrorKind → Find

abbrev pub deepen : Text → Find → Find
deepen n (Hit ns) = Hit (n ∷ ns)
deepen n (Miss ns kind) = Miss (n ∷ ns) kind

abbrev pub item_under : Text → Find → Item
item_under path (Hit ns) = Found (under path ns)
item_under path (Miss ns kind) = Unread (under path ns) kind

-- each with this name in front
abbrev pub below : Text → List Find → List Find
below n finds = map (deepen n) finds

abbrev pub list_kind : Content → Key → Option Kind → (DirEntry → List Find) → List Find
list_kind c k None each = []
list_kind c k (Some Dir) each = flat_map each (sorted_entries (children c k))
list_kind c k (Some (Shut kind)) each = Miss [] kind ∷ []
list_kind c k (Some Other) each = []

-- the entries of a directory, if it can be listed
abbrev pub list_names : Content → Key → (DirEntry → List Find) → List Find
list_names c k each = list_kind c k (kind_at c k) each

-- the key, if something is there
abbrev pub found_names : Option Kind → (Bool → List Find) → List Find
found_names None next = []
found_names (Some kind) next = next (is_dir kind)

unfoldable pub descent_names : Content → MatchOptions → (each : Key → Text → Bool → List Find) → ℕ → Key → List Find
descent_names c o each zero k = []
descent_names c o each (suc n) k =
    list_names c k (λ e. below e.0 (each (k ++ e.0 ∷ []) e.0 e.1 ++ (if is_entered o e.0 e.1 then descent_names c o
    each n (k ++ e.0 ∷ []) else [])))

module _ (c : Content) (o : MatchOptions) (directories : Bool) where
  unfoldable mutual
    pub enter_names : List Text → Key → Bool → List Find
    enter_names [] k d = if not directories || d then Hit [] ∷ [] else []
    enter_names (t ∷ ts) k d = elim (component_kind t) [
      | Literal ↦ below t (found_names (kind_at c (k ++ t ∷ [])) (λ e. enter_names ts (k ++ t ∷ []) e))
      | Wild ↦ if d then list_names c k (λ e. below e.0 (if matches_name o t e.0 then enter_names ts (k ++ e.0 ∷ []) e.1 else [])) else []
      | Recursive ↦
          if begins_recursive ts then enter_names ts k d
          else if d then descent_names c o (meet_names ts) (levels c) k
          else []
    ]

    pub meet_names : List Text → Key → Text → Bool → List Find
    meet_names [] k name d = if is_entered o name d then Hit [] ∷ [] else []
    meet_names (t ∷ ts) k name d = if matches_name o t name then enter_names ts k d else []

module _ (c : Content) (o : MatchOptions) (directories : Bool) where
  -- what is found at this name below k, if something is there
  abbrev pub at_name : Text → List Text → Key → List Find
  at_name t ts k = found_names (kind_at c (k ++ t ∷ [])) (λ d. enter_names c o directories ts (k ++ t ∷ []) d)

  -- what is found at an entry of k, if the component matches its name
  abbrev pub at_entry : Text → List Text → Key → DirEntry → List Find
  at_entry t ts k e = if matches_name o t e.0 then enter_names c o directories ts (k ++ e.0 ∷ []) e.1 else []

  -- what a descent by `**` finds below an entry of k, n levels down
  abbrev pub past_entry : List Text → ℕ → Key → DirEntry → List Find
  past_entry ts n k e = if is_entered o e.0 e.1 then descent_names c o (meet_names c o directories ts) n (k ++ e.0 ∷ []) else []

  -- what a descent by `**` finds at an entry of k, which is met and then entered
  abbrev pub run_entry : List Text → ℕ → Key → DirEntry → List Find
  run_entry ts n k e = meet_names c o directories ts (k ++ e.0 ∷ []) e.0 e.1 ++ past_entry ts n k e

-- what a walk of the pattern finds, as names after its start
abbrev pub finds : Content → MatchOptions → (pattern : Text) → List Find
finds c o pattern = enter_names c o (ends_with slash pattern) (components pattern) (origin c pattern) true
