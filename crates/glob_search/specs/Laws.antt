-- Laws of searches, as statements.
use Rattle.std.specs.Prelude.{Bool, List, false, not, ◌&&◌, ◌≡◌, ℕ, ◌++◌, Some, filter_map, Option, None, Contains, AllPairs}
use Rattle.std.specs.Prelude.{IsTrue, ◌↔◌, [], ◌∷◌, true}
use Rattle.std.specs.Cmp.Lexicographic.{slice_cmp}
use Rattle.std.specs.List.{All, list_all, list_any, join_with_byte}
use Rattle.std.specs.Path.{has_no_slash}
use Rattle.std.specs.Ordering.{nat_cmp, ordering_then}
use Rattle.std.specs.declared.cmp.Ordering.{Ordering}
use Rattle.std.specs.declared.cmp.Ordering.TheVariants.{Less}
use Rattle.std.specs.declared.io.ErrorKind.{ErrorKind}
use Rattle.std.specs.Str.{chars, is_utf8, IsUtf8}
use Rattle.glob_pattern.specs.Computing.Deciding.{is_match}
use Rattle.glob_pattern.specs.Grammar.Units.{IsAccepted}
use Rattle.glob_pattern.specs.Matching.Components.{with_separator_rule}
use Rattle.glob_text.specs.Characters.{slash}
use Rattle.glob_text.specs.Pieces.{is_empty, pieces}
use Rattle.glob_text.specs.Text.{Text}
use Rattle.glob_rules.specs.Deciding.{is_ignored}
use Rattle.glob_rules.specs.Lists.{Ignores}
use Rattle.glob_tree.specs.Content.{Content, Key, is_content, kind_at}
use Rattle.glob_tree.specs.declared.kind.Kind.TheVariants.{Shut}
use Rattle.glob_tree.specs.Paths.{is_proper}
use Rattle.glob_search.specs.Aims.{path_down, path_of}
use Rattle.glob_search.specs.Searching.{Aim, alive, found, is_kept, is_listed, is_taken, unread}
use Rattle.glob_search.specs.Visiting.{Gift, Found, Unread, gifts, meet}

-- A search finds exactly the names in `found`.
abbrev pub FindsTheFound : Type 0
FindsTheFound =
    (c : Content) (a : Aim) → IsTrue (is_content c)
    → (names : Key) → Contains (gifts c a) (Found names) ↔ Contains (found c a) names

-- It reports exactly the directories that cannot be listed, each with the reason.
abbrev pub ReportsTheUnread : Type 0
ReportsTheUnread =
    (c : Content) (a : Aim) → IsTrue (is_content c) → (names : Key) (kind : ErrorKind)
    → Contains (gifts c a) (Unread names kind)
    ↔ (Contains (unread c a) names × (kind_at c (c.current ++ names) ≡ Some (Shut kind)))

-- name by name in byte order; a list of names is before one that extends it
abbrev pub key_cmp : Key → Key → Ordering
key_cmp names others = slice_cmp (slice_cmp nat_cmp) names others

abbrev pub gift_names : Gift → Key
gift_names (Found names) = names
gift_names (Unread names kind) = names

-- the path of a directory comes before the error of listing it
abbrev pub turn : Gift → ℕ
turn (Found names) = 0
turn (Unread names kind) = 1

-- in the order of names; for the same names, the path first
abbrev pub gift_cmp : Gift → Gift → Ordering
gift_cmp g h = ordering_then (key_cmp (gift_names g) (gift_names h)) (nat_cmp (turn g) (turn h))

-- Each gift comes before those that follow it, so each comes once.
abbrev pub GiftsAscend : Type 0
GiftsAscend =
    (c : Content) (a : Aim) → IsTrue (is_content c)
    → AllPairs (λ g later. gift_cmp g later ≡ Less) (gifts c a)

abbrev pub found_names : Gift → Option Key
found_names (Found names) = Some names
found_names (Unread names kind) = None

-- So the names that are found are ascending.
abbrev pub FoundAscend : Type 0
FoundAscend =
    (c : Content) (a : Aim) → IsTrue (is_content c)
    → AllPairs (λ names later. key_cmp names later ≡ Less) (filter_map found_names (gifts c a))

-- The only rules are those of one file in the start directory.
pub record HasOneFile (a : Aim) (list : Ignores) : Type 0 where
  pub first : a.first ≡ []
  pub top : a.rules_in [] ≡ list ∷ []
  pub below : (n : Text) (ns : Key) → a.rules_in (n ∷ ns) ≡ []
  pub last : a.last ≡ []

-- A path and the directories above it are not ignored by the search exactly when the file does not ignore the path.
abbrev pub OneFileDecides : Type 0
OneFileDecides =
    (a : Aim) (list : Ignores) → HasOneFile a list
    → (n : Text) (ns : Key) (d : Bool) → IsTrue (list_all is_proper (n ∷ ns))
    → is_kept a [] (n ∷ ns) d ≡ not (is_ignored list (join_with_byte slash (n ∷ ns)) d)

-- If a directory is not listed, an entry gives nothing, unless it is matched by a component with which something alive
-- goes on.
abbrev pub OnlyNamedGive : Type 0
OnlyNamedGive =
    (c : Content) (a : Aim) (names : Key) (n : Text) (enter : Key → List Gift) (d : Bool)
    → is_listed a names ≡ false
    → list_any (λ b. is_match a.options (chars b.1) (chars n)) (alive a names) ≡ false
    → meet c a enter (names ++ n ∷ []) d ≡ []

-- Going down by proper names, one directory after another, leads to the path that joins them.
abbrev pub PathsJoinNames : Type 0
PathsJoinNames = (names : Key) → IsTrue (list_all is_proper names) → path_down names ≡ path_of names

-- The component makes sense by itself: it is accepted, and not empty.
abbrev pub IsLevel : (component : Text) → Type 0
IsLevel t = IsAccepted (chars t) × (is_empty t ≡ false)

-- the names are UTF-8 and have no separator
abbrev pub are_flat : Key → Bool
are_flat names = list_all (λ n. is_utf8 n && has_no_slash n) names

-- a pattern matches the path as a whole, under the separator rule
abbrev pub is_matched : Aim → (path : Text) → Bool
is_matched a path = list_any (λ p. is_match (with_separator_rule a.options) (chars p) (chars path)) a.patterns

-- What the components take, name by name, is exactly what matches the joined path.
abbrev pub TakesWholeMatches : Type 0
TakesWholeMatches =
    (a : Aim) → All (λ p. IsUtf8 p × All IsLevel (pieces p)) a.patterns
    → (n : Text) (ns : Key) → are_flat (n ∷ ns) ≡ true
    → is_taken a (n ∷ ns) ≡ is_matched a (join_with_byte slash (n ∷ ns))
