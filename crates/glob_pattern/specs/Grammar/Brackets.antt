-- The entries of a bracket, and which characters they hold.
use Rattle.std.specs.Prelude.{ℕ, Bool, ◌&&◌, ◌||◌, not, nat_le, ◌==◌, if◌then◌else◌, List, [], ◌∷◌}
use Rattle.std.specs.List.{list_any}
use Rattle.std.specs.Char.{to_ascii_lowercase, is_ascii, is_ascii_lowercase}
use Rattle.glob_pattern.specs.Grammar.Characters.{hyphen}
use Rattle.glob_text.specs.Text.{Text}
use Rattle.glob_pattern.specs.declared.token.bracket.Entry.{Entry}
use Rattle.glob_pattern.specs.declared.token.bracket.Entry.TheVariants.{Single, Range}

-- The entries of a bracket's content, from the left: three characters x-y are the range from x to y; any other
-- character is a single.
abbrev pub entries_of : Text → List Entry
entries_of [] = []
entries_of (x ∷ []) = Single x ∷ []
entries_of (x ∷ y ∷ []) = Single x ∷ Single y ∷ []
entries_of (x ∷ d ∷ y ∷ rest) =
    if d == hyphen then Range x y ∷ entries_of rest else Single x ∷ entries_of (d ∷ y ∷ rest)

-- c and x are equal, or, case-insensitively, are ASCII characters with the same lower case
abbrev pub is_same : (case : Bool) → ℕ → ℕ → Bool
is_same case c x =
    c == x || (not case && is_ascii c && is_ascii x && to_ascii_lowercase c == to_ascii_lowercase x)

-- c is one of the characters from x to y, by code point
abbrev pub in_range : ℕ → ℕ → ℕ → Bool
in_range x y c = nat_le x c && nat_le c y

-- c is between x and y once all are in lower case; all three are ASCII, and both ends are letters
abbrev pub in_folded_range : ℕ → ℕ → ℕ → Bool
in_folded_range x y c =
    is_ascii x && is_ascii y && is_ascii c
    && is_ascii_lowercase (to_ascii_lowercase x) && is_ascii_lowercase (to_ascii_lowercase y)
    && in_range (to_ascii_lowercase x) (to_ascii_lowercase y) (to_ascii_lowercase c)

-- the entry holds c
abbrev pub entry_holds : (case : Bool) → ℕ → Entry → Bool
entry_holds case c (Single x) = is_same case c x
entry_holds case c (Range x y) = in_range x y c || (not case && in_folded_range x y c)

-- an entry of the bracket holds c
abbrev pub holds : (case : Bool) → ℕ → List Entry → Bool
holds case c entries = list_any (entry_holds case c) entries
