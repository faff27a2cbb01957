-- How a bracket stores its entries, and the ends of an entry.
use Rattle.std.specs.Prelude.{ℕ, List, [], ◌∷◌}
use Rattle.glob_pattern.specs.declared.token.bracket.Entry.{Entry}
use Rattle.glob_pattern.specs.declared.token.bracket.Entry.TheVariants.{Single, Range}
use Rattle.glob_pattern.specs.declared.token.bracket.Entries.{Entries}
use Rattle.glob_pattern.specs.declared.token.bracket.Entries.TheVariants.{One, Many}

-- the entries, in the order of the pattern
abbrev pub entries_in : {A : Type 0} → Entries A → List Entry
entries_in (One entry) = entry ∷ []
entries_in (Many entries) = entries.items

-- the first and the last character of an entry, which are equal for a single one
abbrev pub first_of : Entry → ℕ
first_of (Single x) = x
first_of (Range x y) = x

abbrev pub last_of : Entry → ℕ
last_of (Single x) = x
last_of (Range x y) = y
