-- Classes of characters: what is between two neighbouring boundaries of the intervals that tokens list.
use Rattle.std.specs.Prelude.{◌≡◌, ℕ, ◌+◌, ◌<◌, ◌≤◌, Bool, true, false, ◌&&◌, nat_lt, nat_le, if◌then◌else◌, List}
use Rattle.std.specs.Prelude.{length, slice_index, slice_index_or}
use Rattle.std.specs.Char.{is_ascii_alphabetic, to_ascii_lowercase, to_ascii_uppercase}
use Rattle.std.specs.List.{All, Contains, prefix_len}
use Rattle.std.specs.List.Sorted.{IsNonDecreasing}
use Rattle.glob_pattern.specs.Grammar.Brackets.{in_range}
use Rattle.glob_pattern.specs.Grammar.Tokens.{Token}
use Rattle.glob_pattern.specs.Private.Brackets.{first_of, last_of}
use Rattle.glob_pattern.specs.declared.pattern.classes.Boundaries.{Boundaries}
use Rattle.glob_pattern.specs.declared.pattern.classes.Classes.{Classes}
use Rattle.glob_pattern.specs.declared.token.Token.TheVariants.{Literal, AnyChar, AnySequence, Recursive, OneOf, NoneOf}
use Rattle.glob_pattern.specs.declared.token.bracket.Entry.{Entry}

-- The class of each ASCII character, and where further classes begin, which are numbered on. A table says for some
-- characters how many of these have begun.
pub record Partition : Type 0 where
  pub ascii : List ℕ
  pub beyond : List ℕ
  pub begun : List ℕ

abbrev pub partition_of : Classes → Partition
partition_of c = record { ascii = c.ascii.now; beyond = c.beyond.now; begun = c.begun.now }

-- the class of the last ASCII character, which is the highest one in ASCII
abbrev pub highest : Partition → ℕ
highest p = slice_index p.ascii 127

-- the class of a character
abbrev pub class_in : Partition → ℕ → ℕ
class_in p c =
    if nat_lt c (length p.ascii) then slice_index p.ascii c
    else highest p + prefix_len (λ first. nat_le first c) p.beyond

-- how many classes there are
abbrev pub columns_of : Partition → ℕ
columns_of p = highest p + 1 + length p.beyond

-- the counts are the numbers of boundaries up to each character, from the first boundary on
abbrev pub AreCounts : (boundaries counts : List ℕ) → Type 0
AreCounts boundaries counts =
    (i : ℕ) → i < length counts
    → slice_index counts i ≡ prefix_len (λ first. nat_le first (slice_index boundaries 0 + i)) boundaries

-- ASCII characters have classes above those of the rules, the further classes begin in order, and the counts are right
pub record IsPartition (p : Partition) : Type 0 where
  pub long : length p.ascii ≡ 128
  pub least : (c : ℕ) → c < 128 → 2 ≤ slice_index p.ascii c
  pub most : (c : ℕ) → c < 128 → slice_index p.ascii c ≤ highest p
  pub rising : IsNonDecreasing p.beyond
  pub counts : AreCounts p.beyond p.begun

-- an interval begins at this ASCII character, or ends right before it
abbrev pub HasCut : (cuts : List Bool) → ℕ → Type 0
HasCut cuts c = slice_index_or cuts c false ≡ true

-- the classes of the ASCII characters before `end` rise at each cut and never fall
pub record AreAsciiClasses (cuts : List Bool) (end : ℕ) (ascii : List ℕ) : Type 0 where
  pub long : length ascii ≡ 128
  pub least : (c : ℕ) → c < 128 → 2 ≤ slice_index ascii c
  pub order : (c d : ℕ) → c ≤ d → d < end → slice_index ascii c ≤ slice_index ascii d
  pub apart : (c k d : ℕ) → c < k → k ≤ d → d < end → HasCut cuts k
      → slice_index ascii c < slice_index ascii d

-- such classes, none above `last`
pub record AreNumbered (cuts : List Bool) (end last : ℕ) (ascii : List ℕ) : Type 0 where
  pub classes : AreAsciiClasses cuts end ascii
  pub most : (c : ℕ) → c < end → slice_index ascii c ≤ last
  pub least : 2 ≤ last
  pub few : last ≤ end + 2

-- the boundaries of the characters from x to y are among these
pub record HasInterval {A : Type 0} (b : Boundaries A) (x y : ℕ) : Type 0 where
  pub first : x < 128 → HasCut b.ascii x
  pub after : y + 1 < 128 → HasCut b.ascii (y + 1)
  pub first_beyond : 128 ≤ x → Contains b.beyond.items x
  pub after_beyond : 128 ≤ y + 1 → Contains b.beyond.items (y + 1)

-- no boundary is lost
pub record Grows {A : Type 0} (old new : Boundaries A) : Type 0 where
  pub ascii : (c : ℕ) → HasCut old.ascii c → HasCut new.ascii c
  pub beyond : (c : ℕ) → Contains old.beyond.items c → Contains new.beyond.items c

-- both are ASCII letters
abbrev pub are_letters : ℕ → ℕ → Bool
are_letters x y = is_ascii_alphabetic x && is_ascii_alphabetic y

-- P holds for the characters from x to y, and, if both are letters, for those in each case
pub record EachCase (P : ℕ → ℕ → Type 0) (x y : ℕ) : Type 0 where
  pub plain : x ≤ y → P x y
  pub lower : are_letters x y ≡ true → to_ascii_lowercase x ≤ to_ascii_lowercase y
      → P (to_ascii_lowercase x) (to_ascii_lowercase y)
  pub upper : are_letters x y ≡ true → to_ascii_uppercase x ≤ to_ascii_uppercase y
      → P (to_ascii_uppercase x) (to_ascii_uppercase y)

-- P holds for the characters of an entry
abbrev pub EntryIntervals : (P : ℕ → ℕ → Type 0) → Entry → Type 0
EntryIntervals P e = EachCase P (first_of e) (last_of e)

-- P holds for each interval that the token lists
abbrev pub TokenIntervals : (P : ℕ → ℕ → Type 0) → Token → Type 0
TokenIntervals P (Literal x) = EachCase P x x
TokenIntervals P AnyChar = Unit {0}
TokenIntervals P AnySequence = Unit {0}
TokenIntervals P Recursive = Unit {0}
TokenIntervals P (OneOf entries) = All (EntryIntervals P) entries
TokenIntervals P (NoneOf entries) = All (EntryIntervals P) entries

-- P holds for each interval that a token of the list lists
abbrev pub EachInterval : (P : ℕ → ℕ → Type 0) → List Token → Type 0
EachInterval P tokens = All (TokenIntervals P) tokens

-- the characters from x to y are exactly those with a class from that of x to that of y
abbrev pub Separates : Partition → (x y : ℕ) → Type 0
Separates p x y = (c : ℕ) → in_range (class_in p x) (class_in p y) (class_in p c) ≡ in_range x y c
