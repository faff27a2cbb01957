-- Masks: which of 63 neighbouring tokens take the characters of a class.
use Rattle.std.specs.Prelude.{◌≡◌, ℕ, ◌+◌, ◌*◌, ◌<◌, ◌≤◌, ◌↔◌, ◌⊎◌, Bool, true, false, if◌then◌else◌, List, [], length}
use Rattle.std.specs.Prelude.{replicate, slice_index_or, IsTrue}
use Rattle.std.specs.Int.{IsBitSet}
use Rattle.glob_text.specs.Characters.{slash, dot}
use Rattle.glob_pattern.specs.Grammar.Brackets.{is_same, holds}
use Rattle.glob_pattern.specs.Grammar.Tokens.{Token, is_recursive}
use Rattle.glob_pattern.specs.Matching.Options.{new_options}
use Rattle.glob_pattern.specs.Matching.Taking.{takes, is_excluded_separator, is_excluded_dot}
use Rattle.glob_pattern.specs.Private.Classes.{Partition, IsPartition, partition_of, class_in, columns_of}
use Rattle.glob_pattern.specs.declared.options.MatchOptions.{MatchOptions}
use Rattle.glob_pattern.specs.declared.pattern.char_masks.CharMasks.{CharMasks}
use Rattle.glob_pattern.specs.declared.pattern.char_masks.CharMasks.TheVariants.{Plain, PlainWords, Listed}
use Rattle.glob_pattern.specs.declared.pattern.char_masks.Listed as listed
use Rattle.glob_pattern.specs.declared.pattern.char_masks.row.Kinds.{Kinds}
use Rattle.glob_pattern.specs.declared.pattern.char_masks.Rows.{Rows}
use Rattle.glob_pattern.specs.declared.token.Token.TheVariants.{Literal, AnyChar, AnySequence, Recursive, OneOf, NoneOf}

-- the class of a character; `opening`: a component begins there
abbrev pub class_of : Partition → MatchOptions → (opening : Bool) → ℕ → ℕ
class_of p o opening c =
    if is_excluded_separator o c then 0
    else if is_excluded_dot o opening c then 1
    else class_in p c

-- the mask of a class
abbrev pub mask_at : List ℕ → (class : ℕ) → ℕ
mask_at masks class = slice_index_or masks class 0

-- case-sensitive or not, with neither rule
abbrev pub case_options : (case : Bool) → MatchOptions
case_options case = record new_options { case_sensitive = case }

-- the token takes a `/` that the separator rule excludes from wildcards
abbrev pub takes_separator : Token → Bool
takes_separator t = takes (record new_options { require_literal_separator = true }) false slash t

-- the token takes a `.` that the dot rule excludes from wildcards
abbrev pub takes_dot : Token → Bool
takes_dot t = takes (record new_options { require_literal_leading_dot = true }) true dot t

-- with no rule set, the token takes all characters except those it lists: it is a wildcard or a `[!..]`
abbrev pub takes_all_but_listed : Token → Bool
takes_all_but_listed (Literal c) = false
takes_all_but_listed AnyChar = true
takes_all_but_listed AnySequence = true
takes_all_but_listed Recursive = true
takes_all_but_listed (OneOf entries) = false
takes_all_but_listed (NoneOf entries) = true

-- the token is a bracket
abbrev pub is_bracket : Token → Bool
is_bracket (Literal c) = false
is_bracket AnyChar = false
is_bracket AnySequence = false
is_bracket Recursive = false
is_bracket (OneOf entries) = true
is_bracket (NoneOf entries) = true

-- the token lists the character: it is the same literal, or an entry of the bracket holds it
abbrev pub lists : (case : Bool) → ℕ → Token → Bool
lists case c (Literal x) = is_same case c x
lists case c AnyChar = false
lists case c AnySequence = false
lists case c Recursive = false
lists case c (OneOf entries) = holds case c entries
lists case c (NoneOf entries) = holds case c entries

-- the new mask is the old one, with this bit set if it is on
pub record IsWith (old new bit : ℕ) (on : Bool) : Type 0 where
  pub bits : (j : ℕ) → IsBitSet new j ↔ (IsBitSet old j ⊎ ((j ≡ bit) × IsTrue on))

-- the mask has the bits of those tokens from `start` up to `end` that pass the test
pub record IsMask (tokens : List Token) (start end : ℕ) (test : Token → Bool) (mask : ℕ) : Type 0 where
  pub bits : (j : ℕ) → j < 64
      → IsBitSet mask j
      ↔ ((start + j < end) × IsTrue (test (slice_index_or tokens (start + j) AnyChar)))

-- the token lists no character: it is a wildcard
abbrev pub is_plain : Token → Bool
is_plain (Literal c) = false
is_plain AnyChar = true
is_plain AnySequence = true
is_plain Recursive = true
is_plain (OneOf entries) = false
is_plain (NoneOf entries) = false

-- which of the tokens from `start` up to `end` are of each kind, and which list each character
pub record AreListed (tokens : List Token) (start end : ℕ) (p : Partition) (case : Bool) (row : List ℕ) (kinds : Kinds) : Type 0 where
  pub listed : (c : ℕ) → IsMask tokens start end (lists case c) (mask_at row (class_in p c))
  pub others : IsMask tokens start end takes_all_but_listed kinds.others
  pub brackets : IsMask tokens start end is_bracket kinds.brackets
  pub recursive : IsMask tokens start end is_recursive kinds.recursive

-- the masks from number `at` on say which of the 63 tokens from `start` on take the characters of each class
pub record IsRow (tokens : List Token) (start : ℕ) (p : Partition) (case : Bool) (masks : List ℕ) (at : ℕ) : Type 0 where
  pub takes : (o : MatchOptions) (opening : Bool) (c j : ℕ) → o.case_sensitive ≡ case → j < 63
      → IsBitSet (mask_at masks (at + class_of p o opening c)) j
      ↔ ((start + j < length tokens) × IsTrue (takes o opening c (slice_index_or tokens (start + j) AnyChar)))

-- each word has two neighbouring rows of masks, and one of them is described here: the first if `half` is 0
pub record AreRows (tokens : List Token) (words : ℕ) (case : Bool) (p : Partition) (masks : List ℕ) (half : ℕ) : Type 0 where
  pub partition : IsPartition p
  pub within : (word : ℕ) → word < words
      → (2 * word + half) * columns_of p + columns_of p ≤ length masks
  pub row : (word : ℕ) → word < words
      → IsRow tokens (63 * word) p case masks ((2 * word + half) * columns_of p)

-- the rows are those of the tokens for this case-sensitivity
pub record AreRowsOf (tokens : List Token) (words : ℕ) (case : Bool) (rows : Rows) : Type 0 where
  pub columns : rows.columns ≡ columns_of (partition_of rows.classes)
  pub are : AreRows tokens words case (partition_of rows.classes) rows.masks.now 0

-- all characters are in one class
abbrev pub no_partition : Partition
no_partition = record { ascii = replicate 128 2; beyond = []; begun = [] }

-- which of a word's two rows is for this case-sensitivity
abbrev pub half_of : (case : Bool) → ℕ
half_of case = if case then 0 else 1

-- the classes stored beside the masks
abbrev pub partition_in : {A : Type 0} → listed.Listed A → Partition
partition_in l = record { ascii = l.ascii; beyond = l.beyond.items; begun = l.begun.items }

-- the masks are of the tokens, in so many words
abbrev pub AreCharMasks : {A : Type 0} → List Token → (words : ℕ) → CharMasks A → Type 0
AreCharMasks tokens words (Plain masks) = (case : Bool) → AreRows tokens words case no_partition masks 0
AreCharMasks tokens words (PlainWords masks) = (case : Bool) → AreRows tokens words case no_partition masks.items (half_of case)
AreCharMasks tokens words (Listed l) =
    (case : Bool) → AreRows tokens words case (partition_in l.value) l.value.masks.items (half_of case)

-- a table of classes is stored beside the masks
abbrev pub has_table : {A : Type 0} → CharMasks A → Bool
has_table (Plain masks) = false
has_table (PlainWords masks) = false
has_table (Listed l) = true
