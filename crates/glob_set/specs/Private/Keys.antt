-- Keys: what all texts matched by a pattern have, and what a text is looked up by.
use Rattle.std.specs.Prelude.{◌≡◌, ℕ, ◌+◌, ◌*◌, ◌%◌, ◌^◌, ◌<◌, ◌≤◌, ◌⊎◌, bit_or, List, [], ◌∷◌, ◌++◌, length, drop}
use Rattle.std.specs.Prelude.{reverse, slice_index_or, fold, Option, None, IfSome, IsTrue, chars}
use Rattle.std.specs.List.{concat}
use Rattle.std.specs.Str.{IsUtf8, encode_utf8_all}
use Rattle.glob_text.specs.Characters.{dot}
use Rattle.glob_text.specs.Text.{Text}
use Rattle.glob_pattern.specs.Grammar.Tokens.{Token}
use Rattle.glob_pattern.specs.Grammar.Units.{HasTokens}
use Rattle.glob_pattern.specs.Matching.Texts.{AreAllowed, Matches}
use Rattle.glob_pattern.specs.declared.options.MatchOptions.{MatchOptions}
use Rattle.glob_set.specs.declared.key.Key.{Key}
use Rattle.glob_set.specs.declared.key.Key.TheVariants.{Component, Beginning, Ending, Extension}
use Rattle.glob_set.specs.declared.key.Kinds.{Kinds}
use Rattle.glob_set.specs.Private.Components.{after, hashed, is_end, start}

-- the hash of a key
abbrev pub hash_of : Key → ℕ
hash_of (Component hash) = hash
hash_of (Beginning hash len) = hash
hash_of (Ending hash len) = hash
hash_of (Extension hash len) = hash

-- the hash of bytes read backwards
abbrev pub hash_back : List ℕ → ℕ
hash_back bytes = fold hashed 0 (reverse bytes)

-- the key of a component of the text, or of the beginning of one
abbrev pub IsComponentOf : (bytes : List ℕ) → Key → Type 0
IsComponentOf bytes (Component hash) =
    (front : List ℕ) × (back : List ℕ) × (bytes ≡ front ++ back) × IsTrue (is_end back)
    × ((fold after start front).hash ≡ hash)
IsComponentOf bytes (Beginning hash len) =
    (front : List ℕ) × (back : List ℕ) × (bytes ≡ front ++ back)
    × (fold after start front ≡ record { hash = hash; len = len })
IsComponentOf bytes (Ending hash len) = ⊥
IsComponentOf bytes (Extension hash len) = ⊥

-- the key is that of the last bytes of the text
abbrev pub IsEndingOf : (bytes : List ℕ) → Key → Type 0
IsEndingOf bytes (Component hash) = ⊥
IsEndingOf bytes (Beginning hash len) = ⊥
IsEndingOf bytes (Ending hash len) =
    (front : List ℕ) × (back : List ℕ) × (bytes ≡ front ++ back) × (length back ≡ len) × (hash_back back ≡ hash)
IsEndingOf bytes (Extension hash len) =
    (front : List ℕ) × (back : List ℕ) × (bytes ≡ front ++ dot ∷ back) × (length back ≡ len) × (hash_back back ≡ hash)

-- the text is looked up by the key
abbrev pub IsKeyOf : (bytes : List ℕ) → Key → Type 0
IsKeyOf bytes key = IsComponentOf bytes key ⊎ IsEndingOf bytes key

-- every text that the pattern matches is looked up by the key
unfoldable pub HasKey : (pattern : Text) → Key → Type 0
HasKey pattern key =
    (o : MatchOptions) (bytes : List ℕ) → IsUtf8 bytes → Matches o (chars pattern) (chars bytes) → IsKeyOf bytes key

-- in every text that the pattern matches, the pieces from token `number` on have `len` bytes with this hash, read
-- backwards
unfoldable pub IsReadBack : (pattern : Text) → (number hash len : ℕ) → Type 0
IsReadBack pattern number hash len =
    (o : MatchOptions) (tokens : List Token) (text : Text) (pieces : List Text)
    → HasTokens (chars pattern) tokens → AreAllowed o text 0 tokens pieces
    → (length (encode_utf8_all (concat (drop number pieces))) ≡ len)
    × (hash_back (encode_utf8_all (concat (drop number pieces))) ≡ hash)

-- for each pattern, in order, one of its keys or `None`
pub record AreKeys (patterns : List Text) (keys : List (Option Key)) : Type 0 where
  pub same_length : length keys ≡ length patterns
  pub each : (k : ℕ) → k < length patterns → IfSome (slice_index_or keys k None) (HasKey (slice_index_or patterns k []))

-- the keys of the first n patterns, one pattern after the other: those of each pattern are between its start and the
-- next
pub record AreListed (patterns : List Text) (n : ℕ) (keys : List Key) (starts : List ℕ) : Type 0 where
  pub as_many : length starts ≡ n + 1
  pub last : slice_index_or starts n 0 ≡ length keys
  pub order : (k : ℕ) → k < n → slice_index_or starts k 0 ≤ slice_index_or starts (k + 1) 0
  pub within : (k : ℕ) → k < n + 1 → slice_index_or starts k 0 ≤ length keys
  pub each : (k j : ℕ) (d : Key) → k < n → slice_index_or starts k 0 ≤ j → j < slice_index_or starts (k + 1) 0
      → HasKey (slice_index_or patterns k []) (slice_index_or keys j d)

-- the bit of a length in bytes; lengths from 64 on share the bits of shorter ones
abbrev pub length_bit : (len : ℕ) → ℕ
length_bit len = 1 * 2 ^ (len % 64) % 2 ^ 64

-- the bit of the length is among these
abbrev pub HasLength : (lengths len : ℕ) → Type 0
HasLength lengths len = bit_or lengths (length_bit len) ≡ lengths

-- the kind of the key is among these
abbrev pub HasKind : Kinds → Key → Type 0
HasKind kinds (Component hash) = IsTrue kinds.components
HasKind kinds (Beginning hash len) = IsTrue kinds.components × HasLength kinds.beginnings len
HasKind kinds (Ending hash len) = (len ≤ kinds.longest) × HasLength kinds.endings len
HasKind kinds (Extension hash len) = len ≤ kinds.longest

-- no kind is lost
unfoldable pub KeepsKinds : (old new : Kinds) → Type 0
KeepsKinds old new = (key : Key) → HasKind old key → HasKind new key

-- the kinds of all keys are among these
unfoldable pub AreKinds : (keys : List (Option Key)) → Kinds → Type 0
AreKinds keys kinds = (k : ℕ) → k < length keys → IfSome (slice_index_or keys k None) (HasKind kinds)
