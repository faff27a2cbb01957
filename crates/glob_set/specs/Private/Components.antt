-- The components of a text by their hashes, and what a pattern says about them.
use Rattle.std.specs.Prelude.{◌≡◌, ℕ, ◌+◌, ◌-◌, ◌*◌, ◌%◌, ◌^◌, ◌<◌, Bool, true, ◌==◌, min, cond, List, [], ◌∷◌, length}
use Rattle.std.specs.Prelude.{take, slice_index_or, bit_and, fold, chars}
use Rattle.std.specs.List.{concat}
use Rattle.std.specs.Str.{encode_utf8_all}
use Rattle.glob_text.specs.Characters.{slash}
use Rattle.glob_text.specs.Text.{Text}
use Rattle.glob_pattern.specs.Grammar.Tokens.{Token}
use Rattle.glob_pattern.specs.Grammar.Units.{HasTokens}
use Rattle.glob_pattern.specs.Matching.Texts.{AreAllowed}
use Rattle.glob_pattern.specs.declared.options.MatchOptions.{MatchOptions}
use Rattle.glob_pattern.specs.declared.token.Token.TheVariants.{AnyChar, Recursive}
use Rattle.glob_set.specs.declared.components.Component.{Component}

-- a component before its first byte
abbrev pub start : Component
start = record { hash = 0; len = 0 }

-- the hash with one more byte, the same in upper and lower case
abbrev pub hashed : (hash byte : ℕ) → ℕ
hashed hash byte = (hash * 33 + byte % 32) % 2 ^ 32

-- the component with one more byte; `/` begins the next component
abbrev pub after : Component → ℕ → Component
after c b = cond (b == slash) start (record { hash = hashed c.hash b; len = min (c.len + 1) 255 })

-- a component ends right before these bytes
abbrev pub is_end : List ℕ → Bool
is_end [] = true
is_end (b ∷ bs) = b == slash

-- in every text that the pattern matches, this is the component read right before the piece of token `number`
unfoldable pub IsReadAt : (pattern : Text) → (number : ℕ) → Component → Type 0
IsReadAt pattern number component =
    (o : MatchOptions) (tokens : List Token) (text : Text) (pieces : List Text)
    → HasTokens (chars pattern) tokens → AreAllowed o text 0 tokens pieces
    → fold after start (encode_utf8_all (concat (take number pieces))) ≡ component

-- token `number` of the pattern, if that is accepted, is a `**` that is not the last token
unfoldable pub IsInnerRecursive : (pattern : Text) → (number : ℕ) → Type 0
IsInnerRecursive pattern number =
    (tokens : List Token) → HasTokens pattern tokens
    → (number + 1 < length tokens) × (slice_index_or tokens number AnyChar ≡ Recursive)

-- the slot of a hash in a table of `slots`
abbrev pub slot_of : (hash slots : ℕ) → ℕ
slot_of hash slots = bit_and hash (slots - 1)
