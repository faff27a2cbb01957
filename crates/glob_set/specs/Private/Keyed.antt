-- The patterns that have a key of a text.
use Rattle.std.specs.Prelude.{◌≡◌, ◌≢◌, ℕ, ◌+◌, ◌-◌, ◌<◌, ◌≤◌, ◌⊎◌, Bool, List, [], ◌∷◌, length, slice_index}
use Rattle.std.specs.Prelude.{slice_index_or, Option, Some, None, IsTrue, Contains}
use Rattle.glob_text.specs.Characters.{slash}
use Rattle.glob_set.specs.declared.components.Component as component
use Rattle.glob_set.specs.declared.key.Key.{Key}
use Rattle.glob_set.specs.declared.key.Key.TheVariants.{Component, Beginning, Ending, Extension}
use Rattle.glob_set.specs.Private.Components.{slot_of}
use Rattle.glob_set.specs.Private.Keys.{hash_of}

-- numbers, and whether one was left out
pub record FoundNumbers : Type 0 where
  pub items : List ℕ
  pub is_full : Bool

-- the few numbers, until there are many
abbrev pub few_or_many : (few many : List ℕ) → List ℕ
few_or_many few [] = few
few_or_many few (n ∷ ns) = n ∷ ns

-- the number is there, or a number was left out
abbrev pub Keeps : FoundNumbers → ℕ → Type 0
Keeps found number = IsTrue found.is_full ⊎ Contains found.items number

-- no number is lost, and it stays known that one was left out
unfoldable pub KeepsAll : (old new : FoundNumbers) → Type 0
KeepsAll old new = (number : ℕ) → Keeps old number → Keeps new number

-- each pattern with a key that is asked for is there, or a number was left out
unfoldable pub Finds : (keys : List (Option Key)) → (asked : Key → Type 0) → FoundNumbers → Type 0
Finds keys asked found =
    (number : ℕ) (key : Key) → number < length keys → slice_index_or keys number None ≡ Some key → asked key
    → Keeps found number

-- the key has the hash
abbrev pub HasHash : (hash : ℕ) → Key → Type 0
HasHash hash key = hash_of key ≡ hash

-- the slot of a key in a table of `slots`; patterns without a key have the slot after these
abbrev pub key_slot : (key : Option Key) → (slots : ℕ) → ℕ
key_slot (Some key) slots = slot_of (hash_of key) slots
key_slot None slots = slots

-- the key is that of the component that ends before the byte, or of the part that was read
abbrev pub IsReadBefore : component.Component → (byte : ℕ) → Key → Type 0
IsReadBefore c byte (Component hash) = (byte ≡ slash) × (c.hash ≡ hash)
IsReadBefore c byte (Beginning hash len) = c ≡ record { hash = hash; len = len }
IsReadBefore c byte (Ending hash len) = ⊥
IsReadBefore c byte (Extension hash len) = ⊥

-- the next pattern in the slot, from number `from` on; the number of patterns if there is none
pub record IsNext (keys : List (Option Key)) (slots slot from next : ℕ) : Type 0 where
  pub after : from ≤ next
  pub within : next ≤ length keys
  pub here : next < length keys → key_slot (slice_index_or keys next None) slots ≡ slot
  pub between : (k : ℕ) → from ≤ k → k < next → key_slot (slice_index_or keys k None) slots ≢ slot

-- each slot leads to its first pattern, and each pattern to the next one in its slot
pub record AreLinked (keys : List (Option Key)) (firsts nexts : List ℕ) : Type 0 where
  pub some : 1 < length firsts
  pub as_many : length nexts ≡ length keys
  pub first : (slot : ℕ) → slot < length firsts → IsNext keys (length firsts - 1) slot 0 (slice_index firsts slot)
  pub each : (k : ℕ) → k < length keys
      → IsNext keys (length firsts - 1) (key_slot (slice_index_or keys k None) (length firsts - 1)) (k + 1) (slice_index nexts k)
