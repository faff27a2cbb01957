-- How a pattern is added to the tree of beginnings.
use Rattle.std.specs.Prelude.{◌≡◌, ◌≢◌, ℕ, ◌<◌, ◌≤◌, ◌⊎◌, Bool, true, false, ◌&&◌, if◌then◌else◌, List, [], ◌∷◌, ◌++◌}
use Rattle.std.specs.Prelude.{fold, length, map, slice_get, slice_index_or, string_bytes, Option, Some, None, Contains}
use Rattle.std.specs.Prelude.{⊤}
use Rattle.std.specs.Cmp.Lexicographic.{slice_cmp}
use Rattle.std.specs.List.{All, list_any}
use Rattle.std.specs.Str.{IsUtf8}
use Rattle.glob_text.specs.Pieces.{pieces}
use Rattle.std.specs.Ordering.{nat_cmp}
use Rattle.std.specs.declared.cmp.Ordering.TheVariants.{Less, Greater}
use Rattle.glob_text.specs.Text.{Text}
use Rattle.glob_pattern.specs.Grammar.Characters.{is_wildcard, star}
use Rattle.glob_pattern.specs.Matching.Components.{is_recursive}
use Rattle.glob_pattern.specs.declared.options.MatchOptions.{MatchOptions}
use Rattle.glob_search.specs.Searching.{ended, ends_recursive}
use Rattle.glob_search.specs.Private.Nodes.{IsKey, IsNode, IsTree, LeadsTo, key_of, recursive}
use Rattle.glob_search.specs.declared.beginnings.node.Component.{Component}
use Rattle.glob_search.specs.declared.beginnings.node.Component.TheVariants as component
use Rattle.glob_search.specs.declared.beginnings.node.Literal.{Literal}
use Rattle.glob_search.specs.declared.beginnings.node.Node.{Node}
use Rattle.glob_search.specs.declared.beginnings.node.Wild.{Wild}

abbrev pub component_text : {A : Type 0} → Component A → Text
component_text (component.Literal text) = string_bytes text
component_text (component.Wild pattern) = pattern
component_text component.Deep = recursive

abbrev pub is_deep_component : {A : Type 0} → Component A → Bool
is_deep_component (component.Literal text) = false
is_deep_component (component.Wild pattern) = false
is_deep_component component.Deep = true

-- the component is of this kind
abbrev pub FitsKind : {A : Type 0} → MatchOptions → Component A → Type 0
FitsKind o (component.Literal text) = IsKey o (string_bytes text)
FitsKind o (component.Wild pattern) = (list_any is_wildcard pattern ≡ true) × (is_recursive pattern ≡ false)
FitsKind o component.Deep = ⊤

-- the component has this text
abbrev pub IsComponentOf : {A : Type 0} → MatchOptions → (text : Text) → Component A → Type 0
IsComponentOf o text c = FitsKind o c × (component_text c ≡ key_of o text)

-- where the component leads from the node, if anywhere
abbrev pub Led : {A : Type 0} → Node A → Component A → Option ℕ → Type 0
Led {A} node (component.Literal text) None = (l : Literal A) → Contains node.literals.items l → string_bytes l.text ≢ string_bytes text
Led {A} node (component.Literal text) (Some c) =
    (l : Literal A) × Contains node.literals.items l × (string_bytes l.text ≡ string_bytes text) × (l.node ≡ c)
Led {A} node (component.Wild pattern) None = ⊤
Led {A} node (component.Wild pattern) (Some c) =
    (w : Wild A) × Contains node.wilds.items w × (w.pattern ≡ pattern) × (w.node ≡ c)
Led node component.Deep led = node.deep ≡ led

-- the index of a text in an ascending list
pub record IsGap {A : Type 0} (ls : List (Literal A)) (text : Text) (i : ℕ) : Type 0 where
  pub below : (k : ℕ) (d : Literal A) → k < i → slice_cmp nat_cmp (string_bytes (slice_index_or ls k d).text) text ≡ Less
  pub above : (k : ℕ) (d : Literal A) → i ≤ k → k < length ls → slice_cmp nat_cmp (string_bytes (slice_index_or ls k d).text) text ≡ Greater

-- the node leads nowhere yet
pub record IsFresh {A : Type 0} (is_deep : Bool) (node : Node A) : Type 0 where
  pub literals : node.literals.items ≡ []
  pub wilds : node.wilds.items ≡ []
  pub deep : node.deep ≡ None
  pub ends : node.is_deep ≡ is_deep
  pub whole : node.is_whole ≡ false

-- the node leads to one more number
pub record LeadsMore {A : Type 0} (o : MatchOptions) (front : ℕ → List Text) (k c : ℕ) (old new : Node A) : Type 0 where
  pub node : IsNode o front k new
  pub leads : LeadsTo new c
  pub kept : (d : ℕ) → LeadsTo old d → LeadsTo new d
  pub whole : new.is_whole ≡ old.is_whole

-- Beginnings of a path were added to the tree, and none of them is a whole pattern.
pub record Grown {A : Type 0} (o : MatchOptions) (old new : List (Node A)) (front front' : ℕ → List Text) (path : List Text) : Type 0 where
  pub tree : IsTree o new front'
  pub longer : length old ≤ length new
  pub same : (k : ℕ) → k < length old → front' k ≡ front k
  pub wholes : (k : ℕ) (node : Node A) → slice_get new k ≡ Some node → node.is_whole ≡ true
      → (before : Node A) × (slice_get old k ≡ Some before) × (before.is_whole ≡ true)
  pub kept : (k : ℕ) (node : Node A) → slice_get old k ≡ Some node → node.is_whole ≡ true
      → (after : Node A) × (slice_get new k ≡ Some after) × (after.is_whole ≡ true)
  pub begun : (k : ℕ) → k < length new → (k < length old) ⊎ ((rest : List Text) × (path ≡ front' k ++ rest))

-- the same, and the path leads to this number
pub record GrownTo {A : Type 0} (o : MatchOptions) (old new : List (Node A)) (front : ℕ → List Text) (path : List Text)
    (c : ℕ) : Type 0 where
  pub front' : ℕ → List Text
  pub grown : Grown o old new front front' path
  pub there : c < length new
  pub is : front' c ≡ path

-- one more component; a second `**` changes nothing
abbrev pub pushed : (front : List Text) → (component : Text) → List Text
pushed front t = if ends_recursive front && is_recursive t then front else front ++ t ∷ []

-- components, one after another
abbrev pub walked : (components : List Text) → List Text
walked ts = fold pushed [] ts

-- one more name after `**`
abbrev pub finished : (front : List Text) → List Text
finished front = if ends_recursive front then front ++ (star ∷ []) ∷ [] else front

-- the node was marked as a whole pattern
pub record IsMarked {A : Type 0} (old new : List (Node A)) (at : ℕ) : Type 0 where
  pub long : length new ≡ length old
  pub here : (node : Node A) → slice_get new at ≡ Some node → node.is_whole ≡ true
  pub others : (k : ℕ) → k ≢ at → slice_get new k ≡ slice_get old k

-- the pattern was added, and nothing else
pub record Added {A : Type 0} (o : MatchOptions) (old new : List (Node A)) (front : ℕ → List Text) (pattern : Text) : Type 0 where
  pub front' : ℕ → List Text
  pub tree : IsTree o new front'
  pub longer : length old ≤ length new
  pub same : (k : ℕ) → k < length old → front' k ≡ front k
  pub utf8 : All IsUtf8 (ended (pieces pattern))
  pub wholes : (k : ℕ) (node : Node A) → slice_get new k ≡ Some node → node.is_whole ≡ true
      → ((before : Node A) × (slice_get old k ≡ Some before) × (before.is_whole ≡ true))
      ⊎ (front' k ≡ map (key_of o) (ended (pieces pattern)))
  pub kept : (k : ℕ) (node : Node A) → slice_get old k ≡ Some node → node.is_whole ≡ true
      → (after : Node A) × (slice_get new k ≡ Some after) × (after.is_whole ≡ true)
  pub begun : (k : ℕ) → k < length new
      → (k < length old) ⊎ ((rest : List Text) × (map (key_of o) (ended (pieces pattern)) ≡ front' k ++ rest))
  pub there : (k : ℕ) × (node : Node A) × (slice_get new k ≡ Some node) × (node.is_whole ≡ true)
      × (front' k ≡ map (key_of o) (ended (pieces pattern)))
