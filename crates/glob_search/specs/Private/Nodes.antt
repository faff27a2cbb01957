-- The tree of beginnings: each has a number, and leads to beginnings with one more component.
use Rattle.std.specs.Prelude.{◌≡◌, ℕ, ◌<◌, ◌⊎◌, Bool, true, false, ◌&&◌, ◌||◌, not, option_map, unwrap_or}
use Rattle.std.specs.Prelude.{if◌then◌else◌, List, [], ◌∷◌, ◌++◌, length, map, slice_get, string_bytes, Option, None}
use Rattle.std.specs.Prelude.{Some, Contains, ◌≢◌}
use Rattle.std.specs.Char.{to_ascii_lowercase}
use Rattle.std.specs.Cmp.Lexicographic.{slice_cmp}
use Rattle.std.specs.List.{All, AllPairs, list_any}
use Rattle.std.specs.Option.{ForSome}
use Rattle.std.specs.Ordering.{nat_cmp}
use Rattle.std.specs.Str.{chars, IsUtf8}
use Rattle.std.specs.declared.cmp.Ordering.TheVariants.{Less}
use Rattle.glob_text.specs.Pieces.{pieces}
use Rattle.glob_text.specs.Text.{Text}
use Rattle.glob_pattern.specs.Computing.Deciding.{is_match}
use Rattle.glob_pattern.specs.Grammar.Characters.{is_wildcard, star}
use Rattle.glob_pattern.specs.Matching.Components.{is_open, is_recursive}
use Rattle.glob_pattern.specs.declared.options.MatchOptions.{MatchOptions}
use Rattle.glob_tree.specs.Content.{Key}
use Rattle.glob_search.specs.Searching.{takes, ended, ends_recursive}
use Rattle.glob_search.specs.declared.beginnings.Beginnings.{Beginnings}
use Rattle.glob_search.specs.declared.beginnings.node.Literal.{Literal}
use Rattle.glob_search.specs.declared.beginnings.node.Node.{Node}
use Rattle.glob_search.specs.declared.beginnings.node.Wild.{Wild}

-- how a component is compared: a literal one in lower case, if matching is case-insensitive
abbrev pub key_of : MatchOptions → (component : Text) → Text
key_of o t = if o.case_sensitive || list_any is_wildcard t then t else map to_ascii_lowercase t

-- `**`
abbrev pub recursive : Text
recursive = star ∷ star ∷ []

-- a literal component as it is kept
pub record IsKey (o : MatchOptions) (text : Text) : Type 0 where
  pub literal : list_any is_wildcard text ≡ false
  pub lower : key_of o text ≡ text

-- the literals ascend by their texts, without repetition
abbrev pub AreAscending : {A : Type 0} → List (Literal A) → Type 0
AreAscending literals = AllPairs (λ l m. slice_cmp nat_cmp (string_bytes l.text) (string_bytes m.text) ≡ Less) literals

-- What a node means. `front` has the components that lead to each number.
pub record IsNode {A : Type 0} (o : MatchOptions) (front : ℕ → List Text) (number : ℕ) (node : Node A) : Type 0 where
  pub literals : All (λ l. (front l.node ≡ front number ++ string_bytes l.text ∷ []) × IsKey o (string_bytes l.text)) node.literals.items
  pub ascend : AreAscending node.literals.items
  pub wilds : All (λ w. (front w.node ≡ front number ++ w.pattern ∷ []) × (list_any is_wildcard w.pattern ≡ true) ×
      (is_recursive w.pattern ≡ false)) node.wilds.items
  pub deep : ForSome node.deep (λ d. (front d ≡ front number ++ recursive ∷ []) × (node.is_deep ≡ false))
  pub ends : node.is_deep ≡ ends_recursive (front number)

-- the literal component with this text leads to the number, or there is none
abbrev pub LiteralLeads : {A : Type 0} → Node A → (text : Text) → Option ℕ → Type 0
LiteralLeads {A} node text None = (l : Literal A) → Contains node.literals.items l → string_bytes l.text ≢ text
LiteralLeads {A} node text (Some number) =
    ((l : Literal A) × Contains node.literals.items l × (string_bytes l.text ≡ text) × (l.node ≡ number))
    × ((l : Literal A) → Contains node.literals.items l → string_bytes l.text ≡ text → l.node ≡ number)

-- a component leads from the node to this number
abbrev pub LeadsTo : {A : Type 0} → Node A → ℕ → Type 0
LeadsTo {A} node number =
    ((l : Literal A) × Contains node.literals.items l × (l.node ≡ number))
    ⊎ (((w : Wild A) × Contains node.wilds.items w × (w.node ≡ number)) ⊎ (node.deep ≡ Some number))

-- the nodes are a tree from the empty beginning on
pub record IsTree {A : Type 0} (o : MatchOptions) (nodes : List (Node A)) (front : ℕ → List Text) : Type 0 where
  pub root : front 0 ≡ []
  pub each : (k : ℕ) (node : Node A) → slice_get nodes k ≡ Some node → IsNode o front k node
  pub led : (c : ℕ) → c < length nodes → (c ≡ 0) ⊎ ((k : ℕ) × (node : Node A) × (slice_get nodes k ≡ Some node) × LeadsTo node c)

-- these numbers were added to a list, in any order
pub record Adds (P : ℕ → Type 0) (old new : List ℕ) : Type 0 where
  pub only : (k : ℕ) → Contains new k → Contains old k ⊎ P k
  pub kept : (k : ℕ) → Contains old k → Contains new k
  pub added : (k : ℕ) → P k → Contains new k

-- a number makes alive itself and the number to which `**` leads from it
abbrev pub Enlivens : {A : Type 0} → List (Node A) → (number k : ℕ) → Type 0
Enlivens {A} nodes number k =
    (number ≡ k) ⊎ ((node : Node A) × (slice_get nodes number ≡ Some node) × (node.deep ≡ Some k))

-- the literals of a node make alive what they lead to, for a name
abbrev pub LiteralStep : {A : Type 0} → List (Node A) → (key : Text) → Node A → (k : ℕ) → Type 0
LiteralStep {A} nodes key node k =
    (l : Literal A) × Contains node.literals.items l × (string_bytes l.text ≡ key) × Enlivens nodes l.node k

-- the components with wildcards that match a name make alive what they lead to
abbrev pub WildTakes : {A : Type 0} → List (Node A) → MatchOptions → (name : Text) → Wild A → (k : ℕ) → Type 0
WildTakes nodes o name w k = (is_match o (chars w.pattern) (chars name) ≡ true) × Enlivens nodes w.node k

abbrev pub WildStep : {A : Type 0} → List (Node A) → MatchOptions → (name : Text) → List (Wild A) → (k : ℕ) → Type 0
WildStep {A} nodes o name wilds k = (w : Wild A) × Contains wilds w × WildTakes nodes o name w k

-- a number stays alive if it ends in a `**` that may take the name
abbrev pub Stays : {A : Type 0} → MatchOptions → (name : Text) → Node A → (number k : ℕ) → Type 0
Stays o name node number k = (node.is_deep ≡ true) × (is_open o name ≡ true) × (number ≡ k)

-- the name and its key lead from one number to another
abbrev pub Steps : {A : Type 0} → List (Node A) → MatchOptions → (name key : Text) → (number k : ℕ) → Type 0
Steps {A} nodes o name key number k =
    (node : Node A) × (slice_get nodes number ≡ Some node)
    × (Stays o name node number k
    ⊎ (LiteralStep nodes key node k ⊎ WildStep nodes o name node.wilds.items k))

-- the name and its key lead there from one of these numbers
abbrev pub StepsFrom : {A : Type 0} → List (Node A) → MatchOptions → (name key : Text) → (alive : List ℕ) → (k : ℕ) → Type 0
StepsFrom nodes o name key alive k = (number : ℕ) × Contains alive number × Steps nodes o name key number k

-- the text by which a name is compared with literals
abbrev pub folded : (case : Bool) → (name : Text) → Text
folded true name = name
folded false name = map to_ascii_lowercase name

-- these are the numbers below n whose components take the names
pub record AreTaken (o : MatchOptions) (front : ℕ → List Text) (count : ℕ) (names : Key) (numbers : List ℕ) : Type 0 where
  pub taken : All (λ k. (k < count) × (takes o (front k) names ≡ true)) numbers
  pub each : (k : ℕ) → k < count → takes o (front k) names ≡ true → Contains numbers k

-- the numbers are the beginnings that take the names
unfoldable pub AreAlive : {A : Type 0} → Beginnings A → (names : Key) → (numbers : List ℕ) → Type 0
AreAlive b names numbers =
    (front : ℕ → List Text) → IsTree b.options b.nodes.items front
    → AreTaken b.options front (length b.nodes.items) names numbers

-- the components of each of these patterns
abbrev pub components_of : (patterns : List Text) → List (List Text)
components_of patterns = map (λ p. ended (pieces p)) patterns

-- The nodes are the beginnings of these patterns, and mark the whole patterns.
pub record AreBeginnings {A : Type 0} (o : MatchOptions) (patterns : List Text) (b : Beginnings A) : Type 0 where
  pub options : b.options ≡ o
  pub front : ℕ → List Text
  pub tree : IsTree b.options b.nodes.items front
  pub utf8 : (ts : List Text) → Contains (components_of patterns) ts → All IsUtf8 ts
  pub begun : (k : ℕ) → k < length b.nodes.items → (k ≡ 0) ⊎ ((first rest : List Text) × Contains
      (components_of patterns) (first ++ rest) × (front k ≡ map (key_of o) first))
  pub whole : (k : ℕ) (node : Node A) → slice_get b.nodes.items k ≡ Some node → node.is_whole ≡ true
      → (ts : List Text) × Contains (components_of patterns) ts × (front k ≡ map (key_of o) ts)
  pub each : (ts : List Text) → Contains (components_of patterns) ts
      → (k : ℕ) × (node : Node A) × (slice_get b.nodes.items k ≡ Some node) × (node.is_whole ≡ true) × (front k ≡ map (key_of o) ts)

-- these names, ascending and each once, are the ones by which the beginnings go on
pub record AreNames (names : List Text) (begun : List (List Text × Text)) : Type 0 where
  pub ascend : AllPairs (λ s t. slice_cmp nat_cmp s t ≡ Less) names
  pub each : (b : List Text × Text) → Contains begun b → Contains names b.1
  pub only : (t : Text) → Contains names t → (front : List Text) × Contains begun (front, t)

-- there is a node with this number, and it passes the test
abbrev pub node_says : {A : Type 0} → (Node A → Bool) → List (Node A) → (number : ℕ) → Bool
node_says test nodes number = unwrap_or (option_map test (slice_get nodes number)) false

abbrev pub is_none_left : {X : Type 0} → List X → Bool
is_none_left [] = true
is_none_left (x ∷ xs) = false

abbrev pub is_missing : Option ℕ → Bool
is_missing None = true
is_missing (Some n) = false

-- the node leads on only by literal components
abbrev pub has_only_literals : {A : Type 0} → Node A → Bool
has_only_literals node = not node.is_deep && is_missing node.deep && is_none_left node.wilds.items

abbrev pub node_goes_on : {A : Type 0} → Node A → Bool
node_goes_on node = not (has_only_literals node) || not (is_none_left node.literals.items)

-- the node leads on only by names that can be looked up
abbrev pub is_looked_up : {A : Type 0} → MatchOptions → Node A → Bool
is_looked_up o node = has_only_literals node && (o.case_sensitive || is_none_left node.literals.items)

-- the texts of the literals of a node
abbrev pub literal_texts : {A : Type 0} → List (Node A) → (number : ℕ) → List Text
literal_texts nodes number =
    unwrap_or (option_map (λ node. map (λ l. string_bytes l.text) node.literals.items) (slice_get nodes number)) []
