-- Which paths lookups hand to the strays.
use Rattle.std.specs.Prelude.{◌≡◌, ◌⊎◌, List, [], ◌∷◌, ◌++◌, Option}
use Rattle.glob_text.specs.Characters.{slash}
use Rattle.glob_text.specs.Text.{Text}
use Rattle.glob_tree.specs.Strays.{and_then}
use Rattle.glob_tree.specs.declared.tree.Look.{Look}
use Rattle.glob_tree.specs.declared.tree.Look.TheVariants as look

-- the first path is the second, or the path of a directory above it
abbrev pub IsAtOrAbove : (above path : Text) → Type 0
IsAtOrAbove above path = (path ≡ above) ⊎ ((rest : Text) × (path ≡ above ++ slash ∷ rest))

-- nothing was received, or this path
abbrev pub ReceivesAtMost : (path : Text) → (old new : Option (List Text)) → Type 0
ReceivesAtMost path old new = (new ≡ old) ⊎ (new ≡ and_then old (path ∷ []))

-- nothing was received, or one path: this path, or a path above it
abbrev pub ReceivesOnWay : (path : Text) → (old new : Option (List Text)) → Type 0
ReceivesOnWay path old new = (new ≡ old) ⊎ ((above : Text) × IsAtOrAbove above path × (new ≡ and_then old (above ∷ [])))

-- A look hands over nothing if it finds a directory, at most its own path if it finds something else, and at most one
-- path, its own or one above it, if it finds nothing.
abbrev pub IsLookReceived : (path : Text) → Look → (old new : Option (List Text)) → Type 0
IsLookReceived path look.Dir old new = new ≡ old
IsLookReceived path look.Other old new = ReceivesAtMost path old new
IsLookReceived path look.Missing old new = ReceivesOnWay path old new
