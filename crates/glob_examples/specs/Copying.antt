-- What a copy tool copies.
use Rattle.std.specs.Prelude.{◌≡◌, ◌↔◌, List, ◌∷◌, ◌++◌, Contains}
use Rattle.glob.specs.Characters.{slash}
use Rattle.glob.specs.Content.{Content}
use Rattle.glob.specs.Goal.{goal, IsOrderly}
use Rattle.glob.specs.Lines.{AreKept}
use Rattle.glob.specs.Walks.{listing, items, paths}
use Rattle.glob.specs.Matching.Options.{new_options}
use Rattle.glob.specs.Text.{Text}
use Rattle.glob_set.specs.Sets.{Set, AnyMatch}

-- the rules: the set of patterns for what is copied, and the set for what is not
pub record CopyRules : Type 0 where
  pub include : Set
  pub exclude : Set

-- some include pattern matches the path, and no exclude pattern does
unfoldable pub Copies : CopyRules → (path : Text) → Type 0
Copies rules path =
    AnyMatch rules.include.options rules.include.patterns path
    × (¬ (AnyMatch rules.exclude.options rules.exclude.patterns path))

-- The files are all paths in the tree that the undivided pattern matches and the rules copy, in the order of the
-- written listing. As far as the pattern's `**` components allow, each comes once and in order.
pub record AreToCopy (c : Content) (pattern : Text) (rules : CopyRules) (files : List Text) : Type 0 where
  pub exact : (path : Text)
      → Contains files path ↔ (Contains (goal c new_options pattern) path × Copies rules path)
  pub orderly : IsOrderly pattern files
  pub listed : AreKept (Copies rules) (paths (items (listing c new_options pattern))) files

-- the text is the folder, a separator, and anything after it
unfoldable pub IsBelow : (folder text : Text) → Type 0
IsBelow folder text = (rest : Text) × (text ≡ folder ++ slash ∷ rest)
