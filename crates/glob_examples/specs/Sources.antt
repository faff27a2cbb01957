-- What `sources` returns: all paths that a plain pattern matches.
use Rattle.std.specs.Prelude.{◌≡◌, List, Contains, ◌↔◌}
use Rattle.glob.specs.Content.{Content}
use Rattle.glob.specs.Goal.{goal, IsOrderly}
use Rattle.glob.specs.Walks.{listing, items, paths}
use Rattle.glob.specs.Matching.Options.{new_options}
use Rattle.glob.specs.Text.{Text}

-- The files are exactly the paths that the undivided pattern matches. They are the paths of the written listing, in its
-- order. As far as the pattern's `**` components allow, each comes once and in order.
pub record AreSources (c : Content) (pattern : Text) (files : List Text) : Type 0 where
  pub exact : (path : Text) → Contains files path ↔ Contains (goal c new_options pattern) path
  pub orderly : IsOrderly pattern files
  pub listed : files ≡ paths (items (listing c new_options pattern))
