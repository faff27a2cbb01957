-- Laws of what is written, as statements.
use Rattle.std.specs.Prelude.{◌≡◌, List}
use Rattle.glob_walk.specs.Walks.{Item, paths}
use Rattle.glob_console.specs.FoundPaths.{every, wanted_paths}

-- if every path is wanted, the wanted paths are all paths
abbrev pub EveryPathIsWanted : Type 0
EveryPathIsWanted = (items : List Item) → wanted_paths every items ≡ paths items
