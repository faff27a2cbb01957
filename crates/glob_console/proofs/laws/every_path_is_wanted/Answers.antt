use Rattle.std.proofs.Common.{◌≡◌, List, [], ◌∷◌, refl, ap}
use Rattle.glob_walk.specs.Walks.{Item, Found, Unread, paths}
use Rattle.glob_console.specs.FoundPaths.{every, wanted_paths}
use Rattle.glob_console.proofs.laws.every_path_is_wanted.Goals as goal

all_wanted : (items : List Item) → wanted_paths every items ≡ paths items
all_wanted [] = refl
all_wanted (Found path ∷ items) = ap (λ ps. path ∷ ps) (all_wanted items)
all_wanted (Unread path kind ∷ items) = all_wanted items

pub returns : goal.returns
returns c = all_wanted
