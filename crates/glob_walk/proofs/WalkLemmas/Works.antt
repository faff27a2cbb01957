-- The units of a listing: they are not items, and each costs one.
use Rattle.std.proofs.Common.{◌≡◌, suc, List, [], ◌∷◌, length, refl, ap}
use Rattle.glob_text.specs.Text.{Text}
use Rattle.glob_walk.specs.Walks.{items, cost}
use Rattle.glob_walk.specs.Private.Turns.{works}

pub items-works : (ps : List Text) → items (works ps) ≡ []
items-works [] = refl
items-works (p ∷ ps) = items-works ps

pub cost-works : (ps : List Text) → cost (works ps) ≡ length ps
cost-works [] = refl
cost-works (p ∷ ps) = ap suc (cost-works ps)
