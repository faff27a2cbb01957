-- Adjacent `**`, which are read as one.
use Rattle.std.specs.Prelude.{Bool, true, false, ◌&&◌, not, if◌then◌else◌, List, [], ◌∷◌}
use Rattle.glob_text.specs.Text.{Text}
use Rattle.glob_walk.specs.Components.{is_recursive, begins_recursive}

-- the components with adjacent `**` merged; `after` says whether a `**` is right before them
abbrev pub merged_after : (after : Bool) → List Text → List Text
merged_after after [] = []
merged_after after (t ∷ ts) =
    if after && is_recursive t then merged_after true ts else t ∷ merged_after (is_recursive t) ts

-- the components with adjacent `**` merged
abbrev pub merged : List Text → List Text
merged ts = merged_after false ts

-- no two adjacent components are `**`
abbrev pub are_merged : List Text → Bool
are_merged [] = true
are_merged (t ∷ ts) = not (is_recursive t && begins_recursive ts) && are_merged ts
