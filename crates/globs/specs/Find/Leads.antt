-- Where patterns lead: each is searched for from a place that its beginning names.
use Rattle.std.specs.Prelude.{◌-◌, ◌&&◌, ◌==◌, if◌then◌else◌, List, [], ◌∷◌, ◌++◌, length, take, bytes_eq}
use Rattle.std.specs.List.{fold, list_any}
use Rattle.glob_text.specs.Characters.{dot, slash}
use Rattle.glob_text.specs.Pieces.{begins_with, is_empty}
use Rattle.glob_text.specs.Text.{Text}
use Rattle.glob_tree.specs.Paths.{child}

-- the text without the components `.` and `..` at its beginning, each with its `/`
abbrev pub below_dots : Text → Text
below_dots [] = []
below_dots (a ∷ []) = a ∷ []
below_dots (a ∷ b ∷ []) = if a == dot && b == slash then [] else a ∷ b ∷ []
below_dots (a ∷ b ∷ c ∷ text) =
    if a == dot && b == slash then below_dots (c ∷ text)
    else (if a == dot && (b == dot && c == slash) then below_dots text else a ∷ b ∷ c ∷ text)

-- what follows the lead of a pattern, or of a path: its components `.` and `..` at the beginning, perhaps after a first
-- `/`
abbrev pub below_lead : Text → Text
below_lead [] = []
below_lead (a ∷ text) = if a == slash then below_dots text else below_dots (a ∷ text)

-- the lead: `../` of `../*.c`, and `/` of `/usr/*`
abbrev pub lead_of : Text → Text
lead_of text = take (length text - length (below_lead text)) text

-- the place to which a lead leads from a directory; each may be empty, and then leads nowhere else
abbrev pub place_at : (directory lead : Text) → Text
place_at directory lead =
    if begins_with slash lead then lead else (if is_empty lead then directory else child directory lead)

-- the patterns with this lead, from the lead's place on
abbrev pub led : (lead : Text) → (patterns : List Text) → List Text
led lead [] = []
led lead (p ∷ ps) = if bytes_eq (lead_of p) lead then below_lead p ∷ led lead ps else led lead ps

-- these leads, and a pattern's lead, unless it is among them
abbrev pub with_lead : (leads : List Text) → (pattern : Text) → List Text
with_lead leads pattern =
    if list_any (λ lead. bytes_eq lead (lead_of pattern)) leads then leads else leads ++ lead_of pattern ∷ []

-- the leads of some patterns, each once, in the order of their first patterns
abbrev pub leads_of : (patterns : List Text) → List Text
leads_of patterns = fold with_lead [] patterns
