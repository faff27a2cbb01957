-- The names of a path, and how a path pattern's components match them.
use Rattle.std.specs.Prelude.{◌≡◌, ℕ, ◌==◌, ◌⊎◌, List, [], ◌∷◌, ◌++◌}
use Rattle.std.specs.List.{All, slice_split}
use Rattle.std.specs.Str.{chars}
use Rattle.glob.specs.Characters.{slash}
use Rattle.glob.specs.Grammar.Characters.{star}
use Rattle.glob.specs.Matching.Options.{new_options}
use Rattle.glob.specs.Grammar.Units.{IsAccepted}
use Rattle.glob.specs.Grammar.Faults.{Refuses}
use Rattle.glob.specs.Matching.Texts.{Matches}
use Rattle.glob_pattern.specs.declared.error.PatternRefusal.{PatternRefusal}

-- the parts of a text between separators: a path's names, or a path pattern's components
abbrev pub split_names : List ℕ → List (List ℕ)
split_names text = slice_split (λ b. b == slash) text

-- `**`, the component for any number of names
abbrev pub any_names : List ℕ
any_names = star ∷ star ∷ []

-- the component matches the group: `**` any names, and another component one name
abbrev pub StandsFor : (component : List ℕ) → (group : List (List ℕ)) → Type 0
StandsFor component group =
    (component ≡ any_names)
    ⊎ ((name : List ℕ) × (group ≡ name ∷ []) × Matches new_options (chars component) (chars name))

-- the names split into consecutive groups, one for each component, which matches it
abbrev pub NamesSplit : (components names : List (List ℕ)) → Type 0
NamesSplit [] names = names ≡ []
NamesSplit (component ∷ components) names =
    (group others : List (List ℕ)) × (names ≡ group ++ others) × StandsFor component group × NamesSplit components others

-- the component is a valid pattern
abbrev pub IsComponent : List ℕ → Type 0
IsComponent component = IsAccepted (chars component)

-- the refusal is the fault of the first invalid component, or out of memory
abbrev pub RefusesComponent : (components : List (List ℕ)) → PatternRefusal → Type 0
RefusesComponent components refusal =
    (front others : List (List ℕ)) × (component : List ℕ)
    × (components ≡ front ++ component ∷ others) × All IsComponent front × Refuses (chars component) refusal
