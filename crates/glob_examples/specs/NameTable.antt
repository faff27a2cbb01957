-- The answers that a judge of names looks up: a row for each name, with an answer for each component.
use Rattle.std.specs.Prelude.{◌≡◌, ℕ, ◌<◌, ◌⊎◌, ◌↔◌, Bool, true, false, if◌then◌else◌, List, [], length, slice_index_or, IsTrue}
use Rattle.std.specs.Str.{chars, bytes_eq}
use Rattle.glob.specs.Matching.Texts.{Matches}
use Rattle.glob.specs.Matching.Options.{new_options}
use Rattle.glob.specs.Matching.Splits.{Table}
use Rattle.glob_pattern.specs.declared.matcher.Shape.{Shape}
use Rattle.glob_pattern.specs.declared.matcher.Shape.TheVariants.{One, Run}
use Rattle.glob_examples.specs.Names.{any_names}

-- a component as a token: `**` takes any number of names, and any other component takes one
abbrev pub shape_of : (component : List ℕ) → Shape
shape_of component = if bytes_eq component any_names then Run else One

-- the component, as a token, takes the name
abbrev pub TakesName : (component name : List ℕ) → Type 0
TakesName component name = (component ≡ any_names) ⊎ Matches new_options (chars component) (chars name)

-- the lists have the same length, and R holds for their elements at each index
pub record AreAligned {X Y : Type 0} (R : X → Y → Type 0) (xs : List X) (ys : List Y) : Type 0 where
  pub count : length ys ≡ length xs
  pub each : (k : ℕ) (x : X) (y : Y) → k < length xs → R (slice_index_or xs k x) (slice_index_or ys k y)

-- the row says for each component whether it takes the name
abbrev pub IsRow : (components : List (List ℕ)) → (name : List ℕ) → (row : List Bool) → Type 0
IsRow components name row = AreAligned (λ component answer. IsTrue answer ↔ TakesName component name) components row

-- The table of the rows, for a number of components. A group of names may end anywhere, so each place opens.
unfoldable pub table_of : (components : ℕ) → (rows : List (List Bool)) → Table
table_of components rows = record {
  characters = length rows;
  tokens = components;
  opens = λ place. true;
  takes = λ component place. slice_index_or (slice_index_or rows place []) component false;
}
