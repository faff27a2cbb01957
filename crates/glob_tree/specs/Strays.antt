-- Which names in a directory are received, and which are listed.
use Rattle.std.specs.Prelude.{◌≡◌, not, List, ◌++◌, IsPermutation, Option, option_map}
use Rattle.std.specs.List.{filter}
use Rattle.std.specs.Str.{is_utf8}
use Rattle.glob_text.specs.Text.{Text}

-- what was received before, if it is known, followed by these
abbrev pub and_then : Option (List Text) → List Text → Option (List Text)
and_then received more = option_map (λ before. before ++ more) received

-- the names that are UTF-8
abbrev pub texts_of : List Text → List Text
texts_of names = filter is_utf8 names

-- the names that are not UTF-8
abbrev pub strays_of : List Text → List Text
strays_of names = filter (λ name. not (is_utf8 name)) names

-- all strays of a directory were received, each once and in any order
abbrev pub AreReceived : (strays : List Text) → (old new : Option (List Text)) → Type 0
AreReceived strays old new = (more : List Text) × (new ≡ and_then old more) × IsPermutation strays more

-- what was received before is still there, with perhaps more after it
abbrev pub Grows : (old new : Option (List Text)) → Type 0
Grows old new = (more : List Text) × (new ≡ and_then old more)
