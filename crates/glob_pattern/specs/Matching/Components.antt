-- Which names the components of a pattern take, level by level.
use Rattle.std.specs.Prelude.{Bool, true, false, ◌&&◌, ◌||◌, not, if◌then◌else◌, List, [], ◌∷◌, bytes_eq, IsTrue, IsFalse}
use Rattle.std.specs.Path.{has_no_slash}
use Rattle.glob_text.specs.Pieces.{is_empty}
use Rattle.glob_text.specs.Text.{Text}
use Rattle.glob_pattern.specs.Grammar.Characters.{star}
use Rattle.glob_pattern.specs.Grammar.Units.{IsAccepted}
use Rattle.glob_pattern.specs.Matching.Taking.{is_excluded_dot}
use Rattle.glob_pattern.specs.declared.options.MatchOptions.{MatchOptions}

-- the component is `**`
abbrev pub is_recursive : (component : Text) → Bool
is_recursive component = bytes_eq component (star ∷ star ∷ [])

-- `**` may take the name: the dot rule does not exclude its first character; `opening`: a component starts there
abbrev pub admits : MatchOptions → (opening : Bool) → (name : Text) → Bool
admits o opening [] = true
admits o opening (c ∷ cs) = not (is_excluded_dot o opening c)

-- `**` may take a component of this name
abbrev pub is_open : MatchOptions → (name : Text) → Bool
is_open o name = admits o true name

-- `**` takes all the names, at least one
abbrev pub run_to_end : MatchOptions → (names : List Text) → Bool
run_to_end o [] = false
run_to_end o (n ∷ []) = is_open o n
run_to_end o (n ∷ m ∷ ns) = is_open o n && run_to_end o (m ∷ ns)

-- `**` takes some of the names, perhaps none, and what follows takes the rest, at least one
abbrev pub run_before : MatchOptions → (follows : List Text → Bool) → (names : List Text) → Bool
run_before o follows [] = false
run_before o follows (n ∷ ns) = follows (n ∷ ns) || (is_open o n && run_before o follows ns)

-- a component takes the first name, and what follows takes the rest
abbrev pub name_before : (takes : Text → Bool) → (follows : List Text → Bool) → (names : List Text) → Bool
name_before takes follows [] = false
name_before takes follows (n ∷ ns) = takes n && follows ns

-- The components take the names: `**` takes any number of them, a last `**` at least one, and any other component takes
-- one name that it matches.
abbrev pub takes_names : MatchOptions → (matches : (component name : Text) → Bool) → (components names : List Text) → Bool
takes_names o matches [] [] = true
takes_names o matches [] (n ∷ ns) = false
takes_names o matches (t ∷ []) names =
    if is_recursive t then run_to_end o names else name_before (matches t) (takes_names o matches []) names
takes_names o matches (t ∷ u ∷ us) names =
    if is_recursive t then run_before o (takes_names o matches (u ∷ us)) names
    else name_before (matches t) (takes_names o matches (u ∷ us)) names

-- the options with the separator rule
abbrev pub with_separator_rule : MatchOptions → MatchOptions
with_separator_rule o = record o { require_literal_separator = true }

-- a pattern of one level: accepted, not empty, and without separators
abbrev pub IsComponent : Text → Type 0
IsComponent t = IsAccepted t × IsTrue (has_no_slash t) × IsFalse (is_empty t)

abbrev pub AreComponents : List Text → Type 0
AreComponents [] = Unit {0}
AreComponents (t ∷ ts) = IsComponent t × AreComponents ts
