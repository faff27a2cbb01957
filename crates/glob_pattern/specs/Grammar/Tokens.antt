-- Tokens: what the units of a pattern mean.
use Rattle.std.specs.Prelude.{Bool, true, false, ◌&&◌, if◌then◌else◌, List, [], ◌∷◌}
use Rattle.glob_pattern.specs.declared.token.bracket.Entry.{Entry}
use Rattle.glob_pattern.specs.declared.token.Token as kept
use Rattle.glob_pattern.specs.declared.token.Token.TheVariants.{Literal, AnyChar, AnySequence, Recursive, OneOf, NoneOf}
use Rattle.glob_pattern.specs.declared.matcher.Shape.{Shape}
use Rattle.glob_pattern.specs.declared.matcher.Shape.TheVariants as shape

-- A token: a literal, any character (`?`), any sequence (`*`), a recursive wildcard (`**`), or a bracket with its
-- entries.
abbrev pub Token : Type 0
Token = kept.Token (List Entry)

-- the token is `**`
abbrev pub is_recursive : Token → Bool
is_recursive Recursive = true
is_recursive (Literal c) = false
is_recursive AnyChar = false
is_recursive AnySequence = false
is_recursive (OneOf entries) = false
is_recursive (NoneOf entries) = false

-- the token takes one character: it is neither `*` nor `**`
abbrev pub takes_one : Token → Bool
takes_one (Literal c) = true
takes_one AnyChar = true
takes_one AnySequence = false
takes_one Recursive = false
takes_one (OneOf entries) = true
takes_one (NoneOf entries) = true

-- the first of the tokens is `**`
abbrev pub begins_recursive : List Token → Bool
begins_recursive [] = false
begins_recursive (t ∷ ts) = is_recursive t

-- the last of the tokens is `**`
abbrev pub ends_recursive : List Token → Bool
ends_recursive [] = false
ends_recursive (t ∷ []) = is_recursive t
ends_recursive (t ∷ u ∷ ts) = ends_recursive (u ∷ ts)

-- the tokens of units: neighbouring `**` become one
abbrev pub tokens_of_units : List Token → List Token
tokens_of_units [] = []
tokens_of_units (t ∷ ts) =
    if is_recursive t && begins_recursive ts then tokens_of_units ts else t ∷ tokens_of_units ts

-- which pieces a token can match
abbrev pub shape_of : Token → Shape
shape_of (Literal c) = shape.One
shape_of AnyChar = shape.One
shape_of AnySequence = shape.Run
shape_of Recursive = shape.Deep
shape_of (OneOf entries) = shape.One
shape_of (NoneOf entries) = shape.One
