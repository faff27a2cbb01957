-- Reading lexemes from the left, with the alternatives so far.
use Rattle.std.specs.Prelude.{List, [], ◌∷◌, ◌++◌, map, reverse, encode_utf8, string_bytes}
use Rattle.glob_text.specs.Text.{Text}
use Rattle.std.specs.declared.string.String.{String}
use Rattle.glob_set.specs.declared.braces.expanding.Group.{Group}
use Rattle.glob_set.specs.declared.braces.lexemes.Lexeme.{Lexeme}
use Rattle.glob_set.specs.declared.braces.lexemes.Lexeme.TheVariants.{Literal, Open, Comma, Close}
use Rattle.glob_set.specs.Braces.{comma, each_with, joined}

-- an open `{`: the alternatives before it, and those between it and its last comma
pub record OpenGroup : Type 0 where
  pub before : List Text
  pub found : List Text

-- the alternatives since the last open `{` or its last comma, and all open `{`, the last one first
pub record Reading : Type 0 where
  pub texts : List Text
  pub groups : List OpenGroup

-- after a comma
abbrev pub after_comma : List Text → List OpenGroup → Reading
after_comma texts [] = record { texts = each_with texts (encode_utf8 comma); groups = [] }
after_comma texts (g ∷ gs) =
    record { texts = [] ∷ []; groups = record { before = g.before; found = g.found ++ texts } ∷ gs }

-- after a `}`
abbrev pub after_close : List Text → List OpenGroup → Reading
after_close texts [] = record { texts = texts; groups = [] }
after_close texts (g ∷ gs) = record { texts = joined g.before (g.found ++ texts); groups = gs }

-- after one more lexeme
abbrev pub after_lexeme : Lexeme → Reading → Reading
after_lexeme (Literal c) r = record { texts = each_with r.texts (encode_utf8 c); groups = r.groups }
after_lexeme Open r =
    record { texts = [] ∷ []; groups = record { before = r.texts; found = [] } ∷ r.groups }
after_lexeme Comma r = after_comma r.texts r.groups
after_lexeme Close r = after_close r.texts r.groups

-- the reading after these lexemes
abbrev pub after_lexemes : Reading → List Lexeme → Reading
after_lexemes r [] = r
after_lexemes r (l ∷ ls) = after_lexemes (after_lexeme l r) ls

-- before the first lexeme
abbrev pub start_reading : Reading
start_reading = record { texts = [] ∷ []; groups = [] }

module _ {A : Type 0} where
  -- a group of the code as an open `{`, with its texts in bytes
  abbrev pub group_of : Group A → OpenGroup
  group_of g = record { before = map string_bytes g.before.items; found = map string_bytes g.found.items }

  -- what the code has read, with the last open `{` first
  abbrev pub reading_of : List (String A) → List (Group A) → Reading
  reading_of texts groups = record { texts = map string_bytes texts; groups = reverse (map group_of groups) }
