-- The tokens of a pattern as a list, and their kinds.
use Rattle.std.specs.Prelude.{List, []}
use Rattle.std.specs.Result.{result_unwrap_or}
use Rattle.glob_text.specs.Text.{Text}
use Rattle.glob_pattern.specs.Grammar.Tokens.{Token}
use Rattle.glob_pattern.specs.Computing.Reading.{reading_of}
use Rattle.glob_pattern.specs.declared.pattern.tokens.TokenKind.{TokenKind}
use Rattle.glob_pattern.specs.declared.pattern.tokens.TokenKind.TheVariants as kind
use Rattle.glob_pattern.specs.declared.token.Token.TheVariants.{Literal, AnyChar, AnySequence, Recursive, OneOf, NoneOf}

-- the tokens of an accepted text; none for any other
unfoldable pub tokens_of : (pattern : Text) → List Token
tokens_of pattern = result_unwrap_or (reading_of pattern) []

-- the kind of a token
abbrev pub kind_of : Token → TokenKind
kind_of (Literal c) = kind.Literal
kind_of AnyChar = kind.AnyChar
kind_of AnySequence = kind.AnySequence
kind_of Recursive = kind.Recursive
kind_of (OneOf entries) = kind.OneOf
kind_of (NoneOf entries) = kind.NoneOf
