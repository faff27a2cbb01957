-- Short patterns: matching with one never fails for lack of memory.
use Rattle.std.specs.Prelude.{◌<◌, List, length}
use Rattle.glob_text.specs.Text.{Text}
use Rattle.glob_pattern.specs.Grammar.Tokens.{Token}
use Rattle.glob_pattern.specs.Grammar.Units.{HasTokens}

-- the pattern is accepted and has at most 63 tokens
unfoldable pub IsShort : (pattern : Text) → Type 0
IsShort pattern = (tokens : List Token) × HasTokens pattern tokens × (length tokens < 64)
