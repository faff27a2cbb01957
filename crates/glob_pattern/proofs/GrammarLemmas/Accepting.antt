-- When a text is accepted, and what an accepted text has, for proofs in which `IsAccepted` is opaque.
use Rattle.std.proofs.Common.{List, refl}
use Rattle.glob_text.specs.Text.{Text}
use Rattle.glob_pattern.specs.Grammar.Tokens.{Token, tokens_of_units}
use Rattle.glob_pattern.specs.Grammar.Units.{HasUnits, IsAccepted, HasTokens}

-- A text with units is accepted.
pub accepted_by_units : (text : Text) (units : List Token) → HasUnits text units → IsAccepted text
unfolding IsAccepted
accepted_by_units text units has = (units, has)

-- A text with tokens is accepted.
pub accepted_by_tokens : (text : Text) (tokens : List Token) → HasTokens text tokens → IsAccepted text
accepted_by_tokens text tokens has = accepted_by_units text has.0 has.1

-- An accepted text has units.
pub units_of_accepted : (text : Text) → IsAccepted text → (units : List Token) × HasUnits text units
unfolding IsAccepted
units_of_accepted text accepted = accepted

-- An accepted text has tokens.
pub tokens_of_accepted : (text : Text) → IsAccepted text → (tokens : List Token) × HasTokens text tokens
tokens_of_accepted text accepted = let has = units_of_accepted text accepted in (tokens_of_units has.0, (has.0, has.1, refl))
