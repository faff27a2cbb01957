-- The components of a pattern as tokens, the tokens of the whole pattern, and which names the components take.
use Rattle.std.specs.Prelude.{◌≡◌, Bool, true, false, ◌&&◌, not, ◌==◌, List, [], ◌∷◌, ◌++◌}
use Rattle.std.specs.List.{list_all}
use Rattle.std.specs.Path.{has_no_slash}
use Rattle.glob_text.specs.Characters.{slash}
use Rattle.glob_text.specs.Text.{Text}
use Rattle.glob_pattern.specs.Grammar.Characters.{star}
use Rattle.glob_pattern.specs.Grammar.Tokens.{Token}
use Rattle.glob_pattern.specs.Grammar.Units.{HasUnits}
use Rattle.glob_pattern.specs.Matching.Components.{run_to_end, run_before, name_before, with_separator_rule}
use Rattle.glob_pattern.specs.declared.options.MatchOptions.{MatchOptions}
use Rattle.glob_pattern.specs.declared.token.Token.TheVariants.{Literal, AnyChar, AnySequence, Recursive, OneOf, NoneOf}
use Rattle.glob_walk.proofs.ComponentLemmas.Fits.{fits}

-- the token can be in a component: it is not `**` and not `/`
abbrev pub is_inner : Token → Bool
is_inner (Literal c) = not (c == slash)
is_inner AnyChar = true
is_inner AnySequence = true
is_inner Recursive = false
is_inner (OneOf entries) = true
is_inner (NoneOf entries) = true

-- a component: `**`, or other tokens
pub data Part : Type 0 where
  Levels : Part
  Level : List Token → Part

abbrev pub is_level : Part → Bool
is_level Levels = true
is_level (Level ts) = not (is_nil ts) && list_all is_inner ts
  where
    is_nil : List Token → Bool
    is_nil [] = true
    is_nil (u ∷ us) = false

-- the units of the pattern with these components
abbrev pub joined_tokens : List Part → List Token
joined_tokens [] = []
joined_tokens (Levels ∷ ps) = Recursive ∷ joined_tokens ps
joined_tokens (Level ts ∷ []) = ts
joined_tokens (Level ts ∷ p ∷ ps) = ts ++ Literal slash ∷ joined_tokens (p ∷ ps)

-- the components take the names
abbrev pub reaches : MatchOptions → List Part → List Text → Bool
reaches o [] names = is_empty_key names
  where
    is_empty_key : List Text → Bool
    is_empty_key [] = true
    is_empty_key (n ∷ ns) = false
reaches o (Levels ∷ []) names = run_to_end o names
reaches o (Levels ∷ p ∷ ps) names = run_before o (reaches o (p ∷ ps)) names
reaches o (Level ts ∷ ps) names = name_before (fits (with_separator_rule o) ts true) (reaches o ps) names

-- these are the parts of the components
abbrev pub AreParts : List Text → List Part → Type 0
AreParts [] [] = Unit {0}
AreParts [] (p ∷ ps) = ⊥
AreParts (t ∷ ts) [] = ⊥
AreParts (t ∷ ts) (Levels ∷ ps) = (t ≡ star ∷ star ∷ []) × AreParts ts ps
AreParts (t ∷ ts) (Level us ∷ ps) = HasUnits t us × (has_no_slash t ≡ true) × (list_all is_inner us ≡ true) × AreParts ts ps
