-- A text written as one unit per character has exactly these units.
use Rattle.std.proofs.Common.{◌≡◌, ℕ, suc, ◌+◌, ◌<◌, ◌≤◌, ◌≢◌, ◌&&◌, List, [], ◌∷◌, ◌++◌, length, drop, map}
use Rattle.std.proofs.Common.{slice_index, IsFalse, refl, sym, ap, subst, ◌∙◌, arith, flat_map}
use Rattle.std.proofs.lemmas.Bool.{and_left, cond-false}
use Rattle.glob_text.specs.Text.{Text}
use Rattle.glob_pattern.specs.Grammar.Characters.{star, question_mark, open_bracket}
use Rattle.glob_pattern.specs.Grammar.Tokens.{Token, is_recursive, begins_recursive, tokens_of_units}
use Rattle.glob_pattern.specs.Grammar.Units.{UnitAt, UnitsBetween, HasUnits, HasTokens}
use Rattle.glob_pattern.specs.Matching.Texts.{TokensMatch, Matches}
use Rattle.glob_pattern.specs.declared.options.MatchOptions.{MatchOptions}
use Rattle.glob_pattern.specs.declared.token.Token.TheVariants.{Literal}
use Rattle.glob_pattern.proofs.Places.{get_or-at_drop, length-at_drop, length-at_end, drop-after_piece, length-after_piece}

-- where a character is written, there is the unit of its token
abbrev pub WritesUnit : (written : ℕ → Text) (token : ℕ → Token) → ℕ → Type 0
WritesUnit written token c =
    (whole rest : Text) (f : ℕ) → drop f whole ≡ written c ++ rest → UnitAt whole f (token c) (f + length (written c))

-- from the place where the characters are written, there are their units
pub UnitsBetween-written : (written : ℕ → Text) (token : ℕ → Token) (cs : Text) → ((k : ℕ) → k < length cs
    → WritesUnit written token (slice_index cs k)) → (whole : Text) (f : ℕ) → drop f whole ≡ flat_map written cs
    → f ≤ length whole → UnitsBetween whole f (map token cs) (length whole)
UnitsBetween-written written token [] each whole f e h = length-at_end whole f e h
UnitsBetween-written written token (c ∷ cs) each whole f e h =
    let m : ℕ = f + length (written c) in (
      m,
      each 0 (omega arith) whole (flat_map written cs) f e,
      UnitsBetween-written written token cs (λ k l. each (suc k) (omega arith)) whole m
          (drop-after_piece whole (written c) (flat_map written cs) f e) (length-after_piece whole (written c) (flat_map written cs) f e h),
    )

-- the whole text has the units of its characters
pub HasUnits-written : (written : ℕ → Text) (token : ℕ → Token) (cs : Text) → ((k : ℕ) → k < length cs
    → WritesUnit written token (slice_index cs k)) → HasUnits (flat_map written cs) (map token cs)
HasUnits-written written token cs each = UnitsBetween-written written token cs each (flat_map written cs) 0 refl (omega arith)

-- tokens without `**` are not folded
pub tokens_of_units-map : (token : ℕ → Token) → ((c : ℕ) → IsFalse (is_recursive (token c))) → (cs : Text)
    → tokens_of_units (map token cs) ≡ map token cs
tokens_of_units-map token shallow [] = refl
tokens_of_units-map token shallow (c ∷ cs) =
    let ts : List Token = map token cs in
    cond-false (is_recursive (token c) && begins_recursive ts) (tokens_of_units ts) (token c ∷ tokens_of_units ts)
    (and_left (is_recursive (token c)) (begins_recursive ts) (shallow c))
    ∙ ap (λ us. token c ∷ us) (tokens_of_units-map token shallow cs)

-- and their tokens, if no token is `**`
pub HasTokens-written : (written : ℕ → Text) (token : ℕ → Token) (cs : Text) → ((c : ℕ) → IsFalse
    (is_recursive (token c))) → ((k : ℕ) → k < length cs → WritesUnit written token (slice_index cs k)) → HasTokens
    (flat_map written cs) (map token cs)
HasTokens-written written token cs shallow each = (
  map token cs,
  HasUnits-written written token cs each,
  sym
      (tokens_of_units-map token shallow cs),
)

-- a character that is not a wildcard stands for itself
pub UnitAt-plain : (whole rest : Text) (f c : ℕ) → (c ≢ question_mark) × (c ≢ star) × (c ≢ open_bracket) → drop f whole
    ≡ c ∷ rest → UnitAt whole f (Literal c) (f + 1)
UnitAt-plain whole rest f c plain e =
    let l : length whole ≡ f + suc (length rest) = length-at_drop whole rest f c e in
    ((omega arith, get_or-at_drop whole rest f c 0 e), plain.0, plain.1, plain.2, refl)

-- a text has no other tokens than these
abbrev pub HasOnly : Text → List Token → Type 0
HasOnly pattern tokens = (others : List Token) → HasTokens pattern others → others ≡ tokens

-- a pattern matches what its tokens match
pub tokens-from_Matches : (o : MatchOptions) (pattern text : Text) (tokens : List Token) → HasOnly pattern tokens
    → Matches o pattern text → TokensMatch o tokens text
unfolding Matches
tokens-from_Matches o pattern text tokens only (others, has, match) = subst (λ ts. TokensMatch o ts text) (only others has) match
