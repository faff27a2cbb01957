-- With no rule set, a last wildcard takes all that is left.
use Rattle.std.proofs.Common.{◌≡◌, ◌≢◌, ℕ, ◌≤◌, Bool, true, false, List, length, map, take, get_or, refl, sym, ap, ◌∙◌, arith}
use Rattle.std.proofs.lemmas.Bool.{or_parts}
use Rattle.std.proofs.lemmas.List.{get_or-map, get_or-take}
use Rattle.glob_text.specs.Text.{Text}
use Rattle.glob_pattern.specs.Grammar.Tokens.{Token, shape_of}
use Rattle.glob_pattern.specs.Matching.Taking.{takes, has_rules}
use Rattle.glob_pattern.specs.Private.Positions.{EndsFreely, TakesRest}
use Rattle.glob_pattern.specs.Private.TextTable.{opens_within, table_within}
use Rattle.glob_pattern.specs.declared.matcher.Shape.TheVariants.{One}
use Rattle.glob_pattern.specs.declared.options.MatchOptions.{MatchOptions}
use Rattle.glob_pattern.specs.declared.token.Token.TheVariants.{Literal, AnyChar, AnySequence, Recursive, OneOf, NoneOf}

-- options with no rule set are the same with both rules unset
pub unruled-same : (o : MatchOptions) → has_rules o ≡ false
    → record o { require_literal_separator = false; require_literal_leading_dot = false } ≡ o
unruled-same o free =
    let both = or_parts o.require_literal_separator o.require_literal_leading_dot free in
    ap (λ b. record o { require_literal_separator = b; require_literal_leading_dot = false }) (sym both.0)
    ∙ ap (λ b. record o { require_literal_leading_dot = b }) (sym both.1)

-- a wildcard takes each character
takes-freely : (o : MatchOptions) (opening : Bool) (c : ℕ) (t : Token) → has_rules o ≡ false → shape_of t ≢ One → takes o opening c t ≡ true
takes-freely o opening c (Literal x) free grows = absurd (grows refl)
takes-freely o opening c AnyChar free grows = absurd (grows refl)
takes-freely o opening c AnySequence free grows = let both = or_parts o.require_literal_separator
    o.require_literal_leading_dot free in rw (both.0, both.1) refl
takes-freely o opening c Recursive free grows = rw (or_parts o.require_literal_separator o.require_literal_leading_dot free).1 refl
takes-freely o opening c (OneOf e) free grows = absurd (grows refl)
takes-freely o opening c (NoneOf e) free grows = absurd (grows refl)

-- if no rule applies, a last wildcard that may end anywhere takes the rest
pub TakesRest-freely : (opening : Bool) (o : MatchOptions) (tokens : List Token) (text : Text) (end n : ℕ)
    → has_rules o ≡ false → end ≤ length tokens
    → EndsFreely (map shape_of tokens) end n → TakesRest (table_within opening o (take end tokens) text) (map shape_of tokens) end n
unfolding table_within
TakesRest-freely opening o tokens text end n unruled within free =
    let asked = get_or-take end tokens n AnyChar (omega (arith, free.last)) in
    let shape : get_or (map shape_of tokens) n One ≡ shape_of (get_or tokens n AnyChar) = get_or-map shape_of tokens n
    AnyChar One (omega (arith, free.last, within)) in
    record {
      free = free;
      takes = λ k from below. rw asked (takes-freely o (opens_within opening text k) (get_or text k 0) (get_or tokens n AnyChar) unruled
          (λ one. free.grows (rw shape one)));
    }
