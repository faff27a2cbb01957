use Rattle.std.proofs.Common.{◌≡◌, ℕ, ◌<◌, List, length, get_or, ap, sym, ◌∙◌, arith}
use Rattle.std.proofs.lemmas.List.{get_or_default}
use Rattle.glob_pattern.specs.Computing.Tokens.{kind_of}
use Rattle.glob_pattern.specs.Grammar.Tokens.{Token}
use Rattle.glob_pattern.specs.declared.token.Token.TheVariants.{AnyChar}
use Rattle.glob_pattern.proofs.pattern.tokens.token_kind.Goals as goal

-- the kind of a token that was read at a place
read : (tokens : List Token) (n : ℕ) (token variant : Token) → token ≡ variant → token ≡ get_or tokens n token
    → n < length tokens → kind_of variant ≡ kind_of (get_or tokens n AnyChar)
read tokens n token variant same at lt = ap kind_of (sym same ∙ at ∙ get_or_default tokens n token AnyChar lt)

pub offset_bounds-tokens_in-token : goal.offset_bounds-tokens_in-token
offset_bounds-tokens_in-token g c = rw c.tokens_in.ensures.tokens (omega (arith, c.requires))

pub bounds-tokens_in-token : goal.bounds-tokens_in-token
bounds-tokens_in-token g c = rw c.tokens_in.ensures.tokens c.requires

pub returns-in-Literal : goal.returns-in-Literal
returns-in-Literal g c = read _ _ _ _ c.in-Literal.is (rw c.tokens_in.ensures.tokens at c.index-tokens_in-token.is) c.requires

pub returns-in-AnyChar : goal.returns-in-AnyChar
returns-in-AnyChar g c = read _ _ _ _ c.in-AnyChar.is (rw c.tokens_in.ensures.tokens at c.index-tokens_in-token.is) c.requires

pub returns-in-AnySequence : goal.returns-in-AnySequence
returns-in-AnySequence g c = read _ _ _ _ c.in-AnySequence.is (rw c.tokens_in.ensures.tokens at c.index-tokens_in-token.is) c.requires

pub returns-in-Recursive : goal.returns-in-Recursive
returns-in-Recursive g c = read _ _ _ _ c.in-Recursive.is (rw c.tokens_in.ensures.tokens at c.index-tokens_in-token.is) c.requires

pub returns-in-OneOf : goal.returns-in-OneOf
returns-in-OneOf g c = read _ _ _ _ c.in-OneOf.is (rw c.tokens_in.ensures.tokens at c.index-tokens_in-token.is) c.requires

pub returns-in-NoneOf : goal.returns-in-NoneOf
returns-in-NoneOf g c = read _ _ _ _ c.in-NoneOf.is (rw c.tokens_in.ensures.tokens at c.index-tokens_in-token.is) c.requires
