use Rattle.std.proofs.Common.{ap, ◌∙◌, arith}
use Rattle.std.proofs.lemmas.List.{get_or_default}
use Rattle.glob_pattern.specs.Matching.Taking as taking
use Rattle.glob_pattern.specs.declared.token.Token.TheVariants.{AnyChar}
use Rattle.glob_pattern.proofs.pattern.tokens.token_takes.Goals as goal

pub offset_bounds-tokens_in-token : goal.offset_bounds-tokens_in-token
offset_bounds-tokens_in-token g c = rw c.tokens_in.ensures.tokens (omega (arith, c.requires))

pub bounds-tokens_in-token : goal.bounds-tokens_in-token
bounds-tokens_in-token g c = rw c.tokens_in.ensures.tokens c.requires

pub returns : goal.returns
returns g c =
    let token = c.index-tokens_in-token.result in
    let is = rw c.tokens_in.ensures.tokens at c.index-tokens_in-token.is in
    c.takes.ensures ∙ ap (taking.takes c.args.options c.args.opening c.args.c) (is ∙ get_or_default _ _ token AnyChar c.requires)
