use Rattle.std.proofs.Common.{chars, ◌≡◌, ◌∙◌, length, arith}
use Rattle.glob_pattern.specs.Computing.Tokens.{tokens_of}
use Rattle.glob_captures.proofs.span.span_of.Goals as goal

pub returns : goal.returns
returns g c =
    let inv = c.loop-token.invariant in
    let all : c.tokens_len-tokens.result ≡ length (tokens_of (chars c.args.pattern.now)) = c.tokens_len-tokens.ensures.count in
    record {
      order = inv.order;
      within = omega (arith, inv.within);
      inside = λ other. omega (arith, inv.inside (λ h. other (h ∙ all)));
      before = λ n early below. inv.before n early (omega arith);
      after = λ n late below. inv.after n late (omega arith);
    }
