use Rattle.std.proofs.Common.{◌≡◌, ◌+◌, ◌-◌, ◌≤◌, ◌∙◌, length, drop, subst, ap, arith}
use Rattle.std.proofs.lemmas.List.{drop-drop, length-drop, length-map, length-take-le, take-take}
use Rattle.glob_pattern.specs.Grammar.Tokens.{shape_of}
use Rattle.glob_pattern.specs.Private.Ends.{HasLiterals}
use Rattle.glob_pattern.proofs.MatchingLemmas.Stripped.{range-end}
use Rattle.glob_pattern.proofs.pattern.ends.Ends.of.Goals as goal

pub returns : goal.returns
returns g c =
    let tokens = c.args.tokens.now in
    let lead = c.leading_ones-lead.result in
    let trail = c.trailing_ones-trail.result in
    let first = c.leading_literals.result in
    let last = c.trailing_literals.result in
    let fits : lead + trail ≤ length tokens = omega (arith, c.trailing_ones-trail.ensures.within, length-map tokens shape_of) in
    let few_first : first.count ≤ lead = omega (arith, c.leading_literals.ensures.within, length-take-le lead tokens (omega arith)) in
    let long = length-drop (length tokens - trail) tokens in
    let same = range-end tokens (length tokens - trail) in
    let few_last : last.count ≤ trail = omega (arith, c.trailing_literals.ensures.within, long, ap length same) in
    let place : length tokens - trail + (length (drop (length tokens - trail) tokens) - last.count) ≡ length tokens -
    last.count = omega (arith, long) in
    record {
      ones = c.trailing_ones-trail.ensures;
      few_first = few_first;
      few_last = few_last;
      first = subst (λ ts. HasLiterals ts first.bytes) (take-take first.count lead tokens few_first) c.leading_literals.ensures.literals;
      last = subst (λ ts. HasLiterals ts last.bytes) (drop-drop (length (drop (length tokens - trail) tokens) -
          last.count) (length tokens - trail) tokens ∙ ap (λ k. drop k tokens) place)
          (subst (λ ts. HasLiterals (drop (length ts - last.count) ts) last.bytes) same c.trailing_literals.ensures.literals);
    }
