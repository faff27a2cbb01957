use Rattle.std.proofs.Common.{rules, ◌≡◌, ◌∙◌, map, sym, arith}
use Rattle.std.proofs.lemmas.List.{length-map}
use Rattle.glob_pattern.specs.Grammar.Tokens.{shape_of}
use Rattle.glob_pattern.specs.declared.matcher.Shape.TheVariants.{One}
use Rattle.glob_pattern.proofs.PositionLemmas.Mapped.{mapped_at, HasOnes-first}
use Rattle.glob_pattern.proofs.pattern.ends.leading_ones.Goals as goal

pub loop-lead-preserved : goal.loop-lead-preserved
loop-lead-preserved g c =
    let tokens = c.args.tokens.now in
    let one : c.shape.result ≡ One = search (rules) in
    HasOnes-first (map shape_of tokens) c.loop-lead.lead c.loop-lead.invariant (omega (arith, length-map tokens shape_of))
    (mapped_at shape_of tokens c.loop-lead.lead c.index-tokens-lead.result One (omega arith) c.index-tokens-lead.is
    ∙ sym c.shape.ensures ∙ one)
