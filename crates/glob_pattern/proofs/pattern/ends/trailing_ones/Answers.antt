use Rattle.std.proofs.Common.{rules, ◌≡◌, ◌∙◌, ◌-◌, length, map, sym, arith}
use Rattle.std.proofs.lemmas.List.{length-map}
use Rattle.glob_pattern.specs.Grammar.Tokens.{shape_of}
use Rattle.glob_pattern.specs.declared.matcher.Shape.TheVariants.{One}
use Rattle.glob_pattern.proofs.PositionLemmas.Mapped.{mapped_at, HasOnes-last}
use Rattle.glob_pattern.proofs.pattern.ends.trailing_ones.Goals as goal

pub loop-trail-preserved : goal.loop-trail-preserved
loop-trail-preserved g c =
    let tokens = c.args.tokens.now in
    let one : c.shape.result ≡ One = search (rules) in
    let long = length-map tokens shape_of in
    let place = length tokens - 1 - c.loop-trail.trail in
    let same : length (map shape_of tokens) - 1 - c.loop-trail.trail ≡ place = omega (arith, long) in
    HasOnes-last (map shape_of tokens) c.args.lead c.loop-trail.trail c.loop-trail.invariant (omega (arith, long))
    (rw same (mapped_at shape_of tokens place c.index-tokens-tokens.result One (omega arith) c.index-tokens-tokens.is
    ∙ sym c.shape.ensures ∙ one))

pub loop-trail-init : goal.loop-trail-init
loop-trail-init g c = c.requires

pub overflow_add-lead : goal.overflow_add-lead
overflow_add-lead g c = omega (arith, c.loop-trail.invariant.within, length-map c.args.tokens.now shape_of)

pub overflow_sub-tokens : goal.overflow_sub-tokens
overflow_sub-tokens g c = omega (arith, c.loop-trail.invariant.within, length-map c.args.tokens.now shape_of)

pub overflow_sub-tokens-in-loop-trail : goal.overflow_sub-tokens-in-loop-trail
overflow_sub-tokens-in-loop-trail g c = omega (arith, c.loop-trail.invariant.within, length-map c.args.tokens.now shape_of)

pub overflow_add-trail : goal.overflow_add-trail
overflow_add-trail g c = omega (arith, c.loop-trail.invariant.within, length-map c.args.tokens.now shape_of)

pub offset_bounds-tokens-tokens : goal.offset_bounds-tokens-tokens
offset_bounds-tokens-tokens g c = omega arith

pub bounds-tokens-tokens : goal.bounds-tokens-tokens
bounds-tokens-tokens g c = omega arith

pub returns-else-eq : goal.returns-else-eq
returns-else-eq g c = c.loop-trail.invariant

pub returns-after-loop-trail : goal.returns-after-loop-trail
returns-after-loop-trail g c = c.loop-trail.invariant
