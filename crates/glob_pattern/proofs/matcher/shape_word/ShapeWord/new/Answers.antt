use Rattle.std.proofs.Common.{◌≡◌, ◌∙◌, map, get_or, sym, subst, arith}
use Rattle.std.proofs.lemmas.Bool.{ltb-true, lt-ltb}
use Rattle.std.proofs.lemmas.List.{length-map}
use Rattle.glob_pattern.specs.Private.Positions.{word_end, HasShapes}
use Rattle.glob_pattern.proofs.BitLemmas.SetBits.{IsBitSet-zero}
use Rattle.glob_pattern.specs.declared.matcher.Shape.TheVariants.{One}
use Rattle.glob_pattern.proofs.PositionLemmas.Mapped.{mapped_at, HasShapes-next}
use Rattle.glob_pattern.proofs.matcher.shape_word.ShapeWord.new.Goals as goal

pub loop-n-preserved : goal.loop-n-preserved
loop-n-preserved g c =
    let tokens = c.args.tokens.now in
    let n = c.loop-n.n in
    let shapes = map g.T.Shaped.shape tokens in
    let long = length-map tokens g.T.Shaped.shape in
    let at : get_or shapes n One ≡ c.shape.result = mapped_at g.T.Shaped.shape tokens n c.index-tokens-n.result One
    (omega arith) c.index-tokens-n.is ∙ sym c.shape.ensures in
    HasShapes-next shapes c.args.start n c.shape.result c.loop-n.word c.with-word.result _ (omega arith) at
    (λ t. omega (arith, long, ltb-true _ _ t), λ more. lt-ltb _ _ (omega (arith, long, more)))
    c.loop-n.invariant c.with-word.ensures.tokens c.with-word.ensures.wildcards c.with-word.ensures.recursive

pub loop-n-init : goal.loop-n-init
loop-n-init g c = record {
  tokens = λ j lt. (λ set. absurd (IsBitSet-zero j set), λ below. absurd (omega (arith, below)));
  wildcards = λ j lt. (λ set. absurd (IsBitSet-zero j set), λ here. absurd (omega (arith, here.0)));
  recursive = λ j lt. (λ set. absurd (IsBitSet-zero j set), λ here. absurd (omega (arith, here.0)));
}

pub returns : goal.returns
returns g c =
    let border : c.loop-n.n ≡ word_end c.args.end c.args.start = omega arith in
    subst (λ e. HasShapes (map g.T.Shaped.shape c.args.tokens.now) c.args.start e c.loop-n.word) border c.loop-n.invariant
