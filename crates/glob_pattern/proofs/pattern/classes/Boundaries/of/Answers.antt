use Rattle.std.proofs.Common.{subst}
use lib.Seq.{take_all}
use Rattle.std.proofs.lemmas.List.Elements.{All-more}
use Rattle.glob_pattern.specs.Private.Classes.{HasInterval, EachInterval, TokenIntervals}
use Rattle.glob_pattern.proofs.ClassLemmas.Intervals.{HasInterval-grows, EachInterval-map}
use Rattle.glob_pattern.proofs.pattern.classes.Boundaries.of.Goals as goal

pub loop-token-preserved : goal.loop-token-preserved
loop-token-preserved g c =
    let mark = c.in_ok-mark_token.ensures in
    let Q = TokenIntervals (HasInterval c.mark_token.new.self) in
    All-more Q c.args.tokens.now c.loop-token.token-index c.token-item.result c.loop-token-test.true
    (EachInterval-map _ _ (λ x y le. HasInterval-grows _ _ mark.grows x y) _ c.loop-token.invariant)
    (subst Q c.token-item.is mark.marked)

pub returns-clause-marked : goal.returns-clause-marked
returns-clause-marked g c =
    EachInterval-map _ _ (λ x y le. HasInterval-grows _ _ c.sort.ensures.grows x y) _
    (subst (EachInterval (HasInterval c.loop-token.boundaries)) (take_all _ _ c.loop-token-test.false) c.loop-token.invariant)
