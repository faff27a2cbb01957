use Rattle.std.proofs.Common.{◌≡◌, ◌+◌, subst, ⊎_elim, arith}
use Rattle.std.proofs.lemmas.Bool.{both_ways, cases_eq}
use Rattle.glob_pattern.specs.Private.Needles.{IsAt}
use Rattle.glob_pattern.proofs.BitLemmas.LowestBits.{lowest_set, IsBitSet-cleared}
use Rattle.glob_pattern.proofs.BitLemmas.SetBits.{IsBitSet-zero}
use Rattle.glob_pattern.proofs.pattern.needle.is_at_any.Goals as goal

pub loop-left-preserved : goal.loop-left-preserved
loop-left-preserved c = λ k set cleared is.
    let lowest = lowest_set c.loop-left.left (omega arith) (omega arith) in
    ⊎_elim
    (λ e. both_ways _ c.if-is_at.false (c.is_at.ensures (subst (λ n. IsAt c.args.bytes.now c.args.needle.now (c.args.start + n)) e is)))
    (λ ne. c.loop-left.invariant k set (λ here. cleared ((IsBitSet-cleared _ c.loop-left.left lowest.1 lowest.2 k).1 (here, ne))) is)
    (cases_eq k _)

pub returns : goal.returns
returns c = λ k set is.
    let none : c.loop-left.left ≡ 0 = omega arith in
    absurd (c.loop-left.invariant k set (λ here. IsBitSet-zero k (rw none at here)) is)
