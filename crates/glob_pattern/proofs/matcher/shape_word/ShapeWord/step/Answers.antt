use Rattle.glob_pattern.proofs.BitLemmas.SetBits.{IsBitSet-closed}
use Rattle.glob_pattern.proofs.PositionLemmas.Words.{begun_of, IsAliveWord-stepped}
use Rattle.glob_pattern.proofs.matcher.shape_word.ShapeWord.step.Goals as goal

pub returns : goal.returns
returns c = λ table shapes end start k from within are taken at first.
    rw c.from.ensures
    (IsAliveWord-stepped table shapes end start c.args.self from within are k c.args.took c.ending-ending.result
    c.args.opens c.args.whole taken at first c.ending-ending.ensures
    _ (IsBitSet-closed (begun_of c.ending-ending.result c.args.whole) c.args.self.wildcards))
