use Rattle.std.proofs.Common.{subst, arith}
use Rattle.glob_pattern.specs.Private.Classes.{AreNumbered}
use Rattle.glob_pattern.proofs.ClassLemmas.Counting.{AreNumbered-more}
use Rattle.glob_pattern.proofs.pattern.classes.keep.Goals as goal

pub loop-c-preserved : goal.loop-c-preserved
loop-c-preserved c = λ cuts before none.
    AreNumbered-more cuts c.loop-c.c c.args.class c.args.class c.loop-c.classes (c.loop-c.invariant cuts before none)
    (omega (arith, c.requires)) (omega arith) (omega arith)
    (λ cut. absurd (none c.loop-c.c (omega arith) (omega arith) cut))

pub returns : goal.returns
returns c = λ cuts before none.
    subst (λ end. AreNumbered cuts end c.args.class c.loop-c.classes) (omega (arith, c.requires)) (c.loop-c.invariant cuts before none)
