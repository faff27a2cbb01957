use Rattle.std.proofs.Common.{ℕ, refl, subst, arith}
use Rattle.std.proofs.lemmas.List.{get_or-replicate}
use Rattle.glob_pattern.specs.Private.Classes.{AreAsciiClasses, AreNumbered}
use Rattle.glob_pattern.proofs.ClassLemmas.Counting.{AreNumbered-none}
use Rattle.glob_pattern.proofs.pattern.classes.Boundaries.ascii_classes.Goals as goal

pub loop-n-init : goal.loop-n-init
loop-n-init g c = AreNumbered-none _ _ refl (λ d lt. get_or-replicate {A = ℕ} 128 d 2 0 lt)

pub loop-n-preserved : goal.loop-n-preserved
loop-n-preserved g c = subst (λ end. AreNumbered c.args.self.now.ascii end c.number-class.result
    c.number-class.new.classes) (omega arith) c.number-class.ensures

pub returns : goal.returns
returns g c = subst (λ end. AreAsciiClasses c.args.self.now.ascii end c.loop-n.classes) (omega arith) c.loop-n.invariant.classes
