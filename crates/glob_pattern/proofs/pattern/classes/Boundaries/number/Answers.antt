use Rattle.std.proofs.Common.{◌≡◌, ◌<◌, ◌≤◌, ◌+◌, Bool, true, false, slice_index_or, ap, ◌∙◌, subst, arith}
use mir.Val.{bool_byte}
use Rattle.glob_pattern.specs.Private.Classes.{AreNumbered, HasCut}
use Rattle.glob_pattern.proofs.ClassLemmas.Counting.{AreNumbered-more}
use Rattle.glob_pattern.proofs.pattern.classes.Boundaries.number.Goals as goal

pub loop-c-preserved : goal.loop-c-preserved
loop-c-preserved g c =
    let cuts = c.args.self.now.ascii in
    let old = c.loop-c.class in
    let new = old + c.from-class.result in
    let within : c.loop-c.c < 128 = omega (arith, c.requires.within) in
    let step : c.from-class.result ≤ 1 = rw c.from-class.ensures (byte-le (slice_index_or cuts c.loop-c.c false)) in
    let cut : HasCut cuts c.loop-c.c → old < new = λ is. let one : c.from-class.result ≡ 1 = c.from-class.ensures
    ∙ ap bool_byte is in omega (arith, one) in
    AreNumbered-more cuts c.loop-c.c old new c.loop-c.classes c.loop-c.invariant within (omega arith) (omega (arith, step)) cut
  where
    byte-le : (b : Bool) → bool_byte b ≤ 1
    byte-le true = omega arith
    byte-le false = omega arith

pub returns : goal.returns
returns g c = subst (λ end. AreNumbered c.args.self.now.ascii end c.loop-c.class c.loop-c.classes)
    (omega (arith, c.requires.within)) c.loop-c.invariant

pub returns-then-has_none : goal.returns-then-has_none
returns-then-has_none g c = c.keep.ensures c.args.self.now.ascii c.requires.before (c.has_none.ensures c.if-has_none.true)
