use Rattle.glob_pattern.proofs.ClassLemmas.Intervals.{Grows-trans}
use Rattle.glob_pattern.proofs.pattern.classes.Boundaries.mark.Goals as goal

pub returns-clause-marked : goal.returns-clause-marked
returns-clause-marked g c =
    let first = c.in_ok-begin.ensures in
    let second = c.in_ok-begin-2.ensures in
    record {
      first = λ low. second.grows.ascii _ (first.ascii low);
      after = second.ascii;
      first_beyond = λ high. second.grows.beyond _ (first.beyond high);
      after_beyond = second.beyond;
    }

pub returns-clause-grows : goal.returns-clause-grows
returns-clause-grows g c = Grows-trans _ _ _ c.in_ok-begin.ensures.grows c.in_ok-begin-2.ensures.grows
