use Rattle.glob_set.proofs.ListReading.{AnyMatch-iff}
use Rattle.glob_set.proofs.set.PatternSet.is_match.Goals as goal

pub returns-clause-answer : goal.returns-clause-answer
returns-clause-answer g c = AnyMatch-iff _ _ _ c.in_ok-first_match.field-0 c.is_some.result c.is_some.ensures
    c.in_ok-first_match.ensures.answer
