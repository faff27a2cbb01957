use Rattle.std.proofs.lemmas.List.{map-id}
use Rattle.glob_pattern.proofs.matcher.run_positions.Goals as goal

pub returns-clause-answer : goal.returns-clause-answer
returns-clause-answer g c = rw (map-id c.args.shapes.now) at c.decide_all.ensures.answer
