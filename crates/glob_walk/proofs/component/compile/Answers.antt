use Rattle.glob_walk.proofs.WalkLemmas.Reading.{accepted_result, refused_result}
use Rattle.glob_walk.proofs.component.compile.Goals as goal

pub returns-clause-accepted : goal.returns-clause-accepted
returns-clause-accepted g c = accepted_result c.args.text.now c.new.result c.new.ensures.accepted

pub returns-clause-refused : goal.returns-clause-refused
returns-clause-refused g c = refused_result c.args.text.now c.new.result c.new.ensures.refused
