use Rattle.globs.proofs.ListLemmas.{ignores_by_list}
use Rattle.globs.proofs.find.aim.heeds_files.Goals as goal

pub returns-else-options-clause-list : goal.returns-else-options-clause-list
returns-else-options-clause-list g c = ignores_by_list c.args.options.now
