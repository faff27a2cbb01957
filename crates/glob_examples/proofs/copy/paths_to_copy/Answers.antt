use Rattle.glob_examples.proofs.Chosen.{AreToCopy-kept}
use Rattle.glob_examples.proofs.copy.paths_to_copy.Goals as goal

-- which sources are copied
pub returns-clause-files : goal.returns-clause-files
returns-clause-files g c = λ content told.
    AreToCopy-kept content c.args.pattern.now c.args.rules.now _ _ (c.in_ok-paths.ensures.files content told) c.in_ok-copied.ensures
