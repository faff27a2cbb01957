-- The texts so far are the texts before and the texts of the files so far.
use Rattle.globs.specs.Ignoring.{texts_of}
use Rattle.globs.proofs.SourceLemmas.{ReadSoFar}
use Rattle.globs.proofs.ignoring.add_files.Given as goal

abbrev pub invariant-loop-name : goal.invariant-loop-name
invariant-loop-name g l =
    ReadSoFar (g.F.IgnoreFiles.holds l.files) l.names l.name-index (texts_of l.initial.sources.items) (texts_of l.sources.items)
