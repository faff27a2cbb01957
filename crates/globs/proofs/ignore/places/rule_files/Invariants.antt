-- The files so far and the files of the other names and sources are all files.
use Rattle.std.proofs.Common.{◌≡◌, ◌++◌, drop, map}
use Rattle.globs.specs.Ignoring.{texts_of}
use Rattle.globs.specs.Naming.{files_of}
use Rattle.globs.proofs.ignore.places.rule_files.Given as goal

abbrev pub invariant-loop-name : goal.invariant-loop-name
invariant-loop-name g l =
    l.files.items ++ files_of (map (λ w. w.now) (drop l.name-index l.names)) (texts_of l.rest)
    ≡ files_of (map (λ w. w.now) l.names) (texts_of l.sources)
