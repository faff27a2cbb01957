use Rattle.std.proofs.Common.{ap}
use Rattle.globs.specs.Ignoring.{texts_of}
use Rattle.globs.proofs.NamingLemmas.{files_ended, none_of}
use Rattle.globs.proofs.ignore.places.rule_files.Goals as goal

pub returns-in_default : goal.returns-in_default
returns-in_default g c =
    files_ended _ _ c.loop-name.files.items _ (ap texts_of (none_of c.loop-name.rest.now c.in_default.len_below)) c.loop-name.invariant
