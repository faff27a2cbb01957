use Rattle.globs.proofs.NamingLemmas.{file_is}
use Rattle.globs.proofs.ignore.places.RuleFile.new.Goals as goal

pub returns : goal.returns
returns g c = file_is c.args.name.now c.args.text.now c.in_ok-lines.lines.items c.in_ok-lines.ensures
