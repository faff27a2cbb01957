use Rattle.globs.proofs.CopyLemmas.{path_no_text, path_text}
use Rattle.globs.proofs.ignore.paths.Paths.read.Goals as goal

pub returns-in-Ok : goal.returns-in-Ok
returns-in-Ok c =
    path_text c.args.bytes.now c.in-Ok.path.now c.path_of.result.now c.in-Ok.ensures.cases.0 c.path_of.ensures c.in-Ok.ensures.cases.1

pub returns-in-Err : goal.returns-in-Err
returns-in-Err c = path_no_text c.args.bytes.now c.path_of.result.now c.path_of.ensures c.in-Err.ensures.cases.0
