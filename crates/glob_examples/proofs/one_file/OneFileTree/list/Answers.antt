use Rattle.std.proofs.Common.{ap}
use Rattle.std.proofs.lemmas.Result.{IfOk-at_ok}
use Rattle.glob_examples.proofs.OneFile.{file_is_listed, listed, nothing_is_listed}
use Rattle.glob_examples.proofs.one_file.OneFileTree.list.Goals as goal

pub returns-in-Other-clause-fails : goal.returns-in-Other-clause-fails
returns-in-Other-clause-fails c = λ content told.
    nothing_is_listed c.args.self.now.name.now content told c.args.path.now c.look_below.result c.look_below.ensures
    (ap (listed c.args.self.now.name.now) c.in-Other.is) _

pub returns-in-Missing-clause-fails : goal.returns-in-Missing-clause-fails
returns-in-Missing-clause-fails c = λ content told.
    nothing_is_listed c.args.self.now.name.now content told c.args.path.now c.look_below.result c.look_below.ensures
    (ap (listed c.args.self.now.name.now) c.in-Missing.is) _

pub returns-clause-entries : goal.returns-clause-entries
returns-clause-entries c = λ content told.
    file_is_listed c.args.self.now.name.now content told c.args.path.now c.look_below.result c.look_below.ensures c.in-Dir.is _
    (IfOk-at_ok _ c.in_ok-entries.was c.entries.ensures)
