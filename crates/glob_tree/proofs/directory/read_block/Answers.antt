use Rattle.glob_tree.proofs.SystemLemmas.Reading.{read_fault}
use Rattle.glob_tree.proofs.directory.read_block.Goals as goal

pub returns-in_err-count-clause-fails : goal.returns-in_err-count-clause-fails
returns-in_err-count-clause-fails g c = λ known.
    read_fault (g.D.Directory.left c.args.directory.now) (g.D.Directory.fault c.args.directory.now)
    c.in_err-count.field-0.0 c.in_err-count.ensures.fails known c.from_residual.result c.from_residual.ensures.1
