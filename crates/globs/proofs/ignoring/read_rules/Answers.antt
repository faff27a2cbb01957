use Rattle.std.proofs.lemmas.Result.{IfOk-weaker}
use Rattle.globs.proofs.SourceLemmas.{has_rules}
use Rattle.globs.proofs.ignoring.read_rules.Goals as goal

pub returns-clause-rules : goal.returns-clause-rules
returns-clause-rules g c =
    IfOk-weaker c.list_of.result _ _ (λ read. has_rules (g.F.IgnoreFiles.holds c.args.files.now) _ _ _ c.in_ok-sources.ensures read.1)
    (rw c.as_slice.ensures.value at c.list_of.ensures.rules)
