use Rattle.std.proofs.Common.{ap, sym, ◌∙◌}
use Rattle.std.proofs.lemmas.Result.{err_from_is_err_and}
use Rattle.globs.specs.CommandLine.{needs_operand}
use Rattle.globs.proofs.command.Asked.with_operands.Goals as goal

pub returns-in_err-operands-clause-wrong : goal.returns-in_err-operands-clause-wrong
returns-in_err-operands-clause-wrong g c =
    let failed = err_from_is_err_and c.from_residual.result c.from_residual.ensures.1 in
    rw (failed.1, failed.2) (c.in_err-operands.ensures.wrong c.args.options
    (sym (c.needs_operand-is_needed.ensures ∙ ap (λ o. needs_operand c.args.name o.settings) c.options.view_is)))
