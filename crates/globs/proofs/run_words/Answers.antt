use Rattle.std.proofs.Common.{refl}
use Rattle.globs.proofs.FulfilLemmas.{fulfils_refused, line_usage, no_usage}
use Rattle.globs.proofs.run_words.Goals as goal

pub returns-in-Ok-clause-usage : goal.returns-in-Ok-clause-usage
returns-in-Ok-clause-usage g c = no_usage g.E.Write.contents _ _ _ c.in-Ok.command _ c.in-Ok.ensures.asked

pub returns-in-Err-clause-request : goal.returns-in-Err-clause-request
returns-in-Err-clause-request g c = fulfils_refused g.W.Write.contents c.args.output.now 2 refl _ _ (c.requires, refl)

pub returns-in-Err-clause-usage : goal.returns-in-Err-clause-usage
returns-in-Err-clause-usage g c =
    line_usage g.E.Write.contents _ _ _ c.in-Err.usage_line.name c.in-Err.usage_line.fault _ c.in-Err.ensures.wrong c.write_line.ensures
