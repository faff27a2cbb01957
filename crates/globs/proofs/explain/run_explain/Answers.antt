use Rattle.globs.proofs.FulfilLemmas.{answers_two}
use Rattle.globs.proofs.explain.run_explain.Goals as goal

pub returns-in-len2-clause-explained : goal.returns-in-len2-clause-explained
returns-in-len2-clause-explained g c =
    answers_two g.W.Write.contents c.args.options c.args.operands.now _ _ _ _ _ c.in-len2.len_at_least c.in-len2.len_below
    c.explain_word.ensures.explained
