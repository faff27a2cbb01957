use Rattle.std.proofs.Common.{sym, ◌∙◌}
use Rattle.std.proofs.lemmas.Result.{IfOk-weaker}
use Rattle.globs.proofs.GitLemmas.{below-rule, decision-outside, decision-within}
use Rattle.globs.proofs.ignore.around.Around.deciding_rule.Goals as goal

pub returns-then-not-self-clause-decides : goal.returns-then-not-self-clause-decides
returns-then-not-self-clause-decides g c r is =
    IfOk-weaker c.deciding_rule.result _ _
    (λ rule says. below-rule r c.args.path.now c.args.is_dir _ _ (sym is.ignored ∙ c.if-not-self.true) is.files says)
    (c.deciding_rule.ensures.decides r.aim r.known is.known is.agrees)

pub returns-then-is_within-clause-decides : goal.returns-then-is_within-clause-decides
returns-then-is_within-clause-decides g c r is =
    decision-within r c.args.path.now c.args.is_dir _ (sym is.ignored ∙ c.if-not-self.false)
    (sym c.is_within.ensures ∙ c.if-is_within.true) (c.start_rule.ensures ∙ is.rule)

pub returns-clause-decides : goal.returns-clause-decides
returns-clause-decides g c r is =
    decision-outside r c.args.path.now c.args.is_dir (sym is.ignored ∙ c.if-not-self.false)
    (sym c.is_within.ensures ∙ c.if-is_within.false)
