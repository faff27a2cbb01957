use Rattle.std.proofs.Common.{sym, ◌∙◌}
use Rattle.std.proofs.lemmas.Result.{IfOk-weaker}
use Rattle.globs.proofs.GitLemmas.{ignores-below, ignores-within}
use Rattle.globs.proofs.ignore.around.Around.ignores.Goals as goal

pub returns-then-self-clause-ignored : goal.returns-then-self-clause-ignored
returns-then-self-clause-ignored g c r is =
    c.is_within.ensures ∙ ignores-within r c.args.path.now c.args.is_dir (sym is.ignored ∙ c.if-self.true)

pub returns-clause-ignored : goal.returns-clause-ignored
returns-clause-ignored g c r is =
    IfOk-weaker c.is_ignored.result _ _
    (λ b says. ignores-below r c.args.path.now c.args.is_dir b (sym is.ignored ∙ c.if-self.false) says)
    (c.is_ignored.ensures.ignored r.aim r.known is.known is.agrees)
