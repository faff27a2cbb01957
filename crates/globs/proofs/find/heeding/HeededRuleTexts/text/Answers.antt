use Rattle.globs.proofs.find.heeding.HeededRuleTexts.text.Goals as goal

pub returns-then-self-clause-text : goal.returns-then-self-clause-text
returns-then-self-clause-text g c known is = c.text.ensures.text known (rw c.if-self.true at is)
