use Rattle.std.proofs.Common.{◌≤◌, IfOk, IsTrue, length, chars, sym, subst, ◌∙◌}
use Rattle.glob_pattern.specs.Matching.Taking.{has_rules}
use Rattle.glob_pattern.proofs.MatchingLemmas.Freely.{unruled-same}
use Rattle.glob_pattern.proofs.pattern.automaton.Automaton.matches.Goals as goal

pub returns-clause-answer : goal.returns-clause-answer
returns-clause-answer g c = rw (unruled-same c.args.options (sym c.has_rules.ensures ∙ c.if-has_rules.false)) at c.run-2.ensures.answer

pub returns-clause-least : goal.returns-clause-least
returns-clause-least g c =
    subst (λ o. IfOk c.run-2.result (λ counted. IsTrue counted.0 → IsTrue (has_rules o) → length (chars c.args.text.now) ≤ counted.1))
    (unruled-same c.args.options (sym c.has_rules.ensures ∙ c.if-has_rules.false)) c.run-2.ensures.least
