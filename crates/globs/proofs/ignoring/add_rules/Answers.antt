use Rattle.std.proofs.Common.{string_bytes, ap, ◌∙◌, arith}
use Rattle.std.proofs.lemmas.List.{map-append}
use Rattle.globs.specs.Ignoring.{texts_of}
use Rattle.globs.proofs.SourceLemmas.{rules_done, rules_more}
use Rattle.globs.proofs.ignoring.add_rules.Goals as goal

pub loop-rule-preserved : goal.loop-rule-preserved
loop-rule-preserved g c =
    rules_more c.args.rules.now c.loop-rule.rule-index _ _ _ _ (string_bytes c.in_ok-text.text) (omega arith) c.in_ok-text.ensures.ok
    (ap texts_of c.in_ok-push.ensures.items ∙ map-append (λ s. string_bytes s.text) _ _) c.loop-rule.invariant

pub returns : goal.returns
returns g c = rules_done c.args.rules.now c.loop-rule.rule-index _ _ (omega arith) c.loop-rule.invariant
