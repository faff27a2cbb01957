use Rattle.std.proofs.Common.{◌∙◌, ◌+◌, ◌++◌, ap, append-nil, append_assoc, arith, drop, map, sym}
use Rattle.std.proofs.lemmas.List.{drop_all}
use Rattle.globs.specs.Find.Leads.{led}
use Rattle.globs.proofs.LeadLemmas.{led_more}
use Rattle.globs.proofs.find.leads.led_patterns.Goals as goal

pub loop-pattern-preserved : goal.loop-pattern-preserved
loop-pattern-preserved g c =
    let l = c.loop-pattern in
    let rest = led c.args.lead.now (map (λ p. p.now) (drop (l.pattern-index + 1) c.args.patterns.now)) in
    let before = map (λ p. p.now) l.found.items in
    ap (λ found. found ++ rest) c.in_ok-add_led.ensures ∙ append_assoc before _ rest
    ∙ ap (λ more. before ++ more) (led_more c.args.lead.now c.args.patterns.now l.pattern-index _ (omega arith)) ∙ l.invariant

pub returns : goal.returns
returns g c =
    let l = c.loop-pattern in
    let before = map (λ p. p.now) l.found.items in
    sym (append-nil before)
    ∙ sym (ap (λ ps. before ++ led c.args.lead.now (map (λ p. p.now) ps))
    (drop_all l.pattern-index c.args.patterns.now (omega arith))) ∙ l.invariant
