use Rattle.std.proofs.Common.{◌∙◌, ◌+◌, ap, arith, drop, map, sym}
use Rattle.std.specs.List.{fold}
use Rattle.std.proofs.lemmas.List.{drop_all}
use Rattle.globs.specs.Find.Leads.{with_lead}
use Rattle.globs.proofs.LeadLemmas.{leads_more}
use Rattle.globs.proofs.find.leads.leads_of.Goals as goal

pub loop-pattern-preserved : goal.loop-pattern-preserved
loop-pattern-preserved g c =
    let l = c.loop-pattern in
    ap (λ leads. fold with_lead leads (map (λ p. p.now) (drop (l.pattern-index + 1) c.args.patterns.now))) c.in_ok-add_lead.ensures
    ∙ leads_more (map (λ x. x.now) l.leads.items) c.args.patterns.now l.pattern-index _ (omega arith) ∙ l.invariant

pub returns : goal.returns
returns g c =
    let l = c.loop-pattern in
    sym (ap (λ ps. fold with_lead (map (λ x. x.now) l.leads.items) (map (λ p. p.now) ps))
    (drop_all l.pattern-index c.args.patterns.now (omega arith)))
    ∙ l.invariant
