use Rattle.std.proofs.Common.{◌∙◌, ◌++◌, ap, sym}
use Rattle.globs.proofs.LeadLemmas.{lead_ends}
use Rattle.globs.proofs.find.leads.split_lead.Goals as goal

pub returns-in-None-clause-lead : goal.returns-in-None-clause-lead
returns-in-None-clause-lead c =
    let (front, is) = lead_ends c.args.text.now in
    absurd (c.in-None.ensures.cases front (is ∙ ap (λ below. front ++ below) (sym c.below_lead-below.ensures)))
