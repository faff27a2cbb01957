use Rattle.std.proofs.Common.{◌∙◌, lit<}
use Rattle.std.proofs.lemmas.Option.{MatchOption-at_none}
use Rattle.std.proofs.lemmas.Str.Pattern.{strip_prefix_char}
use Rattle.globs.proofs.LeadLemmas.{below_start}
use Rattle.globs.proofs.find.leads.below_lead.Goals as goal

pub returns-in-None : goal.returns-in-None
returns-in-None c =
    let none = MatchOption-at_none _ _ c.in-None.is (strip_prefix_char 47 c.args.text.now c.strip_prefix.result
    c.strip_prefix.ensures.cases (lit< tt)) in
    c.below_dots-in-None.ensures ∙ below_start c.args.text.now none
