use Rattle.std.proofs.Common.{lit<, rules}
use Rattle.std.proofs.lemmas.Iterator.Search.{any_from_yields_List}
use Rattle.std.proofs.lemmas.Iterator.Splits.{YieldsList-from_str_split}
use Rattle.globs.specs.Find.Below.{is_no_name}
use Rattle.globs.proofs.find.below.leads_elsewhere.Goals as goal

pub returns : goal.returns
returns c =
    let split = c.split.ensures in
    any_from_yields_List is_no_name _ _ c.any.result c.any.ensures.ran
    (YieldsList-from_str_split 47 c.args.text.now (lit< tt) split.text split.has_more split.pattern) (λ x b q k. search rules)
