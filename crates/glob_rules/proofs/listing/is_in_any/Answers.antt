use Rattle.std.proofs.Common.{rules, tests}
use Rattle.std.proofs.lemmas.Iterator.{YieldsList-from_slice}
use Rattle.std.proofs.lemmas.Iterator.Search.{any_from_yields_List}
use Rattle.glob_rules.specs.StepTexts.{is_within}
use Rattle.glob_rules.proofs.listing.is_in_any.Goals as goal

pub returns : goal.returns
returns c =
    any_from_yields_List (is_within c.args.c) _ _ _ c.any.ensures.ran (YieldsList-from_slice c.args.spans.now cc)
    (λ x b q k. search (rules, tests))
