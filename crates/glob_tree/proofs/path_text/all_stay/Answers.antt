use Rattle.std.proofs.Common.{lit<, rules}
use Rattle.std.proofs.lemmas.Iterator.Search.{all_from_yields_List}
use Rattle.std.proofs.lemmas.Iterator.Splits.{YieldsList-from_str_split}
use Rattle.glob_tree.specs.Paths.{stays}
use Rattle.glob_tree.proofs.path_text.all_stay.Goals as goal

pub returns : goal.returns
returns c =
    let split = c.split.ensures in
    all_from_yields_List stays _ _ c.all.result c.all.ensures.ran (YieldsList-from_str_split 47 c.args.path.now
    (lit< tt) split.text split.has_more split.pattern) (λ x b q k. search rules)
