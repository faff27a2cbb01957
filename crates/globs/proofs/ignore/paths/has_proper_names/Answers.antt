use Rattle.std.proofs.Common.{lit<, rules}
use Rattle.std.proofs.lemmas.Iterator.Search.{all_from_yields_List}
use Rattle.std.proofs.lemmas.Iterator.Splits.{YieldsList-from_str_split}
use Rattle.glob_tree.specs.Paths.{is_proper}
use Rattle.globs.proofs.ignore.paths.has_proper_names.Goals as goal

pub returns : goal.returns
returns c =
    let split = c.split.ensures in
    all_from_yields_List is_proper _ _ c.all.result c.all.ensures.ran (YieldsList-from_str_split 47 c.args.path.now
    (lit< tt) split.text split.has_more split.pattern) (λ x b q k. search rules)
