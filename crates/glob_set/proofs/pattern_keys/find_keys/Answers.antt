use Rattle.std.proofs.Common.{All, sym, subst}
use Rattle.std.proofs.lemmas.List.Elements.{All-nil}
use Rattle.glob_set.specs.Private.Keys.{HasKey}
use Rattle.glob_set.proofs.pattern_keys.find_keys.Goals as goal

pub push_endings-requires : goal.push_endings-requires
push_endings-requires g c = subst (All (HasKey c.args.pattern.now)) (sym c.clear.ensures.items) (All-nil (HasKey c.args.pattern.now))
