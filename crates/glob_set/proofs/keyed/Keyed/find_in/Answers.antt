use Rattle.glob_set.specs.Private.Keys.{IsComponentOf, IsEndingOf}
use Rattle.glob_set.proofs.KeyedLemmas.{Finds-both}
use Rattle.glob_set.proofs.keyed.Keyed.find_in.Goals as goal

pub returns-clause-all : goal.returns-clause-all
returns-clause-all g c =
    let text = c.args.text.now in
    Finds-both c.args.self.now (IsComponentOf text) (IsEndingOf text) c.find_components.new.found c.find_endings.new.found c.sort.new.self
    c.find_components.ensures.all c.find_endings.ensures.kept c.find_endings.ensures.all c.sort.ensures.permutation c.sort.ensures.full
