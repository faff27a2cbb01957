use Rattle.std.proofs.Common.{[], ◌∷◌, lit<}
use Rattle.std.proofs.lemmas.Iterator.Consumers.{YieldsList-end}
use Rattle.std.proofs.lemmas.Iterator.Splits.{YieldsList-from_str_split}
use Rattle.std.proofs.lemmas.List.{map-append}
use Rattle.glob.specs.Characters.{slash}
use Rattle.glob_examples.proofs.Aligned.{AreAligned-push}
use Rattle.glob_examples.proofs.names.pattern.PathPattern.rows.Goals as goal

pub loop-name-preserved : goal.loop-name-preserved
loop-name-preserved g c =
    rw (map-append (λ name. name.now) c.loop-name.yielded (c.in-Some.name ∷ []), c.in_ok-push.ensures.items)
    (AreAligned-push _ _ _ _ _ c.loop-name.invariant c.in_ok-row.ensures)

pub returns : goal.returns
returns g c =
    let parts = YieldsList-from_str_split slash c.args.path.now (lit< tt) (cc) (cc) (cc) in
    let all = YieldsList-end parts c.loop-name.yielded _ c.loop-name.yielded_by _ _ c.in-None.is c.next.ensures.steps in
    rw all.0 at c.loop-name.invariant
