use Rattle.std.proofs.Common.{◌≡◌, ◌∙◌, ap, sym}
use Rattle.std.proofs.lemmas.Iterator.Adapters.{YieldsList-from_vec}
use Rattle.std.proofs.lemmas.Iterator.Consumers.{YieldsList-end}
use Rattle.std.proofs.lemmas.List.{map-id}
use Rattle.glob_search.specs.Aims.{outer_of}
use Rattle.glob_search.specs.Searching.{entered}
use Rattle.glob_search.proofs.outer.entered.Goals as goal

pub returns : goal.returns
returns g c =
    let lists = c.args.lists.items in
    let parts = YieldsList-from_vec lists (cc) (cc) in
    let all = YieldsList-end parts c.loop-prefix.yielded _ c.loop-prefix.yielded_by _ c.next.new.self c.in-None.is c.next.ensures.steps in
    let whole : c.loop-prefix.yielded ≡ lists = sym (map-id c.loop-prefix.yielded) ∙ all.0 in
    c.loop-prefix.invariant ∙ ap (λ ls. entered c.args.name.now (outer_of ls)) whole
