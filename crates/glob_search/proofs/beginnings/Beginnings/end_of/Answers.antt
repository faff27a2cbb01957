use Rattle.std.proofs.Common.{◌≡◌, ◌<◌, Some, arith, false, length, refl, sym, ◌∙◌}
use Rattle.std.specs.Prelude.{slice_get}
use Rattle.std.proofs.lemmas.Bool.{cond-false}
use Rattle.std.proofs.lemmas.Option.{slice_get_read}
use Rattle.glob_search.specs.Searching.{ends_recursive}
use Rattle.glob_search.proofs.BeginningLemmas.Growing.{GrownTo-none}
use Rattle.glob_search.proofs.BeginningLemmas.Keys.{star-accepted}
use Rattle.glob_search.proofs.BeginningLemmas.Refusing.{memory-alone-of}
use Rattle.glob_search.proofs.beginnings.Beginnings.end_of.Goals as goal

pub returns-clause-ended : goal.returns-clause-ended
returns-clause-ended g c front tree =
    let nodes = c.args.self.now.nodes in
    let at = c.args.at in
    let here = c.index.result.now in
    let lt : at < length nodes.items = omega (arith, c.requires, nodes.ok.0) in
    let found : slice_get nodes.items at ≡ Some here = slice_get_read nodes.items (length nodes.items) at here refl lt c.index.ensures in
    let ends : ends_recursive (front at) ≡ false = sym (tree.each at here found).ends ∙ c.if-index.false in
    GrownTo-none c.args.self.now.options nodes.items front _ at tree lt (sym (cond-false (ends_recursive (front at)) _ (front at) ends))

pub returns-then-index-clause-refused : goal.returns-then-index-clause-refused
returns-then-index-clause-refused g c = memory-alone-of _ c.child.result star-accepted c.child.ensures.refused
