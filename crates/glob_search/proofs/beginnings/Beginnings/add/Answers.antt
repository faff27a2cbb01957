use Rattle.std.proofs.Common.{ℕ, List, ap, map, subst, sym, ◌∙◌}
use Rattle.std.proofs.lemmas.Result.{err_from_is_err_and}
use Rattle.glob_text.specs.Pieces.{pieces}
use Rattle.glob_text.specs.Text.{Text}
use Rattle.glob_search.specs.Private.NodeGrowth.{GrownTo, finished, walked}
use Rattle.glob_search.specs.Private.Nodes.{IsTree, key_of}
use Rattle.glob_search.specs.Private.Refusing.{RefusesFirst}
use Rattle.glob_search.specs.Refusals.{readings}
use Rattle.glob_search.proofs.BeginningLemmas.Refusing.{accepted-first, refuses-later, refuses-whole}
use Rattle.glob_search.proofs.BeginningLemmas.Walking.{GrownTo-then, added-from, finished-on}
use Rattle.glob_search.proofs.beginnings.Beginnings.add.Goals as goal

pub returns-clause-added : goal.returns-clause-added
returns-clause-added g c front tree =
    let o = c.args.self.now.options in
    let old = c.args.self.now.nodes.items in
    let now = c.walk.new.self.nodes.items in
    let grown = c.end_of.new.self.nodes.items in
    let new = c.mark_whole.new.self.nodes.items in
    let path = walked (map (key_of o) (pieces c.args.pattern.now)) in
    let at = c.in_ok-at.at in
    let end = c.in_ok-end.end in
    let a = c.in_ok-at.ensures.walked front tree in
    let b = subst (λ o'. (f : ℕ → List Text) → IsTree o' now f → GrownTo o' now grown f (finished (f at)) end)
    c.walk.ensures.options c.in_ok-end.ensures.ended in
    let both = GrownTo-then o old now grown front path (finished path) at end a (finished-on path)
    (subst (λ p. GrownTo o now grown a.front' p end) (ap finished a.is) (b a.front' a.grown.tree)) in
    let same = c.end_of.ensures.options ∙ c.walk.ensures.options in
    let marked = subst (λ o'. IsTree o' grown both.front' → IsTree c.mark_whole.new.self.options new both.front') same
    (c.mark_whole.ensures.tree both.front') both.grown.tree in
    added-from o old grown new front c.args.pattern.now end both c.in_ok-at.ensures.utf8
    (subst (λ o'. IsTree o' new both.front') (c.mark_whole.ensures.options ∙ same) marked) c.mark_whole.ensures.marked

pub returns-clause-accepted : goal.returns-clause-accepted
returns-clause-accepted g c = accepted-first c.args.pattern.now (pieces c.args.pattern.now) c.in_ok-new.ensures.accepted
    c.in_ok-at.ensures.accepted

pub returns-in_err-new-clause-refused : goal.returns-in_err-new-clause-refused
returns-in_err-new-clause-refused g c =
    let p = err_from_is_err_and c.from_residual.result c.from_residual.ensures.1 in
    rw (p.1, p.2) (refuses-whole c.args.pattern.now c.in_err-new.field-0.0 c.in_err-new.ensures.refused)

pub returns-in_err-at-clause-refused : goal.returns-in_err-at-clause-refused
returns-in_err-at-clause-refused g c =
    let p = err_from_is_err_and c.from_residual-in_err-at.result c.from_residual-in_err-at.ensures.1 in
    rw (p.1, p.2) (refuses-later c.args.pattern.now (pieces c.args.pattern.now) c.in_err-at.field-0.0 c.in_ok-new.ensures.accepted
    c.in_err-at.ensures.refused)

pub returns-in_err-end-clause-refused : goal.returns-in_err-end-clause-refused
returns-in_err-end-clause-refused g c =
    let p = err_from_is_err_and c.from_residual-in_err-end.result c.from_residual-in_err-end.ensures.1 in
    rw (p.1, p.2) (subst (RefusesFirst (readings c.args.pattern.now)) (sym c.in_err-end.ensures.refused) tt)
