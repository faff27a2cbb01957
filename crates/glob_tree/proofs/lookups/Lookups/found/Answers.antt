use Rattle.std.proofs.Common.{◌≡◌, true, ◌∷◌, [], sym, subst}
use Rattle.std.specs.List.{filter}
use Rattle.std.specs.Prelude.{OnOk}
use Rattle.glob_tree.specs.FileSystems.{IsHeld, is_direct, is_lost, lstat_found}
use Rattle.glob_tree.specs.Private.Looking.{LookupsModel}
use Rattle.glob_tree.specs.Strays.{and_then}
use Rattle.glob_tree.proofs.SystemLemmas.Settling.{answer_seen, settled_exactly, settled_found}
use Rattle.glob_tree.proofs.lookups.Lookups.found.Goals as goal

pub returns-clause-found : goal.returns-clause-found
returns-clause-found g c = λ f held direct.
    let files = subst (λ (d : LookupsModel _). IsHeld d.files f) (sym c.self.view_is) held in
    settled_found (lstat_found f c.args.path.now) c.lstat-answer.result (c.lstat-answer.ensures.found f files direct)
    c.settle.result c.settle.ensures.found c.settle.ensures.nothing

pub returns-clause-reported : goal.returns-clause-reported
returns-clause-reported g c = λ f.
    subst (λ (d : LookupsModel _). IsHeld d.files f → is_direct f c.args.path.now ≡ true
    → OnOk c.settle.result (g.S.Strays.paths c.settle.new.strays
    ≡ and_then (g.S.Strays.paths d.strays) (filter (is_lost f) (c.args.path.now ∷ []))))
    c.self.view_is
    (λ held direct. settled_exactly c.lstat-answer.result c.settle.result c.settle.ensures.found c.settle.ensures.nothing
    (is_lost f c.args.path.now) c.args.path.now (g.S.Strays.paths c.self.inside.strays) (g.S.Strays.paths c.settle.new.strays)
    (c.lstat-answer.ensures.fails f held direct)
    (answer_seen f c.args.path.now c.lstat-answer.result (c.lstat-answer.ensures.found f held direct))
    c.settle.ensures.known c.settle.ensures.missing c.settle.ensures.unsettled)
