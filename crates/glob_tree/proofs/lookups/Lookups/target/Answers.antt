use Rattle.std.proofs.Common.{◌≡◌, true, Ok, ◌∷◌, [], subst}
use Rattle.std.specs.List.{filter}
use Rattle.std.specs.Prelude.{OnOk, ⊤}
use Rattle.glob_tree.specs.FileSystems.{IsHeld, is_direct, is_target_lost, number_found}
use Rattle.glob_tree.specs.Private.Looking.{LookupsModel}
use Rattle.glob_tree.specs.Strays.{and_then}
use Rattle.glob_tree.proofs.SystemLemmas.Settling.{number_seen, on_ok, settled_exactly}
use Rattle.glob_tree.proofs.lookups.Lookups.target.Goals as goal

pub returns-clause-reported : goal.returns-clause-reported
returns-clause-reported g c = λ f.
    subst (λ (d : LookupsModel _). IsHeld d.files f → is_direct f c.args.link.now ≡ true
    → OnOk c.match-branch-2.result (g.S.Strays.paths c.settle.new.strays
    ≡ and_then (g.S.Strays.paths d.strays) (filter (is_target_lost f) (c.args.link.now ∷ []))))
    c.self.view_is
    (λ held direct. on_ok c.match-branch-2.result
    (settled_exactly {E = ⊤} c.directory_id-answer.result (Ok c.in_ok-target.field-0) c.in_ok-target.ensures.found
    c.in_ok-target.ensures.nothing (is_target_lost f c.args.link.now) c.args.link.now
    (g.S.Strays.paths c.self.inside.strays) (g.S.Strays.paths c.settle.new.strays)
    (c.directory_id-answer.ensures.fails f held direct)
    (number_seen f c.args.link.now (number_found f c.args.link.now) c.directory_id-answer.result
    (c.directory_id-answer.ensures.number f held direct))
    c.in_ok-target.ensures.known c.in_ok-target.ensures.missing c.in_ok-target.ensures.unsettled))
