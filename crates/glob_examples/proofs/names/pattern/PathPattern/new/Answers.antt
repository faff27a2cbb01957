use Rattle.std.proofs.Common.{◌∙◌, [], ◌∷◌, ◌++◌, sym, ap, subst, lit<, chars}
use Rattle.std.proofs.lemmas.Iterator.Consumers.{YieldsList-end}
use Rattle.std.proofs.lemmas.Iterator.Splits.{YieldsList-from_str_split}
use Rattle.std.proofs.lemmas.List.{map-append}
use Rattle.std.proofs.lemmas.List.Elements.{All-push}
use Rattle.glob.specs.Characters.{slash}
use Rattle.glob.specs.Grammar.Faults.{Refuses}
use Rattle.glob_examples.specs.Names.{IsComponent}
use Rattle.glob_examples.specs.NameTable.{shape_of}
use Rattle.glob_walk.proofs.WalkLemmas.Reading.{IfErr-from_known}
use Rattle.glob_examples.proofs.Refusals.{RefusesComponent-turn}
use Rattle.glob_examples.proofs.names.pattern.PathPattern.new.Goals as goal

pub loop-component-preserved : goal.loop-component-preserved
loop-component-preserved g c =
    let i = c.loop-component.invariant in
    let component = c.in-Some.component in
    let e = c.in_ok-push_component.ensures in
    record {
      read = rw (e.added, map-append (λ x. x.now) c.loop-component.yielded (component ∷ [])) (ap (λ xs. xs ++ component.now ∷ []) i.read);
      shaped = rw (e.shaped, e.added, map-append shape_of c.loop-component.components.items (component.now ∷ []))
          (ap (λ xs. xs ++ shape_of component.now ∷ []) i.shaped);
      accepted = rw e.added (All-push IsComponent _ _ i.accepted e.accepted);
    }

pub returns-in_err-push_component-clause-refused : goal.returns-in_err-push_component-clause-refused
returns-in_err-push_component-clause-refused g c =
    let parts = YieldsList-from_str_split slash c.args.text.now (lit< tt) (cc) (cc) (cc) in
    IfErr-from_known _ _ _
    (λ refusal is. RefusesComponent-turn parts c.loop-component.yielded _ c.loop-component.yielded_by
    _ _ c.in-Some.component c.in-Some.is c.next.ensures.steps _ c.loop-component.invariant.read c.loop-component.invariant.accepted
    refusal (subst (Refuses (chars c.in-Some.component.now)) (sym is) c.in_err-push_component.ensures.refused))
    c.from_residual.ensures.1

pub returns-clause-components : goal.returns-clause-components
returns-clause-components g c =
    let parts = YieldsList-from_str_split slash c.args.text.now (lit< tt) (cc) (cc) (cc) in
    let all = YieldsList-end parts c.loop-component.yielded _ c.loop-component.yielded_by _ _ c.in-None.is c.next.ensures.steps in
    c.loop-component.invariant.read ∙ all.0
