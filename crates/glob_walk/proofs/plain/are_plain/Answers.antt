use Rattle.std.proofs.Common.{false, ◌&&◌, [], ◌∷◌, ◌++◌, map, sym, ap, ◌∙◌, append_assoc, lit<, refl}
use Rattle.std.proofs.lemmas.Iterator.Consumers.{YieldsList-end}
use Rattle.std.proofs.lemmas.Iterator.Splits.{YieldsList-from_str_split}
use Rattle.std.proofs.lemmas.List.{map-append, append-nil}
use Rattle.glob_text.specs.Characters.{slash}
use Rattle.glob_walk.specs.Components.{is_recursive}
use Rattle.glob_walk.specs.Goal.{are_plain}
use Rattle.glob_walk.proofs.WalkLemmas.Reading.{split_at_turn}
use Rattle.glob_walk.proofs.plain.are_plain.Goals as goal

pub loop-component-init : goal.loop-component-init
loop-component-init c = λ rest. refl

-- a component that is not plain decides the answer
pub returns-then-not-is_plain_component : goal.returns-then-not-is_plain_component
returns-then-not-is_plain_component c =
    let parts = YieldsList-from_str_split slash c.args.text.now (lit< tt) (cc) (cc) (cc) in
    let (others, whole) = split_at_turn parts c.loop-component.yielded _ c.loop-component.yielded_by _ _
    c.in-Some.component c.in-Some.is c.next.ensures.steps in
    sym (ap (are_plain false) whole ∙ c.loop-component.invariant (c.in-Some.component.now ∷ others)
    ∙ ap (λ b. b && are_plain (is_recursive c.in-Some.component.now) others) (sym c.is_plain_component.ensures
    ∙ c.if-not-is_plain_component.true))

-- one more plain component
pub loop-component-preserved : goal.loop-component-preserved
loop-component-preserved c = λ rest.
    let component = c.in-Some.component in
    let yielded = map (λ x. x.now) c.loop-component.yielded in
    ap (λ ts. are_plain false (ts ++ rest)) (map-append (λ x. x.now) c.loop-component.yielded (component ∷ []))
    ∙ ap (are_plain false) (append_assoc yielded (component.now ∷ []) rest)
    ∙ c.loop-component.invariant (component.now ∷ rest)
    ∙ ap (λ b. b && are_plain (is_recursive component.now) rest) (sym c.is_plain_component.ensures ∙ c.if-not-is_plain_component.false)
    ∙ ap (λ run. are_plain run rest) (sym c.is_recursive-after_recursive.ensures)

-- there are no more components
pub returns : goal.returns
returns c =
    let parts = YieldsList-from_str_split slash c.args.text.now (lit< tt) (cc) (cc) (cc) in
    let all = YieldsList-end parts c.loop-component.yielded _ c.loop-component.yielded_by _ _ c.in-None.is c.next.ensures.steps in
    sym (ap (are_plain false) (sym all.0 ∙ sym (append-nil (map (λ x. x.now) c.loop-component.yielded))) ∙ c.loop-component.invariant [])
