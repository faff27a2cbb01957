use Rattle.std.proofs.Common.{rules, ◌≡◌, ap, sym, ◌∙◌, true, false, subst}
use Rattle.std.specs.Prelude.{IfOk}
use Rattle.glob_walk.specs.Components.{Wild, component_kind, is_literal, is_recursive}
use Rattle.glob_walk.specs.Private.Forms.{form_text, form_kind, takes_name}
use Rattle.glob_walk.proofs.ListingLemmas.ComponentKinds.{kind-Literal, kind-Wild, literal_not_recursive}
use Rattle.glob_walk.proofs.WalkLemmas.Literals.{takes_same, matches_name-literal, matches_name-result}
use Rattle.glob_walk.proofs.component.Component.matches.Goals as goal

pub returns-in-Literal : goal.returns-in-Literal
returns-in-Literal g c =
    let is : c.as_str.result.now ≡ c.args.self.now = search rules in
    let literal : is_literal c.as_str.result.now ≡ true = kind-Literal c.as_str.result.now (search rules) in
    c.is_same_text.ensures
    ∙ matches_name-literal c.args.options c.as_str.result.now c.args.name.now c.as_str.utf8 c.utf8.name literal
    ∙ takes_same c.args.options c.as_str.result.now c.args.name.now (literal_not_recursive c.as_str.result.now literal)
    ∙ ap (λ text. takes_name c.args.options text c.args.name.now) is

pub returns-in-Wild : goal.returns-in-Wild
returns-in-Wild g c =
    let text : form_text c.self.inside.form ≡ c.in-Wild.pattern = ap form_text c.in-Wild.is in
    let kind : component_kind (form_text c.self.inside.form) ≡ Wild = c.self.invariant ∙ ap form_kind c.in-Wild.is in
    let other : is_recursive c.in-Wild.pattern ≡ false = ap is_recursive (sym text) ∙ (kind-Wild (form_text c.self.inside.form) kind).1 in
    subst (λ b. IfOk c.matches_with.result (λ yes. yes ≡ b))
    (takes_same c.args.options c.in-Wild.pattern c.args.name.now other ∙ ap (λ t. takes_name c.args.options t
    c.args.name.now) (sym text ∙ c.self.view_is))
    (matches_name-result c.args.options c.in-Wild.pattern c.args.name.now c.matches_with.result c.matches_with.ensures.answer)
