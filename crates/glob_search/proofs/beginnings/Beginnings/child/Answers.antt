use Rattle.std.proofs.Common.{◌≡◌, ◌<◌, ◌&&◌, [], ◌∷◌, ◌++◌, Some, ap, arith, false, length, refl, subst, sym, true, vec_len, ◌∙◌}
use Rattle.std.specs.Prelude.{slice_get}
use Rattle.std.proofs.lemmas.Bool.{and_from, and_right, both_ways, false_from_ne_true}
use Rattle.std.proofs.lemmas.List.Elements.{All-get_or}
use Rattle.std.proofs.lemmas.Option.{slice_get_read}
use Rattle.glob_pattern.specs.Matching.Components.{is_recursive}
use Rattle.glob_search.specs.Searching.{ends_recursive}
use Rattle.glob_search.specs.Private.NodeGrowth.{GrownTo}
use Rattle.glob_search.specs.Private.NodeNumbers.{IsWithin}
use Rattle.glob_search.specs.Private.Nodes.{key_of}
use Rattle.glob_search.proofs.BeginningLemmas.Growing.{GrownTo-none, kind-recursive, led-front, pushed-more, pushed-same}
use Rattle.glob_search.proofs.beginnings.Beginnings.child.Goals.{else-is_deep-via-then-is_deep+else-index, else-is_deep-via-else-is_deep}
use Rattle.glob_search.proofs.beginnings.Beginnings.child.Goals as goal

pub returns-in-Some-clause-within : goal.returns-in-Some-clause-within
returns-in-Some-clause-within g c =
    let n = vec_len c.args.self.now.nodes in
    let here = All-get_or (IsWithin n) c.args.self.now.nodes.items c.args.at c.index-2.result.now
    (omega (arith, c.requires, c.args.self.now.nodes.ok.0)) c.args.self.now.within in
    c.in-Some.ensures.within n (subst (IsWithin n) (sym c.index-2.ensures) here)

pub returns-then-index-clause-child : goal.returns-then-index-clause-child
returns-then-index-clause-child g c front tree =
    let o = c.args.self.now.options in
    let nodes = c.args.self.now.nodes in
    let at = c.args.at in
    let x = c.in_ok-component.component in
    let e = c.in_ok-component.ensures.component in
    let key = key_of o c.args.component.now in
    let here = c.index.result.now in
    let lt : at < length nodes.items = omega (arith, c.requires, nodes.ok.0) in
    let found : slice_get nodes.items at ≡ Some here = slice_get_read nodes.items (length nodes.items) at here refl lt c.index.ensures in
    let ends : ends_recursive (front at) ≡ true = sym (tree.each at here found).ends ∙ c.if-index.true in
    let rec : is_recursive key ≡ true = ap is_recursive (sym e.1) ∙ kind-recursive o x e.0 ∙ sym c.is_deep.ensures ∙ c.if-is_deep.true in
    GrownTo-none o nodes.items front _ at tree lt (sym (pushed-same (front at) key ends rec))

pub returns-in-Some-clause-child : goal.returns-in-Some-clause-child
returns-in-Some-clause-child g c front tree =
    let o = c.args.self.now.options in
    let nodes = c.args.self.now.nodes in
    let at = c.args.at in
    let x = c.in_ok-component.component in
    let e = c.in_ok-component.ensures.component in
    let key = key_of o c.args.component.now in
    let here = c.index-2.result.now in
    let lt : at < length nodes.items = omega (arith, c.requires, nodes.ok.0) in
    let found : slice_get nodes.items at ≡ Some here = slice_get_read nodes.items (length nodes.items) at here refl lt c.index-2.ensures in
    let none : (ends_recursive (front at) && is_recursive key) ≡ false =
    elim c.else-is_deep.branch [
      | else-is_deep-via-then-is_deep+else-index w ↦
          ap (λ b. b && is_recursive key) (sym (tree.each at w.index.result.now (slice_get_read nodes.items
          (length nodes.items) at w.index.result.now refl lt w.index.ensures)).ends ∙ w.if-index.false)
      | else-is_deep-via-else-is_deep w ↦
          and_right (ends_recursive (front at)) (is_recursive key) (ap is_recursive (sym e.1) ∙ kind-recursive o x e.0
          ∙ sym c.is_deep.ensures ∙ w.if-is_deep.false)
    ] in
    let n = vec_len nodes in
    let inside = All-get_or (IsWithin n) nodes.items at here lt c.args.self.now.within in
    let below = c.in-Some.ensures.within n (subst (IsWithin n) (sym c.index-2.ensures) inside) in
    let h = tree.each at here found in
    GrownTo-none o nodes.items front _ c.in-Some.node tree (omega (arith, below, nodes.ok.0))
    (led-front o nodes.items front at here h x c.in-Some.node (c.in-Some.ensures.led h.ascend) ∙ ap
    (λ t. front at ++ t ∷ []) e.1 ∙ sym (pushed-more (front at) key none))

pub returns-clause-child : goal.returns-clause-child
returns-clause-child g c front tree =
    let o = c.args.self.now.options in
    let nodes = c.args.self.now.nodes in
    let at = c.args.at in
    let x = c.in_ok-component.component in
    let e = c.in_ok-component.ensures.component in
    let key = key_of o c.args.component.now in
    let here = c.index-2.result.now in
    let lt : at < length nodes.items = omega (arith, c.requires, nodes.ok.0) in
    let found : slice_get nodes.items at ≡ Some here = slice_get_read nodes.items (length nodes.items) at here refl lt c.index-2.ensures in
    let rec = ap is_recursive (sym e.1) ∙ kind-recursive o x e.0 in
    let none : (ends_recursive (front at) && is_recursive key) ≡ false =
    elim c.else-is_deep.branch [
      | else-is_deep-via-then-is_deep+else-index w ↦
          ap (λ b. b && is_recursive key) (sym (tree.each at w.index.result.now (slice_get_read nodes.items
          (length nodes.items) at w.index.result.now refl lt w.index.ensures)).ends ∙ w.if-index.false)
      | else-is_deep-via-else-is_deep w ↦
          and_right (ends_recursive (front at)) (is_recursive key) (rec ∙ sym c.is_deep.ensures ∙ w.if-is_deep.false)
    ] in
    let h = tree.each at here found in
    subst (λ path. GrownTo o nodes.items c.lead.new.self.nodes.items front path c.in_ok-lead.field-0)
    (ap (λ t. front at ++ t ∷ []) e.1 ∙ sym (pushed-more (front at) key none))
    (c.in_ok-lead.ensures.led front here tree found e.0 (c.in_default.ensures.led h.ascend)
    (λ d. false_from_ne_true here.is_deep (λ y. both_ways (ends_recursive (front at) && is_recursive key) none
    (and_from (ends_recursive (front at)) (is_recursive key) (sym h.ends ∙ y) (rec ∙ d)))))
