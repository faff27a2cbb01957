use Rattle.std.proofs.Common.{◌≡◌, ◌<◌, [], ◌∷◌, ◌++◌, None, Some, ap, arith, false, length, refl, set, subst, sym, vec_len, ◌∙◌}
use Rattle.std.specs.List.{All}
use Rattle.std.specs.Prelude.{slice_get}
use Rattle.std.proofs.lemmas.List.{length-append}
use Rattle.std.proofs.lemmas.Option.{same_Some, slice_get_read, slice_get_within}
use Rattle.glob_pattern.specs.Matching.Components.{is_recursive}
use Rattle.glob_search.specs.Private.NodeNumbers.{IsWithin}
use Rattle.glob_search.specs.Private.NodeGrowth.{GrownTo, IsFresh, Led, LeadsMore, component_text}
use Rattle.glob_search.proofs.BeginningLemmas.Growing.{get-push-below, kind-recursive, lead-grown, more, more-below, more-last, more-node}
use Rattle.glob_search.proofs.NodeLemmas.{within-same, within-pushed, within-changed}
use Rattle.glob_search.proofs.beginnings.Beginnings.lead.Goals as goal

pub invariant_of-self : goal.invariant_of-self
invariant_of-self g c = record {
  some = omega (arith, c.in_err-push.ensures.len, c.args.self.now.some);
  within = within-same c.args.self.now.nodes.items c.push.new.self.items _ _ c.in_err-push.ensures.items
      c.in_err-push.ensures.len c.args.self.now.within;
}

pub invariant_of-self-2 : goal.invariant_of-self-2
invariant_of-self-2 g c =
    let m = c.push.new.self.len in
    let all = within-pushed c.args.self.now.nodes.items c.push.new.self.items _ m c.new.result
    c.in_ok-push.ensures.items c.in_ok-push.ensures.len (c.new.ensures.within m) c.args.self.now.within in
    record {
      some = omega (arith, c.in_ok-push.ensures.len);
      within = within-changed c.push.new.self.items m c.args.at c.index_mut.result.now c.lead.new.self c.index_mut.ensures.value
          (omega (arith, c.requires, c.push.new.self.ok.0, c.in_ok-push.ensures.len)) all
          (c.lead.ensures.within m (omega (arith, c.len-node.ensures, c.in_ok-push.ensures.len)));
    }

pub returns-clause-led : goal.returns-clause-led
returns-clause-led g c front node tree is fits led last =
    let o = c.args.self.now.options in
    let nodes = c.args.self.now.nodes in
    let at = c.args.at in
    let x = c.args.component in
    let fresh = c.new.result in
    let items = c.push.new.self.items in
    let here = c.index_mut.result.now in
    let pushed : items ≡ nodes.items ++ fresh ∷ [] = c.in_ok-push.ensures.items in
    let lt : at < length nodes.items = slice_get_within nodes.items at node is in
    let inside : at < length items = omega (arith, lt, ap length pushed, length-append nodes.items (fresh ∷ [])) in
    let found : slice_get items at ≡ Some here = slice_get_read items (length items) at here refl inside c.index_mut.ensures.value in
    let same : node ≡ here = same_Some node here (sym is ∙ sym (get-push-below nodes.items fresh at lt) ∙ ap
    (λ xs. slice_get xs at) (sym pushed) ∙ found) in
    let is' : slice_get nodes.items at ≡ Some here = is ∙ ap Some same in
    let long : vec_len nodes ≡ length nodes.items = omega (arith, nodes.ok.0) in
    let number : c.len-node.result ≡ length nodes.items = c.len-node.ensures ∙ long in
    let within : All (IsWithin (length nodes.items)) nodes.items = subst (λ n. All (IsWithin n) nodes.items) long c.args.self.now.within in
    let f : IsFresh (is_recursive (component_text x)) fresh = subst (λ b. IsFresh b fresh) (c.is_deep-is_deep.ensures
    ∙ sym (kind-recursive o x fits)) c.new.ensures.fresh in
    let text = component_text x in
    let front' = more o nodes.items front tree within at here is' text fresh c.lead.new.self f in
    let there : front' c.len-node.result ≡ front' at ++ text ∷ [] =
    ap front' number ∙ more-last o nodes.items front tree within at here is' text fresh c.lead.new.self f
    ∙ ap (λ ts. ts ++ text ∷ []) (sym (more-below o nodes.items front tree within at here is' text fresh c.lead.new.self f at lt)) in
    let leads = c.in_ok-lead.ensures.leads o front' at (more-node o nodes.items front tree within at here is' text
    fresh c.lead.new.self f) fits
    (subst (λ n. Led n x None) same led) (λ d. subst (λ n. n.is_deep ≡ false) same (last d)) there in
    subst (λ xs. GrownTo o nodes.items (set xs at c.lead.new.self) front (front at ++ text ∷ []) c.len-node.result) (sym pushed)
    (subst (GrownTo o nodes.items (set (nodes.items ++ fresh ∷ []) at c.lead.new.self) front (front at ++ text ∷ [])) (sym number)
    (lead-grown o nodes.items front tree within at here is' text fresh c.lead.new.self f
    (subst (λ n. LeadsMore o front' at n here c.lead.new.self) number leads)))
