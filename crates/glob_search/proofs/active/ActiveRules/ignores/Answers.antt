use Rattle.std.proofs.Common.{false, ap, ap₂, sym, ◌∙◌, refl}
use Rattle.std.specs.Prelude.{option_map, unwrap_or}
use Rattle.std.specs.Option.{option_or}
use Rattle.glob_search.specs.Private.Asked.{cut_by, last_of, seen_by, seen_by_outer}
use Rattle.glob_search.proofs.ActiveLemmas.{active-boundaries}
use Rattle.glob_search.proofs.DecidingLemmas.{ignored-by, ignores_by, of-slice, read-by}
use Rattle.glob_search.proofs.active.ActiveRules.ignores.Goals as goal

pub returns-in-Some : goal.returns-in-Some
returns-in-Some g c = record {
  decides = λ a directory n are_active proper is.
      let h = c.args.self.now in
      let path = c.args.path.now in
      let d = c.args.is_dir in
      let cuts = active-boundaries a directory n h path are_active is c.utf8.path in
      let first = of-slice c.as_slice.result.now h.first.items path d c.in_ok-rule.field-0 c.as_slice.ensures.value
      c.in_ok-rule.ensures cuts.0 in
      let rest = option_or (option_map ignores_by (last_of (seen_by path h.files.items) d 0))
      (option_map ignores_by (last_of (seen_by_outer path h.last.items) d 0)) in
      sym (ignored-by a directory n h path d are_active is _ _ _ first refl refl
      ∙ ap (λ o. unwrap_or (option_or (option_map ignores_by o) rest) false) c.in-Some.is);
  read =
      let h = c.args.self.now in
      let path = c.args.path.now in
      let d = c.args.is_dir in
      let rest = option_or (option_map ignores_by (last_of (cut_by path h.files.items) d 0))
      (option_map ignores_by (last_of (seen_by_outer path h.last.items) d 0)) in
      sym (read-by h path d _ h.files.items _ _ _ c.as_slice.ensures.value c.in_ok-rule.ensures refl refl refl
      ∙ ap (λ o. unwrap_or (option_or (option_map ignores_by o) rest) false) c.in-Some.is);
}

pub returns-in-Some-2 : goal.returns-in-Some-2
returns-in-Some-2 g c = record {
  decides = λ a directory n are_active proper is.
      let h = c.args.self.now in
      let path = c.args.path.now in
      let d = c.args.is_dir in
      let cuts = active-boundaries a directory n h path are_active is c.utf8.path in
      let first = of-slice c.as_slice.result.now h.first.items path d c.in_ok-rule.field-0 c.as_slice.ensures.value
      c.in_ok-rule.ensures cuts.0 in
      let files = of-slice c.as_slice-2.result.now h.files.items path d c.in_ok-rule-2.field-0 c.as_slice-2.ensures.value
      c.in_ok-rule-2.ensures cuts.1 in
      let rest = option_map ignores_by (last_of (seen_by_outer path h.last.items) d 0) in
      sym (ignored-by a directory n h path d are_active is _ _ _ first files refl
      ∙ ap₂ (λ o p. unwrap_or (option_or (option_map ignores_by o) (option_or (option_map ignores_by p) rest)) false)
      c.in_default.is c.in-Some-2.is);
  read =
      let h = c.args.self.now in
      let path = c.args.path.now in
      let d = c.args.is_dir in
      let rest = option_map ignores_by (last_of (seen_by_outer path h.last.items) d 0) in
      sym (read-by h path d _ _ _ _ _ c.as_slice.ensures.value c.in_ok-rule.ensures c.as_slice-2.ensures.value
      c.in_ok-rule-2.ensures refl
      ∙ ap₂ (λ o p. unwrap_or (option_or (option_map ignores_by o) (option_or (option_map ignores_by p) rest)) false)
      c.in_default.is c.in-Some-2.is);
}

pub returns-in-Some-3 : goal.returns-in-Some-3
returns-in-Some-3 g c = record {
  decides = λ a directory n are_active proper is.
      let h = c.args.self.now in
      let path = c.args.path.now in
      let d = c.args.is_dir in
      let cuts = active-boundaries a directory n h path are_active is c.utf8.path in
      let first = of-slice c.as_slice.result.now h.first.items path d c.in_ok-rule.field-0 c.as_slice.ensures.value
      c.in_ok-rule.ensures cuts.0 in
      let files = of-slice c.as_slice-2.result.now h.files.items path d c.in_ok-rule-2.field-0 c.as_slice-2.ensures.value
      c.in_ok-rule-2.ensures cuts.1 in
      let last = c.in_ok-rule-3.ensures ∙ ap (λ ls. last_of (seen_by_outer path ls) d 0) c.as_slice-3.ensures.value in
      sym (ignored-by a directory n h path d are_active is _ _ _ first files last
      ∙ ap₂ (λ o p. unwrap_or (option_or (option_map ignores_by o) p) false) c.in_default.is
      (ap₂ (λ o p. option_or (option_map ignores_by o) (option_map ignores_by p)) c.in_default-2.is c.in-Some-3.is));
  read =
      let h = c.args.self.now in
      let path = c.args.path.now in
      let d = c.args.is_dir in
      let last = c.in_ok-rule-3.ensures ∙ ap (λ ls. last_of (seen_by_outer path ls) d 0) c.as_slice-3.ensures.value in
      sym (read-by h path d _ _ _ _ _ c.as_slice.ensures.value c.in_ok-rule.ensures c.as_slice-2.ensures.value
      c.in_ok-rule-2.ensures last
      ∙ ap₂ (λ o p. unwrap_or (option_or (option_map ignores_by o) p) false) c.in_default.is
      (ap₂ (λ o p. option_or (option_map ignores_by o) (option_map ignores_by p)) c.in_default-2.is c.in-Some-3.is));
}

pub returns-in-None : goal.returns-in-None
returns-in-None g c = record {
  decides = λ a directory n are_active proper is.
      let h = c.args.self.now in
      let path = c.args.path.now in
      let d = c.args.is_dir in
      let cuts = active-boundaries a directory n h path are_active is c.utf8.path in
      let first = of-slice c.as_slice.result.now h.first.items path d c.in_ok-rule.field-0 c.as_slice.ensures.value
      c.in_ok-rule.ensures cuts.0 in
      let files = of-slice c.as_slice-2.result.now h.files.items path d c.in_ok-rule-2.field-0 c.as_slice-2.ensures.value
      c.in_ok-rule-2.ensures cuts.1 in
      let last = c.in_ok-rule-3.ensures ∙ ap (λ ls. last_of (seen_by_outer path ls) d 0) c.as_slice-3.ensures.value in
      sym (ignored-by a directory n h path d are_active is _ _ _ first files last
      ∙ ap₂ (λ o p. unwrap_or (option_or (option_map ignores_by o) p) false) c.in_default.is
      (ap₂ (λ o p. option_or (option_map ignores_by o) (option_map ignores_by p)) c.in_default-2.is c.in-None.is));
  read =
      let h = c.args.self.now in
      let path = c.args.path.now in
      let d = c.args.is_dir in
      let last = c.in_ok-rule-3.ensures ∙ ap (λ ls. last_of (seen_by_outer path ls) d 0) c.as_slice-3.ensures.value in
      sym (read-by h path d _ _ _ _ _ c.as_slice.ensures.value c.in_ok-rule.ensures c.as_slice-2.ensures.value
      c.in_ok-rule-2.ensures last
      ∙ ap₂ (λ o p. unwrap_or (option_or (option_map ignores_by o) p) false) c.in_default.is
      (ap₂ (λ o p. option_or (option_map ignores_by o) (option_map ignores_by p)) c.in_default-2.is c.in-None.is));
}
