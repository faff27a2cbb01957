use Rattle.std.proofs.Common.{ℕ, [], ◌∷◌, ◌++◌, List, ap, arith, length, lit<, map, refl, subst, sym, ◌∙◌}
use Rattle.std.specs.List.{All}
use Rattle.std.specs.Str.{IsUtf8, chars}
use Rattle.std.specs.Str.Iter.{split_has_more, split_pattern, split_text}
use Rattle.std.proofs.lemmas.Iterator.Consumers.{YieldsList-end, YieldsList-so_far, YieldsList-turn}
use Rattle.std.proofs.lemmas.Iterator.Splits.{YieldsList-from_str_split}
use Rattle.std.proofs.lemmas.List.{map-append}
use Rattle.std.proofs.lemmas.Result.{err_from_is_err_and}
use Rattle.std.proofs.lemmas.List.Elements.{All-nil, All-push}
use Rattle.glob_text.specs.Characters.{slash}
use Rattle.glob_pattern.specs.Grammar.Units.{IsAccepted}
use Rattle.glob_set.specs.BraceSets.{AreAccepted}
use Rattle.glob_text.specs.Pieces.{pieces}
use Rattle.glob_text.specs.Text.{Text}
use Rattle.glob_search.specs.Private.NodeGrowth.{GrownTo, pushed, walked}
use Rattle.glob_search.specs.Private.Nodes.{IsTree, key_of}
use Rattle.glob_search.proofs.BeginningLemmas.Growing.{GrownTo-none}
use Rattle.glob_search.proofs.BeginningLemmas.Refusing.{accepted-all, refuses-at}
use Rattle.glob_search.proofs.BeginningLemmas.Walking.{GrownTo-then, pushed-on, walked-push}
use Rattle.glob_search.proofs.beginnings.Beginnings.walk.Goals as goal

pub loop-component-init : goal.loop-component-init
loop-component-init g c =
    let b = c.args.self.now in
    record {
      options = refl;
      within = b.some;
      utf8 = All-nil IsUtf8;
      accepted = All-nil (λ t. IsAccepted (chars t));
      walked_to = λ front tree. GrownTo-none b.options b.nodes.items front [] 0 tree (omega (arith, b.some, b.nodes.ok.0)) tree.root;
    }

pub loop-component-preserved : goal.loop-component-preserved
loop-component-preserved g c =
    let o = c.args.self.now.options in
    let old = c.args.self.now.nodes.items in
    let now = c.loop-component.self.nodes.items in
    let new = c.child.new.self.nodes.items in
    let i = c.loop-component.invariant in
    let at = c.loop-component.at in
    let next = c.in_ok-at.at in
    let piece = c.in-Some.component.now in
    let before = map (λ x. x.now) c.loop-component.yielded in
    let yielded = map-append (λ x. x.now) c.loop-component.yielded (c.in-Some.component ∷ []) in
    record {
      options = c.child.ensures.options ∙ i.options;
      within = c.in_ok-at.ensures.within;
      utf8 = subst (All IsUtf8) (sym yielded) (All-push IsUtf8 before piece i.utf8 c.child.ensures.utf8);
      accepted = subst (All (λ t. IsAccepted (chars t))) (sym yielded)
          (All-push (λ t. IsAccepted (chars t)) before piece i.accepted c.in_ok-at.ensures.accepted);
      walked_to = λ front tree.
          let a = i.walked_to front tree in
          let b = subst (λ o'. (f : ℕ → List Text) → IsTree o' now f → GrownTo o' now new f (pushed (f at)
          (key_of o' piece)) next) i.options c.in_ok-at.ensures.child in
          let on = pushed-on (walked (map (key_of o) before)) (key_of o piece) in
          subst (λ ts. GrownTo o old new front (walked (map (key_of o) ts)) next) (sym yielded)
          (GrownTo-then o old now new front (walked (map (key_of o) before))
          (walked (map (key_of o) (before ++ piece ∷ []))) at next a (on.0, walked-push o before piece ∙ on.1)
          (subst (λ path. GrownTo o now new a.front' path next) (ap (λ ts. pushed ts (key_of o piece)) a.is ∙ sym
          (walked-push o before piece)) (b a.front' a.grown.tree)));
    }

pub returns-clause-walked : goal.returns-clause-walked
returns-clause-walked g c front tree =
    let o = c.args.self.now.options in
    let parts = c.split-component-items.ensures in
    let same = c.into_iter-component-iterator.ensures.into_iter_gives in
    let split = YieldsList-from_str_split slash c.args.pattern.now (lit< tt) (ap split_text same ∙ parts.text)
    (ap split_has_more same ∙ parts.has_more) (ap split_pattern same ∙ parts.pattern) in
    let all = YieldsList-end split c.loop-component.yielded _ c.loop-component.yielded_by _ _ c.in-None.is c.next.ensures.steps in
    subst (λ ts. GrownTo o c.args.self.now.nodes.items c.loop-component.self.nodes.items front
    (walked (map (key_of o) ts)) c.loop-component.at) all.0
    (c.loop-component.invariant.walked_to front tree)

pub returns-clause-utf8 : goal.returns-clause-utf8
returns-clause-utf8 g c =
    let parts = c.split-component-items.ensures in
    let same = c.into_iter-component-iterator.ensures.into_iter_gives in
    let split = YieldsList-from_str_split slash c.args.pattern.now (lit< tt) (ap split_text same ∙ parts.text)
    (ap split_has_more same ∙ parts.has_more) (ap split_pattern same ∙ parts.pattern) in
    let all = YieldsList-end split c.loop-component.yielded _ c.loop-component.yielded_by _ _ c.in-None.is c.next.ensures.steps in
    subst (All IsUtf8) all.0 c.loop-component.invariant.utf8

pub returns-clause-accepted : goal.returns-clause-accepted
returns-clause-accepted g c =
    let parts = c.split-component-items.ensures in
    let same = c.into_iter-component-iterator.ensures.into_iter_gives in
    let split = YieldsList-from_str_split slash c.args.pattern.now (lit< tt) (ap split_text same ∙ parts.text)
    (ap split_has_more same ∙ parts.has_more) (ap split_pattern same ∙ parts.pattern) in
    let all = YieldsList-end split c.loop-component.yielded _ c.loop-component.yielded_by _ _ c.in-None.is c.next.ensures.steps in
    subst AreAccepted all.0 (accepted-all (map (λ x. x.now) c.loop-component.yielded) c.loop-component.invariant.accepted)

pub returns-in_err-at-clause-refused : goal.returns-in_err-at-clause-refused
returns-in_err-at-clause-refused g c =
    let parts = c.split-component-items.ensures in
    let same = c.into_iter-component-iterator.ensures.into_iter_gives in
    let split = YieldsList-from_str_split slash c.args.pattern.now (lit< tt) (ap split_text same ∙ parts.text)
    (ap split_has_more same ∙ parts.has_more) (ap split_pattern same ∙ parts.pattern) in
    let yielded = c.loop-component.yielded in
    let turn = YieldsList-turn split yielded _ c.loop-component.yielded_by _ _ c.in-Some.component c.in-Some.is c.next.ensures.steps in
    let so_far = YieldsList-so_far split yielded _ c.loop-component.yielded_by in
    let p = err_from_is_err_and c.from_residual.result c.from_residual.ensures.1 in
    rw (p.1, p.2) (refuses-at (pieces c.args.pattern.now) (length yielded) c.in-Some.component.now turn.0 turn.1
    (subst (All (λ t. IsAccepted (chars t))) so_far c.loop-component.invariant.accepted) c.in_err-at.field-0.0 c.in_err-at.ensures.refused)
