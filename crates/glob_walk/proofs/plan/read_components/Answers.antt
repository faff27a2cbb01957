use Rattle.std.proofs.Common.{rules, ◌≡◌, true, false, ◌&&◌, ◌∙◌, [], ◌∷◌, ◌++◌, map, sym, ap, subst, lit<}
use Rattle.std.specs.Str.Iter.{split_text, split_has_more, split_pattern}
use Rattle.std.proofs.lemmas.Iterator.Consumers.{YieldsList-end}
use Rattle.std.proofs.lemmas.Iterator.Splits.{YieldsList-from_str_split}
use Rattle.std.proofs.lemmas.List.{map-append, append-nil}
use Rattle.glob_text.specs.Characters.{slash}
use Rattle.glob_text.specs.Pieces.{pieces}
use Rattle.glob_walk.specs.Components.{first_fault, is_recursive}
use Rattle.glob_walk.specs.Private.Merging.{merged, merged_after}
use Rattle.glob_walk.specs.Private.Forms.{text_fault}
use Rattle.glob_walk.specs.Walks.{RefusesWith}
use Rattle.glob_walk.proofs.WalkLemmas.Merging.{merged-skip, merged-push}
use Rattle.glob_walk.proofs.WalkLemmas.Literals.{text_fault-recursive}
use Rattle.glob_walk.proofs.WalkLemmas.Reading.{split_at_turn, first_fault-push, RefusesWith-first, IfErr-from_known}
use Rattle.glob_walk.proofs.plan.read_components.Goals as goal

pub loop-piece-preserved-then-is_recursive : goal.loop-piece-preserved-then-is_recursive
loop-piece-preserved-then-is_recursive g c =
    let i = c.loop-piece.invariant in
    let piece = c.in-Some.piece in
    let before = map (λ x. x.now) c.loop-piece.yielded in
    let yielded = map-append (λ x. x.now) c.loop-piece.yielded (piece ∷ []) in
    let after : c.loop-piece.after_recursive ≡ true = search rules in
    let recursive : is_recursive piece.now ≡ true = search rules in
    record {
      read = λ rest. ap (λ ts. merged (ts ++ rest)) yielded
          ∙ merged-skip before c.loop-piece.components.items rest c.loop-piece.after_recursive piece.now i.read
          (ap (λ b. b && is_recursive piece.now) after ∙ recursive)
          ∙ ap (λ b. c.loop-piece.components.items ++ merged_after b rest) (recursive ∙ sym after);
      accepted = ap first_fault yielded ∙ first_fault-push before piece.now i.accepted (text_fault-recursive piece.now recursive);
    }

pub loop-piece-preserved : goal.loop-piece-preserved
loop-piece-preserved g c =
    let i = c.loop-piece.invariant in
    let piece = c.in-Some.piece in
    let before = map (λ x. x.now) c.loop-piece.yielded in
    let yielded = map-append (λ x. x.now) c.loop-piece.yielded (piece ∷ []) in
    let items = rw c.in_ok-component.ensures.text at c.in_ok-push.ensures.items in
    let is : is_recursive piece.now ≡ c.is_recursive-after_recursive.result = search rules in
    let kept : (c.loop-piece.after_recursive && is_recursive piece.now) ≡ false = search rules in
    record {
      read = λ rest. ap (λ ts. merged (ts ++ rest)) yielded
          ∙ merged-push before c.loop-piece.components.items rest c.loop-piece.after_recursive piece.now i.read kept
          ∙ ap (λ ts. ts ++ merged_after (is_recursive piece.now) rest) (sym items)
          ∙ ap (λ recursive. c.push.new.self.items ++ merged_after recursive rest) is;
      accepted = ap first_fault yielded ∙ first_fault-push before piece.now i.accepted c.in_ok-component.ensures.accepted;
    }

pub returns-in_err-component-clause-refused : goal.returns-in_err-component-clause-refused
returns-in_err-component-clause-refused g c =
    let parts = c.split-piece-items.ensures in
    let same = c.into_iter-piece-iterator.ensures.into_iter_gives in
    let split = YieldsList-from_str_split slash c.args.text.now (lit< tt) (ap split_text same ∙ parts.text)
    (ap split_has_more same ∙ parts.has_more) (ap split_pattern same ∙ parts.pattern) in
    let i = c.loop-piece.invariant in
    let (others, whole) = split_at_turn split c.loop-piece.yielded _ c.loop-piece.yielded_by _ _ c.in-Some.piece
    c.in-Some.is c.next.ensures.steps in
    IfErr-from_known _ _ _
    (λ e is. RefusesWith-first (pieces c.args.text.now) (map (λ x. x.now) c.loop-piece.yielded) others c.in-Some.piece.now e
    whole i.accepted (subst (RefusesWith (text_fault c.in-Some.piece.now)) (sym is) c.in_err-component.ensures.refused))
    c.from_residual.ensures.1

pub returns-clause-components : goal.returns-clause-components
returns-clause-components g c =
    let parts = c.split-piece-items.ensures in
    let same = c.into_iter-piece-iterator.ensures.into_iter_gives in
    let split = YieldsList-from_str_split slash c.args.text.now (lit< tt) (ap split_text same ∙ parts.text)
    (ap split_has_more same ∙ parts.has_more) (ap split_pattern same ∙ parts.pattern) in
    let all = YieldsList-end split c.loop-piece.yielded _ c.loop-piece.yielded_by _ _ c.in-None.is c.next.ensures.steps in
    sym (append-nil c.loop-piece.components.items) ∙ sym (c.loop-piece.invariant.read []) ∙ ap merged
    (append-nil (map (λ x. x.now) c.loop-piece.yielded) ∙ all.0)

pub returns-clause-accepted : goal.returns-clause-accepted
returns-clause-accepted g c =
    let parts = c.split-piece-items.ensures in
    let same = c.into_iter-piece-iterator.ensures.into_iter_gives in
    let split = YieldsList-from_str_split slash c.args.text.now (lit< tt) (ap split_text same ∙ parts.text)
    (ap split_has_more same ∙ parts.has_more) (ap split_pattern same ∙ parts.pattern) in
    let all = YieldsList-end split c.loop-piece.yielded _ c.loop-piece.yielded_by _ _ c.in-None.is c.next.ensures.steps in
    ap first_fault (sym all.0) ∙ c.loop-piece.invariant.accepted
