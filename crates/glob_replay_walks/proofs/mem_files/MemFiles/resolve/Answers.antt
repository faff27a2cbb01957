use Rattle.std.proofs.Common.{◌≡◌, sym, ap, ◌∙◌, lit<, subst, Some}
use Rattle.std.specs.Prelude.{option_map}
use Rattle.std.specs.Iterator.{AlwaysYields}
use Rattle.std.specs.Str.Iter.{split_steps}
use Rattle.std.specs.Str.Pattern.{FindsChar}
use Rattle.std.proofs.lemmas.Bool.{eqb-true, eqb-false}
use Rattle.std.proofs.lemmas.Iterator.Splits.{YieldsList-from_str_split}
use Rattle.std.proofs.lemmas.List.{nil_from_length}
use Rattle.glob.specs.Pieces.{pieces}
use Rattle.glob_tree.specs.Content.{resolve, steps}
use Rattle.glob_tree.proofs.ContentLemmas.Resolving.{resolve_empty, resolve_steps, steps_none}
use Rattle.glob_tree.proofs.LoopLemmas.{left_after, none_left}
use Rattle.glob_tree.proofs.MemoryLemmas.Nodes.{not_zero}
use Rattle.glob_replay_walks.specs.MemFiles.{content_of, key_of}
use Rattle.glob_replay_walks.proofs.FileLemmas.{origin-root}
use Rattle.glob_replay_walks.proofs.mem_files.MemFiles.resolve.Goals as goal

pub returns-then-is_empty : goal.returns-then-is_empty
returns-then-is_empty g c =
    let none = nil_from_length c.args.path.now (eqb-true _ 0 (sym c.if-is_empty.ensures)) in
    sym (ap (resolve (content_of c.args.self.now.kinds.items)) none ∙ resolve_empty _)

pub loop-piece-init : goal.loop-piece-init
loop-piece-init g c =
    let split = c.split-piece-items.ensures in
    let content = content_of c.args.self.now.kinds.items in
    let left = (YieldsList-from_str_split 47 c.args.path.now (lit< tt) split.text split.has_more split.pattern).runs in
    let some = not_zero _ (eqb-false _ 0 (sym c.if-is_empty.ensures)) in (
      pieces c.args.path.now,
      subst (λ s. AlwaysYields (split_steps FindsChar (λ a b. b ≡ a)) (λ x. x.now) s (pieces c.args.path.now))
          (sym c.into_iter-piece-iterator.ensures.into_iter_gives) left,
      resolve_steps content c.args.path.now some
          ∙ ap (λ k. steps content (Some k) (pieces c.args.path.now))
          (origin-root c.args.self.now.kinds.items c.args.path.now ∙ ap key_of (sym c.new-at.ensures.items)),
    )

pub loop-piece-preserved : goal.loop-piece-preserved
loop-piece-preserved g c =
    let (rest, left, on) = c.loop-piece.invariant in
    let content = content_of c.args.self.now.kinds.items in
    let (ys, first, more) = left_after (split_steps FindsChar (λ a b. b ≡ a)) (λ x. x.now) c.loop-piece.piece-iterator
    c.next.new.self c.next.result c.in-Some.piece c.next.ensures.steps c.in-Some.is rest left in (
      ys,
      more,
      on ∙ ap (steps content (Some (key_of c.loop-piece.at.items))) first
          ∙ ap (λ o. steps content o ys) (sym c.in_ok-next.ensures ∙ ap (option_map (λ k. key_of k.items)) c.in-Some-2.is),
    )

pub returns-in-None-2 : goal.returns-in-None-2
returns-in-None-2 g c =
    let (rest, left, on) = c.loop-piece.invariant in
    let content = content_of c.args.self.now.kinds.items in
    let (ys, first, more) = left_after (split_steps FindsChar (λ a b. b ≡ a)) (λ x. x.now) c.loop-piece.piece-iterator
    c.next.new.self c.next.result c.in-Some.piece c.next.ensures.steps c.in-Some.is rest left in
    sym (on ∙ ap (steps content (Some (key_of c.loop-piece.at.items))) first
    ∙ ap (λ o. steps content o ys) (sym c.in_ok-next.ensures ∙ ap (option_map (λ k. key_of k.items)) c.in-None-2.is) ∙
    steps_none content ys)

pub returns : goal.returns
returns g c =
    let (rest, left, on) = c.loop-piece.invariant in
    let content = content_of c.args.self.now.kinds.items in
    let none = none_left (split_steps FindsChar (λ a b. b ≡ a)) (λ x. x.now) c.loop-piece.piece-iterator c.next.new.self
    c.next.result c.next.ensures.steps c.in-None.is rest left in
    sym (on ∙ ap (steps content (Some (key_of c.loop-piece.at.items))) none)
