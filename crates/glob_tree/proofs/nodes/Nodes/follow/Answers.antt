use Rattle.std.proofs.Common.{◌≡◌, sym, ap, ◌∙◌, refl, lit<, subst, Some}
use Rattle.std.specs.Iterator.{AlwaysYields}
use Rattle.std.specs.Str.Iter.{split_steps}
use Rattle.std.specs.Str.Pattern.{FindsChar}
use Rattle.std.proofs.lemmas.Iterator.Splits.{YieldsList-from_str_split}
use Rattle.glob_text.specs.Pieces.{pieces}
use Rattle.glob_tree.specs.Content.{steps}
use Rattle.glob_tree.specs.Private.Nodes.{key_numbered, rooted_content}
use Rattle.glob_tree.proofs.LoopLemmas.{left_after, none_left}
use Rattle.glob_tree.proofs.MemoryLemmas.Following.{follows_some, follows_none}
use Rattle.glob_tree.proofs.nodes.Nodes.follow.Goals as goal

pub loop-piece-init : goal.loop-piece-init
loop-piece-init g c =
    let split = c.split-piece-items.ensures in
    let left = (YieldsList-from_str_split 47 c.args.path.now (lit< tt) split.text split.has_more split.pattern).runs in
    record {
      inside = c.requires;
      left = (
        pieces c.args.path.now,
        subst (λ s. AlwaysYields (split_steps FindsChar (λ a b. b ≡ a)) (λ x. x.now) s
            (pieces c.args.path.now)) (sym c.into_iter-piece-iterator.ensures.into_iter_gives) left,
        refl,
      );
    }

pub returns-in_err-number : goal.returns-in_err-number
returns-in_err-number g c =
    let (rest, left, on) = c.loop-piece.invariant.left in
    let (ys, first, more) = left_after (split_steps FindsChar (λ a b. b ≡ a)) (λ x. x.now) c.loop-piece.piece-iterator
    c.next.new.self c.next.result c.in-Some.piece c.next.ensures.steps c.in-Some.is rest left in
    rw c.from_residual.ensures (
      sym (follows_none c.args.self.now _ c.loop-piece.number c.in-Some.piece.now
          c.step.result rest ys on first c.step.ensures c.in_err-number.was),
      tt,
    )

pub loop-piece-preserved : goal.loop-piece-preserved
loop-piece-preserved g c =
    let (rest, left, on) = c.loop-piece.invariant.left in
    let (ys, first, more) = left_after (split_steps FindsChar (λ a b. b ≡ a)) (λ x. x.now) c.loop-piece.piece-iterator
    c.next.new.self c.next.result c.in-Some.piece c.next.ensures.steps c.in-Some.is rest left in
    let (inside, further) = follows_some c.args.self.now _ c.loop-piece.number c.in_ok-number.number
    c.in-Some.piece.now c.step.result rest ys on first c.step.ensures c.in_ok-number.was in
    record { inside = inside; left = (ys, more, further) }

pub returns : goal.returns
returns g c =
    let (rest, left, on) = c.loop-piece.invariant.left in
    let none = none_left (split_steps FindsChar (λ a b. b ≡ a)) (λ x. x.now) c.loop-piece.piece-iterator
    c.next.new.self c.next.result c.next.ensures.steps c.in-None.is rest left in (
      sym (on ∙ ap (steps (rooted_content c.args.self.now) (Some (key_numbered c.args.self.now c.loop-piece.number)))
          none),
      c.loop-piece.invariant.inside,
    )
