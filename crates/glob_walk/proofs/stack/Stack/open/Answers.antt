use Rattle.std.proofs.Common.{refl, ◌≡◌, ◌+◌, ◌++◌, ◌∙◌, true, subst, sym, ap, arith}
use Rattle.std.specs.List.{sum_by}
use Rattle.std.proofs.lemmas.List.Elements.{All-push}
use Rattle.std.proofs.lemmas.Result.{err_from_is_err_and}
use Rattle.std.proofs.lemmas.List.Sums.{sum_by_push}
use Rattle.glob_walk.specs.Private.Frames.{frame_marks, is_done, unmet, IsFrameSound}
use Rattle.glob_walk.specs.Private.Tasks.{next_marks}
use Rattle.glob_walk.specs.Private.Stacks.{left, frames_marks, AreSound}
use Rattle.glob_walk.proofs.WalkLemmas.Stacking.{done_marks, left_none, frames_last, sound_none}
use Rattle.glob_walk.proofs.WalkLemmas.Depths.{deep_opened}
use Rattle.glob_walk.proofs.stack.Stack.open.Goals as goal

pub returns-then-is_done-clause-left : goal.returns-then-is_done-clause-left
returns-then-is_done-clause-left g c = λ c'.
    let done : is_done c.args.frame ≡ true = sym c.is_done.ensures ∙ c.if-is_done.true in
    sym (ap (λ ms. ms ++ left c' c.args.self.now) (done_marks c' c.args.self.now.plan c.args.frame done))

pub returns-then-is_done-clause-ready : goal.returns-then-is_done-clause-ready
returns-then-is_done-clause-ready g c = omega arith

pub returns-then-is_done-clause-sound : goal.returns-then-is_done-clause-sound
returns-then-is_done-clause-sound g c = λ c' f s. s

pub returns-clause-left : goal.returns-clause-left
returns-clause-left g c = λ c'.
    ap (λ n. next_marks c' c.args.self.now.plan n ++ frames_marks c' c.args.self.now.plan c.push.new.self.items) c.requires.none
    ∙ ap (frames_marks c' c.args.self.now.plan) c.in_ok-push.ensures.items
    ∙ frames_last c' c.args.self.now.plan c.args.self.now.frames.items c.args.frame
    ∙ ap (λ ms. frame_marks c' c.args.self.now.plan c.args.frame ++ ms) (left_none c' c.args.self.now c.requires.none)

pub returns-clause-ready : goal.returns-clause-ready
returns-clause-ready g c =
    let more : sum_by unmet c.push.new.self.items ≡ sum_by unmet c.args.self.now.frames.items + unmet c.args.frame =
    ap (sum_by unmet) c.in_ok-push.ensures.items ∙ sum_by_push unmet c.args.self.now.frames.items c.args.frame in
    omega (arith, more)

pub returns-clause-sound : goal.returns-clause-sound
returns-clause-sound g c = λ c' f h.
    let s = c.args.self.now in
    sound_none c' _ c.requires.none (subst (AreSound c' s.plan) (sym c.in_ok-push.ensures.items) (record {
      entries = All-push (IsFrameSound c') s.frames.items c.args.frame h.frames.entries f.entries;
      deep = λ plain. deep_opened c' s.plan s.frames.items c.args.frame (h.frames.deep plain) (f.deep plain);
    }))

pub returns-then-is_done-clause-plan : goal.returns-then-is_done-clause-plan
returns-then-is_done-clause-plan g c = refl

pub returns-then-is_done-clause-next : goal.returns-then-is_done-clause-next
returns-then-is_done-clause-next g c = c.requires.none

pub returns-in_err-push-clause-plan : goal.returns-in_err-push-clause-plan
returns-in_err-push-clause-plan g c = refl

pub returns-in_err-push-clause-next : goal.returns-in_err-push-clause-next
returns-in_err-push-clause-next g c = c.requires.none

pub returns-in_err-push-clause-left : goal.returns-in_err-push-clause-left
returns-in_err-push-clause-left g c = rw (err_from_is_err_and c.from_residual.result c.from_residual.ensures.1).1 tt

pub returns-in_err-push-clause-ready : goal.returns-in_err-push-clause-ready
returns-in_err-push-clause-ready g c = rw (err_from_is_err_and c.from_residual.result c.from_residual.ensures.1).1 tt

pub returns-in_err-push-clause-sound : goal.returns-in_err-push-clause-sound
returns-in_err-push-clause-sound g c = rw (err_from_is_err_and c.from_residual.result c.from_residual.ensures.1).1 tt

pub returns-clause-plan : goal.returns-clause-plan
returns-clause-plan g c = refl

pub returns-clause-next : goal.returns-clause-next
returns-clause-next g c = c.requires.none
