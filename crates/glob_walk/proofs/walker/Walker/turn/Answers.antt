use Rattle.std.proofs.Common.{refl, ◌≡◌, ◌++◌, None, Some, ap, sym, ◌∙◌, arith}
use Rattle.glob_walk.specs.Questions.{IsSomeContent}
use Rattle.glob_walk.specs.declared.task.TaskState.TheVariants.{Seen, Unseen}
use Rattle.glob_walk.specs.Private.Tasks.{next_marks, next_ready}
use Rattle.glob_walk.specs.Private.Queries.{query_marks}
use Rattle.glob_walk.specs.Private.Turns.{said}
use Rattle.glob_walk.specs.Private.Stacks.{frames_marks, next_weight, state_weight}
use Rattle.glob_walk.proofs.WalkLemmas.Charging.{TurnsTo-memory, TurnsTo-said, TurnsTo-task, uncharged}
use Rattle.glob_walk.proofs.WalkLemmas.Stacking.{left_free, sound_free, sound_none}
use Rattle.glob_walk.proofs.walker.Walker.turn.Goals as goal

pub step-requires : goal.step-requires
step-requires g c = record { none = c.take.ensures.after }

pub look-requires : goal.look-requires
look-requires g c = record { idle = (c.requires.free, c.take.ensures.after) }

pub enter-requires : goal.enter-requires
enter-requires g c = record { idle = (c.requires.free, c.take.ensures.after) }

pub returns-in-Ok-true-clause-falls : goal.returns-in-Ok-true-clause-falls
returns-in-Ok-true-clause-falls g c = λ _. omega (
  arith,
  c.in-Ok-true.ensures.falls c.in-Ok-true.field-0-test,
  ap
      next_weight c.take.ensures.after,
)

pub returns-in-Unseen-clause-idle : goal.returns-in-Unseen-clause-idle
returns-in-Unseen-clause-idle g c = λ none _. let next : c.args.self.now.stack.next ≡ Some c.in-Some.task =
    sym c.take.ensures.value ∙ c.in-Some.is in cc

pub returns-in-Unseen-clause-turn : goal.returns-in-Unseen-clause-turn
returns-in-Unseen-clause-turn g c =
    TurnsTo-task IsSomeContent 0 c.args.self.now c.look.new.self _ _ c.in-Some.task (Unseen c.in-Unseen.accepted)
    (said (Some c.look.result)) c.requires.free (sym c.take.ensures.value ∙ c.in-Some.is) c.in-Unseen.is c.look.ensures

pub returns-in-Seen-clause-falls : goal.returns-in-Seen-clause-falls
returns-in-Seen-clause-falls g c = λ went.
    let two : next_weight c.args.self.now.stack.next ≡ 2 =
    ap next_weight (sym c.take.ensures.value ∙ c.in-Some.is) ∙ ap state_weight c.in-Seen.is in
    omega (arith, c.enter.ensures.falls went, ap next_weight c.take.ensures.after, two)

pub returns-in-Seen-clause-idle : goal.returns-in-Seen-clause-idle
returns-in-Seen-clause-idle g c = λ none _. let next : c.args.self.now.stack.next ≡ Some c.in-Some.task =
    sym c.take.ensures.value ∙ c.in-Some.is in cc

pub returns-in-Seen-clause-turn : goal.returns-in-Seen-clause-turn
returns-in-Seen-clause-turn g c =
    TurnsTo-task IsSomeContent 0 c.args.self.now c.enter.new.self _ _ c.in-Some.task (Seen c.in-Seen.is_dir)
    (said c.enter.result) c.requires.free (sym c.take.ensures.value ∙ c.in-Some.is) c.in-Seen.is c.enter.ensures.turn

pub returns-in-Ok-true-clause-turn : goal.returns-in-Ok-true-clause-turn
returns-in-Ok-true-clause-turn g c =
    let s = c.args.self.now.stack in
    let none : s.next ≡ None = sym c.take.ensures.value ∙ c.in_default.is in
    record {
      limit = refl;
      grows = omega arith;
      counts = omega arith;
      plan = c.step.ensures.plan;
      asks = c.requires.free;
      ready = omega (arith, c.in-Ok-true.ensures.ready, ap (next_ready s.plan) (none ∙ sym c.take.ensures.after));
      sound = λ c' w h. sound_free c' _ c.requires.free
          (c.in-Ok-true.ensures.sound c' (sound_none c' _ c.take.ensures.after h.stack.frames));
      takes = λ c' w h. uncharged _ _ _
          (λ i. query_marks c' (sym c.step.ensures.plan i) c.args.self.now.query
          ++ (ap (λ n. next_marks c' s.plan n ++ frames_marks c' s.plan s.frames.items)
          (none ∙ sym c.take.ensures.after) ∙ c.in-Ok-true.ensures.left c') i);
    }

pub returns-in-Ok-false-clause-turn : goal.returns-in-Ok-false-clause-turn
returns-in-Ok-false-clause-turn g c =
    let s = c.args.self.now.stack in
    let none : s.next ≡ None = sym c.take.ensures.value ∙ c.in_default.is in
    record {
      limit = refl;
      grows = omega arith;
      counts = omega arith;
      plan = c.step.ensures.plan;
      asks = c.requires.free;
      ready = omega (arith, c.in-Ok-false.ensures.ready, ap (next_ready s.plan) (none ∙ sym c.take.ensures.after));
      sound = λ c' w h. sound_free c' _ c.requires.free
          (c.in-Ok-false.ensures.sound c' (sound_none c' _ c.take.ensures.after h.stack.frames));
      takes = λ c' w h.
          let over = c.in-Ok-false.ensures.over c.in-Ok-false.field-0-test c' in (
            uncharged _ _ _
                (sym (left_free c' s.plan _ _ c.requires.free)
                ∙ ap (λ n. next_marks c' s.plan n ++ frames_marks c' s.plan s.frames.items) (none ∙ sym c.take.ensures.after) ∙ over),
            sym (left_free c' c.step.new.self.plan _ _ c.requires.free) ∙ sym (c.in-Ok-false.ensures.left c') ∙ over,
          );
    }

pub returns-in-Err-clause-turn : goal.returns-in-Err-clause-turn
returns-in-Err-clause-turn g c = TurnsTo-said _ _ _ _ _ _ c.memory.ensures (TurnsTo-memory _ _ _ _ refl refl
    c.step.ensures.plan c.requires.free)
