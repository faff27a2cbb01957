use Rattle.std.proofs.Common.{◌≡◌, ℕ, ◌+◌, ◌-◌, ◌<◌, ◌≤◌, true, false, List, length, get_or, set, take, Option, None}
use Rattle.std.proofs.Common.{Some, refl, sym, ap, ◌∙◌, ◌++◌, subst, arith}
use Rattle.std.specs.Prelude.{vec_len, sum_by}
use Rattle.std.specs.List.{All}
use Rattle.std.proofs.lemmas.List.{length-set, length-take}
use Rattle.std.proofs.lemmas.List.Elements.{All-get_or, All-set}
use Rattle.std.proofs.lemmas.List.Sums.{sum_by-set, sum_by-take-le}
use Rattle.glob_walk.specs.declared.task.Task.{Task}
use Rattle.glob_walk.specs.declared.task.TaskState.{TaskState}
use Rattle.glob_walk.specs.declared.task.TaskState.TheVariants as state
use Rattle.glob_walk.specs.Private.Tasks.{next_marks}
use Rattle.glob_walk.specs.Private.Frames.{is_done, unmet, IsFrameSound}
use Rattle.glob_walk.specs.Private.Stacks.{frames_marks, state_weight, next_weight, frame_weight}
use Rattle.glob_walk.specs.Private.Depths.{IsFrameDeep, IsPlainOver}
use Rattle.glob_walk.proofs.WalkLemmas.Depths.{IsNextDeep-fewer, deep_last, deep_rest, deep_step}
use Rattle.glob_walk.proofs.WalkLemmas.Stacking.{step_left, last_step_left, All-front}
use Rattle.glob_walk.proofs.stack.Stack.step.Goals as goal

state-light : (s : TaskState) → state_weight s ≤ 2
state-light (state.Unseen w) = omega arith
state-light (state.Seen d) = omega arith

next-light : {A : Type 0} (next : Option (Task A)) → next_weight next ≤ 2
next-light None = omega arith
next-light (Some t) = state-light t.state

-- an element of a list is replaced
sum-at : {X : Type 0} (f : X → ℕ) (xs : List X) (n : ℕ) (x y : X) → n + 1 ≡ length xs → x ≡ get_or xs n x → sum_by f
    (set xs n y) + f x ≡ sum_by f xs + f y
sum-at f xs n x y h is = ap (λ z. sum_by f (set xs n y) + f z) is ∙ sum_by-set f xs n y x (omega (arith, h))

-- an element of a list is dropped
sum-front : {X : Type 0} (f : X → ℕ) (xs ys : List X) (n : ℕ) (x y : X) → n + 1 ≡ length xs → x ≡ get_or xs n x
    → ys ≡ take n (set xs n y) → sum_by f ys + f x ≤ sum_by f xs + f y
sum-front f xs ys n x y h is popped = omega (arith, ap (sum_by f) popped, sum_by-take-le f (set xs n y) n, sum-at f xs n x y h is)

-- what holds for all elements holds for the last
last-holds : {X : Type 0} (P : X → Type 0) (xs : List X) (n : ℕ) (x : X) → n + 1 ≡ length xs → x ≡ get_or xs n x → All P xs → P x
last-holds P xs n x h is all = subst P (sym is) (All-get_or P xs n x (omega (arith, h)) all)

pub returns-else-is_done-clause-left : goal.returns-else-is_done-clause-left
returns-else-is_done-clause-left g c = λ c'.
    ap (λ n. next_marks c' c.args.self.now.plan n ++ frames_marks c' c.args.self.now.plan c.args.self.now.frames.items) c.requires.none
    ∙ step_left c' c.args.self.now.plan c.args.self.now.frames.items (vec_len c.args.self.now.frames - 1)
    c.in-Some.frame.now c.step.new.self (next_marks c' c.args.self.now.plan c.in-Ok.task)
    (omega (arith, c.in-Some.ensures.variant.0 refl, c.args.self.now.frames.ok.0)) c.in-Some.ensures.value (c.in-Ok.ensures.marks c')

pub returns-then-is_done-clause-left : goal.returns-then-is_done-clause-left
returns-then-is_done-clause-left g c = λ c'.
    let done : is_done c.step.new.self ≡ true = sym c.is_done.ensures ∙ c.if-is_done.true in
    ap (λ n. next_marks c' c.args.self.now.plan n ++ frames_marks c' c.args.self.now.plan c.args.self.now.frames.items) c.requires.none
    ∙ last_step_left c' c.args.self.now.plan c.args.self.now.frames.items c.pop-then-is_done.new.self.items
    (vec_len c.args.self.now.frames - 1) c.in-Some.frame.now c.step.new.self (next_marks c' c.args.self.now.plan
    c.in-Ok.task)
    (omega (arith, c.in-Some.ensures.variant.0 refl, c.args.self.now.frames.ok.0)) c.in-Some.ensures.value
    (c.in-Ok.ensures.marks c') done c.pop-then-is_done.ensures.rest

pub returns-then-is_done-clause-sound : goal.returns-then-is_done-clause-sound
returns-then-is_done-clause-sound g c = λ c' h.
    let s = c.args.self.now in
    let n = vec_len s.frames - 1 in
    let last : n + 1 ≡ length s.frames.items = omega (arith, c.in-Some.ensures.variant.0 refl, s.frames.ok.0) in
    let frame = last-holds (IsFrameSound c') s.frames.items n c.in-Some.frame.now last c.in-Some.ensures.value h.frames.entries in
    let popped = c.pop-then-is_done.ensures.rest in
    let fewer : length c.pop-then-is_done.new.self.items ≤ n + 1 =
    omega (arith, ap length popped, length-take n (set s.frames.items n c.step.new.self)) in
    record {
      next = c.in-Ok.ensures.sound c' frame;
      deep = λ plain. IsNextDeep-fewer c' s.plan (n + 1) (length c.pop-then-is_done.new.self.items) c.in-Ok.task fewer
          (c.in-Ok.ensures.deep c' n (deep_last c' s.plan s.frames.items n c.in-Some.frame.now c.step.new.self last
          c.in-Some.ensures.value (h.frames.deep plain))).0;
      frames = record {
        entries = All-front (IsFrameSound c') s.frames.items c.pop-then-is_done.new.self.items n c.step.new.self last popped
            h.frames.entries;
        deep = λ plain. deep_rest c' s.plan s.frames.items n c.in-Some.frame.now c.step.new.self last c.in-Some.ensures.value
            (h.frames.deep plain) c.pop-then-is_done.new.self.items popped;
      };
    }

pub returns-else-is_done-clause-falls : goal.returns-else-is_done-clause-falls
returns-else-is_done-clause-falls g c = λ _.
    let n = vec_len c.args.self.now.frames - 1 in
    let sums = sum-at frame_weight c.args.self.now.frames.items n c.in-Some.frame.now c.step.new.self
    (omega (arith, c.in-Some.ensures.variant.0 refl, c.args.self.now.frames.ok.0)) c.in-Some.ensures.value in
    omega (arith, sums, next-light c.in-Ok.task, c.in-Ok.ensures.falls)

pub returns-else-is_done-clause-ready : goal.returns-else-is_done-clause-ready
returns-else-is_done-clause-ready g c =
    let n = vec_len c.args.self.now.frames - 1 in
    let sums = sum-at unmet c.args.self.now.frames.items n c.in-Some.frame.now c.step.new.self
    (omega (arith, c.in-Some.ensures.variant.0 refl, c.args.self.now.frames.ok.0)) c.in-Some.ensures.value in
    omega (arith, sums, c.in-Ok.ensures.ready)

pub returns-then-is_done-clause-falls : goal.returns-then-is_done-clause-falls
returns-then-is_done-clause-falls g c = λ _.
    let n = vec_len c.args.self.now.frames - 1 in
    let sums = sum-front frame_weight c.args.self.now.frames.items c.pop-then-is_done.new.self.items n
    c.in-Some.frame.now c.step.new.self (omega (
      arith,
      c.in-Some.ensures.variant.0 refl,
      c.args.self.now.frames.ok.0,
    )) c.in-Some.ensures.value c.pop-then-is_done.ensures.rest in
    omega (arith, sums, next-light c.in-Ok.task, c.in-Ok.ensures.falls)

pub returns-then-is_done-clause-ready : goal.returns-then-is_done-clause-ready
returns-then-is_done-clause-ready g c =
    let n = vec_len c.args.self.now.frames - 1 in
    let sums = sum-front unmet c.args.self.now.frames.items c.pop-then-is_done.new.self.items n c.in-Some.frame.now
    c.step.new.self (omega (arith, c.in-Some.ensures.variant.0 refl, c.args.self.now.frames.ok.0))
    c.in-Some.ensures.value c.pop-then-is_done.ensures.rest in
    omega (arith, sums, c.in-Ok.ensures.ready)

pub step-requires-clause-going : goal.step-requires-clause-going
step-requires-clause-going g c =
    last-holds (λ f. is_done f ≡ false) c.args.self.now.frames.items (vec_len c.args.self.now.frames - 1) c.in-Some.frame.now
    (omega (arith, c.in-Some.ensures.variant.0 refl, c.args.self.now.frames.ok.0)) c.in-Some.ensures.value c.args.self.now.going

pub step-requires-clause-within : goal.step-requires-clause-within
step-requires-clause-within g c =
    last-holds (λ f. f.component < vec_len c.args.self.now.plan.components) c.args.self.now.frames.items
    (vec_len c.args.self.now.frames - 1) c.in-Some.frame.now
    (omega (arith, c.in-Some.ensures.variant.0 refl, c.args.self.now.frames.ok.0)) c.in-Some.ensures.value c.args.self.now.components

pub returns-else-is_done-clause-sound : goal.returns-else-is_done-clause-sound
returns-else-is_done-clause-sound g c = λ c' h.
    let s = c.args.self.now in
    let n = vec_len s.frames - 1 in
    let last : n + 1 ≡ length s.frames.items = omega (arith, c.in-Some.ensures.variant.0 refl, s.frames.ok.0) in
    let frame = last-holds (IsFrameSound c') s.frames.items n c.in-Some.frame.now last c.in-Some.ensures.value h.frames.entries in
    let fewer : length (set s.frames.items n c.step.new.self) ≤ n + 1 =
    omega (arith, last, length-set s.frames.items n c.step.new.self) in
    let below : IsPlainOver c' s.plan → IsFrameDeep c' s.plan n c.in-Some.frame.now =
    λ plain. deep_last c' s.plan s.frames.items n c.in-Some.frame.now c.step.new.self last c.in-Some.ensures.value (h.frames.deep plain) in
    record {
      next = c.in-Ok.ensures.sound c' frame;
      deep = λ plain. IsNextDeep-fewer c' s.plan (n + 1) (length (set s.frames.items n c.step.new.self)) c.in-Ok.task fewer
          (c.in-Ok.ensures.deep c' n (below plain)).0;
      frames = record {
        entries = All-set (IsFrameSound c') s.frames.items n c.step.new.self (subst (IsFrameSound c')
            (sym c.in-Ok.ensures.same) (record { entries = frame.entries })) h.frames.entries;
        deep = λ plain. deep_step c' s.plan s.frames.items n c.in-Some.frame.now c.step.new.self last c.in-Some.ensures.value
            (h.frames.deep plain) (c.in-Ok.ensures.deep c' n (below plain)).1;
      };
    }
