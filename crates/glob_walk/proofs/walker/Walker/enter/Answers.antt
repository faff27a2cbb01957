use Rattle.std.proofs.Common.{Bool, rules, ◌≡◌, ◌∷◌, ◌++◌, ℕ, ◌+◌, ◌≤◌, true, false, length, drop, refl, ap, sym, subst, ◌∙◌, arith}
use Rattle.std.specs.Prelude.{string_bytes, nat_le, not, ◌||◌}
use Rattle.glob_walk.specs.Walks.{Give, Found}
use Rattle.glob_walk.specs.Components.{is_literal, is_recursive}
use Rattle.glob_walk.specs.declared.task.TaskState.TheVariants.{Seen}
use Rattle.glob_walk.specs.Private.Tasks.{enter_from, next_ready, state_ready, IsOpened}
use Rattle.glob_walk.specs.Private.Depths.{IsDeepPath}
use Rattle.glob_walk.specs.Private.Queries.{query_ready}
use Rattle.glob_walk.specs.Private.Stacks.{frames_marks}
use Rattle.glob_walk.proofs.WalkLemmas.Charging.{TurnsTo-memory, TurnsTo-said, uncharged, if_given, if_not_given}
use Rattle.glob_walk.proofs.WalkLemmas.Naming.{ended, opened_none}
use Rattle.glob_walk.proofs.WalkLemmas.Merging.{opened_for}
use Rattle.glob_walk.proofs.WalkLemmas.Stacking.{left_free, left_none, sound_free, sound_none}
use Rattle.glob_walk.proofs.walker.Walker.enter.Goals as goal
use Rattle.glob_walk.proofs.walker.Walker.enter.Goals.{then-is_dir-via-then-is_dir, then-is_dir-via-else-is_dir+then-not-plan}

-- a directory is given; anything else, if files are wanted too
gives-directory : (directories d : Bool) → d ≡ true → (not directories || d) ≡ true
gives-directory true d h = h
gives-directory false d h = refl

gives-any : (directories d : Bool) → directories ≡ false → (not directories || d) ≡ true
gives-any true d h = absurd (cc)
gives-any false d h = refl

gives-none : (directories d : Bool) → directories ≡ true → d ≡ false → (not directories || d) ≡ false
gives-none true d h k = k
gives-none false d h k = absurd (cc)

-- without a task, no item is ready
ready_none : (q r before rest spent : ℕ) → q ≡ 0 → r ≡ 0 → q + (r + rest) + 0 + spent ≤ 0 + (before + rest) + spent
ready_none q r before rest spent free none = omega arith

pub returns-then-is_literal-clause-turn : goal.returns-then-is_literal-clause-turn
returns-then-is_literal-clause-turn g c =
    let plan = c.args.self.now.stack.plan in
    let frames = c.args.self.now.stack.frames.items in
    let free = ap query_ready c.requires.idle.0 in
    record {
      limit = refl;
      grows = omega arith;
      counts = omega arith;
      plan = refl;
      asks = c.requires.idle.0;
      ready = omega (arith, free, c.in-Ok.ensures.ready);
      sound = λ c' w h. sound_free c' _ c.requires.idle.0 (record {
        next = c.in-Ok.ensures.sound c';
        deep = λ over. let task = h.stack.deep over in
            c.in-Ok.ensures.deep c' (length frames) over.content task.plain
            (subst (IsDeepPath c' (length frames)) (sym c.as_str-path.ensures.value) task.deep);
        frames = h.stack.frames;
      });
      takes = λ c' w h. uncharged _ _ _
          (ap (λ ms. ms ++ frames_marks c' plan frames) (ap (λ p. enter_from c' plan c.args.number p c.args.is_dir)
          (sym c.as_str-path.ensures.value) ∙ c.in-Ok.ensures.marks c')
          ∙ left_free c' plan _ _ c.requires.idle.0);
    }

pub list-requires-clause-opens : goal.list-requires-clause-opens
list-requires-clause-opens g c =
    let plan = c.args.self.now.stack.plan in
    let other : is_literal c.in-Some.component.now ≡ false = sym c.is_literal.ensures ∙ c.if-is_literal.false in
    opened_for plan.components.items c.args.number c.in-Some.component.now plan.merged c.in-Some.ensures.rest other
    c.is_recursive-recursive.result c.is_recursive-recursive.ensures

pub returns-then-not-is_dir-clause-turn : goal.returns-then-not-is_dir-clause-turn
returns-then-not-is_dir-clause-turn g c =
    let other : is_literal c.in-Some.component.now ≡ false = sym c.is_literal.ensures ∙ c.if-is_literal.false in
    let s = c.args.self.now.stack in
    let opens : IsOpened (is_recursive c.in-Some.component.now) (drop c.args.number s.plan.components.items) =
    opened_for s.plan.components.items c.args.number c.in-Some.component.now s.plan.merged c.in-Some.ensures.rest other
    (is_recursive c.in-Some.component.now) refl in
    record {
      limit = refl;
      grows = omega arith;
      counts = omega arith;
      plan = refl;
      asks = c.requires.idle.0;
      ready = ready_none _ _ _ _ _ (ap query_ready c.requires.idle.0) (ap (next_ready s.plan) c.requires.idle.1);
      sound = λ c' w h. sound_free c' _ c.requires.idle.0 (sound_none c' s c.requires.idle.1 h.stack.frames);
      takes = λ c' w h. uncharged _ _ _ (ap (λ ms. ms ++ frames_marks c' s.plan s.frames.items)
          (ap (λ d. enter_from c' s.plan c.args.number (string_bytes c.args.path) d) c.if-not-is_dir.true
          ∙ opened_none c' s.plan.options s.plan.directories (is_recursive c.in-Some.component.now)
          (drop c.args.number s.plan.components.items) (string_bytes c.args.path) opens)
          ∙ left_none c' s c.requires.idle.1 ∙ left_free c' s.plan _ _ c.requires.idle.0);
    }

pub returns-then-is_dir-clause-turn : goal.returns-then-is_dir-clause-turn
returns-then-is_dir-clause-turn g c =
    let s = c.args.self.now.stack in
    let given : (not s.plan.directories || c.args.is_dir) ≡ true =
    elim c.then-is_dir.branch [
      | then-is_dir-via-then-is_dir w ↦ gives-directory s.plan.directories c.args.is_dir
          (search rules)
      | then-is_dir-via-else-is_dir+then-not-plan w ↦ gives-any s.plan.directories c.args.is_dir
          (search rules)
    ] in
    let last : nat_le (length s.plan.components.items) c.args.number ≡ true = search rules in
    let free = ap query_ready c.requires.idle.0 in
    let none = ap (next_ready s.plan) c.requires.idle.1 in
    let one = ap (λ b. state_ready b (Seen c.args.is_dir)) last in
    TurnsTo-said _ _ _ _ _ _ c.found.ensures (record {
      limit = refl;
      grows = omega arith;
      counts = omega arith;
      plan = refl;
      asks = c.requires.idle.0;
      ready = omega (arith, free, none, one);
      sound = λ c' w h. sound_free c' _ c.requires.idle.0 (sound_none c' s c.requires.idle.1 h.stack.frames);
      takes = λ c' w h. uncharged _ _ _
          (if_given (not s.plan.directories || c.args.is_dir) (enter_from c' s.plan c.args.number
          (string_bytes c.args.path) c.args.is_dir) (frames_marks c' s.plan s.frames.items)
          (Give (Found (string_bytes c.args.path)))
          (ended c' s.plan c.args.number (string_bytes c.args.path) c.args.is_dir c.in_default.ensures.rest) given
          ∙ ap (λ ms. Give (Found (string_bytes c.args.path)) ∷ ms) (left_none c' s c.requires.idle.1 ∙ left_free c'
          s.plan _ _ c.requires.idle.0));
    })

pub returns-in_default-clause-turn : goal.returns-in_default-clause-turn
returns-in_default-clause-turn g c =
    let s = c.args.self.now.stack in
    let kept : (not s.plan.directories || c.args.is_dir) ≡ false = gives-none s.plan.directories c.args.is_dir
    (search rules) (search rules) in
    record {
      limit = refl;
      grows = omega arith;
      counts = omega arith;
      plan = refl;
      asks = c.requires.idle.0;
      ready = ready_none _ _ _ _ _ (ap query_ready c.requires.idle.0) (ap (next_ready s.plan) c.requires.idle.1);
      sound = λ c' w h. sound_free c' _ c.requires.idle.0 (sound_none c' s c.requires.idle.1 h.stack.frames);
      takes = λ c' w h. uncharged _ _ _
          (if_not_given (not s.plan.directories || c.args.is_dir) (enter_from c' s.plan c.args.number
          (string_bytes c.args.path) c.args.is_dir) (frames_marks c' s.plan s.frames.items)
          (Give (Found (string_bytes c.args.path)))
          (ended c' s.plan c.args.number (string_bytes c.args.path) c.args.is_dir c.in_default.ensures.rest) kept
          ∙ left_none c' s c.requires.idle.1 ∙ left_free c' s.plan _ _ c.requires.idle.0);
    }

pub returns-in_default-literal_task-clause-turn : goal.returns-in_default-literal_task-clause-turn
returns-in_default-literal_task-clause-turn g c = TurnsTo-said _ _ _ _ _ _ c.memory.ensures
    (TurnsTo-memory _ _ _ _ refl refl refl c.requires.idle.0)
