use Rattle.std.proofs.Common.{cond, Result, Ok, Err, ◌+◌, ◌≤◌, Bool, true, false, Option, Some, None, length, arith}
use Rattle.std.proofs.Common.{refl, ap, ◌≡◌, ◌∙◌, sym}
use Rattle.std.specs.Prelude.{nat_le, string_bytes, OnOk}
use Rattle.std.proofs.lemmas.Bool.{both_ways, leb-false}
use Rattle.std.proofs.lemmas.Result.{IfOk-weaker}
use Rattle.glob_walk.specs.declared.plan.Plan.{Plan}
use Rattle.glob_walk.specs.declared.task.Task.{Task}
use Rattle.glob_walk.specs.declared.task.TaskState.{TaskState}
use Rattle.glob_walk.specs.declared.task.TaskState.TheVariants as state
use Rattle.glob_walk.specs.declared.frame.Cursor.TheVariants.{Parent, Current, At, Inside}
use Rattle.glob_walk.specs.declared.frame.Cursor.{Cursor}
use Rattle.glob_walk.specs.Private.Depths.{is_special}
use Rattle.glob_walk.specs.Private.Tasks.{next_marks, next_ready, state_ready}
use Rattle.glob_walk.specs.Private.Frames.{cursor_steps, cursor_unmet, is_done_at}
use Rattle.glob_walk.proofs.WalkLemmas.Stepping.{contained_at, at_step, inside_step}
use Rattle.glob_walk.proofs.frame.Frame.step.Goals.{then-self, else-self}
use Rattle.glob_walk.proofs.frame.Frame.step.Goals as goal

-- a task gives at most one item before the next unit
one_ready : (last : Bool) (s : TaskState) → state_ready last s ≤ 1
one_ready last (state.Unseen w) = omega arith
one_ready true (state.Seen d) = omega arith
one_ready false (state.Seen d) = omega arith

ready_one : {A : Type 0} (plan : Plan A) (next : Option (Task A)) → next_ready plan next ≤ 1
ready_one plan None = omega arith
ready_one plan (Some t) = one_ready (nat_le (length plan.components.items) t.component) t.state

OnOk-from : {T E : Type 0} (r : Result T E) {P : Type 0} → P → OnOk r P
OnOk-from (Ok x) p = p
OnOk-from (Err e) p = tt

pub returns-in-Parent-clause-sound : goal.returns-in-Parent-clause-sound
returns-in-Parent-clause-sound g c = IfOk-weaker c.special_task.result _ _ (λ task sound c' h. sound c') c.special_task.ensures.sound

pub returns-in-Current-clause-sound : goal.returns-in-Current-clause-sound
returns-in-Current-clause-sound g c = IfOk-weaker c.special_task-in-Current.result _ _ (λ task sound c' h. sound c')
    c.special_task-in-Current.ensures.sound

pub returns-after-self-clause-marks : goal.returns-after-self-clause-marks
returns-after-self-clause-marks g c =
    let below = leb-false (length c.args.self.now.entries.items) c.in-At.i
    (sym (ap (is_done_at (length c.args.self.now.entries.items)) c.in-At.is) ∙ c.requires.going) in
    IfOk-weaker c.met_task.result _ _
    (λ task marks c'.
    at_step c' c.args.plan.now c.args.self.now.component (string_bytes c.args.self.now.path) c.args.self.now.recursive
    c.args.self.now.entries.items c.in-At.i c.index.result.now
    (next_marks c' c.args.plan.now task) c.args.self.now.cursor c.if-self.self below c.index.ensures
    (marks c') c.in-At.is (elim c.if-self.branch [
      | then-self w ↦ w.self-is ∙ sym (ap (λ b. cond b (Inside c.in-At.i)
          (At (c.in-At.i + 1))) w.if-self.true)
      | else-self w ↦ w.self-is ∙ sym (ap (λ b. cond b (Inside c.in-At.i)
          (At (c.in-At.i + 1))) w.if-self.false)
    ]))
    c.met_task.ensures.marks

pub returns-after-self-clause-sound : goal.returns-after-self-clause-sound
returns-after-self-clause-sound g c =
    let below = leb-false (length c.args.self.now.entries.items) c.in-At.i
    (sym (ap (is_done_at (length c.args.self.now.entries.items)) c.in-At.is) ∙ c.requires.going) in
    IfOk-weaker c.met_task.result _ _
    (λ task sound c' h. sound c' (h.entries (c.index.result.now.name, c.index.result.now.is_dir)
    (contained_at c.args.self.now.entries.items c.in-At.i c.index.result.now below c.index.ensures)))
    c.met_task.ensures.sound

pub returns-in-Inside-clause-marks : goal.returns-in-Inside-clause-marks
returns-in-Inside-clause-marks g c =
    let below = leb-false (length c.args.self.now.entries.items) c.in-Inside.i
    (sym (ap (is_done_at (length c.args.self.now.entries.items)) c.in-Inside.is) ∙ c.requires.going) in
    IfOk-weaker c.entered_task.result _ _
    (λ task marks c'.
    inside_step c' c.args.plan.now c.args.self.now.component (string_bytes c.args.self.now.path)
    c.args.self.now.recursive c.args.self.now.entries.items c.in-Inside.i c.index-in-Inside.result.now
    (next_marks c' c.args.plan.now task) c.args.self.now.cursor below c.index-in-Inside.ensures (marks c') c.in-Inside.is)
    c.entered_task.ensures.marks

pub returns-in-Inside-clause-sound : goal.returns-in-Inside-clause-sound
returns-in-Inside-clause-sound g c =
    let below = leb-false (length c.args.self.now.entries.items) c.in-Inside.i
    (sym (ap (is_done_at (length c.args.self.now.entries.items)) c.in-Inside.is) ∙ c.requires.going) in
    IfOk-weaker c.entered_task.result _ _
    (λ task sound c' h. sound c' (h.entries (c.index-in-Inside.result.now.name, c.index-in-Inside.result.now.is_dir)
    (contained_at c.args.self.now.entries.items c.in-Inside.i c.index-in-Inside.result.now below
    c.index-in-Inside.ensures)))
    c.entered_task.ensures.sound

pub index-requires : goal.index-requires
index-requires g c =
    let n = length c.args.self.now.entries.items in
    omega (arith, leb-false n c.in-At.i (sym (ap (is_done_at n) c.in-At.is) ∙ c.requires.going), c.args.self.now.entries.ok.0)

pub index-requires-in-Inside : goal.index-requires-in-Inside
index-requires-in-Inside g c =
    let n = length c.args.self.now.entries.items in
    omega (arith, leb-false n c.in-Inside.i (sym (ap (is_done_at n) c.in-Inside.is) ∙ c.requires.going), c.args.self.now.entries.ok.0)

pub returns-in-Parent-clause-falls : goal.returns-in-Parent-clause-falls
returns-in-Parent-clause-falls g c = OnOk-from c.special_task.result
    (omega (arith, ap (cursor_steps (length c.args.self.now.entries.items)) c.in-Parent.is))

pub returns-in-Parent-clause-ready : goal.returns-in-Parent-clause-ready
returns-in-Parent-clause-ready g c =
    IfOk-weaker c.special_task.result _ _ (λ task none. omega
    (arith, ap (cursor_unmet (length c.args.self.now.entries.items)) c.in-Parent.is, none))
    c.special_task.ensures.ready

pub returns-in-Current-clause-falls : goal.returns-in-Current-clause-falls
returns-in-Current-clause-falls g c = OnOk-from c.special_task-in-Current.result
    (omega (arith, ap (cursor_steps (length c.args.self.now.entries.items)) c.in-Current.is))

pub returns-in-Current-clause-ready : goal.returns-in-Current-clause-ready
returns-in-Current-clause-ready g c =
    IfOk-weaker c.special_task-in-Current.result _ _ (λ task none. omega
    (arith, ap (cursor_unmet (length c.args.self.now.entries.items)) c.in-Current.is, none))
    c.special_task-in-Current.ensures.ready

pub returns-in-Inside-clause-falls : goal.returns-in-Inside-clause-falls
returns-in-Inside-clause-falls g c =
    let n = length c.args.self.now.entries.items in
    OnOk-from c.entered_task.result (omega (
      arith,
      leb-false n c.in-Inside.i (sym (ap (is_done_at n) c.in-Inside.is)
          ∙ c.requires.going),
      ap (cursor_steps n) c.in-Inside.is,
    ))

pub returns-in-Inside-clause-ready : goal.returns-in-Inside-clause-ready
returns-in-Inside-clause-ready g c =
    IfOk-weaker c.entered_task.result _ _ (λ task none. omega
    (arith, ap (cursor_unmet (length c.args.self.now.entries.items)) c.in-Inside.is, none))
    c.entered_task.ensures.ready

pub returns-after-self-clause-falls : goal.returns-after-self-clause-falls
returns-after-self-clause-falls g c =
    let n = length c.args.self.now.entries.items in
    let below = leb-false n c.in-At.i (sym (ap (is_done_at n) c.in-At.is) ∙ c.requires.going) in
    OnOk-from c.met_task.result (elim c.if-self.branch [
      | then-self w ↦ omega (
        arith,
        below,
        ap (cursor_steps n)
            c.in-At.is,
        ap (cursor_steps n) w.self-is,
      )
      | else-self w ↦ omega (
        arith,
        below,
        ap (cursor_steps n) c.in-At.is,
        ap (cursor_steps n) w.self-is,
      )
    ])

pub returns-after-self-clause-ready : goal.returns-after-self-clause-ready
returns-after-self-clause-ready g c =
    let n = length c.args.self.now.entries.items in
    let below = leb-false n c.in-At.i (sym (ap (is_done_at n) c.in-At.is) ∙ c.requires.going) in
    IfOk-weaker c.met_task.result _ _
    (λ task _.
    let one = ready_one c.args.plan.now task in
    elim c.if-self.branch [
      | then-self w ↦ omega (
        arith,
        below,
        one,
        ap (cursor_unmet n) c.in-At.is,
        ap (cursor_unmet n)
            w.self-is,
      )
      | else-self w ↦ omega (
        arith,
        below,
        one,
        ap (cursor_unmet n) c.in-At.is,
        ap (cursor_unmet n)
            w.self-is,
      )
    ])
    c.met_task.ensures.marks

-- a plain component looks for no special names
no_special : {P : Type 0} (p other : Cursor) → p ≡ other → is_special other ≡ true → is_special p ≡ false → P
no_special p other is yes' named = absurd (both_ways (is_special other) (ap is_special (sym is) ∙ named) yes')

pub returns-in-Parent-clause-deep : goal.returns-in-Parent-clause-deep
returns-in-Parent-clause-deep g c = IfOk-weaker c.special_task.result _ _ (λ task none c' n h. no_special
    c.args.self.now.cursor Parent c.in-Parent.is refl h.named) c.special_task.ensures.ready

pub returns-in-Current-clause-deep : goal.returns-in-Current-clause-deep
returns-in-Current-clause-deep g c = IfOk-weaker c.special_task-in-Current.result _ _ (λ task none c' n h. no_special
    c.args.self.now.cursor Current c.in-Current.is refl h.named) c.special_task-in-Current.ensures.ready

pub returns-after-self-clause-deep : goal.returns-after-self-clause-deep
returns-after-self-clause-deep g c =
    let below = leb-false (length c.args.self.now.entries.items) c.in-At.i
    (sym (ap (is_done_at (length c.args.self.now.entries.items)) c.in-At.is) ∙ c.requires.going) in
    let named : is_special c.if-self.self ≡ false = elim c.if-self.branch [
      | then-self w ↦ ap is_special w.self-is
      | else-self w ↦ ap is_special w.self-is
    ] in
    IfOk-weaker c.met_task.result _ _
    (λ task deep c' n h. (
      deep c' (n + 1) h.at (h.entries (c.index.result.now.name, c.index.result.now.is_dir)
          (contained_at c.args.self.now.entries.items c.in-At.i c.index.result.now below c.index.ensures)),
      record { at = h.at; entries = h.entries; named = named },
    ))
    c.met_task.ensures.deep

pub returns-in-Inside-clause-deep : goal.returns-in-Inside-clause-deep
returns-in-Inside-clause-deep g c =
    let below = leb-false (length c.args.self.now.entries.items) c.in-Inside.i
    (sym (ap (is_done_at (length c.args.self.now.entries.items)) c.in-Inside.is) ∙ c.requires.going) in
    IfOk-weaker c.entered_task.result _ _
    (λ task deep c' n h. (
      deep c' (n + 1) h.at (h.entries (c.index-in-Inside.result.now.name, c.index-in-Inside.result.now.is_dir)
          (contained_at c.args.self.now.entries.items c.in-Inside.i c.index-in-Inside.result.now below
          c.index-in-Inside.ensures)),
      record { at = h.at; entries = h.entries; named = refl },
    ))
    c.entered_task.ensures.deep
