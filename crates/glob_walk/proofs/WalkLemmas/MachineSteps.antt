-- What a step of the machine does.
use Rattle.std.proofs.Common.{◌≡◌, ◌⊎◌, inl, inr, ⊎_elim, ℕ, ◌+◌, ◌≤◌, ◌<◌, ◌^◌, length, Bool, true, false, cond, List}
use Rattle.std.proofs.Common.{[], ◌++◌, Option, Some, None, IsTrue, refl, ap, sym, subst, ◌∙◌, arith}
use Rattle.std.specs.Prelude.{string_bytes, vec_len, sum_by, nat_le, IfSome, IsSome}
use Rattle.std.specs.List.{All}
use Rattle.std.specs.Path.{root_dir, cur_dir}
use Rattle.std.proofs.lemmas.List.Elements.{All-from_recursion}
use Rattle.std.proofs.lemmas.Bool.{both_ways}
use Rattle.glob_text.specs.Text.{Text}
use Rattle.glob_tree.specs.Content.{Content, is_content}
use Rattle.glob_tree.proofs.ContentLemmas.Contents.{IsContent-from_test}
use Rattle.glob_walk.specs.Goal.{are_plain}
use Rattle.glob_walk.specs.Walks.{look_up, enter, levels, Outcome, Gives, LimitAt, NoMemory}
use Rattle.glob_walk.specs.Questions.{Question, LookAt, ListAt, IsSomeContent}
use Rattle.glob_walk.specs.Machines.{Agrees, MachineState, Saying, AsksLook, AsksList, IsAskedAfter, IsCharged, StepCounts, listing_of}
use Rattle.glob_walk.specs.Machines.{StepGoes, Says, Ends, is_last, item_number}
use Rattle.glob_walk.specs.declared.frame.Frame.{Frame}
use Rattle.glob_walk.specs.declared.plan.Plan.{Plan}
use Rattle.glob_walk.specs.declared.walker.Walker.{Walker}
use Rattle.glob_walk.specs.declared.machine.Answer.{Answer}
use Rattle.glob_walk.specs.declared.machine.Answer.TheVariants as answer
use Rattle.glob_walk.specs.Private.Stacks.{aim_of, frames_marks, AreSound}
use Rattle.glob_walk.specs.Private.Depths.{IsDeepPath, IsNextDeep, IsPlainFrom, IsPlainOver, IsQueryDeep, IsStateDeep, IsTaskDeep}
use Rattle.glob_walk.specs.Private.Tasks.{enter_from, state_marks, task_marks, next_marks, next_ready, state_ready}
use Rattle.glob_walk.specs.Private.Tasks.{IsNextSound, IsStateSound}
use Rattle.glob_walk.specs.Private.Frames.{unmet, IsFrameSound}
use Rattle.glob_walk.specs.Private.Queries.{asked_of, question_of, query_ready, IsQueryOpened, IsQuerySound}
use Rattle.glob_walk.specs.declared.query.Query.{Query}
use Rattle.glob_walk.specs.declared.query.QueryKind.{QueryKind}
use Rattle.glob_walk.specs.declared.query.QueryKind.TheVariants as kind
use Rattle.glob_walk.specs.Private.Walkers.{Walk, walk_ready, IsUnderWay, IsGood, IsWalkSound}
use Rattle.glob_walk.specs.declared.task.Task.{Task}
use Rattle.glob_walk.specs.declared.task.TaskState.TheVariants.{Unseen}
use Rattle.glob_walk.specs.declared.task.Accepted.TheVariants.{Any}
use Rattle.glob_walk.specs.Answers.{IfFailed, IsAnswer, IsAnswered, answer_count}
use Rattle.glob_walk.specs.Private.Turns.{TurnsTo, asking}
use Rattle.glob_walk.proofs.WalkLemmas.Depths.{deep_few, start_deep}
use Rattle.glob_walk.proofs.WalkLemmas.Giving.{gives_next, asks_next}
use Rattle.glob_walk.proofs.WalkLemmas.Stacking.{sound_free, sound_none}
use Rattle.std.proofs.lemmas.List.{append-nil}

pub one_item : (s : Saying) → item_number s ≤ 1
one_item AsksLook = omega arith
one_item (AsksList kinds) = omega arith
one_item (Says o) = omega arith
one_item Ends = omega arith

-- what contracts see of a walker
abbrev pub view : {A : Type 0} → Walker A → ℕ → Bool → MachineState (Walk A)
view w given over = record {
  limit = w.meter.limit;
  spent = w.meter.spent;
  given = given;
  kept = vec_len w.stack.frames;
  over = over;
  asked =
      question_of w.query;
  aim = aim_of w.stack.plan;
  state = w;
}

-- the stack is empty
abbrev pub IsCleared : {A : Type 0} → Walker A → Type 0
IsCleared w = (w.stack.next ≡ None) × (w.stack.frames.items ≡ [])

no_frames : {A : Type 0} (c : Content) (plan : Plan A) (frames : List (Frame A)) → frames ≡ [] → AreSound c plan frames
no_frames c plan frames empty = subst (AreSound c plan) (sym empty)
    (record { entries = All-from_recursion (IsFrameSound c) [] tt; deep = λ plain. tt })

cleared_sound : {A : Type 0} (c : Content) (w : Walker A) → w.query ≡ None → IsCleared w → IsWalkSound c w
cleared_sound c w free h = record {
  query = subst (IsQuerySound c) (sym free) tt;
  deep = λ plain. subst (IsQueryDeep c w.stack.plan (length w.stack.frames.items)) (sym free) tt;
  stack = sound_none c w.stack h.0 (no_frames c w.stack.plan w.stack.frames.items h.1);
}

module _ {A : Type 0} (Fits : Content → Type 0) (n : ℕ) (w w' : Walker A) (given : ℕ) (fits : w.meter.limit < 2 ^ 64)
    (u : IsUnderWay w given) where
  going : (k : ℕ) → w'.meter.limit ≡ w.meter.limit → walk_ready w' + k + w.meter.spent ≤ walk_ready w + w'.meter.spent
      → IsQueryOpened w'.stack w'.query
      → IsGood w' (given + k) false
  going k same more opened = record {
    fits = subst (λ l. l < 2 ^ 64) (sym same) fits;
    few = omega (arith, u.ready, more);
    going = λ _. record { ready = omega (arith, u.ready, more); opened = opened };
    ended = λ yes'. absurd (both_ways false refl yes');
  }

  over : (k : ℕ) → k ≤ 1 → w'.meter.limit ≡ w.meter.limit → w.meter.spent ≤ w'.meter.spent → w'.query ≡ None → IsGood w' (given + k) true
  over k one same more free = record {
    fits = subst (λ l. l < 2 ^ 64) (sym same) fits;
    few = omega (arith, u.ready, one, more);
    going = λ h. absurd (both_ways true h refl);
    ended = λ _. free;
  }

  free-opened : w'.query ≡ None → IsQueryOpened w'.stack w'.query
  free-opened free = subst (IsQueryOpened w'.stack) (sym free) tt

  pub IsGood-after : (s : Saying) → TurnsTo Fits n w (Some s) w' → IsGood w' (given + item_number s) (is_last s)
  IsGood-after AsksLook r = going 0 r.limit r.ready r.asks.1
  IsGood-after (AsksList kinds) r = going 0 r.limit r.ready r.asks.1
  IsGood-after (Says (Gives item)) r = going 1 r.limit r.ready (free-opened r.asks)
  IsGood-after (Says (LimitAt p)) r = over 1 (omega arith) r.limit r.grows r.asks
  IsGood-after (Says NoMemory) r = over 1 (omega arith) r.limit r.grows r.asks
  IsGood-after Ends r = over 0 (omega arith) r.limit r.grows r.asks

  abbrev after : Saying → MachineState (Walk A)
  after s = view w' (given + item_number s) (is_last s)

  -- a turn that says something is a step
  pub goes : (s : Saying) → TurnsTo Fits n w (Some s) w' → (is_last s ≡ true → IsCleared w')
      → StepGoes Fits n (view w given false) s (view w' (given + item_number s) (is_last s))
  goes s r cleared = record {
    counts = counted;
    agrees = λ c f going h. agrees s r cleared c f h;
    gives = λ c f listing items h. gives_next n listing c items (view w given false) (after s) h s counted
        (agrees s r cleared c f h.agrees) (r.takes c f h.agrees);
    charges = λ c f listing items h question. asks_next n listing c items (view w given false) (after s) h s question
        (r.takes c f h.agrees);
  }
    where
      charged : (q : Saying) → TurnsTo Fits n w (Some q) w' → IsCharged n (view w given false) q
          (view w' (given + item_number q) (is_last q))
      charged AsksLook r = r.counts
      charged (AsksList kinds) r = r.counts
      charged (Says (Gives item)) r = r.counts
      charged (Says (LimitAt p)) r = r.counts
      charged (Says NoMemory) r = r.counts
      charged Ends r = r.counts

      asks : (q : Saying) → TurnsTo Fits n w (Some q) w' → IsAskedAfter q (question_of w'.query)
      asks AsksLook r = r.asks.0
      asks (AsksList kinds) r = r.asks.0
      asks (Says o) r = ap question_of r.asks
      asks Ends r = ap question_of r.asks

      agrees : (q : Saying) → TurnsTo Fits n w (Some q) w' → (is_last q ≡ true → IsCleared w') → (c : Content) → Fits c
          → IsWalkSound c w → IsWalkSound c w'
      agrees AsksLook r cleared c f h = r.sound c f h
      agrees (AsksList kinds) r cleared c f h = r.sound c f h
      agrees (Says (Gives item)) r cleared c f h = r.sound c f h
      agrees (Says (LimitAt p)) r cleared c f h = cleared_sound c w' r.asks (cleared refl)
      agrees (Says NoMemory) r cleared c f h = cleared_sound c w' r.asks (cleared refl)
      agrees Ends r cleared c f h = r.sound c f h

      counted : StepCounts n (view w given false) s (after s)
      counted = record {
        counts = record {
          limit = r.limit;
          aim = ap aim_of r.plan;
          grows = r.grows;
          within = w'.meter.within;
          given = refl;
          few = (IsGood-after s r).few;
          ends = refl;
          stays = λ yes'. absurd (both_ways false refl yes');
        };
        charged = charged s r;
        asks = asks s r;
      }

-- a step, from what is known about its parts
pub goes_at : {A : Type 0} (F : Option Question → Content → Type 0) (n : ℕ) (w w' : Walker A) (given : ℕ)
    (over' : Bool) (v : MachineState (Walk A)) → view w given over' ≡ v → over' ≡ false → w.meter.limit < 2 ^ 64
    → IsUnderWay w given
    → (x : Saying) (k : ℕ) (b : Bool) → k ≡ item_number x → b ≡ is_last x
    → TurnsTo (F (question_of w.query)) n w (Some x) w' → (is_last x ≡ true → IsCleared w') → StepGoes (F v.asked) n v
    x (view w' (given + k) b)
goes_at {A} F n w w' given over' v e going' fits u x k b ks bs r cleared =
    subst (λ y. StepGoes (F y.asked) n y x (view w' (given + k) b)) e
    (subst (λ o. StepGoes (F (question_of w.query)) n (view w given o) x (view w' (given + k) b)) (sym going')
    (subst (λ y. StepGoes (F (question_of w.query)) n (view w given false) x (view w' (given + y) b)) (sym ks)
    (subst (λ y. StepGoes (F (question_of w.query)) n (view w given false) x (view w' (given + item_number x) y)) (sym bs)
    (goes (F (question_of w.query)) n w w' given fits u x r cleared))))

-- an answer is to the open question, or not
answered_or_not : {A : Type 0} (q : Option Question) (a : Answer A) → IsAnswer q a ⊎ ¬ (IsAnswer q a)
answered_or_not None answer.Nothing = inl refl
answered_or_not (Some q) answer.Nothing = inr (λ none. absurd (cc))
answered_or_not None (answer.Look r) = inr (λ h. h)
answered_or_not (Some (LookAt path)) (answer.Look r) = inl tt
answered_or_not (Some (ListAt kinds path)) (answer.Look r) = inr (λ h. h)
answered_or_not None (answer.List r) = inr (λ h. h)
answered_or_not (Some (LookAt path)) (answer.List r) = inr (λ h. h)
answered_or_not (Some (ListAt kinds path)) (answer.List r) = inl tt

-- an answer to another question leaves it open: it is asked again
abbrev pub Waits : {A : Type 0} → Walker A → Answer A → Saying → Walker A → Type 0
Waits w a s w' = IfSome w.query (λ q. ¬ (IsAnswer (question_of (Some q)) a) → (s ≡ asking q.kind) × (w' ≡ w))

asking_items : (kind : QueryKind) → (item_number (asking kind) ≡ 0) × (is_last (asking kind) ≡ false)
asking_items (kind.Look w) = (refl, refl)
asking_items (kind.List recursive kinds) = (refl, refl)

asking_again : (path : Text) (kind : QueryKind) → IsAskedAfter (asking kind) (Some (asked_of path kind))
asking_again path (kind.Look w) = tt
asking_again path (kind.List recursive kinds) = refl

-- a walk is good after any answer
pub IsGood-resumed : {A : Type 0} (w w' : Walker A) (given : ℕ) → w.meter.limit < 2 ^ 64 → IsUnderWay w given → (a : Answer A) (s : Saying)
    → (w.query ≡ None → TurnsTo IsSomeContent 0 w (Some s) w') → Waits w a s w'
    → (IsAnswer (question_of w.query) a → TurnsTo (IsAnswered (question_of w.query) a) (answer_count a) w (Some s) w')
    → IsGood w' (given + item_number s) (is_last s)
IsGood-resumed {A} w w' given fits u a s free waits turn = by_query w.query refl
  where
    by_query : (o : Option (Query A)) → w.query ≡ o → IsGood w' (given + item_number s) (is_last s)
    by_query None e = IsGood-after IsSomeContent 0 w w' given fits u s (free e)
    by_query (Some q) e =
        ⊎_elim
        (λ yes'. IsGood-after (IsAnswered (question_of w.query) a) (answer_count a) w w' given fits u s
        (turn (subst (λ o. IsAnswer (question_of o) a) (sym e) yes')))
        (λ other.
        let (says, same) = subst (λ o. IfSome o (λ q. ¬ (IsAnswer (question_of (Some q)) a) → (s ≡ asking q.kind) ×
        (w' ≡ w))) e waits other in
        let (none, more) = asking_items q.kind in
        let few = u.ready in
        subst (λ x. IsGood w' (given + item_number x) (is_last x)) (sym says)
        (subst (λ x. IsGood x (given + item_number (asking q.kind)) (is_last (asking q.kind))) (sym same)
        (subst (λ n. IsGood w (given + n) (is_last (asking q.kind))) (sym none)
        (subst (λ b. IsGood w (given + 0) b) (sym more) (record {
          fits = fits;
          few = omega (arith, few);
          going = λ _. record { ready = omega (arith, few); opened = u.opened };
          ended = λ yes'. absurd (both_ways false refl yes');
        })))))
        (answered_or_not (question_of (Some q)) a)

-- after an answer to another question the walk is as before
pub waits_at : {A : Type 0} (w w' : Walker A) (given : ℕ) (over' : Bool) (v : MachineState (Walk A)) → view w given
    over' ≡ v → over' ≡ false → (a : Answer A)
    → (s : Saying) (k : ℕ) (b : Bool) → k ≡ item_number s → b ≡ is_last s → Waits w a s w' → IsSome v.asked → ¬ (IsAnswer v.asked a)
    → IsAskedAfter s v.asked × (view w' (given + k) b ≡ v)
waits_at {A} w w' given over' v e going' a s k b ks bs waits =
    subst (λ x. IsSome x.asked → ¬ (IsAnswer x.asked a) → IsAskedAfter s x.asked × (view w' (given + k) b ≡ x)) e (by_query w.query refl)
  where
    by_query : (o : Option (Query A)) → w.query ≡ o → IsSome (question_of w.query) → ¬ (IsAnswer (question_of w.query) a)
        → IsAskedAfter s (question_of w.query) × (view w' (given + k) b ≡ view w given over')
    by_query None e some other = absurd (both_ways false refl (subst (λ o. IsSome (question_of o)) e some))
    by_query (Some q) e some other =
        let (says, same) = subst (λ o. IfSome o (λ q. ¬ (IsAnswer (question_of (Some q)) a) → (s ≡ asking q.kind) × (w' ≡ w))) e waits
        (λ yes'. other (subst (λ o. IsAnswer (question_of o) a) (sym e) yes')) in
        let (none, more) = asking_items q.kind in
        let items : k ≡ 0 = ks ∙ ap item_number says ∙ none in
        let ends : b ≡ over' = bs ∙ ap is_last says ∙ more ∙ sym going' in
        let count : given + k ≡ given = omega (arith, items) in (
          subst (λ o. IsAskedAfter s (question_of o)) (sym e) (subst (λ x. IsAskedAfter x (question_of (Some q)))
              (sym says) (asking_again (string_bytes q.path) q.kind)),
          ap (λ x. view x (given + k) b) same ∙ ap (λ n. view w n b) count ∙ ap (view w given) ends,
        )

-- without an open question nothing is answered
pub none_answered : {A : Type 0} (q : Option Question) (a : Answer A) → q ≡ None → IsAnswer q a → answer_count a ≡ 0
none_answered q answer.Nothing free h = refl
none_answered q (answer.Look r) free h = refl
none_answered q (answer.List r) free h = absurd (subst (λ x. IsAnswer x (answer.List r)) free h)

-- if no question is asked, none is open
pub none_open : {A : Type 0} (o : Option (Query A)) → question_of o ≡ None → o ≡ None
none_open None e = refl
none_open (Some q) e = absurd (cc)

-- no question waits
pub none_waits : (q : Option Question) → q ≡ None → IsSome q → ⊥
none_waits q free some = both_ways false refl (subst IsSome free some)

-- no question has failed
pub none_failed : {A : Type 0} (q : Option Question) (a : Answer A) (path : Text) (P : Outcome → Type 0) → q ≡ None
    → IsAnswer q a → IfFailed a path P
none_failed q answer.Nothing path P free h = tt
none_failed {A} q (answer.Look r) path P free h = absurd (subst (λ x. IsAnswer {A = A} x (answer.Look r)) free h)
none_failed q (answer.List r) path P free h = absurd (subst (λ x. IsAnswer x (answer.List r)) free h)

-- a walk that is over stays as it is
pub goes_over : {A : Type 0} (w : Walker A) (given : ℕ) (over' : Bool) → over' ≡ true → (Fits : Content → Type 0)
    (n : ℕ) (v : MachineState (Walk A)) → view w given over' ≡ v → IsGood w given over' → n ≡ 0
    → StepGoes Fits n v Ends v
goes_over w given over' yes' Fits n v e good none =
    subst (λ x. StepGoes Fits n x Ends x) e (record {
      counts = record {
        counts = record {
          limit = refl;
          aim = refl;
          grows = omega arith;
          within = w.meter.within;
          given = omega arith;
          few = good.few;
          ends = yes';
          stays = λ _. (refl, refl);
        };
        charged = omega (arith, none);
        asks = ap question_of (good.ended yes');
      };
      gives = λ c f listing items h. absurd (both_ways over' h.going yes');
      agrees = λ c f going h. absurd (both_ways over' going yes');
      charges = λ c f listing items h question. absurd (both_ways over' h.going yes');
    })

-- a walk that has done nothing yet
pub IsGood-fresh : {A : Type 0} (w : Walker A) (t : Task A) → w.meter.spent ≡ 0 → w.meter.limit < 2 ^ 64
    → w.query ≡ None → w.stack.next ≡ Some t → t.state ≡ Unseen Any
    → w.stack.frames.items ≡ [] → IsGood w 0 false
IsGood-fresh w t none fits free next unseen empty =
    let none_asked : query_ready w.query ≡ 0 = ap query_ready free in
    let none_ready : next_ready w.stack.plan w.stack.next ≡ 0 =
    ap (next_ready w.stack.plan) next ∙ ap (state_ready (nat_le (length w.stack.plan.components.items) t.component)) unseen in
    let none_unmet : sum_by unmet w.stack.frames.items ≡ 0 = ap (sum_by unmet) empty in
    record {
      fits = fits;
      few = omega arith;
      going = λ _. record {
        ready = omega (arith, none, none_asked, none_ready, none_unmet);
        opened = subst
            (IsQueryOpened w.stack) (sym free) tt;
      };
      ended = λ yes'. absurd (both_ways false refl yes');
    }

pub left-fresh : {A : Type 0} (c : Content) (plan : Plan A) (t : Task A) (frames : List (Frame A)) → t.state ≡ Unseen Any → t.component ≡ 0
    → frames ≡ [] → string_bytes t.path ≡ cond plan.rooted root_dir cur_dir
    → next_marks c plan (Some t) ++ frames_marks c plan frames ≡ listing_of c (aim_of plan)
left-fresh c plan t frames unseen component empty at =
    ap (λ fs. task_marks c plan t ++ frames_marks c plan fs) empty
    ∙ append-nil (task_marks c plan t)
    ∙ ap (λ x. state_marks c plan t.component (string_bytes t.path) x) unseen
    ∙ ap (λ n. look_up c true (enter_from c plan n) (string_bytes t.path)) component
    ∙ ap (look_up c true (enter c plan.options plan.directories plan.components.items)) at

pub sound-fresh : {A : Type 0} (c : Content) (w : Walker A) (t : Task A) → w.query ≡ None → w.stack.next ≡ Some t
    → t.state ≡ Unseen Any → t.component ≡ 0 → string_bytes t.path ≡ cond w.stack.plan.rooted root_dir cur_dir
    → w.stack.frames.items ≡ [] → IsWalkSound c w
sound-fresh {A} c w t free next unseen component at empty = sound_free c w free (record {
  next = subst (IsNextSound c) (sym next) (subst (IsStateSound c (string_bytes t.path)) (sym unseen) tt);
  deep = λ plain. subst (IsNextDeep c w.stack.plan (length w.stack.frames.items)) (sym next) (start plain);
  frames = no_frames c w.stack.plan w.stack.frames.items empty;
})
  where
    start : IsPlainOver c w.stack.plan → IsTaskDeep c w.stack.plan (length w.stack.frames.items) t.component (string_bytes t.path) t.state
    start plain = record {
      plain = subst (IsPlainFrom w.stack.plan) (sym component) plain.plain;
      deep = subst (IsStateDeep c (length w.stack.frames.items) (string_bytes t.path)) (sym unseen)
          (λ _. subst (IsDeepPath c (length w.stack.frames.items)) (sym at) (subst (λ n. IsDeepPath c n
          (cond w.stack.plan.rooted root_dir cur_dir)) (sym (ap length empty))
          (start_deep c (IsContent-from_test c plain.content) w.stack.plan.rooted)));
    }

-- a plain walk keeps few directories
pub kept_few : {A : Type 0} (c : Content) (w : Walker A) (given : ℕ) (over' : Bool) (v : MachineState (Walk A))
    → view w given over' ≡ v → IsTrue (is_content c) → Agrees c v → IsTrue (are_plain false v.aim.components)
    → length w.stack.frames.items < levels c
kept_few {A} c w given over' v e content = subst (λ x. Agrees c x → IsTrue (are_plain false x.aim.components) → length
    w.stack.frames.items < levels c) e
    (λ agrees plain. deep_few c w.stack.plan w.stack.frames.items (agrees.stack.frames.deep (record {
      content = content;
      plain = plain;
    })) w.stack.going)
