use Rattle.std.proofs.Common.{◌≡◌, [], ◌∷◌, Contains, Err, map, sym, subst, refl, ◌∙◌}
use Rattle.std.proofs.lemmas.List.{map-id, map-append}
use Rattle.std.proofs.lemmas.Iterator.Adapters.{YieldsList-from_vec}
use Rattle.std.proofs.lemmas.Iterator.Consumers.{YieldsList-end, YieldsList-turn}
use Rattle.std.specs.Path.{path_buf_bytes}
use Rattle.glob.specs.Walks.{AreItems, listing, items, IsWalk}
use Rattle.glob.specs.Matching.Options.{new_options}
use Rattle.glob.specs.Goal.{IsOrderly, FindsGoal}
use Rattle.glob.specs.Variants.End.{Done, Limit}
use Rattle.glob.proofs.FoundPaths.{AreFound-more, found_items, AreItems-same, goal-found, paths-found, paths-listed}
use Rattle.glob.proofs.WalkLemmas.{found_goal, found_in_order, done_walk, limited_walk}
use Rattle.glob_examples.specs.WalkFaults.{IsPatternFault}
use Rattle.glob_walk.proofs.WalkLemmas.Reading.{IfErr-from_known}
use Rattle.glob_examples.proofs.WalkFaults.{IsMet-answer, IsMet-pattern, IsWalkFault-error, IsWalkFault-pattern}
use Rattle.glob_examples.proofs.sources.sources.Goals as goal

-- the pattern is refused
pub returns-in_err-check_plain-clause-fault : goal.returns-in_err-check_plain-clause-fault
returns-in_err-check_plain-clause-fault g c =
    IfErr-from_known _ _ _
    (λ fault is. IsWalkFault-pattern _ fault (subst (IsPatternFault _) (sym is) c.in_err-check_plain.ensures.fault))
    c.from_residual.ensures.1

pub returns-in_err-check_plain-clause-met : goal.returns-in_err-check_plain-clause-met
returns-in_err-check_plain-clause-met g c = λ content told.
    IfErr-from_known _ _ _
    (λ fault is. IsMet-pattern _ content c.args.limit fault (subst (IsPatternFault _) (sym is) c.in_err-check_plain.ensures.fault))
    c.from_residual.ensures.1

-- the limit does not suffice
pub returns-in-Limit-clause-met : goal.returns-in-Limit-clause-met
returns-in-Limit-clause-met g c = λ content told.
    let ms = listing content new_options c.args.pattern.now in
    let walk : IsWalk ms c.args.limit Limit c.in_ok-walk.walk.spent c.in_ok-walk.walk.items.items =
    rw (c.new.ensures, c.in-Limit.is) at (c.in_ok-walk.ensures.walk content told) in
    (limited_walk c.in_ok-walk.walk.items.items ms c.args.limit c.in_ok-walk.walk.spent walk).0

-- a directory could not be listed
pub returns-in_err-item-clause-fault : goal.returns-in_err-item-clause-fault
returns-in_err-item-clause-fault g c =
    IfErr-from_known _ _ _
    (λ fault is. IsWalkFault-error _ c.in_ok-check_plain.ensures.plain c.in_err-item.field-0.0 fault is)
    c.from_residual-in_err-item.ensures.1

pub returns-in_err-item-clause-met : goal.returns-in_err-item-clause-met
returns-in_err-item-clause-met g c = λ content told.
    let answers = c.in_ok-walk.walk.items.items in
    let ms = listing content new_options c.args.pattern.now in
    let walk : IsWalk ms c.args.limit Done c.in_ok-walk.walk.spent answers =
    rw (c.new.ensures, c.in-Done.is) at (c.in_ok-walk.ensures.walk content told) in
    let parts = YieldsList-from_vec answers (cc) (cc) in
    let turn = YieldsList-turn parts c.loop-item.yielded _ c.loop-item.yielded_by _ c.next.new.self c.in-Some.item
    c.in-Some.is c.next.ensures.steps in
    let has : Contains answers (Err c.in_err-item.field-0.0) =
    subst (Contains answers) c.in_err-item.was (_, turn.0, sym turn.1) in
    IfErr-from_known _ _ _
    (λ fault is. IsMet-answer _ content c.args.limit c.in_err-item.field-0.0 answers
    (done_walk answers ms c.args.limit c.in_ok-walk.walk.spent walk).2 has fault is)
    c.from_residual-in_err-item.ensures.1

-- all items are paths, so no goal is hidden
pub returns-clause-files : goal.returns-clause-files
returns-clause-files g c = λ content told.
    let answers = c.in_ok-walk.walk.items.items in
    let ms = listing content new_options c.args.pattern.now in
    let parts = YieldsList-from_vec answers (cc) (cc) in
    let all = YieldsList-end parts c.loop-item.yielded _ c.loop-item.yielded_by _ c.next.new.self c.in-None.is c.next.ensures.steps in
    let whole : c.loop-item.yielded ≡ answers = sym (map-id c.loop-item.yielded) ∙ all.0 in
    let files = map path_buf_bytes c.loop-item.files.items in
    let are : AreItems answers (found_items files) = subst (λ found. AreItems found (found_items files)) whole c.loop-item.invariant in
    let finds : FindsGoal (g.T.Tree.tells c.args.tree) new_options c.args.pattern.now c.in_ok-walk.walk.end answers =
    subst (λ o. FindsGoal (g.T.Tree.tells c.args.tree) o c.args.pattern.now c.in_ok-walk.walk.end answers) c.new.ensures
    c.in_ok-walk.ensures.goal in
    let walk : IsWalk ms c.args.limit Done c.in_ok-walk.walk.spent answers =
    rw (c.new.ensures, c.in-Done.is) at (c.in_ok-walk.ensures.walk content told) in
    record {
      exact = goal-found content new_options c.args.pattern.now _ files (c.in_ok-walk.walk.end ≡ Done) refl c.in-Done.is
          (found_goal _ _ _ _ _ finds content _ told are c.in_ok-check_plain.ensures.plain refl);
      orderly = subst (IsOrderly c.args.pattern.now) (paths-found files)
          (found_in_order _ _ _ _ _ c.in_ok-walk.ensures.taken content _ told are c.in_ok-check_plain.ensures.plain);
      listed = paths-listed files ms (AreItems-same answers (found_items files) (items ms) are
          (done_walk answers ms c.args.limit c.in_ok-walk.walk.spent walk).2);
    }

-- one more path is kept
pub loop-item-preserved : goal.loop-item-preserved
loop-item-preserved g c =
    let files = map-append path_buf_bytes c.loop-item.files.items (c.in_ok-item.field-0 ∷ []) in
    rw (c.in_ok-item.was, c.in_ok-push.ensures.items, files) (AreFound-more c.loop-item.yielded
    (map path_buf_bytes c.loop-item.files.items) c.in_ok-item.field-0 c.loop-item.invariant)
