use Rattle.std.proofs.Common.{◌≡◌, [], ◌∷◌, Some, map, ap, sym, subst, refl, ◌∙◌}
use Rattle.std.proofs.lemmas.List.{map-append}
use Rattle.std.specs.Path.{path_buf_bytes}
use Rattle.glob.specs.Answers.{IsTold}
use Rattle.glob.specs.Content.{Content}
use Rattle.glob.specs.WalkLaws.{IsSensitiveWalk}
use Rattle.glob.specs.Walks.{listing}
use Rattle.glob.specs.Matching.Options.{new_options}
use Rattle.glob.specs.Text.{Text}
use Rattle.glob.specs.Types.{MatchOptions}
use Rattle.glob.specs.Iterating.{Walking}
use Rattle.glob.specs.Machines.{Progress, HasGiven, IsFresh}
use Rattle.glob.proofs.FoundPaths.{FindsSoFar, FindsSoFar-start, FindsSoFar-next, FindsSoFar-whole, goal-listed}
use Rattle.glob.proofs.FoundPaths.{orderly-listed, paths-listed}
use Rattle.glob_examples.specs.WalkFaults.{EndsAt, IsPatternFault}
use Rattle.glob_walk.proofs.WalkLemmas.Reading.{IfErr-from_known}
use Rattle.glob_examples.proofs.WalkFaults.{IsMet-end, IsMet-pattern, IsWalkFault-end, IsWalkFault-pattern}
use Rattle.glob_examples.proofs.copy.found_paths.Goals as goal

-- nothing of the written listing was given before the loop
begun : {X : Type 0} {P : Progress} (first walk : Walking X P) (c : Content) (pattern : Text) (o : MatchOptions) → first ≡ walk
    → HasGiven (listing c o pattern) c [] walk.machine → o ≡ new_options → HasGiven (listing c new_options pattern) c [] first.machine
begun first walk c pattern o same has is =
    subst (λ w. HasGiven (listing c new_options pattern) c [] w.machine) (sym same)
    (subst (λ o. HasGiven (listing c o pattern) c [] walk.machine) is has)

-- the pattern is refused
pub returns-in_err-check_plain-clause-fault : goal.returns-in_err-check_plain-clause-fault
returns-in_err-check_plain-clause-fault g c =
    IfErr-from_known _ _ _
    (λ fault is. IsWalkFault-pattern _ fault (subst (IsPatternFault _) (sym is) c.in_err-check_plain.ensures.fault))
    c.from_residual.ensures.1

pub returns-in_err-check_plain-clause-met : goal.returns-in_err-check_plain-clause-met
returns-in_err-check_plain-clause-met g c = λ content told.
    IfErr-from_known _ _ _
    (λ fault is. IsMet-pattern _ content c.args.limit fault (subst (IsPatternFault _) (sym is) c.in_err-check_plain.ensures.fault))
    c.from_residual.ensures.1

-- the walk ends with an error, or an allocation fails
pub returns-in_err-push_found-clause-fault : goal.returns-in_err-push_found-clause-fault
returns-in_err-push_found-clause-fault g c =
    IfErr-from_known _ _ _
    (λ fault is. IsWalkFault-end _ c.in_ok-check_plain.ensures.plain _ fault (subst (EndsAt _) (sym is) c.in_err-push_found.ensures.fault))
    c.from_residual-in_err-push_found.ensures.1

pub returns-in_err-push_found-clause-met : goal.returns-in_err-push_found-clause-met
returns-in_err-push_found-clause-met g c = λ content told.
    let same = c.into_iter-item-iterator.ensures.into_iter_gives in
    let at_first : IsTold (g.T.Tree.tells c.into_iter-item-iterator.result.tree) content =
    (ap (λ w. g.T.Tree.tells w.tree) same ∙ ap g.T.Tree.tells c.in_ok-paths.ensures.tree ∙ told.0, told.1) in
    let begins = begun _ _ content _ _ same (c.in_ok-paths.ensures.listing content) c.new.ensures in
    IfErr-from_known _ _ _
    (λ fault is. IsMet-end _ content c.args.limit g.T.Tree.asks g.T.Tree.tells _ _ c.next.new.self _ c.loop-item.invariant
    (subst (λ w. IsFresh c.args.limit w.machine) (sym same) c.in_ok-paths.ensures.fresh) at_first begins
    _ _ c.in-Some.is c.next.ensures.steps fault (subst (EndsAt _) (sym is) c.in_err-push_found.ensures.fault))
    c.from_residual-in_err-push_found.ensures.1

pub loop-item-init : goal.loop-item-init
loop-item-init g c =
    subst (λ files. FindsSoFar g.T.Tree.tells c.into_iter-item-iterator.result c.into_iter-item-iterator.result
    (map path_buf_bytes files)) (sym c.new-files.ensures.items)
    (FindsSoFar-start g.T.Tree.tells _)

-- one more path
pub loop-item-preserved : goal.loop-item-preserved
loop-item-preserved g c =
    let added = c.in_ok-push_found.ensures.added in
    rw (added.2, map-append path_buf_bytes c.loop-item.files.items (added.0 ∷ []))
    (FindsSoFar-next g.T.Tree.asks g.T.Tree.tells _ _ c.next.new.self _ c.loop-item.invariant _ _ added.0 c.in-Some.is
    added.1 c.next.ensures.steps)

-- the walk has come to its end
pub returns-clause-files : goal.returns-clause-files
returns-clause-files g c = λ content told.
    let same = c.into_iter-item-iterator.ensures.into_iter_gives in
    let plain : IsSensitiveWalk content new_options c.args.pattern.now = record {
      plain = record { content = told.1; text = c.utf8.pattern; plain = c.in_ok-check_plain.ensures.plain };
      case = refl;
    } in
    let at_first : IsTold (g.T.Tree.tells c.into_iter-item-iterator.result.tree) content =
    (ap (λ w. g.T.Tree.tells w.tree) same ∙ ap g.T.Tree.tells c.in_ok-paths.ensures.tree ∙ told.0, told.1) in
    let begins = begun _ _ content _ _ same (c.in_ok-paths.ensures.listing content) c.new.ensures in
    let files = map path_buf_bytes c.loop-item.files.items in
    let whole =
    FindsSoFar-whole g.T.Tree.asks g.T.Tree.tells _ _ c.next.new.self files c.loop-item.invariant _ c.in-None.is
    c.next.ensures.steps content at_first _ begins in
    record {
      exact = goal-listed content new_options c.args.pattern.now plain files whole;
      orderly = orderly-listed content new_options c.args.pattern.now plain files whole;
      listed = paths-listed files (listing content new_options c.args.pattern.now) whole;
    }
