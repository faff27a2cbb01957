use Rattle.glob_walk.specs.Walks.{listing}
use Rattle.glob_walk.specs.Goal.{FindsGoal, FindsExactly, FindsTaken}
use Rattle.glob_walk.proofs.GoalLemmas.Clauses.{plain_walk}
use Rattle.glob.proofs.WalkClauses.{walk_reaches_goal, walk_gives_goal, walk_finds_taken}
use Rattle.glob.proofs.Beginning.{if_ok, if_err, of_ok, of_err, begun_within, begun_asked, begun_told, begun_walk}
use Rattle.glob.proofs.walk.walk_in.Goals as goal

pub returns-clause-accepted : goal.returns-clause-accepted
returns-clause-accepted g c = if_ok _ _ c.walked.result (λ w b. of_ok _ c.glob_in.result b.0 b.1
    c.glob_in.ensures.accepted) c.walked.ensures.whole

pub returns-clause-refused : goal.returns-clause-refused
returns-clause-refused g c = if_err _ _ c.walked.result (λ e is. of_err _ c.glob_in.result e is
    c.glob_in.ensures.refused) c.walked.ensures.refused

pub returns-clause-within : goal.returns-clause-within
returns-clause-within g c = if_ok _ _ c.walked.result (λ w b. begun_within g.T.Tree.asks g.T.Tree.tells b.0 w.end
    w.spent w.items.items w.tree b.2 c.args.tree c.args.limit (of_ok _ c.glob_in.result b.0 b.1 c.glob_in.ensures.tree)
    (of_ok _ c.glob_in.result b.0 b.1 c.glob_in.ensures.fresh)) c.walked.ensures.whole

pub returns-clause-asked : goal.returns-clause-asked
returns-clause-asked g c = if_ok _ _ c.walked.result (λ w b. begun_asked g.T.Tree.asks g.T.Tree.tells b.0 w.end w.spent
    w.items.items w.tree b.2 c.args.tree c.args.limit (of_ok _ c.glob_in.result b.0 b.1 c.glob_in.ensures.tree)
    (of_ok _ c.glob_in.result b.0 b.1 c.glob_in.ensures.fresh)) c.walked.ensures.whole

pub returns-clause-content : goal.returns-clause-content
returns-clause-content g c = if_ok _ _ c.walked.result (λ w b. begun_told g.T.Tree.asks g.T.Tree.tells b.0 w.end
    w.spent w.items.items w.tree b.2 c.args.tree c.args.limit (of_ok _ c.glob_in.result b.0 b.1 c.glob_in.ensures.tree)
    (of_ok _ c.glob_in.result b.0 b.1 c.glob_in.ensures.fresh)) c.walked.ensures.whole

pub returns-clause-items : goal.returns-clause-items
returns-clause-items g c = if_ok _ _ c.walked.result (λ w b. b.2.items) c.walked.ensures.whole

pub returns-clause-few : goal.returns-clause-few
returns-clause-few g c = if_ok _ _ c.walked.result (λ w b. b.2.few) c.walked.ensures.whole

pub returns-clause-walk : goal.returns-clause-walk
returns-clause-walk g c = λ t told. if_ok _ _ c.walked.result (λ w b. begun_walk g.T.Tree.asks g.T.Tree.tells b.0 w.end
    w.spent w.items.items w.tree b.2 c.args.tree c.args.limit (of_ok _ c.glob_in.result b.0 b.1 c.glob_in.ensures.tree)
    (of_ok _ c.glob_in.result b.0 b.1 c.glob_in.ensures.fresh) t told (listing t c.args.options c.args.pattern.now)
    (of_ok _ c.glob_in.result b.0 b.1 (c.glob_in.ensures.listing t))) c.walked.ensures.whole

pub returns-clause-goal : goal.returns-clause-goal
unfolding FindsGoal
returns-clause-goal g c = if_ok _ _ c.walked.result (λ w b t is told are plain case. walk_reaches_goal t c.args.options
    c.args.pattern.now c.args.limit _ _ is are (plain_walk _ t c.args.options c.args.pattern.now told c.utf8.pattern
    plain case) _ (begun_walk g.T.Tree.asks g.T.Tree.tells b.0 w.end w.spent w.items.items w.tree b.2 c.args.tree
    c.args.limit (of_ok _ c.glob_in.result b.0 b.1 c.glob_in.ensures.tree) (of_ok _ c.glob_in.result b.0 b.1
    c.glob_in.ensures.fresh) t told (listing t c.args.options c.args.pattern.now) (of_ok _ c.glob_in.result b.0 b.1
    (c.glob_in.ensures.listing t)))) c.walked.ensures.whole

pub returns-clause-exact : goal.returns-clause-exact
unfolding FindsExactly
returns-clause-exact g c = if_ok _ _ c.walked.result (λ w b t is told are plain case readable done. walk_gives_goal t c.args.options
    c.args.pattern.now c.args.limit _ _ is are (plain_walk _ t c.args.options c.args.pattern.now told c.utf8.pattern
    plain case) _ (begun_walk g.T.Tree.asks g.T.Tree.tells b.0 w.end w.spent w.items.items w.tree b.2 c.args.tree
    c.args.limit (of_ok _ c.glob_in.result b.0 b.1 c.glob_in.ensures.tree) (of_ok _ c.glob_in.result b.0 b.1
    c.glob_in.ensures.fresh) t told (listing t c.args.options c.args.pattern.now) (of_ok _ c.glob_in.result b.0 b.1
    (c.glob_in.ensures.listing t))) readable done) c.walked.ensures.whole

pub returns-clause-taken : goal.returns-clause-taken
unfolding FindsTaken
returns-clause-taken g c = if_ok _ _ c.walked.result (λ w b t is told are plain.
    walk_finds_taken t c.args.options c.args.pattern.now c.args.limit _ _ is are
    (record { content = told.1; text = c.utf8.pattern; plain = plain }) _
    (begun_walk g.T.Tree.asks g.T.Tree.tells b.0 w.end w.spent w.items.items w.tree b.2 c.args.tree c.args.limit
    (of_ok _ c.glob_in.result b.0 b.1 c.glob_in.ensures.tree) (of_ok _ c.glob_in.result b.0 b.1
    c.glob_in.ensures.fresh) t told
    (listing t c.args.options c.args.pattern.now) (of_ok _ c.glob_in.result b.0 b.1 (c.glob_in.ensures.listing t)))) c.walked.ensures.whole
