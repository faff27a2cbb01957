use Rattle.std.proofs.Common.{rules, ◌≡◌, Bool, Option, None, Some, ap, sym, subst, ◌∙◌}
use Rattle.std.specs.Prelude.{string_bytes}
use Rattle.glob_walk.specs.Answers.{IsAnswered, answer_count}
use Rattle.glob_walk.specs.Machines.{Saying}
use Rattle.glob_walk.specs.Questions.{IsSomeContent}
use Rattle.glob_walk.specs.Private.Queries.{IsQueryOpened, asked_of, question_of}
use Rattle.glob_walk.specs.Private.Turns.{TurnsTo, said, with_query}
use Rattle.glob_walk.specs.declared.machine.Answer.{Answer}
use Rattle.glob_walk.specs.declared.machine.Answer.TheVariants as answer
use Rattle.glob_walk.specs.declared.query.Query.{Query}
use Rattle.glob_walk.specs.declared.query.QueryKind.{QueryKind}
use Rattle.glob_walk.specs.declared.query.QueryKind.TheVariants.{List, Look}
use Rattle.glob_walk.specs.declared.walker.Walker.{Walker}
use Rattle.glob_walk.proofs.WalkLemmas.Charging.{TurnsTo-none}
use Rattle.glob_walk.proofs.walker.Walker.take_answer.Goals as goal
use Rattle.glob_walk.proofs.walker.Walker.take_answer.Goals.{in_default-via-in-Look+in_default, in_default-via-in-List+in_default}

-- the open question is answered
answered_turn : {A : Type 0} (w b : Walker A) (q : Query A) (kind : QueryKind) (a other : Answer A) (r : Option Saying)
    → w.query ≡ Some q → q.kind ≡ kind → a ≡ other → w.stack.next ≡ None
    → TurnsTo (IsAnswered (Some (asked_of (string_bytes q.path) kind)) other) (answer_count other)
    (with_query q.path q.component kind w) r b
    → TurnsTo (IsAnswered (question_of w.query) a) (answer_count a) w r b
answered_turn {A} w b q kind a other r asked is answered free h =
    let same : with_query q.path q.component kind w ≡ w =
    ap (λ k. with_query q.path q.component k w) (sym is)
    ∙ ap (λ o. record w { query = o; stack = record w.stack { next = None } }) (sym asked)
    ∙ ap (λ n. record w { stack = record w.stack { next = n } }) (sym free) in
    let question : question_of w.query ≡ Some (asked_of (string_bytes q.path) kind) =
    ap question_of asked ∙ ap (λ k. Some (asked_of (string_bytes q.path) k)) is in
    subst (λ x. TurnsTo (IsAnswered (question_of w.query) x) (answer_count x) w r b) (sym answered)
    (subst (λ o. TurnsTo (IsAnswered o other) (answer_count other) w r b) (sym question)
    (subst (λ (z : Walker A). TurnsTo (IsAnswered (Some (asked_of (string_bytes q.path) kind)) other) (answer_count other) z r b) same h))

pub returns-in_err-query-clause-free : goal.returns-in_err-query-clause-free
returns-in_err-query-clause-free g c = λ free.
    let none : c.from_residual.result ≡ None = search rules in
    subst (λ q. TurnsTo IsSomeContent 0 c.args.self.now (said c.from_residual.result)
    (record c.args.self.now { query = q })) (free ∙ sym c.take.ensures.after)
    (subst (λ r. TurnsTo IsSomeContent 0 c.args.self.now (said r) c.args.self.now) (sym none)
    (TurnsTo-none IsSomeContent c.args.self.now free))

pub returns-in_default-clause-turn : goal.returns-in_default-clause-turn
returns-in_default-clause-turn g c = λ fits.
    elim c.in_default.branch [
      | in_default-via-in-Look+in_default w ↦ search (rules, w.in_default, fits)
      | in_default-via-in-List+in_default w ↦ search (rules, w.in_default, fits)
    ]

pub returns-in-List-List-clause-turn : goal.returns-in-List-List-clause-turn
returns-in-List-List-clause-turn g c = λ fits.
    let w = c.args.self.now in
    let q = c.in_ok-query.query in
    let asked : w.query ≡ Some q = search rules in
    let is : q.kind ≡ List c.in-List-List.recursive c.in-List-List.kinds = search rules in
    let answered : c.args.answer ≡ answer.List c.in-List-List.listed = search rules in
    answered_turn w c.take_listing.new.self q (List c.in-List-List.recursive c.in-List-List.kinds) c.args.answer
    (answer.List c.in-List-List.listed) _ asked is answered (subst (IsQueryOpened w.stack) asked c.requires.opened).0
    c.take_listing.ensures.turn

pub returns-in-Look-Look-clause-turn : goal.returns-in-Look-Look-clause-turn
returns-in-Look-Look-clause-turn g c = λ fits.
    let w = c.args.self.now in
    let q = c.in_ok-query.query in
    let asked : w.query ≡ Some q = search rules in
    let is : q.kind ≡ Look c.in-Look-Look.accepted = search rules in
    let answered : c.args.answer ≡ answer.Look c.in-Look-Look.seen = search rules in
    answered_turn w c.take_look.new.self q (Look c.in-Look-Look.accepted) c.args.answer
    (answer.Look c.in-Look-Look.seen) _ asked is answered (subst (IsQueryOpened w.stack) asked c.requires.opened).0
    c.take_look.ensures.turn
