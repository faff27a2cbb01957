use Rattle.glob_walk.specs.Questions.{IsSomeContent}
use Rattle.glob_walk.specs.Private.Queries.{question_of}
use Rattle.glob_walk.specs.Answers.{IsAnswered, answer_count}
use Rattle.glob_walk.proofs.WalkLemmas.Charging.{TurnsTo-after, IsAnswered-content}
use Rattle.glob_walk.proofs.walker.Walker.take_turns.Goals as goal

pub returns-in-None-clause-turn : goal.returns-in-None-clause-turn
returns-in-None-clause-turn g c = λ fits.
    TurnsTo-after (IsAnswered (question_of c.args.self.now.query) c.args.answer) IsSomeContent (answer_count c.args.answer)
    c.args.self.now c.take_answer.new.self c.turns.new.self _
    (IsAnswered-content (question_of c.args.self.now.query) c.args.answer) (c.in-None.ensures.turn fits) c.turns.ensures

pub returns-in-None-clause-free : goal.returns-in-None-clause-free
returns-in-None-clause-free g c = λ free.
    TurnsTo-after IsSomeContent IsSomeContent 0 c.args.self.now c.take_answer.new.self c.turns.new.self _ (λ c' w. w)
    (c.in-None.ensures.free free) c.turns.ensures
