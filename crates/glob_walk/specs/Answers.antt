-- The answers to a walk's questions.
use Rattle.std.specs.Prelude.{◌≡◌, ℕ, Option, None, IfErr, ⊤}
use Rattle.glob_text.specs.Text.{Text}
use Rattle.glob_tree.specs.Content.{Content}
use Rattle.glob_tree.specs.Answers.{entry_count}
use Rattle.glob_walk.specs.Machines.{list_error_outcome}
use Rattle.glob_walk.specs.Questions.{Question, IsLook, IsList, IsSomeContent, IsSeenIn, IsListedIn}
use Rattle.glob_walk.specs.Walks.{Outcome, NoMemory}
use Rattle.glob_walk.specs.declared.machine.Answer.{Answer}
use Rattle.glob_walk.specs.declared.machine.Answer.TheVariants as answer

-- this is an answer to the open question
abbrev pub IsAnswer : {A : Type 0} → Option Question → Answer A → Type 0
IsAnswer q answer.Nothing = q ≡ None
IsAnswer q (answer.Look r) = IsLook q
IsAnswer q (answer.List r) = IsList q

-- it is this content's answer
abbrev pub IsAnswered : {A : Type 0} → Option Question → Answer A → Content → Type 0
IsAnswered q answer.Nothing c = IsSomeContent c
IsAnswered q (answer.Look r) c = IsSeenIn q r c
IsAnswered q (answer.List r) c = IsListedIn q r c

-- what holds if the answer is an error, at this path
abbrev pub IfFailed : {A : Type 0} → Answer A → (path : Text) → (Outcome → Type 0) → Type 0
IfFailed answer.Nothing path P = ⊤
IfFailed (answer.Look r) path P = IfErr r (λ _. P NoMemory)
IfFailed (answer.List r) path P = IfErr r (λ e. P (list_error_outcome path e))

-- the number of entries in an answer
abbrev pub answer_count : {A : Type 0} → Answer A → ℕ
answer_count answer.Nothing = 0
answer_count (answer.Look r) = 0
answer_count (answer.List r) = entry_count r
