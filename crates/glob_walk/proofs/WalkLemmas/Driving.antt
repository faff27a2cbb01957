-- The steps of a walk whose questions are answered as they come.
use Rattle.std.proofs.Common.{◌≡◌, ◌⊎◌, inl, inr, Bool, Option, Some, None, refl, ap}
use Rattle.glob_walk.specs.Questions.{Question, LookAt, ListAt, IsLook, IsListWith, question_units}
use Rattle.glob_walk.specs.Machines.{Saying, AsksLook, AsksList, Says, Ends, IsAskedAfter, saying, step_units}
use Rattle.glob_walk.specs.declared.machine.Step.{Step}
use Rattle.glob_walk.specs.declared.machine.Step.TheVariants as step

look_units : (q : Option Question) → IsLook q → question_units q ≡ 1
look_units None asks = absurd asks
look_units (Some (LookAt path)) asks = refl
look_units (Some (ListAt kinds path)) asks = absurd asks

list_units : (kinds : Bool) (q : Option Question) → IsListWith kinds q → question_units q ≡ 1
list_units kinds None asks = absurd asks
list_units kinds (Some (LookAt path)) asks = absurd asks
list_units kinds (Some (ListAt wanted path)) asks = refl

-- a step costs what the question that is then open costs
pub asked_units : (s : Saying) (q : Option Question) → IsAskedAfter s q → question_units q ≡ step_units s
asked_units AsksLook q asks = look_units q asks
asked_units (AsksList kinds) q asks = list_units kinds q asks
asked_units (Says o) None asks = refl
asked_units (Says o) (Some q) asks = absurd (cc)
asked_units Ends None asks = refl
asked_units Ends (Some q) asks = absurd (cc)

-- each of these steps is a question
pub question_unit : {A : Type 0} (s : Step A) → (s ≡ step.Look) ⊎ ((s ≡ step.List) ⊎ (s ≡ step.ListNames)) → step_units (saying s) ≡ 1
question_unit s (inl is) = ap (λ x. step_units (saying x)) is
question_unit s (inr (inl is)) = ap (λ x. step_units (saying x)) is
question_unit s (inr (inr is)) = ap (λ x. step_units (saying x)) is
