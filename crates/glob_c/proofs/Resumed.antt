-- A step of the walk of a session: what it does with the answer that the reply gives.
use Rattle.std.proofs.Common.{◌≡◌, ◌⊎◌, inl, inr, ⊎_elim, Bool, List, Option, Some, None, Ok, IsSome, refl, sym, ap, subst, ◌∙◌}
use Rattle.std.proofs.lemmas.Bool.{both_ways}
use Rattle.std.specs.declared.alloc.Global.{Global}
use Rattle.glob_tree.specs.Content.{Content, look_result}
use Rattle.glob_tree.specs.declared.tree.Look.{Look}
use Rattle.glob_walk.specs.Answers.{IsAnswer, answer_count}
use Rattle.glob_walk.specs.Answers as walks
use Rattle.glob_walk.specs.declared.machine.Answer.{Answer}
use Rattle.glob_walk.specs.Machines.{MachineState, Saying, AsksLook, AsksList, Says, Ends, IsAskedAfter, StepGoes, HasGiven, GivesNext}
use Rattle.glob_walk.specs.Private.Walkers.{Walk}
use Rattle.glob_walk.specs.Questions.{Question, LookAt, ListAt, IsLook, IsList, IsListWith, IsSomeContent, IsSeenIn, question_path}
use Rattle.glob_walk.specs.Walks.{Item, Mark}
use Rattle.glob_c.specs.Sessions.{answer_of, entries_said, Counts, IsAnswered, RepliesTo}
use Rattle.glob_c.specs.declared.session.Reply.{Reply}
use Rattle.glob_c.specs.declared.session.Reply.TheVariants as reply

-- a content's answer to a look is what it has at the path
seen_in : (E : Type 0) (q : Option Question) (seen : Look) (c : Content) → IsLook q → IsSomeContent c ×
    (seen ≡ look_result c (question_path q)) → IsSeenIn {E = E} q (Ok seen) c
seen_in E None seen c asks fits = absurd asks
seen_in E (Some (LookAt path)) seen c asks fits = fits
seen_in E (Some (ListAt kinds path)) seen c asks fits = absurd asks

is_list : (kinds : Bool) (q : Option Question) → IsListWith kinds q → IsList q
is_list kinds None is = absurd is
is_list kinds (Some (LookAt path)) is = absurd is
is_list kinds (Some (ListAt wanted path)) is = tt

no_open : (q : Option Question) → q ≡ None → IsSome q → ⊥
no_open q free some = both_ways _ refl (subst IsSome free some)

-- the same question is asked by the same step
one_saying : (s t : Saying) (q : Option Question) → IsSome q → IsAskedAfter s q → IsAskedAfter t q → s ≡ t
one_saying (Says o) t q some is also = absurd (no_open q is some)
one_saying Ends t q some is also = absurd (no_open q is some)
one_saying AsksLook (Says o) q some is also = absurd (no_open q also some)
one_saying AsksLook Ends q some is also = absurd (no_open q also some)
one_saying (AsksList kinds) (Says o) q some is also = absurd (no_open q also some)
one_saying (AsksList kinds) Ends q some is also = absurd (no_open q also some)
one_saying AsksLook AsksLook q some is also = refl
one_saying AsksLook (AsksList kinds) None some is also = absurd is
one_saying AsksLook (AsksList kinds) (Some (LookAt path)) some is also = absurd also
one_saying AsksLook (AsksList kinds) (Some (ListAt wanted path)) some is also = absurd is
one_saying (AsksList kinds) AsksLook None some is also = absurd is
one_saying (AsksList kinds) AsksLook (Some (LookAt path)) some is also = absurd is
one_saying (AsksList kinds) AsksLook (Some (ListAt wanted path)) some is also = absurd also
one_saying (AsksList kinds) (AsksList more) None some is also = absurd is
one_saying (AsksList kinds) (AsksList more) (Some (LookAt path)) some is also = absurd is
one_saying (AsksList kinds) (AsksList more) (Some (ListAt wanted path)) some is also = ap AsksList (sym is ∙ also)

is_replied : (said : Saying) (r : Reply) → IsAnswered said r ⊎ (¬ (IsAnswered said r))
is_replied AsksLook reply.Nothing = inr (λ h. h)
is_replied AsksLook (reply.Look seen) = inl tt
is_replied AsksLook (reply.Entries es) = inr (λ h. h)
is_replied AsksLook (reply.Listed l) = inr (λ h. h)
is_replied (AsksList kinds) reply.Nothing = inr (λ h. h)
is_replied (AsksList kinds) (reply.Look seen) = inr (λ h. h)
is_replied (AsksList kinds) (reply.Entries es) = inr (λ h. h)
is_replied (AsksList kinds) (reply.Listed l) = inl tt
is_replied (Says o) r = inl tt
is_replied Ends r = inl tt

-- a reply that is missing is not an answer to the open question
missing : (said : Saying) (q : Option Question) (r : Reply) → IsAskedAfter said q → ¬ (IsAnswered said r)
    → IsSome q × (¬ (IsAnswer q (answer_of r)))
missing (Says o) q r asked none = absurd (none tt)
missing Ends q r asked none = absurd (none tt)
missing AsksLook None r asked none = absurd asked
missing AsksLook (Some (ListAt kinds path)) r asked none = absurd asked
missing AsksLook (Some (LookAt path)) (reply.Look seen) asked none = absurd (none tt)
missing AsksLook (Some (LookAt path)) reply.Nothing asked none = (refl, λ h. absurd (cc))
missing AsksLook (Some (LookAt path)) (reply.Entries es) asked none = (refl, λ h. absurd (cc))
missing AsksLook (Some (LookAt path)) (reply.Listed l) asked none = (refl, λ h. absurd h)
missing (AsksList kinds) None r asked none = absurd asked
missing (AsksList kinds) (Some (LookAt path)) r asked none = absurd asked
missing (AsksList kinds) (Some (ListAt wanted path)) (reply.Listed l) asked none = absurd (none tt)
missing (AsksList kinds) (Some (ListAt wanted path)) reply.Nothing asked none = (refl, λ h. absurd (cc))
missing (AsksList kinds) (Some (ListAt wanted path)) (reply.Entries es) asked none = (refl, λ h. absurd (cc))
missing (AsksList kinds) (Some (ListAt wanted path)) (reply.Look seen) asked none = (refl, λ h. absurd h)

-- a step that goes by the reply
record GoesBy (said : Saying) (r : Reply) (old : MachineState (Walk Global)) (s : Saying) (new : MachineState (Walk Global))
    : Type 1 where
  Fits : Content → Type 0
  goes : StepGoes Fits (entries_said said r) old s new
  fits : (c : Content) → RepliesTo said r old c → Fits c

-- what `resume` does with an answer
pub record Resumes (a : Answer Global) (old : MachineState (Walk Global)) (s : Saying) (new : MachineState (Walk Global)) : Type 0 where
  pub steps : IsAnswer old.asked a → StepGoes (walks.IsAnswered old.asked a) (answer_count a) old s new
  pub free : old.asked ≡ None → StepGoes IsSomeContent 0 old s new
  pub waits : IsSome old.asked → ¬ (IsAnswer old.asked a) → IsAskedAfter s old.asked × (new ≡ old)

pub resumed : {a : Answer Global} {old : MachineState (Walk Global)} {s : Saying} {new : MachineState (Walk Global)}
    → (r : Reply) → a ≡ answer_of r → (IsAnswer old.asked a → StepGoes (walks.IsAnswered old.asked a) (answer_count a) old s new)
    → (old.asked ≡ None → StepGoes IsSomeContent 0 old s new)
    → (IsSome old.asked → ¬ (IsAnswer old.asked a) → IsAskedAfter s old.asked × (new ≡ old)) → Resumes (answer_of r) old s new
resumed {old = old} {s = s} {new = new} r is steps free waits =
    subst (λ a. Resumes a old s new) is (record { steps = steps; free = free; waits = waits })

goes_by : (said : Saying) (r : Reply) (old : MachineState (Walk Global)) (s : Saying) (new : MachineState (Walk Global))
    → IsAskedAfter said old.asked → Resumes (answer_of r) old s new → IsAnswered said r → GoesBy said r old s new
goes_by AsksLook reply.Nothing old s new asked h answered = absurd answered
goes_by AsksLook (reply.Entries es) old s new asked h answered = absurd answered
goes_by AsksLook (reply.Listed l) old s new asked h answered = absurd answered
goes_by AsksLook (reply.Look seen) old s new asked h answered = record {
  Fits = IsSeenIn old.asked (Ok seen);
  goes = h.steps asked;
  fits = λ c told. seen_in _ old.asked seen c asked told;
}
goes_by (AsksList kinds) reply.Nothing old s new asked h answered = absurd answered
goes_by (AsksList kinds) (reply.Look seen) old s new asked h answered = absurd answered
goes_by (AsksList kinds) (reply.Entries es) old s new asked h answered = absurd answered
goes_by (AsksList kinds) (reply.Listed l) old s new asked h answered = record {
  Fits = walks.IsAnswered old.asked (answer_of (reply.Listed l));
  goes = h.steps (is_list kinds old.asked asked);
  fits = λ c told. told;
}
goes_by (Says o) r old s new asked h answered = record { Fits = IsSomeContent; goes = h.free asked; fits = λ c told. told }
goes_by Ends r old s new asked h answered = record { Fits = IsSomeContent; goes = h.free asked; fits = λ c told. told }

module _ (said : Saying) (r : Reply) (old : MachineState (Walk Global)) (s : Saying) (new : MachineState (Walk Global))
    (asked : IsAskedAfter said old.asked) (h : Resumes (answer_of r) old s new) where
  by : IsAnswered said r → GoesBy said r old s new
  by = goes_by said r old s new asked h

  stays : ¬ (IsAnswered said r) → (s ≡ said) × (new ≡ old)
  stays none =
      let (some, other) = missing said old.asked r asked none in
      let (again, same) = h.waits some other in
      (one_saying s said old.asked some again asked, same)

  pub asks_after : IsAskedAfter s new.asked
  asks_after = ⊎_elim (λ answered. (by answered).goes.counts.asks)
      (λ none. let (is, same) = stays none in
      subst (λ t. IsAskedAfter t new.asked) (sym is) (subst (λ w. IsAskedAfter said w.asked) (sym same) asked)) (is_replied said r)

  pub counted : Counts said r old s new
  counted = record { answered = λ answered. (by answered).goes.counts; waits = stays }

  pub gives_next : (c : Content) (all : List Mark) (given : List Item) → RepliesTo said r old c → HasGiven all c given old
      → GivesNext all c given s new
  gives_next c all given told before = ⊎_elim
      (λ answered. let it = by answered in it.goes.gives c (it.fits c told) all given before)
      (λ none. let (is, same) = stays none in
      subst (λ t. GivesNext all c given t new) (sym is) (subst (GivesNext all c given said) (sym same) (waiting said r none before)))
      (is_replied said r)
    where
      waiting : (said : Saying) (r : Reply) → ¬ (IsAnswered said r) → HasGiven all c given old → GivesNext all c given said old
      waiting AsksLook r none before = before
      waiting (AsksList kinds) r none before = before
      waiting (Says o) r none before = absurd (none tt)
      waiting Ends r none before = absurd (none tt)
