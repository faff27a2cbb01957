-- The first component that is not a pattern.
use Rattle.std.proofs.Common.{◌≡◌, ℕ, ◌+◌, List, ◌∷◌, ◌++◌, length, take, drop, map, Option, Some, sym, ap, ◌∙◌}
use Rattle.std.proofs.lemmas.Iterator.{YieldsList}
use Rattle.std.proofs.lemmas.Iterator.Consumers.{YieldsList-turn, YieldsList-so_far}
use Rattle.std.proofs.lemmas.List.{take-append-drop}
use Rattle.std.specs.Iterator.{Yields}
use Rattle.std.specs.List.{All}
use Rattle.std.specs.Str.{chars}
use Rattle.glob.specs.Grammar.Faults.{Refuses}
use Rattle.glob_pattern.specs.declared.error.PatternRefusal.{PatternRefusal}
use Rattle.glob_walk.proofs.WalkLemmas.Reading.{drop_from}
use Rattle.glob_examples.specs.Names.{IsComponent, RefusesComponent}

-- A refusal of the next component to be read, if all components before it are patterns.
pub RefusesComponent-turn : {S A : Type 0} {steps : S → Option A → S → Type 0} {shows : A → List ℕ} {s : S}
    {components : List (List ℕ)} → YieldsList steps shows s components
    → (yielded : List A) (t : S) → Yields steps s yielded t → (next : Option A) (u : S) (component : A) → next ≡
    Some component → steps t next u
    → (front : List (List ℕ)) → front ≡ map shows yielded → All IsComponent front
    → (refusal : PatternRefusal) → Refuses (chars (shows component)) refusal → RefusesComponent components refusal
RefusesComponent-turn {shows = shows} {components = components} reading yielded t read next u component is step front
    before accepted refusal refuses =
    let n : ℕ = length yielded in
    let c : List ℕ = shows component in
    let turn = YieldsList-turn reading yielded t read next u component is step in
    let first : front ≡ take n components = before ∙ YieldsList-so_far reading yielded t read in
    let split : components ≡ front ++ c ∷ drop (n + 1) components =
    sym (take-append-drop n components) ∙ ap (λ zs. take n components ++ zs) (drop_from components n c turn.0 turn.1)
    ∙ ap (λ zs. zs ++ c ∷ drop (n + 1) components) (sym first) in
    (front, drop (n + 1) components, c, split, accepted, refuses)
