use Rattle.std.proofs.Common.{◌≡◌, ◌∷◌, ◌++◌, ◌↔◌, ◌∙◌, ℕ, List, [], Bool, IfOk, IsTrue, sym, subst, Result, Ok, Err}
use Rattle.std.proofs.lemmas.List.{append_cancel_right}
use Rattle.globs.specs.Explain.Hints.{IsMatch}
use Rattle.globs.proofs.explain.hints.Change.gives_match.Goals as goal

-- an answer about the only part of a text is an answer about some part
only_part : {E : Type 0} (made : List ℕ → List ℕ) → ((a b : List ℕ) → made a ≡ made b → a ≡ b)
    → (P : List ℕ → Type 0) (whole part : List ℕ) → whole ≡ made part → (r : Result Bool E)
    → IfOk r (λ answer. IsTrue answer ↔ P part) → IfOk r (λ answer. IsTrue answer ↔ ((other : List ℕ) × (whole ≡ made other) × P other))
only_part made one P whole part is (Ok answer) (to, from) =
    (λ t. (part, is, to t), λ found. from (subst P (one _ _ (sym found.1 ∙ is)) found.2))
only_part made one P whole part is (Err e) asked = tt

pub returns-in-Some : goal.returns-in-Some
returns-in-Some g c =
    rw c.in-PatternHere.is (only_part (λ rest. 46 ∷ 47 ∷ rest) (λ a b same. cc)
    (λ rest. IsMatch c.args.options rest c.args.text.now) c.args.pattern.now c.in-Some.rest.now c.in-Some.ensures _
    c.is_match-in-Some.ensures)

pub returns-in-Some-without_here : goal.returns-in-Some-without_here
returns-in-Some-without_here g c =
    rw c.in-TextHere.is (only_part (λ rest. 46 ∷ 47 ∷ rest) (λ a b same. cc)
    (λ rest. IsMatch c.args.options c.args.pattern.now rest) c.args.text.now c.in-Some-without_here.rest.now
    c.in-Some-without_here.ensures _ c.is_match-in-Some-without_here.ensures)

pub returns-in-Some-without_below : goal.returns-in-Some-without_below
returns-in-Some-without_below g c =
    rw c.in-NotBelow.is (only_part (λ above. above ++ (47 ∷ 42 ∷ 42 ∷ [])) (λ a b same. append_cancel_right a b (47 ∷ 42 ∷ 42 ∷ []) same)
    (λ above. IsMatch c.args.options above c.args.text.now) c.args.pattern.now c.in-Some-without_below.above.now
    c.in-Some-without_below.ensures _ c.is_match-in-Some-without_below.ensures)
