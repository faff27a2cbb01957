-- Parsing a list of texts into patterns.
use Rattle.std.proofs.Common.{◌≡◌, ℕ, ◌+◌, ◌<◌, ◌≤◌, List, [], ◌∷◌, ◌++◌, length, get_or, map, take, Result, Ok, Err}
use Rattle.std.proofs.Common.{IfErr, IsErrAnd, sym, ap, subst, ◌∙◌, arith, below_more}
use Rattle.std.proofs.lemmas.List.{take_more, map-append, length-map, get_or-map}
use Rattle.std.specs.Str.{chars}
use Rattle.glob_text.specs.Text.{Text}
use Rattle.glob_pattern.specs.Grammar.Units.{IsAccepted}
use Rattle.glob_pattern.specs.Grammar.Faults.{Refuses}
use Rattle.glob_pattern.specs.declared.error.PatternRefusal.{PatternRefusal}
use Rattle.glob_pattern.specs.declared.error.PatternRefusal.TheVariants as pattern
use Rattle.glob_set.specs.declared.error.SetRefusal.{SetRefusal}
use Rattle.glob_set.specs.declared.error.SetRefusal.TheVariants.{Syntax, Memory}
use Rattle.glob_set.specs.BraceSets.{AreAccepted}
use Rattle.glob_set.specs.Sets.{RefusesTexts, refusal_of}

-- one more element of a list is read, and what it gives is kept
pub map-take_more : {X Y : Type 0} (f : X → Y) (xs : List X) (i : ℕ) (d : X) (ys new : List Y) (y : Y) → i < length xs
    → ys ≡ map f (take i xs) → y ≡ f (get_or xs i d) → new ≡ ys ++ y ∷ [] → new ≡ map f (take (i + 1) xs)
map-take_more f xs i d ys new y below read is more =
    more ∙ ap (λ zs. zs ++ y ∷ []) read ∙ ap (λ z. map f (take i xs) ++ z ∷ []) is
    ∙ sym (ap (map f) (take_more xs i d below) ∙ map-append f (take i xs) (get_or xs i d ∷ []))

-- the first text that is refused refuses all
pub RefusesTexts-at : {X : Type 0} (f : X → Text) (xs : List X) (i : ℕ) (d : X) → i < length xs
    → ((k : ℕ) → k < i → IsAccepted (chars (get_or (map f xs) k []))) → (refusal : PatternRefusal)
    → Refuses (chars (f (get_or xs i d))) refusal → RefusesTexts (map f xs) (refusal_of i refusal)
unfolding RefusesTexts
RefusesTexts-at f xs i d below accepted (pattern.Syntax e) fault = (
  subst (λ n. i < n) (sym (length-map xs f)) below,
  accepted,
  subst (λ t. Refuses (chars t) (pattern.Syntax e)) (sym (get_or-map f xs i d [] below)) fault,
)
RefusesTexts-at f xs i d below accepted pattern.Memory fault = tt

-- one more text is accepted
pub accepted_more : {X : Type 0} (f : X → Text) (xs : List X) (i : ℕ) (d : X) → i < length xs → IsAccepted (chars (f (get_or xs i d)))
    → ((k : ℕ) → k < i → IsAccepted (chars (get_or (map f xs) k []))) → (k : ℕ) → k < i + 1 → IsAccepted (chars (get_or (map f xs) k []))
accepted_more f xs i d below accepted before =
    below_more (λ k. IsAccepted (chars (get_or (map f xs) k []))) i before
    (subst (λ t. IsAccepted (chars t)) (sym (get_or-map f xs i d [] below)) accepted)

-- a failed allocation is a refusal of any texts
pub IfErr-memory : {T : Type 0} (r : Result T SetRefusal) (texts : List Text) → IsErrAnd r (λ e. e ≡ Memory) → IfErr r (RefusesTexts texts)
unfolding RefusesTexts
IfErr-memory (Ok x) texts known = tt
IfErr-memory (Err (Syntax i e)) texts known = absurd (cc)
IfErr-memory (Err Memory) texts known = tt

-- all texts are accepted
pub AreAccepted-all : {X : Type 0} (f : X → Text) (xs : List X) (i : ℕ) → length xs ≤ i
    → ((k : ℕ) → k < i → IsAccepted (chars (get_or (map f xs) k []))) → AreAccepted (map f xs)
unfolding AreAccepted
AreAccepted-all f xs i end accepted =
    let long : length (map f xs) ≡ length xs = length-map xs f in
    λ k below. accepted k (omega (arith, below, long, end))
