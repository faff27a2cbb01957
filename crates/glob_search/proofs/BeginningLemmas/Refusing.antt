-- Which patterns are refused, and with which fault.
use Rattle.std.proofs.Common.{◌≡◌, ℕ, zero, suc, ◌+◌, ◌<◌, List, [], ◌∷◌, length, map, take, get_or, sym, subst, ◌∙◌}
use Rattle.std.proofs.Common.{refl, arith, below_more, Result, Ok, Err, IfErr}
use Rattle.std.specs.List.{All}
use Rattle.std.specs.Str.{chars}
use Rattle.std.proofs.lemmas.List.{get_or_default, get_or-map, get_or-take, length-map, length-take-le}
use Rattle.std.proofs.lemmas.List.Elements.{All-get_or}
use Rattle.glob_text.specs.Text.{Text}
use Rattle.glob_pattern.specs.Grammar.Faults.{Refuses}
use Rattle.glob_pattern.specs.Grammar.Units.{IsAccepted}
use Rattle.glob_pattern.specs.declared.error.PatternRefusal.{PatternRefusal}
use Rattle.glob_pattern.specs.declared.error.PatternRefusal.TheVariants.{Syntax, Memory}
use Rattle.glob_pattern.proofs.GrammarLemmas.Accepted.{no_fault}
use Rattle.glob_set.specs.BraceSets.{AreAccepted}
use Rattle.glob_set.specs.Sets.{RefusesTexts, refusal_of}
use Rattle.glob_search.specs.Refusals.{RefusesPatterns, readings}
use Rattle.glob_search.specs.Private.Refusing.{RefusesFirst}

abbrev IsRead : (text : Text) → Type 0
IsRead t = IsAccepted (chars t)

-- a pattern is read as a whole before its components
pub refuses-whole : (p : Text) (r : PatternRefusal) → Refuses (chars p) r → RefusesFirst (readings p) r
unfolding RefusesTexts
refuses-whole p (Syntax e) fault = (0, (omega arith, λ k lt. absurd (omega (arith, lt)), fault))
refuses-whole p Memory fault = tt

first-or : (p : Text) (ts : List Text) → IsRead p → (n : ℕ) → ((k : ℕ) → k < n → IsRead (get_or ts k []))
    → (k : ℕ) → k < suc n → IsRead (get_or (p ∷ ts) k [])
first-or p ts here n later zero lt = here
first-or p ts here n later (suc k) lt = later k (omega (arith, lt))

pub refuses-later : (p : Text) (ts : List Text) (r : PatternRefusal) → IsAccepted (chars p) → RefusesFirst ts r → RefusesFirst (p ∷ ts) r
unfolding RefusesTexts
refuses-later p ts (Syntax e) here (n, (lt, before, fault)) = (suc n, (omega (arith, lt), first-or p ts here n before, fault))
refuses-later p ts Memory here fault = tt

pub accepted-first : (p : Text) (ts : List Text) → IsAccepted (chars p) → AreAccepted ts → AreAccepted (p ∷ ts)
unfolding AreAccepted
accepted-first p ts here later = λ k lt. first-or p ts here (length ts) later k (omega (arith, lt))

pub accepted-all : (ts : List Text) → All (λ t. IsAccepted (chars t)) ts → AreAccepted ts
unfolding AreAccepted
accepted-all ts all = λ k lt. All-get_or IsRead ts k [] lt all

-- the first components are accepted, and the next is not
pub refuses-at : (all : List Text) (n : ℕ) (t : Text) → n < length all → t ≡ get_or all n t
    → All (λ t. IsAccepted (chars t)) (take n all) → (r : PatternRefusal) → Refuses (chars t) r → RefusesFirst all r
unfolding RefusesTexts
refuses-at all n t lt is accepted (Syntax e) fault = (
  n,
  (
    lt,
    λ k below. subst IsRead (get_or-take n all k [] below) (All-get_or IsRead (take n all) k [] (inside k below) accepted),
    subst (λ u. Refuses (chars u) (Syntax e)) (is ∙ get_or_default all n t [] lt) fault,
  ),
)
  where
    inside : (k : ℕ) → k < n → k < length (take n all)
    inside k below = omega (arith, below, length-take-le n all (omega (arith, lt)))
refuses-at all n t lt is accepted Memory fault = tt

-- an accepted text is refused only if memory runs out
pub memory-alone : (t : Text) (r : PatternRefusal) → IsAccepted (chars t) → Refuses (chars t) r → r ≡ Memory
memory-alone t (Syntax e) accepted fault = absurd (no_fault (chars t) _ accepted fault)
memory-alone t Memory accepted fault = refl

pub memory-alone-of : {X : Type 0} (t : Text) (r : Result X PatternRefusal) → IsAccepted (chars t) → IfErr r (Refuses (chars t))
    → IfErr r (λ x. x ≡ Memory)
memory-alone-of t (Ok x) accepted h = tt
memory-alone-of t (Err x) accepted h = memory-alone t x accepted h

-- the first refused pattern
pub refuses-pattern : {X : Type 0} (f : X → Text) (xs : List X) (i : ℕ) (d : X) → i < length xs
    → ((k : ℕ) → k < i → AreAccepted (readings (get_or (map f xs) k []))) → (r : PatternRefusal)
    → RefusesFirst (readings (f (get_or xs i d))) r → RefusesPatterns (map f xs) (refusal_of i r)
refuses-pattern f xs i d below accepted (Syntax e) fault = (
  subst (λ n. i < n) (sym (length-map xs f)) below,
  accepted,
  subst (λ t. RefusesFirst (readings t) (Syntax e)) (sym (get_or-map f xs i d [] below)) fault,
)
refuses-pattern f xs i d below accepted Memory fault = tt

-- one more pattern is accepted
pub accepted-more : {X : Type 0} (f : X → Text) (xs : List X) (i : ℕ) (d : X) → i < length xs
    → AreAccepted (readings (f (get_or xs i d))) → ((k : ℕ) → k < i → AreAccepted (readings (get_or (map f xs) k [])))
    → (k : ℕ) → k < i + 1 → AreAccepted (readings (get_or (map f xs) k []))
accepted-more f xs i d below accepted before =
    below_more (λ k. AreAccepted (readings (get_or (map f xs) k []))) i before
    (subst (λ t. AreAccepted (readings t)) (sym (get_or-map f xs i d [] below)) accepted)
