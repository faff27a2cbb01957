use Rattle.std.proofs.Common.{◌≡◌, ℕ, ◌+◌, ◌<◌, ◌≤◌, ◌∙◌, List, [], ◌∷◌, length, drop, Option, None, Some, Bor, sym, ap}
use Rattle.std.specs.Prelude.{MatchOption, OnSome, IfNone}
use Rattle.std.specs.List.{HoldsAt}
use Rattle.std.proofs.lemmas.List.{drop_all, drop_more}
use Rattle.glob_walk.proofs.plan.Plan.component.Goals as goal

module _ {X : Type 0} (xs : List X) (n : ℕ) where
  -- what `get` returns for the index
  abbrev IsGot : Option (Bor X) → Type 0
  IsGot r = MatchOption r (length xs ≤ n) (λ x. (n < length xs) × HoldsAt (λ y. x.now ≡ y) xs n)

  rest-got : (r : Option (Bor X)) → IsGot r → MatchOption r (drop n xs ≡ []) (λ x. drop n xs ≡ x.now ∷ drop (n + 1) xs)
  rest-got None past = drop_all n xs past
  rest-got (Some x) at = drop_more xs n x.now at.0 ∙ ap (λ y. y ∷ drop (n + 1) xs) (sym (at.1 x.now))

  within-got : (r : Option (Bor X)) → IsGot r → OnSome r (n < length xs)
  within-got None past = tt
  within-got (Some x) at = at.0

  past-got : (r : Option (Bor X)) → IsGot r → IfNone r (length xs ≤ n)
  past-got None past = past
  past-got (Some x) at = tt

pub returns-clause-rest : goal.returns-clause-rest
returns-clause-rest g c = rest-got c.args.self.now.components.items c.args.number c.get.result
    (rw c.deref.ensures.value at c.get.ensures.lookup.3)

pub returns-clause-within : goal.returns-clause-within
returns-clause-within g c = rw c.deref.ensures.len at (within-got c.deref.result.now c.args.number c.get.result c.get.ensures.lookup.3)

pub returns-clause-past : goal.returns-clause-past
returns-clause-past g c = rw c.deref.ensures.len at (past-got c.deref.result.now c.args.number c.get.result c.get.ensures.lookup.3)
