-- Which numbers are added to a list.
use Rattle.std.proofs.Common.{◌≡◌, ℕ, ◌+◌, ◌<◌, ◌≤◌, arith, length, take, get_or, ◌⊎◌, inl, inr, ⊎_elim, Option, None}
use Rattle.std.proofs.Common.{Some, List, [], ◌∷◌, ◌++◌, refl, sym, ap, subst, ◌∙◌}
use Rattle.std.specs.Prelude.{Contains, slice_get, option_and_then, IfOk, Result, Ok, Err}
use Rattle.std.specs.List.{dedup}
use Rattle.std.specs.List.Sorted.{IsPermutation}
use lib.Dec.{eqb}
use Rattle.std.proofs.lemmas.List.Kept.{Contains-dedup_nat, Contains-from_dedup}
use Rattle.std.proofs.lemmas.List.Sorted.{Contains-permutation, IsPermutation-sym}
use Rattle.std.proofs.lemmas.List.Elements.{Contains-append_left, Contains-push, Contains-push_cases}
use Rattle.std.proofs.lemmas.List.{take_all, take_more}
use Rattle.std.proofs.lemmas.Option.{none-some, same_Some}
use Rattle.glob_text.specs.Text.{Text}
use Rattle.glob_pattern.specs.declared.options.MatchOptions.{MatchOptions}
use Rattle.glob_search.specs.Private.Nodes.{Adds, Enlivens, LiteralStep, Stays, Steps, WildStep}
use Rattle.glob_search.specs.declared.beginnings.node.Node.{Node}

-- numbers after no numbers
pub Adds-same : {P Q : ℕ → Type 0} (xs ys : List ℕ) → ((k : ℕ) → P k → Q k) → ((k : ℕ) → Q k → P k) → Adds P xs ys → Adds Q xs ys
Adds-same xs ys there back a = record {
  only = λ k in'. ⊎_elim inl (λ p. inr (there k p)) (a.only k in');
  kept = a.kept;
  added = λ k q. a.added k (back k q);
}

pub Adds-none : {P : ℕ → Type 0} (xs ys : List ℕ) → ys ≡ xs → ((k : ℕ) → P k → ⊥) → Adds P xs ys
Adds-none xs ys same none = record {
  only = λ k in'. inl (subst (λ zs. Contains zs k) same in');
  kept = λ k in'. subst (λ zs. Contains zs k) (sym same) in';
  added = λ k p. absurd (none k p);
}

pub Adds-push : {P : ℕ → Type 0} (xs ys : List ℕ) (n : ℕ) → ys ≡ xs ++ n ∷ [] → P n → ((k : ℕ) → P k → n ≡ k) → Adds P xs ys
Adds-push {P} xs ys n pushed here only = record {
  only = λ k in'. ⊎_elim inl (λ e. inr (subst P e here)) (Contains-push_cases xs n k (subst (λ zs. Contains zs k) pushed in'));
  kept = λ k in'. subst (λ zs. Contains zs k) (sym pushed) (Contains-append_left xs (n ∷ []) k in');
  added = λ k p. subst (λ zs. Contains zs k) (sym pushed) (subst (Contains (xs ++ n ∷ [])) (only k p) (Contains-push xs n));
}

pub Adds-then : {P Q : ℕ → Type 0} (xs ys zs : List ℕ) → Adds P xs ys → Adds Q ys zs → Adds (λ k. P k ⊎ Q k) xs zs
Adds-then xs ys zs a b = record {
  only = λ k in'. ⊎_elim (λ before. ⊎_elim inl (λ p. inr (inl p)) (a.only k before)) (λ q. inr (inr q)) (b.only k in');
  kept = λ k in'. b.kept k (a.kept k in');
  added = λ k pq. ⊎_elim (λ p. b.kept k (a.added k p)) (λ q. b.added k q) pq;
}

-- where `**` leads
pub deep-there : {A : Type 0} (nodes : List (Node A)) (number d : ℕ) → option_and_then (λ (node : Node A). node.deep)
    (slice_get nodes number) ≡ Some d
    → (node : Node A) × (slice_get nodes number ≡ Some node) × (node.deep ≡ Some d)
deep-there {A} nodes number d h = by_found (slice_get nodes number) refl h
  where
    by_found : (o : Option (Node A)) → slice_get nodes number ≡ o → option_and_then (λ (node : Node A). node.deep) o ≡ Some d
        → (node : Node A) × (slice_get nodes number ≡ Some node) × (node.deep ≡ Some d)
    by_found None is h = absurd (none-some d h)
    by_found (Some node) is h = (node, is, h)

pub deep-back : {A : Type 0} (nodes : List (Node A)) (number d : ℕ) (node : Node A) → slice_get nodes number ≡ Some
    node → node.deep ≡ Some d
    → option_and_then (λ (m : Node A). m.deep) (slice_get nodes number) ≡ Some d
deep-back nodes number d node is h = ap (option_and_then (λ m. m.deep)) is ∙ h

-- a number and where `**` leads from it
pub Enlivens-one : {A : Type 0} (nodes : List (Node A)) (number : ℕ) (xs ys : List ℕ) → ys ≡ xs ++ number ∷ []
    → option_and_then (λ (node : Node A). node.deep) (slice_get nodes number) ≡ None → Adds (Enlivens nodes number) xs ys
Enlivens-one nodes number xs ys pushed none =
    Adds-push xs ys number pushed (inl refl)
    (λ k e. ⊎_elim (λ same. same) (λ d. absurd (none-some k (sym none ∙ deep-back nodes number k d.0 d.1 d.2))) e)

pub Enlivens-two : {A : Type 0} (nodes : List (Node A)) (number d : ℕ) (xs ys zs : List ℕ) → ys ≡ xs ++ number ∷ [] → zs ≡ ys ++ d ∷ []
    → option_and_then (λ (node : Node A). node.deep) (slice_get nodes number) ≡ Some d → Adds (Enlivens nodes number) xs zs
Enlivens-two nodes number d xs ys zs first second some =
    let led = deep-there nodes number d some in
    Adds-same xs zs
    (λ k e. ⊎_elim inl (λ same. inr (led.0, led.1, led.2 ∙ ap Some same)) e)
    (λ k e. ⊎_elim inl (λ m. inr (same_Some d k (sym some ∙ deep-back nodes number k m.0 m.1 m.2))) e)
    (Adds-then {P = λ k. number ≡ k} {Q = λ k. d ≡ k} xs ys zs (Adds-push xs ys number first refl (λ k e. e))
    (Adds-push ys zs d second refl (λ k e. e)))

-- a loop adds what each element gives, one after another
module _ {X : Type 0} (R : X → ℕ → Type 0) where
  pub Adds-start : (xs : List X) (old : List ℕ) → Adds (λ k. (x : X) × Contains (take 0 xs) x × R x k) old old
  Adds-start xs old = Adds-none old old refl (λ k p. absurd (omega (arith, p.1.1)))

  pub Adds-more : (xs : List X) (i : ℕ) (x : X) (old now new : List ℕ) → i < length xs → x ≡ get_or xs i x
      → Adds (λ k. (y : X) × Contains (take i xs) y × R y k) old now → Adds (R x) now new
      → Adds (λ k. (y : X) × Contains (take (i + 1) xs) y × R y k) old new
  Adds-more xs i x old now new lt at a b =
      let longer : take (i + 1) xs ≡ take i xs ++ x ∷ [] = take_more xs i x lt ∙ ap (λ y. take i xs ++ y ∷ []) (sym at) in
      Adds-same old new
      (λ k p. ⊎_elim
      (λ before. (
        before.0,
        subst (λ ys. Contains ys before.0) (sym longer) (Contains-append_left (take i xs)
            (x ∷ []) before.0 before.1),
        before.2,
      ))
      (λ here. (x, subst (λ ys. Contains ys x) (sym longer) (Contains-push (take i xs) x), here)) p)
      (λ k p. ⊎_elim (λ before. inl (p.0, before, p.2)) (λ e. inr (subst (λ y. R y k) (sym e) p.2))
      (Contains-push_cases (take i xs) x p.0 (subst (λ ys. Contains ys p.0) longer p.1)))
      (Adds-then old now new a b)

  pub Adds-skip : (xs : List X) (i : ℕ) (x : X) (old now : List ℕ) → i < length xs → x ≡ get_or xs i x
      → Adds (λ k. (y : X) × Contains (take i xs) y × R y k) old now → ((k : ℕ) → R x k → ⊥)
      → Adds (λ k. (y : X) × Contains (take (i + 1) xs) y × R y k) old now
  Adds-skip xs i x old now lt at a none = Adds-more xs i x old now now lt at a (Adds-none now now refl none)

  -- after the last
  pub Adds-end : (xs : List X) (i : ℕ) (old new : List ℕ) → length xs ≤ i → Adds (λ k. (y : X) × Contains (take i xs) y × R y k) old new
      → Adds (λ k. (y : X) × Contains xs y × R y k) old new
  Adds-end xs i old new le a = subst (λ ys. Adds (λ k. (y : X) × Contains ys y × R y k) old new) (take_all i xs le) a

-- from a number whose node is there
pub Steps-some : {A : Type 0} (nodes : List (Node A)) (o : MatchOptions) (name key : Text) (number : ℕ) (node : Node A)
    (xs ys zs ws : List ℕ) → slice_get nodes number ≡ Some node
    → Adds (Stays o name node number) xs ys → Adds (LiteralStep nodes key node) ys zs → Adds (WildStep nodes o name node.wilds.items) zs ws
    → Adds (Steps nodes o name key number) xs ws
Steps-some {A} nodes o name key number node xs ys zs ws at a b c =
    Adds-same {P = λ k. (Stays o name node number k ⊎ LiteralStep nodes key node k) ⊎ WildStep nodes o name
    node.wilds.items k} {Q = Steps nodes o name key number} xs ws
    (λ k p. (node, at, ⊎_elim (λ q. ⊎_elim inl (λ l. inr (inl l)) q) (λ w. inr (inr w)) p))
    (λ k p. back k p.0 (same_Some p.0 node (sym p.1 ∙ at)) p.2)
    (Adds-then xs zs ws (Adds-then xs ys zs a b) c)
  where
    here : (k : ℕ) → Stays o name node number k ⊎ (LiteralStep nodes key node k ⊎ WildStep nodes o name node.wilds.items k)
        → (Stays o name node number k ⊎ LiteralStep nodes key node k) ⊎ WildStep nodes o name node.wilds.items k
    here k p = ⊎_elim (λ s. inl (inl s)) (λ q. ⊎_elim (λ l. inl (inr l)) inr q) p

    back : (k : ℕ) (other : Node A) → other ≡ node → Stays o name other number k ⊎ (LiteralStep nodes key other k ⊎
        WildStep nodes o name other.wilds.items k)
        → (Stays o name node number k ⊎ LiteralStep nodes key node k) ⊎ WildStep nodes o name node.wilds.items k
    back k other same p = here k (subst (λ n. Stays o name n number k ⊎ (LiteralStep nodes key n k ⊎ WildStep nodes o
        name n.wilds.items k)) same p)

-- a consequence of what an `Ok` says
pub ok-then : {T E : Type 0} {P Q : T → Type 0} (r : Result T E) → IfOk r P → ((x : T) → P x → Q x) → IfOk r Q
ok-then (Ok x) h f = f x h
ok-then (Err e) h f = h

-- the same numbers in another order, and each only once
pub Adds-sorted : {P : ℕ → Type 0} (old xs ys : List ℕ) → IsPermutation xs ys → Adds P old xs → Adds P old (dedup eqb ys)
Adds-sorted old xs ys moved a = record {
  only = λ k in'. a.only k (Contains-permutation ys xs k (IsPermutation-sym xs ys moved) (Contains-from_dedup eqb ys k in'));
  kept = λ k in'. Contains-dedup_nat ys k (Contains-permutation xs ys k moved (a.kept k in'));
  added = λ k p. Contains-dedup_nat ys k (Contains-permutation xs ys k moved (a.added k p));
}

pub ok-known : {T E : Type 0} {Q : T → Type 0} (r : Result T E) → ((x : T) → r ≡ Ok x → Q x) → IfOk r Q
ok-known (Ok x) h = h x refl
ok-known (Err e) h = tt

pub ok-at : {T E : Type 0} (P : T → Type 0) (r : Result T E) (x : T) → r ≡ Ok x → IfOk r P → P x
ok-at P r x is h = subst (λ s. IfOk s P) is h
