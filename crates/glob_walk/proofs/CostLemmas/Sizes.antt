-- How many keys are at or below a key: more than at or below all its children.
use Rattle.std.proofs.Common.{◌≡◌, ℕ, ◌+◌, ◌≤◌, ⊎_elim, Bool, true, false, cond, List, [], ◌∷◌, ◌++◌, length, Option}
use Rattle.std.proofs.Common.{Some, None, refl, sym, ap, ◌∙◌, arith}
use Rattle.std.specs.Prelude.{Contains, bytes_eq}
use Rattle.std.proofs.lemmas.Bool.{false_from_ne_true}
use Rattle.std.proofs.lemmas.Slice.Eq.{bytes_eq-Decides}
use Rattle.glob_text.specs.Text.{Text}
use Rattle.glob_tree.specs.Content.{Content, Key, DirEntry, kind_at, names_past, children}
use Rattle.glob_tree.specs.declared.kind.Kind.{Kind}
use Rattle.glob_tree.proofs.ContentLemmas.Membership.{Contains-cases, Contains-nil}
use Rattle.glob_tree.proofs.ContentLemmas.Contents.{IsContent, contains_kind_at, names_past-append, IsChild-list_result}
use Rattle.glob_tree.proofs.ContentLemmas.Sorting.{AreApart, children_apart}
use Rattle.glob_walk.proofs.CostLemmas.Totals.{total, total-le, total-add, total-zero, total-length}
use Rattle.std.proofs.lemmas.List.{append-nil}

-- whether a key is k or below it, and whether it is k
abbrev goes_on : Option Key → ℕ
goes_on None = 0
goes_on (Some ns) = 1

abbrev ends : Option Key → ℕ
ends None = 0
ends (Some []) = 1
ends (Some (n ∷ ns)) = 0

-- the rest of a key after one more name
abbrev past_name : Text → Option Key → Option Key
past_name n None = None
past_name n (Some []) = None
past_name n (Some (m ∷ ms)) = cond (bytes_eq n m) (Some ms) None

names_past-deeper : (k : Key) (n : Text) (key : Key) → names_past (k ++ n ∷ []) key ≡ past_name n (names_past k key)
names_past-deeper [] n [] = refl
names_past-deeper [] n (m ∷ ms) = refl
names_past-deeper (l ∷ ls) n [] = refl
names_past-deeper (l ∷ ls) n (m ∷ ms) = by_test (names_past-deeper ls n ms) (bytes_eq l m)
  where
    by_test : names_past (ls ++ n ∷ []) ms ≡ past_name n (names_past ls ms)
        → (b : Bool) → cond b (names_past (ls ++ n ∷ []) ms) None ≡ past_name n (cond b (names_past ls ms) None)
    by_test deeper true = deeper
    by_test deeper false = refl

-- how many of these keys are at or below k
abbrev pub size_in : List (Key × Kind) → Key → ℕ
size_in es k = total (λ e. goes_on (names_past k e.0)) es

abbrev pub size : Content → Key → ℕ
size c k = size_in c.kinds k

abbrev times_at : List (Key × Kind) → Key → ℕ
times_at es k = total (λ e. ends (names_past k e.0)) es

-- of children with distinct names, at most one is on the way to a key
one_way : (m : Text) (ms : Key) (es : List DirEntry) → AreApart es → total (λ e. goes_on (cond (bytes_eq e.0 m) (Some ms) None)) es ≤ 1
one_way m ms [] apart = omega arith
one_way m ms (e ∷ es) apart = by_test (one_way m ms es apart.1) (bytes_eq e.0 m) refl
  where
    other : bytes_eq e.0 m ≡ true → (f : DirEntry) → Contains es f → goes_on (cond (bytes_eq f.0 m) (Some ms) None) ≡ 0
    other is f in' =
        ap (λ b. goes_on (cond b (Some ms) None))
        (false_from_ne_true (bytes_eq f.0 m) (λ too. apart.0 f in' ((bytes_eq-Decides e.0 m).0 is ∙ sym ((bytes_eq-Decides f.0 m).0 too))))

    by_test : total (λ f. goes_on (cond (bytes_eq f.0 m) (Some ms) None)) es ≤ 1 → (b : Bool) → bytes_eq e.0 m ≡ b
        → goes_on (cond b (Some ms) None) + total (λ f. goes_on (cond (bytes_eq f.0 m) (Some ms) None)) es ≤ 1
    by_test rest true is = omega (arith, total-zero (λ f. goes_on (cond (bytes_eq f.0 m) (Some ms) None)) es (other is))
    by_test rest false is = omega (arith, rest)

at_most_one : (past : Option Key) (es : List DirEntry) → AreApart es → total (λ e. goes_on (past_name e.0 past)) es +
    ends past ≤ goes_on past
at_most_one None es apart = omega (arith, total-zero (λ e. goes_on (past_name e.0 None)) es (λ e in'. refl))
at_most_one (Some []) es apart = omega (arith, total-zero (λ e. goes_on (past_name e.0 (Some []))) es (λ e in'. refl))
at_most_one (Some (m ∷ ms)) es apart = omega (arith, one_way m ms es apart)

total-same : {X : Type 0} (f g : X → ℕ) (xs : List X) → ((x : X) → f x ≡ g x) → total f xs ≡ total g xs
total-same f g [] same = refl
total-same f g (x ∷ xs) same = omega (arith, same x, total-same f g xs same)

-- the sizes of children, for some of the keys
sizes_in : (k : Key) (cs : List DirEntry) → AreApart cs → (es : List (Key × Kind)) → total (λ e. size_in es
    (k ++ e.0 ∷ [])) cs + times_at es k ≤ size_in es k
sizes_in k cs apart [] = omega (arith, total-zero (λ e. 0) cs (λ e in'. refl))
sizes_in k cs apart (x ∷ es) =
    omega (
      arith,
      sizes_in k cs apart es,
      at_most_one (names_past k x.0) cs apart,
      total-add (λ e. goes_on (names_past (k ++ e.0 ∷ []) x.0)) (λ e. size_in es (k ++ e.0 ∷ [])) cs,
      total-same (λ e. goes_on (names_past (k ++ e.0 ∷ []) x.0)) (λ e. goes_on (past_name e.0 (names_past k x.0))) cs
          (λ e. ap goes_on (names_past-deeper k e.0 x.0)),
    )

-- a key of the content counts
counts : (k : Key) (es : List (Key × Kind)) (kind : Kind) → Contains es (k, kind) → 1 ≤ times_at es k
counts k [] kind in' = absurd (Contains-nil (k, kind) in')
counts k (e ∷ es) kind in' = ⊎_elim
    (λ same. omega (
      arith,
      ap (λ f. ends (names_past k f.0)) same,
      ap ends (ap (names_past k) (sym (append-nil k))
          ∙ names_past-append k []),
    ))
    (λ later. omega (arith, counts k es kind later))
    (Contains-cases e es (k, kind) in')

module _ (c : Content) (w : IsContent c) where
  -- the keys below a key are the keys at or below its children
  pub sizes_of_children : (k : Key) (kind : Kind) → kind_at c k ≡ Some kind → 1 + total (λ e. size c (k ++ e.0 ∷ []))
      (children c k) ≤ size c k
  sizes_of_children k kind held =
      omega (arith, sizes_in k (children c k) (children_apart c w k) c.kinds, counts k c.kinds kind (contains_kind_at c k kind held))

  pub size-some : (k : Key) (kind : Kind) → kind_at c k ≡ Some kind → 1 ≤ size c k
  size-some k kind held = omega (arith, sizes_of_children k kind held)

  pub size-child : (k : Key) (e : DirEntry) → Contains (children c k) e → 1 ≤ size c (k ++ e.0 ∷ [])
  size-child k e in' = let is = IsChild-list_result c w k e in' in size-some (k ++ e.0 ∷ []) is.kind is.held

-- there are at most as many as keys in all
pub size-all : (c : Content) (k : Key) → size c k ≤ length c.kinds
size-all c k = total-length (λ e. goes_on (names_past k e.0)) c.kinds (λ e. at_most (names_past k e.0))
  where
    at_most : (past : Option Key) → goes_on past ≤ 1
    at_most None = omega arith
    at_most (Some ns) = omega arith

pub size-deeper : (c : Content) (k : Key) (n : Text) → size c (k ++ n ∷ []) ≤ size c k
size-deeper c k n = total-le (λ e. goes_on (names_past (k ++ n ∷ []) e.0)) (λ e. goes_on (names_past k e.0)) c.kinds
    (λ e in'. omega (arith, ap goes_on (names_past-deeper k n e.0), fewer (names_past k e.0)))
  where
    fewer : (past : Option Key) → goes_on (past_name n past) ≤ goes_on past
    fewer None = omega arith
    fewer (Some []) = omega arith
    fewer (Some (m ∷ ms)) = by_test (bytes_eq n m)
      where
        by_test : (b : Bool) → goes_on (cond b (Some ms) None) ≤ 1
        by_test true = omega arith
        by_test false = omega arith
