-- Beginnings that lead to others among this many.
use Rattle.std.proofs.Common.{◌≡◌, ℕ, ◌+◌, ◌<◌, ◌≤◌, List, [], ◌∷◌, ◌++◌, length, get_or, set, subst, sym, arith}
use Rattle.std.specs.List.{All}
use Rattle.std.proofs.lemmas.List.Elements.{All-weaker, All-push, All-set, All-get_or}
use Rattle.glob_search.specs.Private.NodeNumbers.{IsWithin}
use Rattle.glob_search.specs.declared.beginnings.node.Node.{Node}

pub IsWithin-more : {A : Type 0} (n m : ℕ) (node : Node A) → n ≤ m → IsWithin n node → IsWithin m node
IsWithin-more n m node le w = record {
  literals = All-weaker (λ l. l.node < n) (λ l. l.node < m) (λ l lt. omega arith) node.literals.items w.literals;
  wilds = All-weaker (λ l. l.node < n) (λ l. l.node < m) (λ l lt. omega arith) node.wilds.items w.wilds;
  deep = λ d is. omega (arith, w.deep d is);
}

-- the same beginnings
pub within-same : {A : Type 0} (old new : List (Node A)) (n m : ℕ) → new ≡ old → m ≡ n → All (IsWithin n) old → All (IsWithin m) new
within-same old new n m same len all = subst (λ k. All (IsWithin k) new) (sym len) (subst (All (IsWithin n)) (sym same) all)

-- one more
pub within-pushed : {A : Type 0} (old new : List (Node A)) (n m : ℕ) (fresh : Node A) → new ≡ old ++ fresh ∷ [] → m ≡ n + 1
    → IsWithin m fresh → All (IsWithin n) old → All (IsWithin m) new
within-pushed old new n m fresh pushed len f all =
    subst (All (IsWithin m)) (sym pushed)
    (All-push (IsWithin m) old fresh (All-weaker (IsWithin n) (IsWithin m) (λ node w. IsWithin-more n m node
    (omega (arith, len)) w) old all) f)

-- one is changed
pub within-changed : {A : Type 0} (items : List (Node A)) (n at : ℕ) (node changed : Node A) → node ≡ get_or items at
    node → at < length items
    → All (IsWithin n) items → (IsWithin n node → IsWithin n changed) → All (IsWithin n) (set items at changed)
within-changed items n at node changed is lt all keeps =
    All-set (IsWithin n) items at changed (keeps (subst (IsWithin n) (sym is) (All-get_or (IsWithin n) items at node lt all))) all
