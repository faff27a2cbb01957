-- What the numbers that are alive say about patterns: whether a pattern is found, goes on, or is looked up.
use Rattle.std.proofs.Common.{◌≡◌, ℕ, ◌<◌, Bool, true, false, not, ◌&&◌, ◌||◌, ⊎_elim, Option, None, Some, List, []}
use Rattle.std.proofs.Common.{◌∷◌, ◌++◌, length, map, string_bytes, vec_len, refl, ap, sym, subst, ◌∙◌, arith}
use Rattle.std.specs.Prelude.{Contains, slice_get, unwrap_or, option_map}
use Rattle.std.specs.List.{All, list_all, list_any}
use Rattle.std.specs.Str.{IsUtf8}
use Rattle.std.proofs.lemmas.Bool.{false≢true, both_ways, and_parts, and_from, or_left, or_right, false_from_ne_true}
use Rattle.std.proofs.lemmas.List.{append_assoc, append-nil, map-append}
use Rattle.std.proofs.lemmas.List.Elements.{All-contains, All-head, All-tail, All-cons, All-nil}
use Rattle.std.proofs.lemmas.Option.{none-some, slice_get_within}
use Rattle.glob_text.specs.Pieces.{pieces}
use Rattle.glob_text.specs.Text.{Text}
use Rattle.glob_tree.specs.Content.{Key}
use Rattle.glob_tree.proofs.ContentLemmas.Membership.{Contains-head, Contains-tail, Contains-nil, list_any-contains}
use Rattle.glob_search.specs.Searching.{Aim, takes, ended, ends_recursive, components, is_taken, alive, beginnings_from, goes_on}
use Rattle.glob_search.specs.Private.NodeNumbers.{IsWithin}
use Rattle.glob_search.specs.Private.Nodes.{AreAlive, AreBeginnings, AreTaken, IsTree, has_only_literals, is_missing}
use Rattle.glob_search.specs.Private.Nodes.{is_none_left, key_of, node_goes_on, node_says, recursive}
use Rattle.glob_search.specs.declared.beginnings.Beginnings.{Beginnings}
use Rattle.glob_search.specs.declared.beginnings.node.Node.{Node}
use Rattle.glob_search.proofs.BeginningLemmas.Fronts.{Goes, goes-from, map-push, push-not-nil}
use Rattle.glob_search.proofs.BeginningLemmas.Keys.{keys-end, keys-take}
use Rattle.glob_search.proofs.BeginningLemmas.Trees.{ByOther, ByRecursive, literal-front, literal-within, wild-front}
use Rattle.glob_search.proofs.BeginningLemmas.Trees.{wild-within, deep-front, deep-within}
use Rattle.glob_search.proofs.OrderLemmas.Beginnings.{ended-ends}
use Rattle.glob_search.proofs.OrderLemmas.GoingOn.{Leads, begins-parts, in_alive, leads-from}
use Rattle.glob_search.proofs.OrderLemmas.Parts.{Contains-filter, Contains-flat_map, Contains-map, list_any-some}

pub same-tests : (x y : Bool) → (x ≡ true → y ≡ true) → (y ≡ true → x ≡ true) → x ≡ y
same-tests true y there back = sym (there refl)
same-tests false true there back = back refl
same-tests false false there back = refl

pub list_all-from : {X : Type 0} (p : X → Bool) (xs : List X) → ((x : X) → Contains xs x → p x ≡ true) → list_all p xs ≡ true
list_all-from p [] h = refl
list_all-from p (x ∷ xs) h = and_from (p x) (list_all p xs) (h x (Contains-head x xs)) (list_all-from p xs
    (λ y in'. h y (Contains-tail x xs y in')))

pub says-node : {A : Type 0} (test : Node A → Bool) (nodes : List (Node A)) (k : ℕ) → node_says test nodes k ≡ true →
    (node : Node A) × (slice_get nodes k ≡ Some node) × (test node ≡ true)
says-node {A} test nodes k h = by_found (slice_get nodes k) refl h
  where
    by_found : (o : Option (Node A)) → slice_get nodes k ≡ o → unwrap_or (option_map test o) false ≡ true →
        (node : Node A) × (slice_get nodes k ≡ Some node) × (test node ≡ true)
    by_found None is h = absurd (false≢true h)
    by_found (Some node) is h = (node, is, h)

pub node-says : {A : Type 0} (test : Node A → Bool) (nodes : List (Node A)) (k : ℕ) (node : Node A) → slice_get nodes k
    ≡ Some node → test node ≡ true → node_says test nodes k ≡ true
node-says test nodes k node is h = ap (λ o. unwrap_or (option_map test o) false) is ∙ h

pub none-left-not : {X : Type 0} (xs : List X) (x : X) → Contains xs x → is_none_left xs ≡ true → ⊥
none-left-not [] x in' h = Contains-nil x in'
none-left-not (y ∷ ys) x in' h = false≢true h

pub some-left : {X : Type 0} (xs : List X) → is_none_left xs ≡ false → (x : X) × Contains xs x
some-left [] h = absurd (false≢true (sym h))
some-left (x ∷ xs) h = (x, Contains-head x xs)

pub missing-not : (o : Option ℕ) (n : ℕ) → o ≡ Some n → is_missing o ≡ true → ⊥
missing-not None n is h = none-some n is
missing-not (Some m) n is h = false≢true h

pub not-missing : (o : Option ℕ) → is_missing o ≡ false → (n : ℕ) × (o ≡ Some n)
not-missing None h = absurd (false≢true (sym h))
not-missing (Some n) h = (n, refl)

pub All-front : {X : Type 0} (P : X → Type 0) (xs ys : List X) → All P (xs ++ ys) → All P xs
All-front P [] ys h = All-nil P
All-front P (x ∷ xs) ys h = All-cons P x xs (All-head P x (xs ++ ys) h) (All-front P xs ys (All-tail P x (xs ++ ys) h))

-- what is alive goes on from a beginning that takes the names
pub alive-leads : (a : Aim) (names : Key) (b : List Text × Text) → Contains (alive a names) b → (l : Leads a names) ×
    (l.front ≡ b.0) × (l.next ≡ b.1)
alive-leads a names b in' =
    let (among, taken) = Contains-filter (λ b. takes a.options b.0 names) _ b in' in
    let (ts, one, begins) = Contains-flat_map (beginnings_from []) (components a) b among in
    let (more, rest, front, parts) = begins-parts [] ts b begins in (
      record {
        whole = ts;
        front = more;
        next = b.1;
        rest = rest;
        is_one = one;
        parts = parts;
        taken = ap
            (λ us. takes a.options us names) (sym front) ∙ taken;
      },
      sym front,
      refl,
    )

module _ (a : Aim) (names : Key) {A : Type 0} (b : Beginnings A) (bs : AreBeginnings a.options a.patterns b)
    (numbers : List ℕ) (live : AreAlive b names numbers) where
  pub tree : IsTree a.options b.nodes.items bs.front
  tree = subst (λ o. IsTree o b.nodes.items bs.front) bs.options bs.tree

  pub within : All (IsWithin (length b.nodes.items)) b.nodes.items
  within = let same : vec_len b.nodes ≡ length b.nodes.items = omega (arith, b.nodes.ok.0) in subst
      (λ n. All (IsWithin n) b.nodes.items) same b.within

  pub taken : AreTaken a.options bs.front (length b.nodes.items) names numbers
  unfolding AreAlive
  taken = subst (λ o. AreTaken o bs.front (length b.nodes.items) names numbers) bs.options (live bs.front bs.tree)

  pub number-taken : (k : ℕ) → Contains numbers k → (k < length b.nodes.items) × (takes a.options (bs.front k) names ≡ true)
  number-taken k in' = All-contains (λ k. (k < length b.nodes.items) × (takes a.options (bs.front k) names ≡ true))
      numbers k taken.taken in'

  pub found-is : list_any (node_says (λ node. node.is_whole) b.nodes.items) numbers ≡ is_taken a names
  found-is = same-tests _ _
      (λ h. let (k, in', says) = list_any-some (node_says (λ node. node.is_whole) b.nodes.items) numbers h in
      let (node, at, whole) = says-node (λ node. node.is_whole) b.nodes.items k says in
      let (ts, one, is) = bs.whole k node at whole in
      list_any-contains (λ ts. takes a.options ts names) (components a) ts
      (sym (keys-take a.options ts (bs.utf8 ts one) names) ∙ ap (λ us. takes a.options us names) (sym is) ∙ (number-taken k in').1) one)
      (λ h. let (ts, one, takes') = list_any-some (λ ts. takes a.options ts names) (components a) h in
      let (k, node, at, whole, is) = bs.each ts one in
      list_any-contains (node_says (λ node. node.is_whole) b.nodes.items) numbers k (node-says (λ node. node.is_whole)
      b.nodes.items k node at whole)
      (taken.each k (slice_get_within b.nodes.items k node at) (ap (λ us. takes a.options us names) is
      ∙ keys-take a.options ts (bs.utf8 ts one) names ∙ takes')))

  -- a beginning that is alive goes on by its next component
  pub lead-goes : (l : Leads a names) → Goes a.options b.nodes.items bs.front tree within
      (map (key_of a.options) l.front) (key_of a.options l.next)
  lead-goes l =
      let (k, node, at, whole, is) = bs.each l.whole l.is_one in
      goes-from a.options b.nodes.items bs.front tree within (length (map (key_of a.options) l.rest)) k
      (slice_get_within b.nodes.items k node at)
      (map (key_of a.options) l.front) (key_of a.options l.next) (map (key_of a.options) l.rest) (omega arith)
      (is ∙ ap (map (key_of a.options)) l.parts ∙ map-append (key_of a.options) l.front (l.next ∷ l.rest))

  -- the number above is alive
  pub lead-live : (l : Leads a names) (k : ℕ) → k < length b.nodes.items → bs.front k ≡ map (key_of a.options) l.front → Contains numbers k
  lead-live l k lt is =
      taken.each k lt (ap (λ us. takes a.options us names) is
      ∙ keys-take a.options l.front (All-front IsUtf8 l.front (l.next ∷ l.rest) (subst (All IsUtf8) l.parts
      (bs.utf8 l.whole l.is_one))) names ∙ l.taken)

  -- what goes on from a number that is alive is alive
  pub child-alive : (k c : ℕ) (t : Text) → Contains numbers k → c < length b.nodes.items → bs.front c ≡ bs.front k ++ t ∷ []
      → (us : List Text) × (x : Text) × Contains (alive a names) (us, x) × (map (key_of a.options) us ≡ bs.front k) ×
      (key_of a.options x ≡ t)
  child-alive k c t in' lt is = ⊎_elim
      (λ zero. absurd (push-not-nil (bs.front k) t (sym is ∙ ap bs.front zero ∙ tree.root)))
      (λ begun. let (us, x, parts, keys, key) = map-push (key_of a.options) begun.0 (bs.front k) t (sym begun.3 ∙ is) in
      let whole : begun.0 ++ begun.1 ≡ us ++ x ∷ begun.1 = ap (λ ts. ts ++ begun.1) parts ∙ append_assoc us (x ∷ []) begun.1 in
      let utf8 = All-front IsUtf8 us (x ∷ begun.1) (subst (All IsUtf8) whole (bs.utf8 (begun.0 ++ begun.1) begun.2)) in (
        us,
        x,
        in_alive a names (record {
          whole = begun.0 ++ begun.1;
          front = us;
          next = x;
          rest = begun.1;
          is_one = begun.2;
          parts = whole;
          taken = sym (keys-take a.options us utf8 names) ∙ ap (λ ts. takes a.options ts names) keys ∙ (number-taken k in').1;
        }),
        keys,
        key,
      )) (bs.begun c lt)

  -- what ends in `**` goes on
  pub deep-alive : (k : ℕ) → Contains numbers k → ends_recursive (bs.front k) ≡ true
      → (us : List Text) × (x : Text) × Contains (alive a names) (us, x) × (ends_recursive us ≡ true)
  deep-alive k in' ends = ⊎_elim
      (λ zero. absurd (false≢true (sym (ap ends_recursive (ap bs.front zero ∙ tree.root)) ∙ ends)))
      (λ begun. by_rest begun.0 begun.1 begun.2 begun.3) (bs.begun k (number-taken k in').0)
    where
      by_rest : (first rest : List Text) → Contains (components a) (first ++ rest) → bs.front k ≡ map (key_of a.options) first
          → (us : List Text) × (x : Text) × Contains (alive a names) (us, x) × (ends_recursive us ≡ true)
      by_rest first [] one is =
          let (p, _, same) = Contains-map (λ p. ended (pieces p)) a.patterns (first ++ []) one in
          absurd (both_ways (ends_recursive first) (ap ends_recursive (sym (append-nil first) ∙ sym same) ∙ ended-ends
          (pieces p)) (sym (keys-end a.options first) ∙ ap ends_recursive (sym is) ∙ ends))
      by_rest first (x ∷ rest) one is =
          let utf8 = All-front IsUtf8 first (x ∷ rest) (bs.utf8 (first ++ x ∷ rest) one) in (
            first,
            x,
            in_alive a names (record {
              whole = first ++ x ∷ rest;
              front = first;
              next = x;
              rest = rest;
              is_one = one;
              parts = refl;
              taken = sym (keys-take a.options first utf8 names) ∙ ap (λ ts. takes a.options ts names) (sym is) ∙ (number-taken k in').1;
            }),
            sym (keys-end a.options first) ∙ ap ends_recursive (sym is) ∙ ends,
          )

  -- something goes on from a node
  some-goes : (k : ℕ) → Contains numbers k → (node : Node A) → slice_get b.nodes.items k ≡ Some node → node_goes_on
      node ≡ true → goes_on a names ≡ true
  some-goes k in' node at h = by_deep node.is_deep refl
    where
      there : (us : List Text) (x : Text) → Contains (alive a names) (us, x) → goes_on a names ≡ true
      there us x one = list_any-contains (λ b. true) (alive a names) (us, x) refl one

      by_literals : node.is_deep ≡ false → is_missing node.deep ≡ true → is_none_left node.wilds.items ≡ true →
          (l : Bool) → is_none_left node.literals.items ≡ l → goes_on a names ≡ true
      by_literals d m w true l = absurd (both_ways (node_goes_on node)
          (ap (λ x. not x || not (is_none_left node.literals.items)) (ap (λ x. not x && is_missing node.deep &&
          is_none_left node.wilds.items) d
          ∙ ap (λ x. x && is_none_left node.wilds.items) m ∙ w) ∙ ap not l) h)
      by_literals d m w false l =
          let (x, one) = some-left node.literals.items l in
          let f = child-alive k x.node (string_bytes x.text) in' (literal-within a.options b.nodes.items bs.front tree
          within k node x at one) (literal-front a.options b.nodes.items bs.front tree within k node x at one).0 in
          there f.0 f.1 f.2

      by_wilds : node.is_deep ≡ false → is_missing node.deep ≡ true → (w : Bool) → is_none_left node.wilds.items ≡ w
          → goes_on a names ≡ true
      by_wilds d m true w = by_literals d m w (is_none_left node.literals.items) refl
      by_wilds d m false w =
          let (x, one) = some-left node.wilds.items w in
          let f = child-alive k x.node x.pattern in' (wild-within a.options b.nodes.items bs.front tree within k node x
          at one) (wild-front a.options b.nodes.items bs.front tree within k node x at one).0 in
          there f.0 f.1 f.2

      by_missing : node.is_deep ≡ false → (m : Bool) → is_missing node.deep ≡ m → goes_on a names ≡ true
      by_missing d true m = by_wilds d m (is_none_left node.wilds.items) refl
      by_missing d false m =
          let (c, is) = not-missing node.deep m in
          let f = child-alive k c recursive in' (deep-within a.options b.nodes.items bs.front tree within k node c at
          is) (deep-front a.options b.nodes.items bs.front tree within k node c at is).0 in
          there f.0 f.1 f.2

      by_deep : (d : Bool) → node.is_deep ≡ d → goes_on a names ≡ true
      by_deep true d = let f = deep-alive k in' (sym (tree.each k node at).ends ∙ d) in there f.0 f.1 f.2
      by_deep false d = by_missing d (is_missing node.deep) refl

  -- what is led to by another component, or by `**`
  other-goes : (c : ℕ) (up : ByOther a.options b.nodes.items bs.front tree within c) → node_goes_on up.node ≡ true
  other-goes c up = ⊎_elim
      (λ l. or_right (not (has_only_literals up.node)) _
      (ap not (false_from_ne_true (is_none_left up.node.literals.items) (λ h. none-left-not up.node.literals.items
      l.0 l.1 h))))
      (λ w. or_left (not (has_only_literals up.node)) _ (ap not (false_from_ne_true (has_only_literals up.node)
      (λ h. none-left-not up.node.wilds.items w.0 w.1 (and_parts (not up.node.is_deep && is_missing up.node.deep)
      (is_none_left up.node.wilds.items) h).1)))) up.leads

  recursive-goes : (c : ℕ) (up : ByRecursive a.options b.nodes.items bs.front tree within c) → node_goes_on up.node ≡ true
  recursive-goes c up = or_left (not (has_only_literals up.node)) _ (ap not (false_from_ne_true (has_only_literals up.node)
      (λ h. missing-not up.node.deep c up.deep (and_parts (not up.node.is_deep) (is_missing up.node.deep)
      (and_parts (not up.node.is_deep && is_missing up.node.deep) (is_none_left up.node.wilds.items) h).0).1)))

  pub goes_on-is : list_any (node_says node_goes_on b.nodes.items) numbers ≡ goes_on a names
  goes_on-is = same-tests _ _
      (λ h. let (k, in', says) = list_any-some (node_says node_goes_on b.nodes.items) numbers h in
      let (node, at, on) = says-node node_goes_on b.nodes.items k says in
      some-goes k in' node at on)
      (λ h. let l = leads-from a names h in
      let goes = lead-goes l in
      ⊎_elim
      (λ w. let up = w.0 in list_any-contains (node_says node_goes_on b.nodes.items) numbers up.parent
      (node-says node_goes_on b.nodes.items up.parent up.node up.at (other-goes goes.number up))
      (lead-live l up.parent (slice_get_within b.nodes.items up.parent up.node up.at) w.1))
      (λ w. let up = w.0 in list_any-contains (node_says node_goes_on b.nodes.items) numbers up.parent
      (node-says node_goes_on b.nodes.items up.parent up.node up.at (recursive-goes goes.number up))
      (lead-live l up.parent (slice_get_within b.nodes.items up.parent up.node up.at) w.1)) goes.way)
