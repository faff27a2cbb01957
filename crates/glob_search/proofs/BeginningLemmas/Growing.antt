-- How a tree of beginnings grows.
use Rattle.std.proofs.Common.{◌≡◌, ◌≢◌, ℕ, zero, suc, ◌+◌, ◌<◌, ◌==◌, true, false, cond, ◌&&◌, ◌⊎◌, inl, inr, ⊎_elim}
use Rattle.std.proofs.Common.{Option, None, Some, List, [], ◌∷◌, ◌++◌, length, set, string_bytes, refl, sym, ap, subst}
use Rattle.std.proofs.Common.{◌∙◌, arith}
use Rattle.std.specs.Prelude.{Contains, String, slice_get}
use Rattle.std.specs.List.{All, list_any}
use Rattle.std.proofs.lemmas.Bool.{both_ways, and_from, cond-true, cond-false, ne_eqb, eq-eqb, cases_lt}
use Rattle.std.proofs.lemmas.List.{append-nil, append_assoc, length-append}
use Rattle.std.proofs.lemmas.List.Elements.{All-contains, All-nil}
use Rattle.std.proofs.lemmas.Option.{none-some, same_Some, slice_get_within, get_or_from_slice_get}
use Rattle.std.proofs.Math.ListN.{length-set}
use Rattle.glob_text.specs.Text.{Text}
use Rattle.glob_pattern.specs.Grammar.Characters.{is_wildcard}
use Rattle.glob_pattern.specs.Matching.Components.{is_recursive}
use Rattle.glob_pattern.specs.declared.options.MatchOptions.{MatchOptions}
use Rattle.glob_tree.proofs.ContentLemmas.Membership.{All-from_contains, Contains-nil}
use Rattle.glob_search.specs.Searching.{ends_recursive}
use Rattle.glob_search.specs.Private.NodeNumbers.{IsWithin}
use Rattle.glob_search.specs.Private.NodeGrowth.{FitsKind, Grown, GrownTo, IsFresh, IsMarked, Led, LeadsMore}
use Rattle.glob_search.specs.Private.NodeGrowth.{component_text, is_deep_component, pushed}
use Rattle.glob_search.specs.Private.Nodes.{AreAscending, IsKey, IsNode, IsTree, LeadsTo, LiteralLeads, recursive}
use Rattle.glob_search.specs.declared.beginnings.node.Component.{Component}
use Rattle.glob_search.specs.declared.beginnings.node.Component.TheVariants as component
use Rattle.glob_search.specs.declared.beginnings.node.Node.{Node}
use Rattle.glob_search.proofs.BeginningLemmas.Keys.{literal_not_recursive}
use Rattle.glob_search.proofs.BeginningLemmas.Trees.{ends-push}

pub get-set-same : {X : Type 0} (xs : List X) (i : ℕ) (v : X) → i < length xs → slice_get (set xs i v) i ≡ Some v
get-set-same [] i v lt = absurd (omega (arith, lt))
get-set-same (x ∷ xs) zero v lt = refl
get-set-same (x ∷ xs) (suc i) v lt = get-set-same xs i v (omega (arith, lt))

pub get-set-other : {X : Type 0} (xs : List X) (i k : ℕ) (v : X) → k ≢ i → slice_get (set xs i v) k ≡ slice_get xs k
get-set-other [] i k v ne = refl
get-set-other (x ∷ xs) zero zero v ne = absurd (ne refl)
get-set-other (x ∷ xs) zero (suc k) v ne = refl
get-set-other (x ∷ xs) (suc i) zero v ne = refl
get-set-other (x ∷ xs) (suc i) (suc k) v ne = get-set-other xs i k v (λ e. ne (ap suc e))

pub get-push-below : {X : Type 0} (xs : List X) (y : X) (k : ℕ) → k < length xs → slice_get (xs ++ y ∷ []) k ≡ slice_get xs k
get-push-below [] y k lt = absurd (omega (arith, lt))
get-push-below (x ∷ xs) y zero lt = refl
get-push-below (x ∷ xs) y (suc k) lt = get-push-below xs y k (omega (arith, lt))

pub get-push-last : {X : Type 0} (xs : List X) (y : X) → slice_get (xs ++ y ∷ []) (length xs) ≡ Some y
get-push-last [] y = refl
get-push-last (x ∷ xs) y = get-push-last xs y

-- what a node says depends only on the numbers that it leads to
pub IsNode-moved : {A : Type 0} (o : MatchOptions) (front front' : ℕ → List Text) (n k : ℕ) (node : Node A) →
    ((c : ℕ) → c < n → front' c ≡ front c) → k < n → IsWithin n node
    → IsNode o front k node → IsNode o front' k node
IsNode-moved {A} o front front' n k node same lt w h = record {
  literals = All-from_contains (λ l. (front' l.node ≡ front' k ++ string_bytes l.text ∷ []) × IsKey o
      (string_bytes l.text)) node.literals.items (λ l in'.
      let was = All-contains (λ l. (front l.node ≡ front k ++ string_bytes l.text ∷ []) × IsKey o
      (string_bytes l.text)) node.literals.items l h.literals in' in (
        same l.node (All-contains (λ l. l.node < n) node.literals.items l w.literals in') ∙ was.0 ∙ ap
            (λ ts. ts ++ string_bytes l.text ∷ []) (sym (same k lt)),
        was.1,
      ));
  ascend = h.ascend;
  wilds = All-from_contains (λ w. (front' w.node ≡ front' k ++ w.pattern ∷ []) × (list_any is_wildcard w.pattern ≡
      true) × (is_recursive w.pattern ≡ false)) node.wilds.items (λ x in'.
      let was = All-contains (λ w. (front w.node ≡ front k ++ w.pattern ∷ []) × (list_any is_wildcard w.pattern ≡ true)
      × (is_recursive w.pattern ≡ false)) node.wilds.items x h.wilds in' in (
        same x.node (All-contains (λ w. w.node < n) node.wilds.items x w.wilds in') ∙ was.0 ∙ ap
            (λ ts. ts ++ x.pattern ∷ []) (sym (same k lt)),
        was.1,
        was.2,
      ));
  deep = λ d is. let was = h.deep d is in (same d (w.deep d is) ∙ was.0 ∙ ap (λ ts. ts ++ recursive ∷ []) (sym (same k lt)), was.1);
  ends = h.ends ∙ ap ends_recursive (sym (same k lt));
}

pub is-or : (k j : ℕ) → (k ≡ j) ⊎ (k ≢ j)
is-or k j = ⊎_elim (λ lt. inr (λ e. omega arith)) (λ ge. ⊎_elim (λ lt. inr (λ e. omega arith))
    (λ le. inl (omega arith)) (cases_lt j k)) (cases_lt k j)

-- one node says the same, and leads where it led
pub mark-tree : {A : Type 0} (o : MatchOptions) (nodes : List (Node A)) (front : ℕ → List Text)
    (tree : IsTree o nodes front) (at : ℕ) (node changed : Node A)
    → slice_get nodes at ≡ Some node → IsNode o front at changed → ((d : ℕ) → LeadsTo node d → LeadsTo changed d)
    → IsTree o (set nodes at changed) front
mark-tree {A} o nodes front tree at node changed is h leads = record {
  root = tree.root;
  each = λ k other found. ⊎_elim
      (λ same. subst (IsNode o front k) (same_Some changed other (sym (get-set-same nodes at changed
      (slice_get_within nodes at node is)) ∙ ap (slice_get (set nodes at changed)) (sym same) ∙ found))
      (subst (λ j. IsNode o front j changed) (sym same) h))
      (λ ne. tree.each k other (sym (get-set-other nodes at k changed ne) ∙ found)) (is-or k at);
  led = λ c lt. ⊎_elim inl (λ led. inr (moved c led.0 led.1 led.2 led.3)) (tree.led c (omega (arith, lt, length-set nodes at changed)));
}
  where
    moved : (c k : ℕ) (other : Node A) → slice_get nodes k ≡ Some other → LeadsTo other c → (j : ℕ) × (n : Node A) ×
        (slice_get (set nodes at changed) j ≡ Some n) × LeadsTo n c
    moved c k other found led = ⊎_elim
        (λ same. (
          at,
          changed,
          get-set-same nodes at changed (slice_get_within nodes at node is),
          leads c
              (subst (λ n. LeadsTo n c) (same_Some other node (sym found ∙ ap (slice_get nodes) same ∙ is)) led),
        ))
        (λ ne. (k, other, get-set-other nodes at k changed ne ∙ found, led)) (is-or k at)

pub mark-marked : {A : Type 0} (nodes : List (Node A)) (at : ℕ) (changed : Node A) → at < length nodes
    → changed.is_whole ≡ true → IsMarked nodes (set nodes at changed) at
mark-marked nodes at changed lt whole = record {
  long = length-set nodes at changed;
  here = λ node found. subst (λ n. n.is_whole ≡ true) (same_Some changed node (sym (get-set-same nodes at changed lt) ∙ found)) whole;
  others = λ k ne. get-set-other nodes at k changed ne;
}

-- nothing grew
pub Grown-none : {A : Type 0} (o : MatchOptions) (nodes : List (Node A)) (front : ℕ → List Text) (path : List Text)
    → IsTree o nodes front → Grown o nodes nodes front front path
Grown-none o nodes front path tree = record {
  tree = tree;
  longer = omega arith;
  same = λ k lt. refl;
  wholes = λ k node found whole. (node, found, whole);
  kept = λ k node found whole. (node, found, whole);
  begun = λ k lt. inl lt;
}

-- along a longer path
pub Grown-then : {A : Type 0} (o : MatchOptions) (old now new : List (Node A)) (front front' front'' : ℕ → List Text)
    (path further : List Text)
    → ((rest : List Text) × (further ≡ path ++ rest)) → Grown o old now front front' path → Grown o now new front'
    front'' further → Grown o old new front front'' further
Grown-then o old now new front front' front'' path further on a b = record {
  tree = b.tree;
  longer = omega (arith, a.longer, b.longer);
  same = λ k lt. b.same k (omega (arith, lt, a.longer)) ∙ a.same k lt;
  wholes = λ k node found whole. let w = b.wholes k node found whole in a.wholes k w.0 w.1 w.2;
  kept = λ k node found whole. let w = a.kept k node found whole in b.kept k w.0 w.1 w.2;
  begun = λ k lt. ⊎_elim
      (λ here. ⊎_elim inl
      (λ r. inr (
        r.0 ++ on.0,
        on.1 ∙ ap (λ ts. ts ++ on.0) r.1 ∙ append_assoc (front' k) r.0 on.0 ∙ ap
            (λ ts. ts ++ (r.0 ++ on.0)) (sym (b.same k here)),
      )) (a.begun k here))
      inr (b.begun k lt);
}

-- one more beginning
module _ {A : Type 0} (o : MatchOptions) (nodes : List (Node A)) (front : ℕ → List Text) (tree : IsTree o nodes front)
    (within : All (IsWithin (length nodes)) nodes)
    (at : ℕ) (node : Node A) (is : slice_get nodes at ≡ Some node) (text : Text) (fresh changed : Node A)
    (f : IsFresh (is_recursive text) fresh) where
  abbrev pub more : ℕ → List Text
  more k = cond (k == length nodes) (front at ++ text ∷ []) (front k)

  pub more-below : (k : ℕ) → k < length nodes → more k ≡ front k
  more-below k lt = cond-false (k == length nodes) _ _ (ne_eqb k (length nodes) (λ e. omega (arith, lt)))

  pub more-last : more (length nodes) ≡ front at ++ text ∷ []
  more-last = cond-true (length nodes == length nodes) _ _ (eq-eqb (length nodes) (length nodes) refl)

  pub more-node : IsNode o more at node
  more-node =
      IsNode-moved o front more (length nodes) at node more-below (slice_get_within nodes at node is)
      (All-contains (IsWithin (length nodes)) nodes node within (
        at,
        slice_get_within nodes at node is,
        get_or_from_slice_get nodes at node node is,
      )) (tree.each at node is)

  fresh-node : IsNode o more (length nodes) fresh
  fresh-node = record {
    literals = subst (All (λ l. (more l.node ≡ more (length nodes) ++ string_bytes l.text ∷ []) × IsKey o
        (string_bytes l.text))) (sym f.literals) (All-nil (λ l. (more l.node ≡ more (length nodes) ++ string_bytes
        l.text ∷ []) × IsKey o (string_bytes l.text)));
    ascend = subst AreAscending (sym f.literals) (λ i j d lt in'. absurd (omega (arith, in')));
    wilds = All-from_contains (λ w. (more w.node ≡ more (length nodes) ++ w.pattern ∷ []) ×
        (list_any is_wildcard w.pattern ≡ true) × (is_recursive w.pattern ≡ false)) fresh.wilds.items
        (λ w in'. absurd (Contains-nil w (subst (λ ws. Contains ws w) f.wilds in')));
    deep = λ d led. absurd (none-some d (sym f.deep ∙ led));
    ends = f.ends ∙ sym (ends-push (front at) text) ∙ ap ends_recursive (sym more-last);
  }

  long : length (set (nodes ++ fresh ∷ []) at changed) ≡ length nodes + 1
  long = length-set (nodes ++ fresh ∷ []) at changed ∙ length-append nodes (fresh ∷ [])

  -- which node is at a number
  Place : ℕ → Node A → Type 0
  Place k other = ((k ≡ at) × (changed ≡ other)) ⊎ (((k < length nodes) × (slice_get nodes k ≡ Some other)) ⊎
      ((k ≡ length nodes) × (fresh ≡ other)))

  place-of : (k : ℕ) (other : Node A) → slice_get (set (nodes ++ fresh ∷ []) at changed) k ≡ Some other → Place k other
  unfolding Place
  place-of k other found =
      let lt : at < length nodes = slice_get_within nodes at node is in
      let inside = slice_get_within (set (nodes ++ fresh ∷ []) at changed) k other found in
      let pushed : length (nodes ++ fresh ∷ []) ≡ length nodes + 1 = length-append nodes (fresh ∷ []) in
      ⊎_elim
      (λ same. inl (
        same,
        same_Some changed other (sym (get-set-same (nodes ++ fresh ∷ []) at changed
            (omega (arith, lt, pushed))) ∙ ap (slice_get (set (nodes ++ fresh ∷ []) at changed)) (sym same) ∙ found),
      ))
      (λ ne. let there : slice_get (nodes ++ fresh ∷ []) k ≡ Some other = sym (get-set-other (nodes ++ fresh ∷ []) at k
      changed ne) ∙ found in
      ⊎_elim
      (λ below. inr (inl (below, sym (get-push-below nodes fresh k below) ∙ there)))
      (λ le. let last : k ≡ length nodes = omega (arith, le, inside, long) in
      inr (inr (
        last,
        same_Some fresh other (sym (get-push-last nodes fresh) ∙ ap (slice_get (nodes ++ fresh ∷ []))
            (sym last) ∙ there),
      ))) (cases_lt k (length nodes)))
      (is-or k at)

  at-changed : slice_get (set (nodes ++ fresh ∷ []) at changed) at ≡ Some changed
  at-changed =
      let lt : at < length nodes = slice_get_within nodes at node is in
      let pushed : length (nodes ++ fresh ∷ []) ≡ length nodes + 1 = length-append nodes (fresh ∷ []) in
      get-set-same (nodes ++ fresh ∷ []) at changed (omega (arith, lt, pushed))

  at-other : (k : ℕ) (other : Node A) → k ≢ at → slice_get nodes k ≡ Some other → slice_get
      (set (nodes ++ fresh ∷ []) at changed) k ≡ Some other
  at-other k other ne found =
      get-set-other (nodes ++ fresh ∷ []) at k changed ne ∙ get-push-below nodes fresh k (slice_get_within nodes k other found) ∙ found

  lead-tree : LeadsMore o more at (length nodes) node changed → IsTree o (set (nodes ++ fresh ∷ []) at changed) more
  unfolding Place
  lead-tree l = record {
    root = more-below 0 (omega (arith, slice_get_within nodes at node is)) ∙ tree.root;
    each = λ k other found. ⊎_elim
        (λ here. subst (IsNode o more k) here.1 (subst (λ j. IsNode o more j changed) (sym here.0) l.node))
        (λ rest. ⊎_elim
        (λ below. IsNode-moved o front more (length nodes) k other more-below below.0
        (All-contains (IsWithin (length nodes)) nodes other within (
          k,
          below.0,
          get_or_from_slice_get nodes k other
              other below.1,
        )) (tree.each k other below.1))
        (λ last. subst (IsNode o more k) last.1 (subst (λ j. IsNode o more j fresh) (sym last.0) fresh-node)) rest)
        (place-of k other found);
    led = λ c lt. ⊎_elim
        (λ below. ⊎_elim inl (λ led. inr (moved l c led.0 led.1 led.2 led.3)) (tree.led c below))
        (λ le. let last : length nodes ≡ c = omega (arith, le, lt, long) in inr (
          at,
          changed,
          at-changed,
          subst
              (LeadsTo changed) last l.leads,
        )) (cases_lt c (length nodes));
  }
    where
      moved : LeadsMore o more at (length nodes) node changed → (c k : ℕ) (other : Node A) → slice_get nodes k ≡ Some
          other → LeadsTo other c
          → (j : ℕ) × (n : Node A) × (slice_get (set (nodes ++ fresh ∷ []) at changed) j ≡ Some n) × LeadsTo n c
      moved l c k other found led = ⊎_elim
          (λ same. (
            at,
            changed,
            at-changed,
            l.kept c (subst (λ n. LeadsTo n c) (same_Some other node (sym found ∙ ap
                (slice_get nodes) same ∙ is)) led),
          ))
          (λ ne. (k, other, at-other k other ne found, led)) (is-or k at)

  pub lead-grown : LeadsMore o more at (length nodes) node changed → GrownTo o nodes (set (nodes ++ fresh ∷ []) at
      changed) front (front at ++ text ∷ []) (length nodes)
  unfolding Place
  lead-grown l = record {
    front' = more;
    grown = record {
      tree = lead-tree l;
      longer = omega (arith, long);
      same = more-below;
      wholes = λ k other found whole. ⊎_elim
          (λ here. (node, ap (slice_get nodes) here.0 ∙ is, sym l.whole ∙ ap (λ n. n.is_whole) here.1 ∙ whole))
          (λ rest. ⊎_elim
          (λ below. (other, below.1, whole))
          (λ last. absurd (both_ways fresh.is_whole f.whole (ap (λ n. n.is_whole) last.1 ∙ whole))) rest) (place-of k other found);
      kept = λ k other found whole. ⊎_elim
          (λ same. (
            changed,
            ap (slice_get (set (nodes ++ fresh ∷ []) at changed)) same ∙ at-changed,
            l.whole ∙ ap (λ n. n.is_whole) (sym (same_Some other node (sym found ∙ ap (slice_get nodes) same ∙ is))) ∙ whole,
          ))
          (λ ne. (other, at-other k other ne found, whole)) (is-or k at);
      begun = λ k lt. ⊎_elim inl
          (λ le. let last : k ≡ length nodes = omega (arith, le, lt, long) in inr (
            [],
            sym (ap more last ∙ more-last)
                ∙ sym (append-nil (more k)),
          )) (cases_lt k (length nodes));
    };
    there = omega (arith, long);
    is = more-last;
  }

-- a component's text is `**` if its kind is
pub kind-recursive : {A : Type 0} (o : MatchOptions) (x : Component A) → FitsKind o x → is_recursive (component_text x)
    ≡ is_deep_component x
kind-recursive o (component.Literal text) fits = literal_not_recursive (string_bytes text) fits.literal
kind-recursive o (component.Wild pattern) fits = fits.1
kind-recursive o component.Deep fits = refl

-- one more component changes nothing, or leads on
pub pushed-same : (ts : List Text) (t : Text) → ends_recursive ts ≡ true → is_recursive t ≡ true → pushed ts t ≡ ts
pushed-same ts t ends r = cond-true (ends_recursive ts && is_recursive t) ts (ts ++ t ∷ [])
    (and_from (ends_recursive ts) (is_recursive t) ends r)

pub pushed-more : (ts : List Text) (t : Text) → (ends_recursive ts && is_recursive t) ≡ false → pushed ts t ≡ ts ++ t ∷ []
pushed-more ts t none = cond-false (ends_recursive ts && is_recursive t) ts (ts ++ t ∷ []) none

pub GrownTo-none : {A : Type 0} (o : MatchOptions) (nodes : List (Node A)) (front : ℕ → List Text) (path : List Text)
    (c : ℕ) → IsTree o nodes front → c < length nodes → front c ≡ path
    → GrownTo o nodes nodes front path c
GrownTo-none o nodes front path c tree lt is = record { front' = front; grown = Grown-none o nodes front path tree; there = lt; is = is }

-- where a component leads
pub led-front : {A : Type 0} (o : MatchOptions) (nodes : List (Node A)) (front : ℕ → List Text) (k : ℕ) (node : Node A)
    (h : IsNode o front k node) (x : Component A) (c : ℕ)
    → Led node x (Some c) → front c ≡ front k ++ component_text x ∷ []
led-front o nodes front k node h (component.Literal text) c led =
    ap front (sym led.3) ∙ (All-contains (λ l. (front l.node ≡ front k ++ string_bytes l.text ∷ []) × IsKey o
    (string_bytes l.text)) node.literals.items led.0 h.literals led.1).0
    ∙ ap (λ t. front k ++ t ∷ []) led.2
led-front o nodes front k node h (component.Wild pattern) c led =
    ap front (sym led.3)
    ∙ (All-contains (λ w. (front w.node ≡ front k ++ w.pattern ∷ []) × (list_any is_wildcard w.pattern ≡ true) ×
    (is_recursive w.pattern ≡ false)) node.wilds.items led.0 h.wilds led.1).0
    ∙ ap (λ t. front k ++ t ∷ []) led.2
led-front o nodes front k node h component.Deep c led = (h.deep c led).0

pub led-literal : {A : Type 0} (node : Node A) (text : String A) (r : Option ℕ) → LiteralLeads node (string_bytes text)
    r → Led node (component.Literal text) r
led-literal node text None h = h
led-literal node text (Some c) h = h.0
