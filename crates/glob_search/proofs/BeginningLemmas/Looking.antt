-- What the numbers that are alive say about directories that are not listed.
use Rattle.std.proofs.Common.{◌≡◌, ℕ, Bool, true, false, not, ◌&&◌, ◌||◌, ⊎_elim, Some, List, map, string_bytes, refl, ap, sym, subst, ◌∙◌}
use Rattle.std.specs.Prelude.{Contains, slice_get}
use Rattle.std.specs.List.{list_all, list_any}
use Rattle.std.proofs.lemmas.Bool.{both_ways, and_parts, and_from, or_cases, or_left, or_right, not-true, false_from_ne_true}
use Rattle.std.proofs.lemmas.Option.{same_Some, slice_get_within}
use Rattle.glob_text.specs.Text.{Text}
use Rattle.glob_pattern.specs.Grammar.Characters.{is_wildcard}
use Rattle.glob_tree.specs.Content.{Key}
use Rattle.glob_tree.proofs.ContentLemmas.Membership.{list_all-contains}
use Rattle.glob_search.specs.Searching.{Aim, alive, ends_recursive, is_named, is_listed}
use Rattle.glob_search.specs.Private.Nodes.{AreAlive, AreBeginnings, has_only_literals, is_looked_up, is_missing}
use Rattle.glob_search.specs.Private.Nodes.{is_none_left, key_of, node_says, recursive}
use Rattle.glob_search.specs.declared.beginnings.Beginnings.{Beginnings}
use Rattle.glob_search.specs.declared.beginnings.node.Node.{Node}
use Rattle.glob_search.proofs.BeginningLemmas.Keys.{key-wild, keys-end}
use Rattle.glob_search.proofs.BeginningLemmas.Trees.{ByOther, ByRecursive, literal-front, literal-within, wild-front}
use Rattle.glob_search.proofs.BeginningLemmas.Trees.{wild-within, deep-front, deep-within, node-at}
use Rattle.glob_search.proofs.BeginningLemmas.Queries.{same-tests, list_all-from, says-node, node-says, none-left-not}
use Rattle.glob_search.proofs.BeginningLemmas.Queries.{some-left, missing-not, not-missing, alive-leads, tree, within}
use Rattle.glob_search.proofs.BeginningLemmas.Queries.{number-taken, lead-goes, lead-live, child-alive, deep-alive}

not-not : (b : Bool) → not (not b) ≡ b
not-not true = refl
not-not false = refl

-- what goes on by a name that is looked up
named-from : (a : Aim) (front : List Text) (t : Text) → a.options.case_sensitive ≡ true → ends_recursive front ≡ false
    → list_any is_wildcard t ≡ false → is_named a.options (front, t) ≡ true
named-from a front t case ends wild =
    and_from (a.options.case_sensitive && not (ends_recursive front)) (not (list_any is_wildcard t))
    (and_from a.options.case_sensitive (not (ends_recursive front)) case (ap not ends)) (ap not wild)

pub named-parts : (a : Aim) (front : List Text) (t : Text) → is_named a.options (front, t) ≡ true →
    (a.options.case_sensitive ≡ true) × (ends_recursive front ≡ false) × (list_any is_wildcard t ≡ false)
named-parts a front t h =
    let outer = and_parts (a.options.case_sensitive && not (ends_recursive front)) (not (list_any is_wildcard t)) h in
    let inner = and_parts a.options.case_sensitive (not (ends_recursive front)) outer.0 in
    (inner.0, not-true (ends_recursive front) inner.1, not-true (list_any is_wildcard t) outer.1)

pub recursive-wild : list_any is_wildcard recursive ≡ true
recursive-wild = refl

module _ (a : Aim) (names : Key) {A : Type 0} (b : Beginnings A) (bs : AreBeginnings a.options a.patterns b)
    (numbers : List ℕ) (live : AreAlive b names numbers) where
  looked-named : list_all (node_says (is_looked_up a.options) b.nodes.items) numbers ≡ true → (e : List Text × Text)
      → Contains (alive a names) e → is_named a.options e ≡ true
  looked-named all e in' =
      let (l, front, next) = alive-leads a names e in' in
      let goes = lead-goes a names b bs numbers live l in
      subst (λ us. is_named a.options (us, e.1) ≡ true) front (subst (λ t. is_named a.options (l.front, t) ≡ true) next
      (⊎_elim
      (λ w. by_other l.front l.next goes.number w.0 w.1 w.2 (lead-live a names b bs numbers live l w.0.parent
      (slice_get_within b.nodes.items w.0.parent w.0.node w.0.at) w.1))
      (λ w. by_recursive l.front l.next goes.number w.0 w.1 w.2 (lead-live a names b bs numbers live l w.0.parent
      (slice_get_within b.nodes.items w.0.parent w.0.node w.0.at) w.1)) goes.way))
    where
      looked : (k : ℕ) (node : Node A) → slice_get b.nodes.items k ≡ Some node → Contains numbers k → is_looked_up a.options node ≡ true
      looked k node at in' =
          let (other, at', h) = says-node (is_looked_up a.options) b.nodes.items k (list_all-contains
          (node_says (is_looked_up a.options) b.nodes.items) numbers k all in') in
          subst (λ n. is_looked_up a.options n ≡ true) (same_Some other node (sym at' ∙ at)) h

      by_other : (front : List Text) (next : Text) (c : ℕ) (up : ByOther a.options b.nodes.items bs.front
          (tree a names b bs numbers live) (within a names b bs numbers live) c)
          → bs.front up.parent ≡ map (key_of a.options) front → up.text ≡ key_of a.options next → Contains numbers
          up.parent → is_named a.options (front, next) ≡ true
      by_other front next c up is text in' =
          let h = looked up.parent up.node up.at in' in
          let (only, case) = and_parts (has_only_literals up.node) (a.options.case_sensitive || is_none_left up.node.literals.items) h in
          let (outer, wilds) = and_parts (not up.node.is_deep && is_missing up.node.deep) (is_none_left up.node.wilds.items) only in
          let (deep, missing) = and_parts (not up.node.is_deep) (is_missing up.node.deep) outer in
          let ends : ends_recursive front ≡ false = sym (keys-end a.options front) ∙ ap ends_recursive (sym is) ∙ sym
          ((tree a names b bs numbers live).each up.parent up.node up.at).ends ∙ not-true up.node.is_deep deep in
          ⊎_elim
          (λ l. named-from a front next (⊎_elim (λ c. c) (λ none. absurd (none-left-not up.node.literals.items l.0 l.1
          none)) (or_cases a.options.case_sensitive (is_none_left up.node.literals.items) case)) ends
          (sym (key-wild a.options next) ∙ ap (list_any is_wildcard) (sym (l.2 ∙ text))
          ∙ (literal-front a.options b.nodes.items bs.front (tree a names b bs numbers live)
          (within a names b bs numbers live) up.parent up.node l.0 up.at l.1).1.literal))
          (λ w. absurd (none-left-not up.node.wilds.items w.0 w.1 wilds)) up.leads

      by_recursive : (front : List Text) (next : Text) (c : ℕ) (up : ByRecursive a.options b.nodes.items bs.front
          (tree a names b bs numbers live) (within a names b bs numbers live) c)
          → bs.front up.parent ≡ map (key_of a.options) front → recursive ≡ key_of a.options next → Contains numbers
          up.parent → is_named a.options (front, next) ≡ true
      by_recursive front next c up is text in' =
          let h = looked up.parent up.node up.at in' in
          let (only, case) = and_parts (has_only_literals up.node) (a.options.case_sensitive || is_none_left up.node.literals.items) h in
          let (outer, wilds) = and_parts (not up.node.is_deep && is_missing up.node.deep) (is_none_left up.node.wilds.items) only in
          let (deep, missing) = and_parts (not up.node.is_deep) (is_missing up.node.deep) outer in
          absurd (missing-not up.node.deep c up.deep missing)

  named-looked : list_all (is_named a.options) (alive a names) ≡ true → (k : ℕ) → Contains numbers k → node_says
      (is_looked_up a.options) b.nodes.items k ≡ true
  named-looked all k in' =
      let (node, at) = node-at b.nodes.items k (number-taken a names b bs numbers live k in').0 in
      node-says (is_looked_up a.options) b.nodes.items k node at (looks node at)
    where
      parts : (us : List Text) (x : Text) → Contains (alive a names) (us, x) → (a.options.case_sensitive ≡ true) ×
          (ends_recursive us ≡ false) × (list_any is_wildcard x ≡ false)
      parts us x one = named-parts a us x (list_all-contains (is_named a.options) (alive a names) (us, x) all one)

      no-deep : (node : Node A) → slice_get b.nodes.items k ≡ Some node → node.is_deep ≡ true → ⊥
      no-deep node at d =
          let f = deep-alive a names b bs numbers live k in' (sym ((tree a names b bs numbers live).each k node at).ends ∙ d) in
          both_ways (ends_recursive f.0) (parts f.0 f.1 f.2).1 f.3

      no-way : (t : Text) → list_any is_wildcard t ≡ true → (us : List Text) (x : Text) → Contains (alive a names)
          (us, x) → key_of a.options x ≡ t → ⊥
      no-way t wild us x one is = both_ways (list_any is_wildcard x) (parts us x one).2 (sym (key-wild a.options x)
          ∙ ap (list_any is_wildcard) is ∙ wild)

      no-recursive : (node : Node A) → slice_get b.nodes.items k ≡ Some node → is_missing node.deep ≡ false → ⊥
      no-recursive node at m =
          let (c, is) = not-missing node.deep m in
          let f = child-alive a names b bs numbers live k c recursive in' (deep-within a.options b.nodes.items bs.front
          (tree a names b bs numbers live) (within a names b bs numbers live) k node c at is)
          (deep-front a.options b.nodes.items bs.front (tree a names b bs numbers live) (within a names b bs numbers
          live) k node c at is).0 in
          no-way recursive recursive-wild f.0 f.1 f.2 f.4

      no-wild : (node : Node A) → slice_get b.nodes.items k ≡ Some node → is_none_left node.wilds.items ≡ false → ⊥
      no-wild node at m =
          let (w, one) = some-left node.wilds.items m in
          let h = wild-front a.options b.nodes.items bs.front (tree a names b bs numbers live)
          (within a names b bs numbers live) k node w at one in
          let f = child-alive a names b bs numbers live k w.node w.pattern in' (wild-within a.options b.nodes.items
          bs.front (tree a names b bs numbers live) (within a names b bs numbers live) k node w at one) h.0 in
          no-way w.pattern h.1 f.0 f.1 f.2 f.4

      case-counts : (node : Node A) → slice_get b.nodes.items k ≡ Some node → (l : Bool) → is_none_left
          node.literals.items ≡ l → (a.options.case_sensitive || is_none_left node.literals.items) ≡ true
      case-counts node at true l = or_right a.options.case_sensitive (is_none_left node.literals.items) l
      case-counts node at false l =
          let (m, one) = some-left node.literals.items l in
          let f = child-alive a names b bs numbers live k m.node (string_bytes m.text) in'
          (literal-within a.options b.nodes.items bs.front (tree a names b bs numbers live)
          (within a names b bs numbers live) k node m at one)
          (literal-front a.options b.nodes.items bs.front (tree a names b bs numbers live) (within a names b bs numbers
          live) k node m at one).0 in
          or_left a.options.case_sensitive (is_none_left node.literals.items) (parts f.0 f.1 f.2).0

      true-from : (b : Bool) → (b ≡ false → ⊥) → b ≡ true
      true-from true h = refl
      true-from false h = absurd (h refl)

      looks : (node : Node A) → slice_get b.nodes.items k ≡ Some node → is_looked_up a.options node ≡ true
      looks node at =
          and_from (has_only_literals node) (a.options.case_sensitive || is_none_left node.literals.items)
          (and_from (not node.is_deep && is_missing node.deep) (is_none_left node.wilds.items)
          (and_from (not node.is_deep) (is_missing node.deep) (ap not (false_from_ne_true node.is_deep
          (no-deep node at))) (true-from (is_missing node.deep) (no-recursive node at)))
          (true-from (is_none_left node.wilds.items) (no-wild node at)))
          (case-counts node at (is_none_left node.literals.items) refl)

  pub unlisted-is : list_all (node_says (is_looked_up b.options) b.nodes.items) numbers ≡ not (is_listed a names)
  unlisted-is =
      ap (λ o. list_all (node_says (is_looked_up o) b.nodes.items) numbers) bs.options
      ∙ same-tests (list_all (node_says (is_looked_up a.options) b.nodes.items) numbers) (list_all (is_named a.options) (alive a names))
      (λ all. list_all-from (is_named a.options) (alive a names) (looked-named all))
      (λ all. list_all-from (node_says (is_looked_up a.options) b.nodes.items) numbers (named-looked all))
      ∙ sym (not-not (list_all (is_named a.options) (alive a names)))
