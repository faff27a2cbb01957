-- The beginnings of patterns, one pattern after another.
use Rattle.std.proofs.Common.{◌≡◌, ℕ, zero, suc, true, false, ◌⊎◌, inl, inr, ⊎_elim, Some, List, [], ◌∷◌, ◌++◌, length}
use Rattle.std.proofs.Common.{map, string_bytes, refl, sym, ap, ap₂, subst, ◌∙◌, arith}
use Rattle.std.specs.Prelude.{Contains, slice_get}
use Rattle.std.specs.List.{All, list_any}
use Rattle.std.specs.Str.{IsUtf8}
use Rattle.std.proofs.lemmas.Bool.{both_ways}
use Rattle.std.proofs.lemmas.List.{map-append}
use Rattle.std.proofs.lemmas.List.Elements.{Contains-append_left, Contains-push, Contains-push_cases}
use Rattle.std.proofs.lemmas.Option.{none-some, same_Some, slice_get_within}
use Rattle.glob_text.specs.Pieces.{pieces}
use Rattle.glob_text.specs.Text.{Text}
use Rattle.glob_pattern.specs.Grammar.Characters.{is_wildcard}
use Rattle.glob_pattern.specs.Matching.Components.{is_recursive}
use Rattle.glob_pattern.specs.declared.options.MatchOptions.{MatchOptions}
use Rattle.glob_tree.proofs.ContentLemmas.Membership.{All-from_contains, Contains-nil}
use Rattle.glob_search.specs.Searching.{ended}
use Rattle.glob_search.specs.Private.NodeGrowth.{Added, IsFresh}
use Rattle.glob_search.specs.Private.Nodes.{AreAscending, AreBeginnings, IsKey, IsNode, IsTree, components_of, key_of}
use Rattle.glob_search.specs.declared.beginnings.Beginnings.{Beginnings}
use Rattle.glob_search.specs.declared.beginnings.node.Node.{Node}

-- what is read from elements, in two parts
map-split : {X Y : Type 0} (f : X → Y) (xs : List X) (ys zs : List Y) → map f xs ≡ ys ++ zs → (us : List X) ×
    (vs : List X) × (xs ≡ us ++ vs) × (map f us ≡ ys)
map-split f xs [] zs e = ([], xs, refl, refl)
map-split f [] (y ∷ ys) zs e = absurd (cc)
map-split f (x ∷ xs) (y ∷ ys) zs e =
    let first : f x ≡ y = cc in
    let rest : map f xs ≡ ys ++ zs = cc in
    let (us, vs, parts, is) = map-split f xs ys zs rest in
    (x ∷ us, vs, ap (λ ws. x ∷ ws) parts, ap₂ (λ w ws. w ∷ ws) first is)

-- only the empty beginning
module _ {A : Type 0} (fresh : Node A) (f : IsFresh false fresh) where
  abbrev none : ℕ → List Text
  none k = []

  only-node : (k : ℕ) (node : Node A) → slice_get (fresh ∷ []) k ≡ Some node → fresh ≡ node
  only-node zero node is = same_Some fresh node is
  only-node (suc k) node is = absurd (none-some node is)

  fresh-node : (o : MatchOptions) (k : ℕ) → IsNode o none k fresh
  fresh-node o k = record {
    literals = All-from_contains (λ l. (none l.node ≡ none k ++ string_bytes l.text ∷ []) × IsKey o
        (string_bytes l.text)) fresh.literals.items (λ l in'. absurd (Contains-nil l (subst (λ ls. Contains ls l)
        f.literals in')));
    ascend = subst AreAscending (sym f.literals) (λ i j d lt in'. absurd (omega (arith, in')));
    wilds = All-from_contains (λ w. (none w.node ≡ none k ++ w.pattern ∷ []) × (list_any is_wildcard w.pattern ≡ true)
        × (is_recursive w.pattern ≡ false)) fresh.wilds.items
        (λ w in'. absurd (Contains-nil w (subst (λ ws. Contains ws w) f.wilds in')));
    deep = λ d led. absurd (none-some d (sym f.deep ∙ led));
    ends = f.ends;
  }

  pub beginnings-none : (o : MatchOptions) (b : Beginnings A) → b.options ≡ o → b.nodes.items ≡ fresh ∷ [] → AreBeginnings o [] b
  beginnings-none o b options is = record {
    options = options;
    front = none;
    tree = subst (λ xs. IsTree b.options xs none) (sym is) (record {
      root = refl;
      each = λ k node found. subst (IsNode b.options none k) (only-node k node found) (fresh-node b.options k);
      led = λ c lt. inl (omega (arith, lt));
    });
    utf8 = λ ts in'. absurd (Contains-nil ts in');
    begun = λ k lt. inl (omega (arith, lt, ap length is));
    whole = λ k node found whole. absurd (both_ways fresh.is_whole f.whole (ap (λ n. n.is_whole) (only-node k node
        (sym (ap (λ xs. slice_get xs k) is) ∙ found)) ∙ whole));
    each = λ ts in'. absurd (Contains-nil ts in');
  }

-- one more pattern
pub beginnings-more : {A : Type 0} (o : MatchOptions) (patterns : List Text) (pattern : Text) (b b' : Beginnings A)
    (bs : AreBeginnings o patterns b) → b'.options ≡ b.options
    → Added b.options b.nodes.items b'.nodes.items bs.front pattern → AreBeginnings o (patterns ++ pattern ∷ []) b'
beginnings-more {A} o patterns pattern b b' bs options more =
    let a : Added o b.nodes.items b'.nodes.items bs.front pattern = subst (λ o'. Added o' b.nodes.items b'.nodes.items
    bs.front pattern) bs.options more in
    let all : components_of (patterns ++ pattern ∷ []) ≡ components_of patterns ++ ended (pieces pattern) ∷ [] =
    map-append (λ p. ended (pieces p)) patterns (pattern ∷ []) in
    let before : (ts : List Text) → Contains (components_of patterns) ts → Contains (components_of (patterns ++ pattern ∷ [])) ts =
    λ ts in'. subst (λ xs. Contains xs ts) (sym all) (Contains-append_left (components_of patterns) (ended (pieces pattern) ∷ []) ts in') in
    let last : Contains (components_of (patterns ++ pattern ∷ [])) (ended (pieces pattern)) =
    subst (λ xs. Contains xs (ended (pieces pattern))) (sym all) (Contains-push (components_of patterns) (ended (pieces pattern))) in
    let cases : (ts : List Text) → Contains (components_of (patterns ++ pattern ∷ [])) ts → Contains
    (components_of patterns) ts ⊎ (ended (pieces pattern) ≡ ts) =
    λ ts in'. Contains-push_cases (components_of patterns) (ended (pieces pattern)) ts (subst (λ xs. Contains xs ts) all in') in
    record {
      options = options ∙ bs.options;
      front = a.front';
      tree = subst (λ o'. IsTree o' b'.nodes.items a.front') (sym (options ∙ bs.options)) a.tree;
      utf8 = λ ts in'. ⊎_elim (λ was. bs.utf8 ts was) (λ same. subst (All IsUtf8) same a.utf8) (cases ts in');
      begun = λ k lt. ⊎_elim
          (λ was. ⊎_elim inl (λ h. inr (h.0, h.1, before (h.0 ++ h.1) h.2, a.same k was ∙ h.3)) (bs.begun k was))
          (λ r. let (us, vs, parts, is) = map-split (key_of o) (ended (pieces pattern)) (a.front' k) r.0 r.1 in
          inr (us, vs, subst (Contains (components_of (patterns ++ pattern ∷ []))) parts last, sym is)) (a.begun k lt);
      whole = λ k node found whole. ⊎_elim
          (λ was. let h = bs.whole k was.0 was.1 was.2 in (
            h.0,
            before h.0 h.1,
            a.same k
                (slice_get_within b.nodes.items k was.0 was.1) ∙ h.2,
          ))
          (λ is. (ended (pieces pattern), last, is)) (a.wholes k node found whole);
      each = λ ts in'. ⊎_elim
          (λ was. let h = bs.each ts was in
          let after = a.kept h.0 h.1 h.2 h.3 in
          (h.0, after.0, after.1, after.2, a.same h.0 (slice_get_within b.nodes.items h.0 h.1 h.2) ∙ h.4))
          (λ same. (a.there.0, a.there.1, a.there.2, a.there.3, a.there.4 ∙ ap (map (key_of o)) same)) (cases ts in');
    }
