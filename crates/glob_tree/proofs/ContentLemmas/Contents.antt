-- What a content has at its keys, and what its directories list.
use Rattle.std.proofs.Common.{◌≡◌, ◌-◌, Bool, true, false, cond, not, ◌&&◌, ⊎_elim, List, [], ◌∷◌, ◌++◌, length, Option}
use Rattle.std.proofs.Common.{Some, None, refl, ap, sym, subst, ◌∙◌, arith}
use Rattle.std.specs.Prelude.{Contains, find, bytes_eq, option_map, option_and_then}
use Rattle.std.specs.List.{list_any, list_all}
use Rattle.std.specs.Bool.{Decides}
use Rattle.std.specs.Str.{is_utf8}
use Rattle.std.specs.Cmp.Lexicographic.{pointwise_decides}
use Rattle.std.proofs.lemmas.Bool.{and_parts, not-true, both_ways, false_from_ne_true, cond-true, cond-false}
use Rattle.std.proofs.lemmas.List.{length-append, take_at}
use Rattle.std.proofs.lemmas.List.Folds.{list_all-append}
use Rattle.std.proofs.lemmas.Option.{none-some, same_Some, option_and_then_some}
use Rattle.std.proofs.lemmas.Slice.Eq.{bytes_eq-Decides}
use Rattle.glob_text.specs.Text.{Text}
use Rattle.glob_tree.specs.Paths.{is_proper}
use Rattle.glob_tree.specs.Content.{Content, Key, same_key, parent_key, names_past, kind_at, is_dir, is_dir_at}
use Rattle.glob_tree.specs.Content.{is_placed, are_distinct, is_content, DirEntry, only_name, child_entry, children}
use Rattle.glob_tree.specs.declared.kind.Kind.{Kind}
use Rattle.glob_tree.proofs.ContentLemmas.Membership.{Contains-tail, Contains-cases, Contains-nil, Contains-filter_map}
use Rattle.glob_tree.proofs.ContentLemmas.Membership.{filter_map-contains, list_all-contains, list_any-contains}

pub same_key-Decides : (k l : Key) → Decides (same_key k l) (k ≡ l)
same_key-Decides k l = pointwise_decides bytes_eq-Decides k l

-- what is at an entry's key is that entry
find_entry : (es : List (Key × Kind)) (e : Key × Kind) → are_distinct es ≡ true → Contains es e → find (λ f. same_key e.0 f.0) es ≡ Some e
find_entry [] e h in' = absurd (Contains-nil e in')
find_entry (f ∷ es) e h in' =
    let apart = and_parts (not (list_any (λ g. same_key f.0 g.0) es)) (are_distinct es) h in
    ⊎_elim
    (λ same. cond-true (same_key e.0 f.0) (Some f) (find (λ g. same_key e.0 g.0) es) ((same_key-Decides e.0 f.0).1
    (ap (λ g. g.0) (sym same))) ∙ ap Some same)
    (λ later. cond-false (same_key e.0 f.0) (Some f) (find (λ g. same_key e.0 g.0) es) (false_from_ne_true (same_key e.0 f.0) (λ t.
    both_ways (list_any (λ g. same_key f.0 g.0) es) (not-true (list_any (λ g. same_key f.0 g.0) es) apart.0)
    (list_any-contains (λ g. same_key f.0 g.0) es e ((same_key-Decides f.0 e.0).1 (sym ((same_key-Decides e.0 f.0).0 t))) later)))
    ∙ find_entry es e apart.1 later)
    (Contains-cases f es e in')

-- what is found at a key is an entry of the list
found_entry : (es : List (Key × Kind)) (k : Key) (e : Key × Kind) → find (λ f. same_key k f.0) es ≡ Some e → Contains es e × (e.0 ≡ k)
found_entry [] k e h = absurd (none-some e h)
found_entry (f ∷ es) k e h = by_test (same_key k f.0) refl h (λ later. found_entry es k e later)
  where
    by_test : (b : Bool) → same_key k f.0 ≡ b → cond b (Some f) (find (λ g. same_key k g.0) es) ≡ Some e
        → (find (λ g. same_key k g.0) es ≡ Some e → Contains es e × (e.0 ≡ k)) → Contains (f ∷ es) e × (e.0 ≡ k)
    by_test true t h further = let same = same_Some f e h in (
      (0, omega arith, same),
      ap (λ g. g.0) (sym same) ∙ sym
          ((same_key-Decides k f.0).0 t),
    )
    by_test false t h further = let (in', is) = further h in (Contains-tail f es e in', is)

-- the conditions of a well-formed content, one by one
pub record IsContent (c : Content) : Type 0 where
  pub root : is_dir_at c [] ≡ true
  pub current : is_dir_at c c.current ≡ true
  pub placed : list_all (is_placed c) c.kinds ≡ true
  pub distinct : are_distinct c.kinds ≡ true

pub IsContent-from_test : (c : Content) → is_content c ≡ true → IsContent c
unfolding is_content
IsContent-from_test c h =
    let (abc, distinct) = and_parts (is_dir_at c [] && is_dir_at c c.current && list_all (is_placed c) c.kinds) (are_distinct c.kinds) h in
    let (ab, placed) = and_parts (is_dir_at c [] && is_dir_at c c.current) (list_all (is_placed c) c.kinds) abc in
    let (root, current) = and_parts (is_dir_at c []) (is_dir_at c c.current) ab in
    record { root = root; current = current; placed = placed; distinct = distinct }

-- the rest of a key after its first names
pub names_past-append : (k names : Key) → names_past k (k ++ names) ≡ Some names
names_past-append [] names = refl
names_past-append (n ∷ k) names = cond-true (bytes_eq n n) (names_past k (k ++ names)) None
    ((bytes_eq-Decides n n).1 refl) ∙ names_past-append k names

pub names_past_is : (k key names : Key) → names_past k key ≡ Some names → key ≡ k ++ names
names_past_is [] key names h = same_Some key names h
names_past_is (m ∷ k) [] names h = absurd (none-some names h)
names_past_is (m ∷ k) (n ∷ key) names h = by_test (bytes_eq m n) refl h (λ further. names_past_is k key names further)
  where
    by_test : (b : Bool) → bytes_eq m n ≡ b → cond b (names_past k key) None ≡ Some names →
        (names_past k key ≡ Some names → key ≡ k ++ names) → n ∷ key ≡ m ∷ (k ++ names)
    by_test true e h further = let same = (bytes_eq-Decides m n).0 e in ap (λ x. x ∷ key) (sym same) ∙ ap (λ ns. m ∷ ns) (further h)
    by_test false e h further = absurd (none-some names h)

pub parent_key-append : (k : Key) (name : Text) → parent_key (k ++ name ∷ []) ≡ k
parent_key-append k name = take_at k (name ∷ []) (length (k ++ name ∷ []) - 1) (omega (arith, length-append k (name ∷ [])))

option_map_is : {A B : Type 0} (f : A → B) (o : Option A) (y : B) → option_map f o ≡ Some y → (x : A) × (o ≡ Some x) × (f x ≡ y)
option_map_is f None y h = absurd (none-some y h)
option_map_is f (Some x) y h = (x, refl, same_Some (f x) y h)

-- each entry is at its key
pub kind_at-entry : (c : Content) → IsContent c → (e : Key × Kind) → Contains c.kinds e → kind_at c e.0 ≡ Some e.1
unfolding kind_at
kind_at-entry c w e in' = ap (λ o. option_map (λ f. f.1) o) (find_entry c.kinds e w.distinct in')

-- what is at a key is an entry of the content
pub contains_kind_at : (c : Content) (k : Key) (kind : Kind) → kind_at c k ≡ Some kind → Contains c.kinds (k, kind)
unfolding kind_at
contains_kind_at c k kind h =
    let (e, found, is) = option_map_is (λ f. f.1) (find (λ f. same_key k f.0) c.kinds) kind h in
    let (in', at) = found_entry c.kinds k e found in
    subst (Contains c.kinds) (λ i. (at i, is i)) in'

-- an entry of the directory k: something is at its key, and its name is proper
pub record IsChild (c : Content) (k : Key) (e : DirEntry) : Type 0 where
  pub kind : Kind
  pub held : kind_at c (k ++ e.0 ∷ []) ≡ Some kind
  pub is_same : is_dir kind ≡ e.1
  pub proper : is_proper e.0 ≡ true
  pub utf8 : is_utf8 e.0 ≡ true

only_name_is : (ns : Key) (n : Text) → only_name ns ≡ Some n → ns ≡ n ∷ []
only_name_is [] n h = absurd (none-some n h)
only_name_is (m ∷ []) n h = ap (λ x. x ∷ []) (same_Some m n h)
only_name_is (m ∷ o ∷ ns) n h = absurd (none-some n h)

-- what a listed entry says about its key
pub child_entry_is : (k : Key) (e : Key × Kind) (l : DirEntry) → child_entry k e ≡ Some l → (e.0 ≡ k ++ l.0 ∷ []) × (is_dir e.1 ≡ l.1)
child_entry_is k e l h =
    let (name, only, is) = option_map_is (λ name. (name, is_dir e.1)) (option_and_then only_name (names_past k e.0)) l h in
    let past : e.0 ≡ k ++ name ∷ [] = option_and_then_some only_name (names_past k e.0) name only (λ ns past one.
    names_past_is k e.0 ns past ∙ ap (λ ms. k ++ ms) (only_name_is ns name one)) in
    (past ∙ ap (λ m. k ++ m.0 ∷ []) is, ap (λ m. m.1) is)

-- everything that a directory lists is an entry of it
pub IsChild-list_result : (c : Content) → IsContent c → (k : Key) (l : DirEntry) → Contains (children c k) l → IsChild c k l
unfolding children
IsChild-list_result c w k l h =
    let (e, in', gives) = Contains-filter_map (child_entry k) c.kinds l h in
    let (key, same) = child_entry_is k e l gives in
    let both = and_parts (list_all is_name e.0) (is_dir_at c (parent_key e.0)) (list_all-contains (is_placed c) c.kinds e w.placed in') in
    let names : list_all is_name (k ++ l.0 ∷ []) ≡ true = ap (list_all is_name) (sym key) ∙ both.0 in
    let last = (and_parts (list_all is_name k) (list_all is_name (l.0 ∷ [])) (sym (list_all-append is_name k (l.0 ∷ [])) ∙ names)).1 in
    let name = and_parts (is_utf8 l.0) (is_proper l.0) (and_parts (is_name l.0) true last).0 in
    record { kind = e.1; held = ap (kind_at c) (sym key) ∙ kind_at-entry c w e in'; is_same = same; proper = name.1; utf8 = name.0 }
  where
    is_name : Text → Bool
    is_name n = is_utf8 n && is_proper n

-- each entry of a directory is listed
pub listed_child : (c : Content) (k : Key) (name : Text) (kind : Kind) → kind_at c (k ++ name ∷ []) ≡ Some kind
    → Contains (children c k) (name, is_dir kind)
unfolding children
listed_child c k name kind h = filter_map-contains (child_entry k) c.kinds (k ++ name ∷ [], kind) (name, is_dir kind)
    (contains_kind_at c (k ++ name ∷ []) kind h)
    (ap (λ o. option_map (λ n. (n, is_dir kind)) (option_and_then only_name o)) (names_past-append k (name ∷ [])))
