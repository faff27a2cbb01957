-- A descent by `**`: all sufficient numbers of levels give the same marks, so its equation needs no number.
use Rattle.std.proofs.Common.{◌≡◌, ℕ, zero, suc, ◌+◌, ◌<◌, ◌≤◌, max, Bool, true, false, cond, ⊎_elim, List, [], ◌∷◌}
use Rattle.std.proofs.Common.{◌++◌, length, replicate, Option, Some, None, refl, ap, sym, ◌∙◌, arith}
use Rattle.std.specs.Prelude.{Contains, option_map, unwrap_or, fold, flat_map}
use Rattle.std.proofs.lemmas.Bool.{and_parts, both_ways}
use Rattle.std.proofs.lemmas.List.{length-append}
use Rattle.glob_text.specs.Text.{Text}
use Rattle.glob_tree.specs.Paths.{child}
use Rattle.glob_tree.specs.Content.{Content, Key, DirEntry, children, list_result, sorted_entries, is_dir, is_dir_at, kind_at}
use Rattle.glob_walk.specs.Walks.{Mark, Work, Next, after_listing, by_name, by_match, list_directory, is_entered}
use Rattle.glob_walk.specs.Walks.{descent, levels, enter, meet}
use Rattle.glob_walk.specs.Components.{Recursive, Literal, Wild, component_kind, begins_recursive}
use Rattle.glob_pattern.specs.Matching.Components.{is_open}
use Rattle.glob_pattern.specs.declared.options.MatchOptions.{MatchOptions}
use Rattle.glob_tree.specs.declared.kind.Kind.{Kind}
use Rattle.glob_tree.proofs.ContentLemmas.Membership.{Contains-nil, Contains-cases, Contains-head, Contains-tail}
use Rattle.glob_tree.proofs.ContentLemmas.Contents.{IsContent, contains_kind_at}
use Rattle.glob_tree.proofs.ContentLemmas.Directories.{LeadsTo, LeadsTo-list_result, ListsAs, Read, Unreadable, ListsAs-from_leads}
use Rattle.glob_tree.proofs.ContentLemmas.Sorting.{Contains-sorted_entries}

-- two functions that agree on each element of a list
pub flat_map_agree : {X Y : Type 0} (f g : X → List Y) (xs : List X) → ((x : X) → Contains xs x → f x ≡ g x) → flat_map f xs ≡ flat_map g xs
flat_map_agree f g [] same = refl
flat_map_agree f g (x ∷ xs) same = λ i. same x (Contains-head x xs) i ++ flat_map_agree f g xs (λ y in'. same y
    (Contains-tail x xs y in')) i

-- What follows a listing depends only on what follows at the entries of the directory.
pub list_directory_agree : (c : Content) (path : Text) (k : Key) → LeadsTo c path k → (before : List Mark) (each other : Next)
    → ((e : DirEntry) → Contains (children c k) e → each e.0 e.1 ≡ other e.0 e.1) → list_directory c path before each ≡
    list_directory c path before other
list_directory_agree c path k at before each other same = ap (λ ms. Work path ∷ ms) (by_answer (ListsAs-from_leads c path k at))
  where
    by_answer : ListsAs c path k → after_listing path before each (list_result c path) ≡ after_listing path before
        other (list_result c path)
    by_answer (Read entries answer) = rw answer
        (ap (λ ms. replicate (length (children c k)) (Work path) ++ before ++ ms)
        (flat_map_agree (λ e. each e.0 e.1) (λ e. other e.0 e.1) (sorted_entries (children c k)) (λ e in'. same e
        (Contains-sorted_entries (children c k) e in'))))
    by_answer (Unreadable kind entries answer) = rw answer refl

-- the longest of some keys, and n, is at least as long as each
longest_from : (n : ℕ) (es : List (Key × Kind)) → n ≤ fold (λ m e. max m (length e.0)) n es
longest_from n [] = omega arith
longest_from n (e ∷ es) = omega (arith, longest_from (max n (length e.0)) es)

longest : (n : ℕ) (es : List (Key × Kind)) (e : Key × Kind) → Contains es e → length e.0 ≤ fold (λ m f. max m (length f.0)) n es
longest n [] e in' = absurd (Contains-nil e in')
longest n (f ∷ es) e in' = ⊎_elim
    (λ same. omega (arith, longest_from (max n (length f.0)) es, ap (λ g. length g.0) same))
    (λ later. longest (max n (length f.0)) es e later)
    (Contains-cases f es e in')

-- the number of names in the longest key
abbrev deepest : Content → ℕ
deepest c = fold (λ n e. max n (length e.0)) 0 c.kinds

-- no key is deeper than the levels of its content
pub key_depth : (c : Content) (k : Key) (kind : Kind) → kind_at c k ≡ Some kind → length k < levels c
key_depth c k kind held = omega (arith, longest 0 c.kinds (k, kind) (contains_kind_at c k kind held))

-- no directory is deeper than the levels of its content
pub depth : (c : Content) (k : Key) → is_dir_at c k ≡ true → length k < levels c
depth c k d = of_kind (kind_at c k) refl d
  where
    of_kind : (o : Option Kind) → kind_at c k ≡ o → unwrap_or (option_map is_dir o) false ≡ true → length k < levels c
    of_kind None e h = absurd (both_ways false refl h)
    of_kind (Some kind) e h = key_depth c k kind e

-- a branch needs to agree only if it is taken
cond_agree : {X : Type 0} (b : Bool) (x y z : X) → (b ≡ true → x ≡ y) → cond b x z ≡ cond b y z
cond_agree true x y z same = same refl
cond_agree false x y z same = refl

-- what is entered is a directory
pub is_entered-directory : (o : MatchOptions) (name : Text) (d : Bool) → is_entered o name d ≡ true → d ≡ true
is_entered-directory o name d h = (and_parts d (is_open o name) h).0

-- Below a directory at k, all numbers of levels that reach the deepest keys give the same marks.
pub descent_enough : (c : Content) → IsContent c → (o : MatchOptions) (each : Text → Text → Bool → List Mark) (n m : ℕ)
    (path : Text) (k : Key) → LeadsTo c path k
    → levels c ≤ length k + n → levels c ≤ length k + m → descent c o each n path ≡ descent c o each m path
unfolding descent
descent_enough c w o each zero m path k at h g = absurd (omega (arith, h, depth c k at.directory))
descent_enough c w o each (suc n) zero path k at h g = absurd (omega (arith, g, depth c k at.directory))
descent_enough c w o each (suc n) (suc m) path k at h g = list_directory_agree c path k at []
    (λ name d. each (child path name) name d ++ (cond (is_entered o name d) (descent c o each n (child path name)) []))
    (λ name d. each (child path name) name d ++ (cond (is_entered o name d) (descent c o each m (child path name)) []))
    (λ e in'. ap (λ ms. each (child path e.0) e.0 e.1 ++ ms)
    (cond_agree (is_entered o e.0 e.1) (descent c o each n (child path e.0)) (descent c o each m (child path e.0)) [] (λ entered.
    let deeper = length-append k (e.0 ∷ []) in
    descent_enough c w o each n m (child path e.0) (k ++ e.0 ∷ [])
    (LeadsTo-list_result c w path k at e in' (is_entered-directory o e.0 e.1 entered))
    (omega (arith, h, deeper)) (omega (arith, g, deeper)))))

-- A descent by `**` lists the directory, and then does the same in each entry that it enters.
pub descent-levels : (c : Content) → IsContent c → (o : MatchOptions) (each : Text → Text → Bool → List Mark)
    (path : Text) (k : Key) → LeadsTo c path k
    → descent c o each (levels c) path
    ≡ list_directory c path [] (λ name d.
    each (child path name) name d ++ (cond (is_entered o name d) (descent c o each (levels c) (child path name)) []))
unfolding descent
descent-levels c w o each path k at = list_directory_agree c path k at []
    (λ name d. each (child path name) name d ++ (cond (is_entered o name d) (descent c o each (deepest c) (child path name)) []))
    (λ name d. each (child path name) name d ++ (cond (is_entered o name d) (descent c o each (levels c) (child path name)) []))
    (λ e in'. ap (λ ms. each (child path e.0) e.0 e.1 ++ ms)
    (cond_agree (is_entered o e.0 e.1) (descent c o each (deepest c) (child path e.0)) (descent c o each (levels c)
    (child path e.0)) [] (λ entered.
    let deeper = length-append k (e.0 ∷ []) in
    descent_enough c w o each (deepest c) (levels c) (child path e.0) (k ++ e.0 ∷ [])
    (LeadsTo-list_result c w path k at e in' (is_entered-directory o e.0 e.1 entered))
    (omega (arith, deeper)) (omega (arith, deeper)))))

module _ (c : Content) (o : MatchOptions) (directories : Bool) where
  -- what each kind of component does
  pub enter-literal : (t : Text) (ts : List Text) (path : Text) (d : Bool) → component_kind t ≡ Literal
      → enter c o directories (t ∷ ts) path d ≡ by_name c (enter c o directories ts) t path d
  unfolding enter
  enter-literal t ts path d kind = rw (kind, enter) refl

  pub enter-wild : (t : Text) (ts : List Text) (path : Text) → component_kind t ≡ Wild
      → enter c o directories (t ∷ ts) path true ≡ by_match c o (enter c o directories ts) t path
  unfolding enter
  enter-wild t ts path kind = rw (kind, enter) refl

  -- a component with wildcards does nothing at a non-directory
  pub enter_none : (t : Text) (ts : List Text) (path : Text) → component_kind t ≡ Wild → enter c o directories (t ∷ ts) path false ≡ []
  unfolding enter
  enter_none t ts path kind = rw (kind, enter) refl

  -- adjacent `**` count as one
  pub enter-run : (t : Text) (ts : List Text) (path : Text) (d : Bool) → component_kind t ≡ Recursive → begins_recursive ts ≡ true
      → enter c o directories (t ∷ ts) path d ≡ enter c o directories ts path d
  unfolding enter
  enter-run t ts path d kind more = rw (kind, more, enter) refl

  pub enter-recursive_none : (t : Text) (ts : List Text) (path : Text) → component_kind t ≡ Recursive → begins_recursive ts ≡ false
      → enter c o directories (t ∷ ts) path false ≡ []
  unfolding enter
  enter-recursive_none t ts path kind last = rw (kind, last, enter) refl

  pub enter-levels : (t : Text) (ts : List Text) (path : Text) → component_kind t ≡ Recursive → begins_recursive ts ≡ false
      → enter c o directories (t ∷ ts) path true ≡ descent c o (meet c o directories ts) (levels c) path
  unfolding enter
  enter-levels t ts path kind last = rw (kind, last, enter) refl

  -- the last `**` in a place lists the directory: each entry is met, and then entered
  pub enter-recursive : IsContent c → (t : Text) (ts : List Text) (path : Text) (k : Key) → component_kind t ≡
      Recursive → begins_recursive ts ≡ false → LeadsTo c path k
      → enter c o directories (t ∷ ts) path true
      ≡ list_directory c path [] (λ name d. meet c o directories ts (child path name) name d
      ++ (cond (is_entered o name d) (enter c o directories (t ∷ ts) (child path name) true) []))
  enter-recursive w t ts path k kind last at =
      enter-levels t ts path kind last
      ∙ descent-levels c w o (meet c o directories ts) path k at
      ∙ list_directory_agree c path k at []
      (λ name d. meet c o directories ts (child path name) name d ++ (cond (is_entered o name d)
      (descent c o (meet c o directories ts) (levels c) (child path name)) []))
      (λ name d. meet c o directories ts (child path name) name d ++ (cond (is_entered o name d) (enter c o directories
      (t ∷ ts) (child path name) true) []))
      (λ e in'. ap (λ ms. meet c o directories ts (child path e.0) e.0 e.1 ++ (cond (is_entered o e.0 e.1) ms []))
      (sym (enter-levels t ts (child path e.0) kind last)))
