-- Files in memory, as lists of what is at keys.
use Rattle.std.proofs.Common.{◌≡◌, ℕ, ◌+◌, ◌<◌, Bool, true, false, cond, ◌&&◌, List, [], ◌∷◌, ◌++◌, length, map, take}
use Rattle.std.proofs.Common.{Option, Some, None, refl, ap, sym, ◌∙◌}
use Rattle.std.specs.Prelude.{find, nat_eq, bytes_eq, option_map, option_and_then, unwrap_or, is_some, slice_index_or}
use Rattle.std.specs.Borrow.{Bor}
use Rattle.std.specs.Cmp.Derive.Mapped.{pointwise-map}
use Rattle.std.specs.Cmp.Lexicographic.{pointwise}
use Rattle.std.specs.List.{filter, cons_option}
use Rattle.std.proofs.lemmas.List.{append_assoc, append-nil, take_more, map-append}
use Rattle.std.proofs.lemmas.List.Elements.{filter-append, filter_map-append}
use Rattle.glob.specs.Text.{Text}
use Rattle.glob.specs.Characters.{slash}
use Rattle.glob.specs.Pieces.{begins_with}
use Rattle.glob_tree.specs.Content.{Key, same_key, kind_at, is_dir, is_dir_at, child_key, origin, names_past, only_name}
use Rattle.glob_tree.specs.Paths.{nul}
use Rattle.glob_tree.specs.Private.Listing.{name_bytes}
use Rattle.glob_tree.specs.declared.kind.Kind.{Kind}
use Rattle.glob_replay_walks.specs.MemFiles.{key_of, key_at, value_at, content_of, name_in, names_at, strays_at}
use Rattle.glob_replay_walks.specs.declared.mem_files.Keyed.{Keyed}

-- a test of names as a test of keys
pub same_key-names : (ks ls : List (Bor Text))
    → pointwise (λ a b. pointwise nat_eq a.now b.now) ks ls ≡ same_key (key_of ks) (key_of ls)
same_key-names ks ls = sym (pointwise-map (λ (n : Bor Text). n.now) bytes_eq ks ls)

-- a key is in the directory whose names are all but its last
pub name_in-last : (k parent : Key) (n : Text) → name_in k (parent ++ n ∷ []) ≡ cond (same_key k parent) (Some n) None
name_in-last [] [] n = refl
name_in-last [] (p ∷ []) n = refl
name_in-last [] (p ∷ q ∷ qs) n = refl
name_in-last (m ∷ []) [] n = by_test (bytes_eq m n)
  where
    by_test : (b : Bool) → option_and_then only_name (cond b (Some []) None) ≡ None
    by_test true = refl
    by_test false = refl
name_in-last (m ∷ l ∷ ls) [] n = by_test (bytes_eq m n)
  where
    by_test : (b : Bool) → option_and_then only_name (cond b None None) ≡ None
    by_test true = refl
    by_test false = refl
name_in-last (m ∷ ms) (p ∷ ps) n = by_test (bytes_eq m p) (name_in-last ms ps n)
  where
    by_test : (b : Bool) → name_in ms (ps ++ n ∷ []) ≡ cond (same_key ms ps) (Some n) None
        → option_and_then only_name (cond b (names_past ms (ps ++ n ∷ [])) None) ≡ cond (b && same_key ms ps) (Some n) None
    by_test true h = h
    by_test false h = refl

-- the root is in no directory
pub name_in-nil : (k : Key) → name_in k [] ≡ None
name_in-nil [] = refl
name_in-nil (m ∷ ms) = refl

module _ {T A : Type 0} (k : Key) (list : List (Keyed T A)) (r : Option (Bor (Keyed T A)))
    (is : option_map (λ e. e.now) r ≡ find (λ e. same_key k (key_at e)) list) where
  pub value-found : (e : Bor (Keyed T A)) → r ≡ Some e → Some e.now.what ≡ value_at k list
  value-found e was = ap (λ o. option_map (λ (x : Keyed T A). x.what) (option_map (λ (b : Bor (Keyed T A)). b.now) o))
      (sym was) ∙ ap (option_map (λ (x : Keyed T A). x.what)) is

  pub value-none : r ≡ None → None ≡ value_at k list
  value-none was = ap (λ o. option_map (λ (x : Keyed T A). x.what) (option_map (λ (b : Bor (Keyed T A)). b.now) o))
      (sym was) ∙ ap (option_map (λ (x : Keyed T A). x.what)) is

-- what a list has at a key, with its elements in another form
module _ {T U A : Type 0} (to : T → U) (k : Key) where
  pub value-mapped : (list : List (Keyed T A))
      → option_map (λ (x : Key × U). x.1) (find (λ (x : Key × U). same_key k x.0)
      (map (λ (e : Keyed T A). (key_at e, to e.what)) list)) ≡ option_map to (value_at k list)
  value-mapped [] = refl
  value-mapped (e ∷ es) = by_test (same_key k (key_at e)) (value-mapped es)
    where
      by_test : (b : Bool)
          → option_map (λ (x : Key × U). x.1) (find (λ (x : Key × U). same_key k x.0)
          (map (λ (g : Keyed T A). (key_at g, to g.what)) es)) ≡ option_map to (value_at k es)
          → option_map (λ (x : Key × U). x.1) (cond b (Some (key_at e, to e.what))
          (find (λ (x : Key × U). same_key k x.0) (map (λ (g : Keyed T A). (key_at g, to g.what)) es)))
          ≡ option_map to (option_map (λ (x : Keyed T A). x.what) (cond b (Some e) (find (λ (x : Keyed T A). same_key k (key_at x)) es)))
      by_test true h = refl
      by_test false h = h

same_value : {T : Type 0} (o : Option T) → option_map (λ x. x) o ≡ o
same_value None = refl
same_value (Some x) = refl

-- what the content has at a key
pub kind_at-value : {A : Type 0} (kinds : List (Keyed Kind A)) (k : Key) → kind_at (content_of kinds) k ≡ value_at k kinds
unfolding kind_at
kind_at-value kinds k = value-mapped (λ kind. kind) k kinds ∙ same_value (value_at k kinds)

-- whether a directory is there
pub is_dir_at-some : {A : Type 0} (kinds : List (Keyed Kind A)) (k : Key) (kind : Kind) → Some kind ≡ value_at k kinds →
    is_dir kind ≡ is_dir_at (content_of kinds) k
is_dir_at-some kinds k kind is = ap (λ o. unwrap_or (option_map is_dir o) false) (is ∙ sym (kind_at-value kinds k))

pub is_dir_at-none : {A : Type 0} (kinds : List (Keyed Kind A)) (k : Key) → None ≡ value_at k kinds → false ≡ is_dir_at (content_of kinds) k
is_dir_at-none kinds k is = ap (λ o. unwrap_or (option_map is_dir o) false) (is ∙ sym (kind_at-value kinds k))

-- one name further
pub child-some : {A : Type 0} (kinds : List (Keyed Kind A)) (k : Key) (n : Text) (kind : Kind) → Some kind ≡ value_at (k ++ n ∷ []) kinds
    → Some (k ++ n ∷ []) ≡ child_key (content_of kinds) k n
child-some kinds k n kind is = ap (λ o. cond (is_some o) (Some (k ++ n ∷ [])) None) (is ∙ sym (kind_at-value kinds (k ++ n ∷ [])))

pub child-none : {A : Type 0} (kinds : List (Keyed Kind A)) (k : Key) (n : Text) → None ≡ value_at (k ++ n ∷ []) kinds
    → None ≡ child_key (content_of kinds) k n
child-none kinds k n is = ap (λ o. cond (is_some o) (Some (k ++ n ∷ [])) None) (is ∙ sym (kind_at-value kinds (k ++ n ∷ [])))

-- the same, for equal lists
pub value-same : {T A : Type 0} (r : Option T) (ks ls : List (Bor Text)) (list more : List (Keyed T A)) → r ≡ value_at (key_of ks) list
    → ks ≡ ls → list ≡ more → r ≡ value_at (key_of ls) more
value-same r ks ls list more is same all = is ∙ ap (λ (xs : List (Bor Text)). value_at (key_of xs) list) same ∙
    ap (value_at (key_of ls)) all

pub key_of-more : (ks : List (Bor Text)) (n : Bor Text) → key_of (ks ++ n ∷ []) ≡ key_of ks ++ n.now ∷ []
key_of-more ks n = map-append (λ (m : Bor Text). m.now) ks (n ∷ [])

-- a path begins at the root
pub origin-root : {A : Type 0} (kinds : List (Keyed Kind A)) (path : Text) → origin (content_of kinds) path ≡ []
origin-root kinds path = same (begins_with slash path)
  where
    same : (b : Bool) → cond {A = Key} b [] [] ≡ []
    same true = refl
    same false = refl

pub name_bytes-append : (ms ns : List Text) → name_bytes (ms ++ ns) ≡ name_bytes ms ++ name_bytes ns
name_bytes-append [] ns = refl
name_bytes-append (m ∷ ms) ns = ap (λ bs. m ++ nul ∷ bs) (name_bytes-append ms ns) ∙
    sym (append_assoc m (nul ∷ name_bytes ms) (name_bytes ns))

-- the bytes of names, and of more names
more_bytes : (bytes before : List ℕ) (ms ns all : List Text) → all ≡ ms ++ ns → bytes ≡ before ++ name_bytes ms
    → bytes ++ name_bytes ns ≡ before ++ name_bytes all
more_bytes bytes before ms ns all is so_far =
    ap (λ bs. bs ++ name_bytes ns) so_far
    ∙ append_assoc before (name_bytes ms) (name_bytes ns)
    ∙ ap (λ bs. before ++ bs) (sym (name_bytes-append ms ns) ∙ ap name_bytes (sym is))

module _ {A : Type 0} (k : Key) (list : List (Keyed (Bor Text) A)) (i : ℕ) (e : Keyed (Bor Text) A)
    (within : i < length list) (read : e ≡ slice_index_or list i e) (bytes before : List ℕ)
    (so_far : bytes ≡ before ++ name_bytes (strays_at k (take i list))) where
  one : Bool → List Text
  one b = map (λ (s : Keyed (Bor Text) A). s.what.now) (cond b (e ∷ []) [])

  longer : strays_at k (take (i + 1) list) ≡ strays_at k (take i list) ++ one (same_key k (key_at e))
  unfolding one
  longer =
      ap (strays_at k) (take_more list i e within)
      ∙ ap (map (λ (s : Keyed (Bor Text) A). s.what.now)) (filter-append
      (λ (s : Keyed (Bor Text) A). same_key k (key_at s)) (take i list) (slice_index_or list i e ∷ []))
      ∙ map-append (λ (s : Keyed (Bor Text) A). s.what.now) (filter (λ (s : Keyed (Bor Text) A). same_key k (key_at s))
      (take i list)) (filter (λ (s : Keyed (Bor Text) A). same_key k (key_at s)) (slice_index_or list i e ∷ []))
      ∙ ap (λ (x : Keyed (Bor Text) A). strays_at k (take i list) ++ strays_at k (x ∷ [])) (sym read)

  pub stray_here : same_key k (key_at e) ≡ true → bytes ++ (e.what.now ++ nul ∷ []) ≡ before ++ name_bytes (strays_at k (take (i + 1) list))
  unfolding one
  stray_here here = more_bytes bytes before (strays_at k (take i list)) (e.what.now ∷ [])
      (strays_at k (take (i + 1) list)) (longer ∙ ap (λ b. strays_at k (take i list) ++ one b) here) so_far

  pub stray_elsewhere : same_key k (key_at e) ≡ false → bytes ≡ before ++ name_bytes (strays_at k (take (i + 1) list))
  unfolding one
  stray_elsewhere apart = so_far ∙ ap (λ ns. before ++ name_bytes ns)
      (sym (longer ∙ ap (λ b. strays_at k (take i list) ++ one b) apart ∙ append-nil (strays_at k (take i list))))

module _ {A : Type 0} (k : Key) (list : List (Keyed Kind A)) (i : ℕ) (e : Keyed Kind A)
    (within : i < length list) (read : e ≡ slice_index_or list i e) (bytes before : List ℕ)
    (so_far : bytes ≡ before ++ name_bytes (names_at k (take i list))) where
  longer_names : names_at k (take (i + 1) list) ≡ names_at k (take i list) ++ cons_option (name_in k (key_at e)) []
  longer_names =
      ap (names_at k) (take_more list i e within)
      ∙ filter_map-append (λ (x : Keyed Kind A). name_in k (key_at x)) (take i list) (slice_index_or list i e ∷ [])
      ∙ ap (λ (x : Keyed Kind A). names_at k (take i list) ++ cons_option (name_in k (key_at x)) []) (sym read)

  pub name_here : (n : Text) → name_in k (key_at e) ≡ Some n → bytes ++ (n ++ nul ∷ []) ≡ before ++
      name_bytes (names_at k (take (i + 1) list))
  name_here n here = more_bytes bytes before (names_at k (take i list)) (n ∷ []) (names_at k (take (i + 1) list))
      (longer_names ∙ ap (λ o. names_at k (take i list) ++ cons_option o []) here) so_far

  pub name_elsewhere : name_in k (key_at e) ≡ None → bytes ≡ before ++ name_bytes (names_at k (take (i + 1) list))
  name_elsewhere apart = so_far ∙ ap (λ ns. before ++ name_bytes ns)
      (sym (longer_names ∙ ap (λ o. names_at k (take i list) ++ cons_option o []) apart ∙ append-nil (names_at k (take i list))))
