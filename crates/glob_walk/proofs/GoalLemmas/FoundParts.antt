-- The parts of what is found: where a hit or a miss comes from, and what item it gives.
use Rattle.std.proofs.Common.{◌≡◌, ⊎_elim, Bool, true, false, cond, List, [], ◌∷◌, map, flat_map, Option, Some, None}
use Rattle.std.proofs.Common.{refl, sym, ap, subst, arith}
use Rattle.std.specs.Prelude.{Contains}
use Rattle.std.specs.declared.io.ErrorKind.{ErrorKind}
use Rattle.std.proofs.lemmas.List.Elements.{Contains-append_left, Contains-append_right, Contains-append_cases}
use Rattle.glob_text.specs.Text.{Text}
use Rattle.glob_tree.specs.Content.{Content, Key, DirEntry, kind_at, children, sorted_entries}
use Rattle.glob_tree.specs.declared.kind.Kind.{Kind}
use Rattle.glob_tree.specs.declared.kind.Kind.TheVariants.{Dir, Shut, Other}
use Rattle.glob_tree.proofs.ContentLemmas.Membership.{Contains-head, Contains-tail, Contains-cases, Contains-nil}
use Rattle.glob_tree.proofs.ContentLemmas.Sorting.{Contains-sorted_entries}
use Rattle.glob_walk.specs.Walks.{Unread, paths}
use Rattle.glob_walk.proofs.GoalLemmas.Finds.{Find, Hit, Miss, deepen, item_under, under, below, list_kind, list_names}

-- an element of a list made part by part is in one of the parts
pub Contains-flat_map : {X Y : Type 0} (f : X → List Y) (xs : List X) (y : Y) → Contains (flat_map f xs) y → (x : X)
    × Contains xs x × Contains (f x) y
Contains-flat_map f [] y h = absurd (Contains-nil y h)
Contains-flat_map f (x ∷ xs) y h = ⊎_elim
    (λ here. (x, Contains-head x xs, here))
    (λ later. let (z, in', e) = Contains-flat_map f xs y later in (z, Contains-tail x xs z in', e))
    (Contains-append_cases (f x) (flat_map f xs) y h)

pub flat_map-contains : {X Y : Type 0} (f : X → List Y) (xs : List X) (x : X) (y : Y) → Contains xs x → Contains
    (f x) y → Contains (flat_map f xs) y
flat_map-contains f [] x y h e = absurd (Contains-nil x h)
flat_map-contains f (z ∷ xs) x y h e = ⊎_elim
    (λ same. Contains-append_left (f z) (flat_map f xs) y (subst (λ w. Contains (f w) y) (sym same) e))
    (λ later. Contains-append_right (f z) (flat_map f xs) y (flat_map-contains f xs x y later e))
    (Contains-cases z xs x h)

pub map-contains : {X Y : Type 0} (f : X → Y) (xs : List X) (x : X) → Contains xs x → Contains (map f xs) (f x)
map-contains f [] x h = absurd (Contains-nil x h)
map-contains f (z ∷ xs) x h = ⊎_elim
    (λ same. subst (λ w. Contains (map f (z ∷ xs)) (f w)) same (Contains-head (f z) (map f xs)))
    (λ later. Contains-tail (f z) (map f xs) (f x) (map-contains f xs x later))
    (Contains-cases z xs x h)

-- hits
pub hit-below : (n : Text) (finds : List Find) (names : Key) → Contains (below n finds) (Hit names) → (ns : Key) ×
    (names ≡ n ∷ ns) × Contains finds (Hit ns)
hit-below n [] names h = absurd (Contains-nil (Hit names) h)
hit-below n (f ∷ fs) names h = ⊎_elim (λ same. first f same) (λ later. let (ns, e, in') = hit-below n fs names later in
    (ns, e, Contains-tail f fs (Hit ns) in')) (Contains-cases (deepen n f) (below n fs) (Hit names) h)
  where
    first : (g : Find) → deepen n g ≡ Hit names → (ns : Key) × (names ≡ n ∷ ns) × Contains (g ∷ fs) (Hit ns)
    first (Hit ns) same = (ns, cc, Contains-head (Hit ns) fs)
    first (Miss ns kind) same = absurd (cc)

pub hit-cond : (b : Bool) (finds : List Find) (x : Find) → Contains (cond b finds []) x → (b ≡ true) × Contains finds x
hit-cond true finds x h = (refl, h)
hit-cond false finds x h = absurd (Contains-nil x h)

pub hit-one : (names ns : Key) → Contains (Hit ns ∷ []) (Hit names) → names ≡ ns
hit-one names ns h = ⊎_elim (λ same. cc) (λ later. absurd (Contains-nil (Hit names) later)) (Contains-cases (Hit ns) [] (Hit names) h)

pub hit-listed : (c : Content) (k : Key) (each : DirEntry → List Find) (names : Key) → Contains (list_names c k each)
    (Hit names) → (e : DirEntry) × Contains (children c k) e × Contains (each e) (Hit names)
hit-listed c k each names = by_kind (kind_at c k)
  where
    by_kind : (found : Option Kind) → Contains (list_kind c k found each) (Hit names) → (e : DirEntry) × Contains
        (children c k) e × Contains (each e) (Hit names)
    by_kind None h = absurd (Contains-nil (Hit names) h)
    by_kind (Some Dir) h = let (e, in', gives) = Contains-flat_map each (sorted_entries (children c k))
        (Hit names) h in (e, Contains-sorted_entries (children c k) e in', gives)
    by_kind (Some (Shut kind)) h = ⊎_elim (λ same. absurd (cc)) (λ later. absurd (Contains-nil (Hit names) later))
        (Contains-cases (Miss [] kind) [] (Hit names) h)
    by_kind (Some Other) h = absurd (Contains-nil (Hit names) h)

-- misses
pub miss-below : (n : Text) (fs : List Find) (names : Key) (kind : ErrorKind) → Contains (below n fs) (Miss names kind)
    → (ns : Key) × (names ≡ n ∷ ns) × Contains fs (Miss ns kind)
miss-below n [] names kind h = absurd (Contains-nil (Miss names kind) h)
miss-below n (f ∷ fs) names kind h = ⊎_elim (first f) (λ later. let (ns, e, in') = miss-below n fs names kind later in
    (ns, e, Contains-tail f fs (Miss ns kind) in')) (Contains-cases (deepen n f) (below n fs) (Miss names kind) h)
  where
    first : (g : Find) → deepen n g ≡ Miss names kind → (ns : Key) × (names ≡ n ∷ ns) × Contains (g ∷ fs) (Miss ns kind)
    first (Hit ns) same = absurd (cc)
    first (Miss ns other) same =
        let child_key : names ≡ n ∷ ns = cc in
        let kinds : other ≡ kind = cc in
        (ns, child_key, (0, omega arith, ap (Miss ns) kinds))

pub no_miss : (b : Bool) (names : Key) (kind : ErrorKind) → Contains (cond b (Hit [] ∷ []) []) (Miss names kind) → ⊥
no_miss true names kind h = ⊎_elim (λ same. differ same) (λ later. Contains-nil (Miss names kind) later)
    (Contains-cases (Hit []) [] (Miss names kind) h)
  where
    differ : Hit [] ≡ Miss names kind → ⊥
    differ e = cc
no_miss false names kind h = Contains-nil (Miss names kind) h

-- each path among the items is the path of a hit
pub hit_of_path : (path : Text) (fs : List Find) (text : Text) → Contains (paths (map (item_under path) fs)) text →
    (names : Key) × (text ≡ under path names) × Contains fs (Hit names)
hit_of_path path [] text h = absurd (Contains-nil text h)
hit_of_path path (Hit ns ∷ fs) text h = ⊎_elim
    (λ same. (ns, sym same, Contains-head (Hit ns) fs))
    (λ later. let (names, e, in') = hit_of_path path fs text later in (names, e, Contains-tail (Hit ns) fs (Hit names) in'))
    (Contains-cases (under path ns) (paths (map (item_under path) fs)) text h)
hit_of_path path (Miss ns kind ∷ fs) text h =
    let (names, e, in') = hit_of_path path fs text h in (names, e, Contains-tail (Miss ns kind) fs (Hit names) in')

pub path_of_hit : (path : Text) (fs : List Find) (names : Key) → Contains fs (Hit names) → Contains
    (paths (map (item_under path) fs)) (under path names)
path_of_hit path [] names h = absurd (Contains-nil (Hit names) h)
path_of_hit path (f ∷ fs) names h = ⊎_elim (first f) (λ later. rest f (path_of_hit path fs names later)) (Contains-cases f fs (Hit names) h)
  where
    first : (g : Find) → g ≡ Hit names → Contains (paths (map (item_under path) (g ∷ fs))) (under path names)
    first g e = subst (λ x. Contains (paths (map (item_under path) (x ∷ fs))) (under path names)) (sym e)
        (Contains-head (under path names) (paths (map (item_under path) fs)))

    rest : (g : Find) → Contains (paths (map (item_under path) fs)) (under path names) → Contains
        (paths (map (item_under path) (g ∷ fs))) (under path names)
    rest (Hit ns) in' = Contains-tail (under path ns) (paths (map (item_under path) fs)) (under path names) in'
    rest (Miss ns kind) in' = in'

-- each error among the items is the error of a miss
pub miss_of_error : (path other : Text) (kind : ErrorKind) (fs : List Find) → Contains (map (item_under path) fs)
    (Unread other kind) → (names : Key) × Contains fs (Miss names kind)
miss_of_error path other kind [] h = absurd (Contains-nil (Unread other kind) h)
miss_of_error path other kind (f ∷ fs) h = ⊎_elim (first f)
    (λ later. let (names, in') = miss_of_error path other kind fs later in (names, Contains-tail f fs (Miss names kind) in'))
    (Contains-cases (item_under path f) (map (item_under path) fs) (Unread other kind) h)
  where
    first : (g : Find) → item_under path g ≡ Unread other kind → (names : Key) × Contains (g ∷ fs) (Miss names kind)
    first (Hit ns) same = absurd (cc)
    first (Miss ns shut) same = let kinds : shut ≡ kind = cc in (ns, (0, omega arith, ap (Miss ns) kinds))
