-- What a tree lists, in order.
use Rattle.std.proofs.Common.{◌≡◌, ℕ, ◌+◌, ◌<◌, Bool, true, false, List, [], ◌∷◌, length, get_or, Option, Some, None}
use Rattle.std.proofs.Common.{refl, ap, subst, ◌∙◌, arith}
use Rattle.std.specs.Prelude.{map, Contains, ⊤}
use Rattle.std.specs.List.Sorted.{IsPermutation, IsSortedByKey}
use Rattle.std.specs.Cmp.Lexicographic.{slice_cmp}
use Rattle.std.specs.Ordering.{nat_cmp, is_lt}
use Rattle.std.proofs.lemmas.List.{get_or-map, length-map}
use Rattle.std.proofs.lemmas.List.Sorted.{IsPermutation-map, IsPermutation-sym, IsPermutation-trans}
use Rattle.std.proofs.lemmas.List.Sorted.{Contains-permutation, length_permutation}
use Rattle.glob_text.specs.Text.{Text}
use Rattle.glob_tree.specs.Content.{Content, Key, DirEntry, ListAnswer, Entries, Fails, NoDirectory, sorted_entries}
use Rattle.glob_tree.specs.Content.{list_result, list_found, list_of, kind_at, resolve, children}
use Rattle.glob_tree.specs.Answers.{entries_of, names_of, IsListAnswer, IsNamesAnswer, IsEntriesAnswer}
use Rattle.glob_tree.specs.declared.tree.Entry.{Entry}
use Rattle.glob_tree.specs.declared.kind.Kind.{Kind}
use Rattle.glob_tree.specs.declared.kind.Kind.TheVariants.{Dir, Shut, Other}
use Rattle.glob_tree.proofs.ContentLemmas.Contents.{IsContent}
use Rattle.glob_tree.proofs.ContentLemmas.Sorting.{AreApart, children_apart, sorted_is_ascending}
use Rattle.glob_tree.proofs.ContentLemmas.Names.{names_in_order}

-- the entries of the directory, in order
abbrev pub IsInOrder : ListAnswer → List DirEntry → Type 0
IsInOrder (Entries es) answer = answer ≡ sorted_entries es
IsInOrder (Fails kind) answer = ⊥
IsInOrder NoDirectory answer = ⊤

-- the directory has the entry
abbrev pub IsHeld : ListAnswer → DirEntry → Type 0
IsHeld (Entries es) e = Contains es e
IsHeld (Fails kind) e = ⊥
IsHeld NoDirectory e = ⊤

-- the unit of a listing was spent, but the limit does not allow its entries
abbrev pub IsCut : ListAnswer → ℕ → ℕ → Type 0
IsCut (Entries es) spent limit = limit < spent + length es
IsCut (Fails kind) spent limit = ⊥
IsCut NoDirectory spent limit = ⊤

-- no name is listed twice
pub AreApart-list_result : (c : Content) → IsContent c → (path : Text) (es : List DirEntry) → list_result c path ≡ Entries es → AreApart es
unfolding list_result
AreApart-list_result c w path es h = of_key (resolve c path) h
  where
    of_kind : (k : Key) (o : Option Kind) → list_of c k o ≡ Entries es → AreApart es
    of_kind k None e = absurd (cc)
    of_kind k (Some Dir) e = let same : children c k ≡ es = cc in subst AreApart same (children_apart c w k)
    of_kind k (Some (Shut kind)) e = absurd (cc)
    of_kind k (Some Other) e = absurd (cc)

    of_key : (o : Option Key) → list_found c o ≡ Entries es → AreApart es
    of_key None e = absurd (cc)
    of_key (Some k) e = of_kind k (kind_at c k) e

sorted_listed : {A : Type 0} (es : List (Entry A)) → IsSortedByKey (λ e. e.name) (slice_cmp nat_cmp) es → IsSortedByKey
    (λ e. e.0) (slice_cmp nat_cmp) (entries_of es)
sorted_listed {A} [] up k d low high = absurd (omega (arith, high))
sorted_listed {A} (e ∷ es) up k d low high =
    let f : Entry A → DirEntry = λ x. (x.name, x.is_dir) in
    let within : k + 1 < length (e ∷ es) = simp length-map at high in
    let later = get_or-map f (e ∷ es) (k + 1) e d within in
    let first = get_or-map f (e ∷ es) k e d (omega (arith, within)) in
    ap (λ x. is_lt (slice_cmp nat_cmp x.0 (get_or (map f (e ∷ es)) k d).0)) later
    ∙ ap (λ x. is_lt (slice_cmp nat_cmp (get_or (e ∷ es) (k + 1) e).name x.0)) first
    ∙ up k e low within

pub in_order : {A : Type 0} (c : Content) → IsContent c → (path : Text) (es sorted : List (Entry A)) → IsListAnswer
    (list_result c path) (entries_of es)
    → IsPermutation es sorted → IsSortedByKey (λ e. e.name) (slice_cmp nat_cmp) sorted → IsInOrder (list_result c path) (entries_of sorted)
in_order {A} c w path es sorted answer moved up = of_answer (list_result c path) refl answer
  where
    of_answer : (a : ListAnswer) → list_result c path ≡ a → IsListAnswer a (entries_of es) → IsInOrder a (entries_of sorted)
    of_answer (Entries xs) e h =
        let f : Entry A → DirEntry = λ x. (x.name, x.is_dir) in
        sorted_is_ascending xs (entries_of sorted) (AreApart-list_result c w path xs e)
        (IsPermutation-trans xs (entries_of es) (entries_of sorted) h (IsPermutation-map f es sorted moved)) (sorted_listed sorted up)
    of_answer (Fails kind) e h = h
    of_answer NoDirectory e h = tt

-- a permutation of the returned entries has no others
pub contains_moved : {A : Type 0} (es sorted : List (Entry A)) → IsPermutation es sorted → (e : DirEntry) → Contains
    (entries_of sorted) e → Contains (entries_of es) e
contains_moved {A} es sorted moved e in' =
    let f : Entry A → DirEntry = λ x. (x.name, x.is_dir) in
    Contains-permutation (entries_of sorted) (entries_of es) e (IsPermutation-sym (entries_of es) (entries_of sorted)
    (IsPermutation-map f es sorted moved)) in'

-- what is reported as a directory is an entry of the directory
pub held : {A : Type 0} (c : Content) (path : Text) (kinds : Bool) (es sorted : List (Entry A)) → IsEntriesAnswer kinds
    (list_result c path) (entries_of es)
    → IsPermutation es sorted → (e : DirEntry) → Contains (entries_of sorted) e → e.1 ≡ true → IsHeld (list_result c path) e
held {A} c path kinds es sorted answer moved e in' directory = of_answer kinds (list_result c path) answer
  where
    of_answer : (k : Bool) (a : ListAnswer) → IsEntriesAnswer k a (entries_of es) → IsHeld a e
    of_answer true (Entries xs) h = Contains-permutation (entries_of es) xs e (IsPermutation-sym xs (entries_of es) h)
        (contains_moved es sorted moved e in')
    of_answer false (Entries xs) h = h.1 e (contains_moved es sorted moved e in') directory
    of_answer true (Fails kind) h = absurd h
    of_answer false (Fails kind) h = absurd h
    of_answer true NoDirectory h = tt
    of_answer false NoDirectory h = tt

pub is_cut : {A : Type 0} (c : Content) (path : Text) (kinds : Bool) (es : List (Entry A)) (spent limit : ℕ)
    → IsEntriesAnswer kinds (list_result c path) (entries_of es)
    → limit < spent + length es → IsCut (list_result c path) spent limit
is_cut {A} c path kinds es spent limit answer few = of_answer kinds (list_result c path) answer
  where
    f : Entry A → DirEntry
    f x = (x.name, x.is_dir)

    of_answer : (k : Bool) (a : ListAnswer) → IsEntriesAnswer k a (entries_of es) → IsCut a spent limit
    of_answer true (Entries xs) h = omega (arith, few, simp length-map at (length_permutation {X = DirEntry} xs (entries_of es) h))
    of_answer false (Entries xs) h = omega (
      arith,
      few,
      simp length-map at (length_permutation {X = Text} (names_of xs)
          (names_of (entries_of es)) h.0),
    )
    of_answer true (Fails kind) h = absurd h
    of_answer false (Fails kind) h = absurd h
    of_answer true NoDirectory h = tt
    of_answer false NoDirectory h = tt

-- the names in a listing of names, in order
pub names_listed : {A : Type 0} (c : Content) → IsContent c → (path : Text) (xs : List DirEntry) → list_result c path ≡
    Entries xs → (es sorted : List (Entry A))
    → IsNamesAnswer (Entries xs) (entries_of es) → IsPermutation es sorted → IsSortedByKey (λ e. e.name) (slice_cmp nat_cmp) sorted
    → names_of (entries_of sorted) ≡ names_of (sorted_entries xs)
names_listed {A} c w path xs is es sorted answer moved up =
    let f : Entry A → DirEntry = λ x. (x.name, x.is_dir) in
    let name : DirEntry → Text = λ e. e.0 in
    names_in_order xs (entries_of sorted) (AreApart-list_result c w path xs is)
    (IsPermutation-trans (names_of xs) (names_of (entries_of es)) (names_of (entries_of sorted)) answer.0
    (IsPermutation-map name (entries_of es) (entries_of sorted) (IsPermutation-map f es sorted moved)))
    (sorted_listed sorted up)
