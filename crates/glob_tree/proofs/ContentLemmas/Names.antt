-- The names of a directory have one ascending order, whatever their kinds.
use Rattle.std.proofs.Common.{◌≡◌, ◌+◌, ◌<◌, Bool, true, false, cond, List, [], ◌∷◌, ⊎_elim, length, get_or, Result, Ok}
use Rattle.std.proofs.Common.{Err, refl, ap, sym, ◌∙◌, arith}
use Rattle.std.specs.Prelude.{map, Contains, IfOk, Vec}
use Rattle.std.specs.List.Sorted.{IsPermutation, IsSortedByKey}
use Rattle.std.specs.Cmp.Lexicographic.{slice_cmp}
use Rattle.std.specs.Ordering.{nat_cmp, is_lt}
use Rattle.std.proofs.lemmas.List.{get_or-map, length-map}
use Rattle.std.proofs.lemmas.List.Sorted.{IsPermutation-map, IsPermutation-sym, Contains-permutation}
use Rattle.glob_text.specs.Text.{Text}
use Rattle.glob_tree.specs.Answers.{entries_of, names_of, IsListAnswer, IsNamesAnswer}
use Rattle.glob_tree.specs.Content.{DirEntry, ListAnswer, Entries, Fails, NoDirectory, is_before, insert_entry, sorted_entries}
use Rattle.glob_tree.specs.declared.tree.Entry.{Entry}
use Rattle.glob_tree.proofs.ContentLemmas.Membership.{Contains-head, Contains-tail, Contains-cases, Contains-nil}
use Rattle.glob_tree.proofs.ContentLemmas.Sorting.{AreApart, sorted_is_ascending}

-- the entry of a name, with any kind
entry : Text → DirEntry
entry name = (name, false)

-- the entries with their kinds dropped
plain : List DirEntry → List DirEntry
plain es = map entry (names_of es)

names_plain : (es : List DirEntry) → names_of (plain es) ≡ names_of es
unfolding plain entry
names_plain [] = refl
names_plain (e ∷ es) = ap (λ ns. e.0 ∷ ns) (names_plain es)

-- sorting looks only at names
plain-insert_entry : (e : DirEntry) (es : List DirEntry) → insert_entry (e.0, false) (plain es) ≡ plain (insert_entry e es)
unfolding plain entry
plain-insert_entry e [] = refl
plain-insert_entry e (f ∷ es) = by_test (is_before e f) (plain-insert_entry e es)
  where
    by_test : (b : Bool) → insert_entry (e.0, false) (plain es) ≡ plain (insert_entry e es)
        → cond b ((e.0, false) ∷ (f.0, false) ∷ plain es) ((f.0, false) ∷ insert_entry (e.0, false) (plain es)) ≡ plain
        (cond b (e ∷ f ∷ es) (f ∷ insert_entry e es))
    by_test true h = refl
    by_test false h = ap (λ fs. (f.0, false) ∷ fs) h

plain-sorted_entries : (es : List DirEntry) → sorted_entries (plain es) ≡ plain (sorted_entries es)
unfolding plain entry
plain-sorted_entries [] = refl
plain-sorted_entries (e ∷ es) = ap (insert_entry (e.0, false)) (plain-sorted_entries es) ∙ plain-insert_entry e (sorted_entries es)

plain-contains : (es : List DirEntry) (e : DirEntry) → Contains (plain es) e → (f : DirEntry) × Contains es f × (f.0 ≡ e.0)
unfolding plain entry
plain-contains [] e in' = absurd (Contains-nil e in')
plain-contains (f ∷ es) e in' = ⊎_elim
    (λ same. (f, Contains-head f es, ap (λ x. x.0) same))
    (λ later. let (g, there, is) = plain-contains es e later in (g, Contains-tail f es g there, is))
    (Contains-cases (f.0, false) (plain es) e in')

plain-apart : (es : List DirEntry) → AreApart es → AreApart (plain es)
unfolding plain entry
plain-apart [] apart = tt
plain-apart (e ∷ es) apart = (
  (λ f in' same. let (g, there, is) = plain-contains es f in' in apart.0 g there (same ∙ sym is)),
  plain-apart es apart.1,
)

-- a list sorted by a key of its images has sorted images
sorted_map : {X Y : Type 0} (f : X → Y) (key : Y → Text) (xs : List X) → IsSortedByKey (λ x. key (f x))
    (slice_cmp nat_cmp) xs → IsSortedByKey key (slice_cmp nat_cmp) (map f xs)
sorted_map {X} f key [] up k d low high = absurd (omega (arith, high))
sorted_map {X} f key (x ∷ xs) up k d low high =
    let within : k + 1 < length (x ∷ xs) = simp length-map at high in
    let later = get_or-map f (x ∷ xs) (k + 1) x d within in
    let first = get_or-map f (x ∷ xs) k x d (omega (arith, within)) in
    ap (λ y. is_lt (slice_cmp nat_cmp (key y) (key (get_or (map f (x ∷ xs)) k d)))) later
    ∙ ap (λ y. is_lt (slice_cmp nat_cmp (key (f (get_or (x ∷ xs) (k + 1) x))) (key y))) first
    ∙ up k x low within

-- Distinct names have one sorted order: the order of the entries in ascending order.
pub names_in_order : (es fs : List DirEntry) → AreApart es → IsPermutation (names_of es) (names_of fs) → IsSortedByKey
    (λ e. e.0) (slice_cmp nat_cmp) fs
    → names_of fs ≡ names_of (sorted_entries es)
unfolding plain entry
names_in_order es fs apart moved up =
    let name : DirEntry → Text = λ e. e.0 in
    let same : plain fs ≡ sorted_entries (plain es) = sorted_is_ascending (plain es) (plain fs) (plain-apart es apart)
    (IsPermutation-map entry (names_of es) (names_of fs) moved)
    (sorted_map entry name (names_of fs) (sorted_map name (λ n. n) fs up)) in
    sym (names_plain fs) ∙ ap names_of (same ∙ plain-sorted_entries es) ∙ names_plain (sorted_entries es)

-- the answer of a full listing is also one of a listing of names
pub names_answer : (said : ListAnswer) (answer : List DirEntry) → IsListAnswer said answer → IsNamesAnswer said answer
names_answer (Entries entries) answer moved =
    let name : DirEntry → Text = λ e. e.0 in (
      IsPermutation-map name entries answer moved,
      λ e in' directory. Contains-permutation answer entries e
          (IsPermutation-sym entries answer moved) in',
    )
names_answer (Fails kind) answer h = h
names_answer NoDirectory answer h = h

pub names_result : {A E : Type 0} (said : ListAnswer) (r : Result (Vec (Entry A) A) E) → IfOk r (λ v. IsListAnswer said
    (entries_of v.items)) → IfOk r (λ v. IsNamesAnswer said (entries_of v.items))
names_result said (Ok v) h = names_answer said (entries_of v.items) h
names_result said (Err e) h = h
