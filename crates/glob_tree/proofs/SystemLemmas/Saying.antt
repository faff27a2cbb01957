-- What a listing says about its entries, and what was received meanwhile.
use Rattle.std.proofs.Common.{◌≡◌, Bool, true, false, ◌&&◌, List, [], ◌∷◌, ◌++◌, map, Option, Some, Result, Ok, Err}
use Rattle.std.proofs.Common.{get_or, refl, ap, sym, subst, ◌∙◌}
use Rattle.std.specs.List.{filter}
use Rattle.std.specs.Prelude.{All, IfErr, IfOk, IsPermutation, OnOk, Vec}
use Rattle.std.proofs.lemmas.Bool.{both_ways}
use Rattle.std.proofs.lemmas.List.{map-append}
use Rattle.std.proofs.lemmas.List.Elements.{All-head, All-nil, All-push, All-tail, filter-append}
use Rattle.std.proofs.lemmas.List.Sorted.{IsPermutation-map}
use Rattle.std.proofs.lemmas.Option.{same_Some}
use Rattle.glob_text.specs.Text.{Text}
use Rattle.glob_tree.specs.Answers.{AreDirectories, AreListedNames, IsEntriesAnswer, IsListAnswer, IsListError, entries_of, names_of}
use Rattle.glob_tree.specs.Content.{DirEntry, ListAnswer, Entries, Fails, NoDirectory, is_content, list_result}
use Rattle.glob_tree.specs.FileSystems.{FileSystem, IsReceived, stat_found, strays_found}
use Rattle.glob_tree.specs.Followed.{AreKindsSaid, answer_followed, entry_followed, is_found_directory, is_reported, list_followed}
use Rattle.glob_tree.specs.Followed.{paths_of}
use Rattle.glob_tree.specs.Paths.{join}
use Rattle.glob_tree.specs.Private.Listing.{AreAnswered, AreSaid, IsKindSaid, IsSaid, are_looked_up, failing}
use Rattle.glob_tree.specs.Private.Looking.{AreDirect}
use Rattle.glob_tree.specs.Strays.{and_then}
use Rattle.glob_tree.specs.declared.physical.Links.{Links}
use Rattle.glob_tree.specs.declared.physical.Links.TheVariants.{Followed}
use Rattle.glob_tree.specs.declared.reading.Kinds.{Kinds}
use Rattle.glob_tree.specs.declared.reading.Kinds.TheVariants.{LookedUp, LeftOut}
use Rattle.glob_tree.specs.declared.tree.Entry.{Entry}
use Rattle.glob_tree.specs.declared.tree.ListError.{ListError}
use Rattle.glob_tree.specs.declared.tree.ListError.TheVariants.{Read, Memory}
use Rattle.glob_tree.proofs.StraysLemmas.{and_then-append, and_then-nil}
use Rattle.glob_tree.proofs.SystemLemmas.Listing.{Lists-from_result, joined}
use Rattle.glob_tree.proofs.SystemLemmas.Opening.{direct_names, no_moved_nil}

-- without entries, nothing is said
pub said_nothing : (receives : Bool) (links : Links) (f : FileSystem) (path : Text) (known : Option (List Text))
    → AreSaid receives links f path [] known known
said_nothing receives links f path known = (sym (and_then-nil known), All-nil _)

-- one more entry
pub said_more : (receives : Bool) (links : Links) (f : FileSystem) (path : Text) (es : List DirEntry) (name : Text) (d : Bool)
    → (old mid new : Option (List Text)) → AreSaid receives links f path es old mid
    → IsSaid receives links f (path ++ name) d mid new → AreSaid receives links f path (es ++ (name, d) ∷ []) old new
said_more receives links f path es name d old mid new (first, all) (then, one) =
    let test : Text → Bool = λ p. receives && is_reported links f p in
    let paths : List DirEntry → List Text = map (λ (e : DirEntry). path ++ e.0) in (
      then
          ∙ ap (λ o. and_then o (filter test ((path ++ name) ∷ []))) first
          ∙ and_then-append old (filter test (paths es)) (filter test ((path ++ name) ∷ []))
          ∙ ap (and_then old) (sym (filter-append test (paths es) ((path ++ name) ∷ [])))
          ∙ ap (λ ps. and_then old (filter test ps)) (sym (map-append (λ (e : DirEntry). path ++ e.0) es ((name, d) ∷ []))),
      All-push (λ e. IsKindSaid receives links f (path ++ e.0) e.1) es (name, d) all one,
    )

entries_more : {A : Type 0} (entries : List (Entry A)) (entry : Entry A)
    → entries_of entries ++ (entry.name, entry.is_dir) ∷ [] ≡ entries_of (entries ++ entry ∷ [])
entries_more {A} entries entry = sym (map-append (λ (e : Entry A). (e.name, e.is_dir)) entries (entry ∷ []))

pub said_pushed : {A : Type 0} (receives : Bool) (links : Links) (f : FileSystem) (path at name : Text) → at ≡ path
    → (entries : List (Entry A)) (entry : Entry A) → entry.name ≡ name → (old mid new : Option (List Text))
    → AreSaid receives links f path (entries_of entries) old mid → IsSaid receives links f (at ++ name) entry.is_dir mid new
    → AreSaid receives links f path (entries_of (entries ++ entry ∷ [])) old new
said_pushed receives links f path at name same entries entry is old mid new so_far one =
    subst (λ es. AreSaid receives links f path es old new) (entries_more entries entry)
    (said_more receives links f path (entries_of entries) entry.name entry.is_dir old mid new so_far
    (subst (λ p. IsSaid receives links f p entry.is_dir mid new) (λ i. same i ++ sym is i) one))

pub none_pushed : {A : Type 0} (entries : List (Entry A)) (entry : Entry A) → All (λ e. e.1 ≡ false) (entries_of entries)
    → entry.is_dir ≡ false → All (λ e. e.1 ≡ false) (entries_of (entries ++ entry ∷ []))
none_pushed entries entry so_far one =
    subst (All (λ e. e.1 ≡ false)) (entries_more entries entry)
    (All-push (λ e. e.1 ≡ false) (entries_of entries) (entry.name, entry.is_dir) so_far one)

-- what is said about the entries at a path, if a directory is there
pub read_said : {A E : Type 0} (receives : Bool) (links : Links) (f : FileSystem) → is_content f.content ≡ true → (path buffer : Text)
    → buffer ≡ join path [] → (old new : Option (List Text)) (r : Result (Vec (Entry A) A) E)
    → (AreDirect f buffer → IfOk r (λ v. AreSaid receives links f buffer (entries_of v.items) old new))
    → IfOk r (λ v. AreAnswered receives links f path (list_result f.content path) (entries_of v.items) old new)
read_said receives links f w path buffer same old new (Err e) is = tt
read_said receives links f w path buffer same old new (Ok v) is = by_answer (list_result f.content path) refl
  where
    all_joined : (es : List DirEntry) → map (λ e. join path [] ++ e.0) es ≡ paths_of path es
    all_joined [] = refl
    all_joined (e ∷ es) = λ i. joined path e.0 i ∷ all_joined es i

    at_path : AreDirect f (join path []) → AreSaid receives links f (join path []) (entries_of v.items) old new
    at_path = subst (λ b. AreDirect f b → AreSaid receives links f b (entries_of v.items) old new) same is

    by_answer : (a : ListAnswer) → list_result f.content path ≡ a → AreAnswered receives links f path a (entries_of v.items) old new
    by_answer (Entries es) from =
        let of = Lists-from_result f.content path es from in
        let (more, all) = at_path (direct_names f w path of.k of.leads) in (
          more ∙ ap (λ ps. and_then old (filter (λ p. receives && is_reported links f p) ps)) (all_joined (entries_of v.items)),
          λ k e lt. subst (λ p. IsKindSaid receives links f p (get_or (entries_of v.items) k e).1)
              (joined path (get_or (entries_of v.items) k e).0) (all k e lt),
        )
    by_answer (Fails kind) from = tt
    by_answer NoDirectory from = tt

-- what a disk that receives paths says
pub answered_kinds : {A E : Type 0} (links : Links) (f : FileSystem) (path : Text) (old new : Option (List Text))
    → (r : Result (Vec (Entry A) A) E)
    → IfOk r (λ v. AreAnswered true links f path (list_result f.content path) (entries_of v.items) old new)
    → IfOk r (λ v. AreKindsSaid links f path (list_result f.content path) (entries_of v.items) old new)
answered_kinds links f path old new (Err e) is = tt
answered_kinds links f path old new (Ok v) is = by_answer (list_result f.content path) is
  where
    by_answer : (a : ListAnswer) → AreAnswered true links f path a (entries_of v.items) old new
        → AreKindsSaid links f path a (entries_of v.items) old new
    by_answer (Entries es) is = is
    by_answer (Fails kind) is = tt
    by_answer NoDirectory is = tt

abbrev said_of : FileSystem → Text → Text → DirEntry
said_of f path name = (name, is_found_directory (stat_found f (join path name)))

-- each kind is what `stat` finds
all_exact : (f : FileSystem) (path : Text) (es : List DirEntry) → All (λ e. e.1 ≡ is_found_directory (stat_found f (join path e.0))) es
    → map (said_of f path) (names_of es) ≡ es
all_exact f path [] all = refl
all_exact f path (e ∷ es) all =
    let kind : e.1 ≡ is_found_directory (stat_found f (join path e.0)) =
    All-head (λ e. e.1 ≡ is_found_directory (stat_found f (join path e.0))) e es all in
    λ i. (e.0, sym kind i) ∷ all_exact f path es (All-tail (λ e. e.1 ≡ is_found_directory (stat_found f (join path e.0))) e es all) i

names_said : (f : FileSystem) (path : Text) (es : List DirEntry) → map (said_of f path) (names_of es) ≡ map (entry_followed f path) es
names_said f path [] = refl
names_said f path (e ∷ es) = ap (λ l. entry_followed f path e ∷ l) (names_said f path es)

names_kept : (f : FileSystem) (path : Text) (es : List DirEntry) → names_of es ≡ names_of (map (entry_followed f path) es)
names_kept f path [] = refl
names_kept f path (e ∷ es) = ap (λ l. e.0 ∷ l) (names_kept f path es)

-- entries that are not reported as directories
no_directories : (ls es : List DirEntry) → All (λ e. e.1 ≡ false) es → AreDirectories es ls
no_directories ls es none =
    λ e (k, lt, at) yes. absurd (both_ways e.1 (subst (λ (x : DirEntry). x.1 ≡ false) at (none k e lt)) yes)

module _ (f : FileSystem) (path : Text) (kinds : Kinds) (es : List DirEntry)
    (said : kinds ≡ LookedUp → AreAnswered false Followed f path (list_result f.content path) es (Some []) (Some []))
    (none : kinds ≡ LeftOut → All (λ e. e.1 ≡ false) es) where
  by_kinds : (kinds' : Kinds) → kinds ≡ kinds' → (a : ListAnswer) → list_result f.content path ≡ a → (ss : List Text)
      → AreListedNames a (names_of es) → IsReceived a ss (Some []) (Some [])
      → IsEntriesAnswer (are_looked_up kinds') (answer_followed f path a ss) es
  by_kinds k is (Entries ls) from (s ∷ ss) named (more, grown, moved) =
      absurd (no_moved_nil s ss (subst (IsPermutation (s ∷ ss)) (sym (same_Some [] more grown)) moved))
  by_kinds LookedUp is (Entries ls) from [] named received =
      let (more, all) = subst (λ a. AreAnswered false Followed f path a es (Some []) (Some [])) from (said is) in
      subst (λ l. IsPermutation l es) (names_said f path ls)
      (subst (IsPermutation (map (said_of f path) (names_of ls))) (all_exact f path es all)
      (IsPermutation-map (said_of f path) (names_of ls) (names_of es) named))
  by_kinds LeftOut is (Entries ls) from [] named received = (
    subst (λ l. IsPermutation l (names_of es)) (names_kept f path ls) named,
    no_directories (map (entry_followed f path) ls) es (none is),
  )
  by_kinds LookedUp is (Fails kind) from ss named received = absurd named
  by_kinds LeftOut is (Fails kind) from ss named received = absurd named
  by_kinds LookedUp is NoDirectory from ss named received = tt
  by_kinds LeftOut is NoDirectory from ss named received = tt

-- the entries of a disk that receives nothing
pub listed_exactly : {A E : Type 0} (f : FileSystem) (path : Text) (kinds : Kinds) (r : Result (Vec (Entry A) A) E)
    → (kinds ≡ LookedUp
    → IfOk r (λ v. AreAnswered false Followed f path (list_result f.content path) (entries_of v.items) (Some []) (Some [])))
    → (kinds ≡ LeftOut → IfOk r (λ v. All (λ e. e.1 ≡ false) (entries_of v.items)))
    → IfOk r (λ v. AreListedNames (list_result f.content path) (names_of (entries_of v.items)))
    → OnOk r (IsReceived (list_result f.content path) (strays_found f path) (Some []) (Some []))
    → IfOk r (λ v. IsEntriesAnswer (are_looked_up kinds) (list_followed f path) (entries_of v.items))
unfolding list_followed
listed_exactly f path kinds (Err e) said none named received = tt
listed_exactly f path kinds (Ok v) said none named received =
    by_kinds f path kinds (entries_of v.items) said none kinds refl (list_result f.content path) refl (strays_found f path) named received

-- the entries of a disk whose content has every link
pub listed_by_kinds : {A E : Type 0} (f : FileSystem) (path : Text) (kinds : Kinds) (r : Result (Vec (Entry A) A) E)
    → (kinds ≡ LookedUp → IfOk r (λ v. IsListAnswer (list_result f.content path) (entries_of v.items)))
    → (kinds ≡ LeftOut → IfOk r (λ v. All (λ e. e.1 ≡ false) (entries_of v.items)))
    → IfOk r (λ v. AreListedNames (list_result f.content path) (names_of (entries_of v.items)))
    → IfOk r (λ v. IsEntriesAnswer (are_looked_up kinds) (list_result f.content path) (entries_of v.items))
listed_by_kinds f path kinds (Err e) listed none named = tt
listed_by_kinds f path kinds (Ok v) listed none named = by_answer kinds refl (list_result f.content path) listed named
  where
    by_answer : (kinds' : Kinds) → kinds ≡ kinds' → (a : ListAnswer) → (kinds ≡ LookedUp → IsListAnswer a (entries_of v.items))
        → AreListedNames a (names_of (entries_of v.items)) → IsEntriesAnswer (are_looked_up kinds') a (entries_of v.items)
    by_answer LookedUp is a listed named = listed is
    by_answer LeftOut is (Entries ls) listed named = (named, no_directories ls (entries_of v.items) (none is))
    by_answer LeftOut is (Fails kind) listed named = absurd named
    by_answer LeftOut is NoDirectory listed named = tt

-- the errors of a disk that receives nothing, and of one that receives names
pub exact_fault : {T : Type 0} (f : FileSystem) (path : Text) (r : Result T ListError)
    → IfErr r (λ e. IsListError (answer_followed f path (list_result f.content path) (failing false (strays_found f path))) e)
    → IfErr r (λ e. IsListError (list_followed f path) e)
unfolding list_followed
exact_fault f path r is = is

pub received_fault : {T : Type 0} (f : FileSystem) (path : Text) (r : Result T ListError)
    → IfErr r (λ e. IsListError (answer_followed f path (list_result f.content path) (failing true (strays_found f path))) e)
    → IfErr r (λ e. IsListError (list_result f.content path) e)
received_fault f path (Ok x) is = tt
received_fault f path (Err Memory) is = tt
received_fault f path (Err (Read e)) is = by_answer (list_result f.content path) is
  where
    by_answer : (a : ListAnswer) → IsListError (answer_followed f path a []) (Read e) → IsListError a (Read e)
    by_answer (Entries es) is = is
    by_answer (Fails kind) is = is
    by_answer NoDirectory is = is
