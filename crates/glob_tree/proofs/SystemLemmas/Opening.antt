-- Listings, by the bytes of the opened directory. If the path leads to a directory, each lookup is of a direct path.
use Rattle.std.proofs.Common.{◌≡◌, ℕ, ◌-◌, Bool, true, false, not, cond, inl, inr, ⊎_elim, List, [], ◌∷◌, ◌++◌, length}
use Rattle.std.proofs.Common.{take, Option, Some, None, refl, ap, sym, subst, ◌∙◌, arith}
use Rattle.std.specs.Prelude.{IfSome, IsSome, IsPermutation, Vec}
use Rattle.std.specs.IoError.{error_kind}
use Rattle.std.specs.Path.{has_no_slash}
use Rattle.std.specs.Str.{is_utf8}
use Rattle.std.specs.declared.io.Error.{Error}
use Rattle.std.specs.declared.io.ErrorKind.{ErrorKind}
use Rattle.std.proofs.lemmas.Bool.{both_ways}
use Rattle.std.proofs.lemmas.List.{append_assoc}
use Rattle.std.proofs.lemmas.List.Sorted.{length_permutation}
use Rattle.std.proofs.lemmas.Option.{none-some, same_Some}
use Rattle.glob_text.specs.Characters.{slash}
use Rattle.glob_text.specs.Pieces.{ends_with}
use Rattle.glob_text.specs.Text.{Text}
use Rattle.glob_tree.specs.Answers.{entries_of, names_of, IsListAnswer, IsListError, IsListErrorOf, IsListFault, AreListedNames}
use Rattle.glob_tree.specs.Content.{Content, Key, is_content, kind_at, resolve, DirEntry, ListAnswer, Entries, Fails}
use Rattle.glob_tree.specs.Content.{NoDirectory, list_of, list_found, list_result}
use Rattle.glob_tree.specs.Directories.{names_in}
use Rattle.glob_tree.specs.FileSystems.{FileSystem, IsOpened, OpenMayFail, IsReceived, is_direct, strays_at, strays_found}
use Rattle.glob_tree.specs.Followed.{answer_followed, list_followed}
use Rattle.glob_tree.specs.Paths.{join}
use Rattle.glob_tree.specs.Private.Listing.{is_dir_in, said_entries, are_text_names, IsEntriesError}
use Rattle.glob_tree.specs.Private.Looking.{AreDirect, IsWay}
use Rattle.glob_tree.specs.Strays.{and_then, texts_of, strays_of}
use Rattle.glob_tree.specs.declared.kind.Kind.{Kind}
use Rattle.glob_tree.specs.declared.kind.Kind.TheVariants.{Dir, Shut, Other}
use Rattle.glob_tree.specs.declared.tree.Entry.{Entry}
use Rattle.glob_tree.specs.declared.tree.ListError.{ListError}
use Rattle.glob_tree.specs.declared.tree.ListError.TheVariants.{Read, Memory}
use Rattle.glob_tree.proofs.ContentLemmas.Directories.{LeadsTo, is_directory-look_result, is_dir_at-kind}
use Rattle.glob_tree.proofs.ContentLemmas.Resolving.{front_and_end, join_ended, join_open, resolve_join, resolve_some, step_here}
use Rattle.glob_tree.proofs.SystemLemmas.Listing.{joined, list_result-join, entries_kept, texts_read}
use Rattle.glob_tree.proofs.SystemLemmas.Reading.{made_of}
use Rattle.glob_tree.proofs.SystemLemmas.Ways.{direct_below, way_above}

is_nil : Text → Bool
is_nil [] = true
is_nil (y ∷ ys) = false

cons_some : (x : ℕ) (xs : Text) → x ∷ xs ≡ [] → ⊥
unfolding is_nil
cons_some x xs h = both_ways false refl (ap is_nil h)

-- the path of a name in a directory is direct
direct_joined : (f : FileSystem) → is_content f.content ≡ true → (path : Text) (k : Key) → LeadsTo f.content path k →
    (name : Text) → has_no_slash name ≡ true
    → is_direct f (join path name) ≡ true
direct_joined f w path k at name plain = by_end (ends_with slash path) refl
  where
    way : IsWay f.content path
    way = inr (is_directory-look_result f.content path k at)

    by_front : (front d : Text) → front ≡ d → path ≡ front ++ slash ∷ [] → IsWay f.content front
    by_front front [] none whole = inl none
    by_front front (x ∷ xs) some whole = way_above f.content front [] (λ none. cons_some x xs (sym some ∙ none))
        (subst (IsWay f.content) whole way)

    by_end : (b : Bool) → ends_with slash path ≡ b → is_direct f (join path name) ≡ true
    by_end true e =
        let whole = front_and_end slash path e (resolve_some f.content path k at.resolved) in
        let front = take (length path - 1) path in
        direct_below f w front name (join path name) (by_front front front refl whole) plain
        (join_ended path name e ∙ ap (λ p. p ++ name) whole ∙ append_assoc front (slash ∷ []) name)
    by_end false e =
        direct_below f w path name (join path name) way plain (join_open path name (resolve_some f.content path k
        at.resolved) e ∙ append_assoc path (slash ∷ []) name)

pub direct_names : (f : FileSystem) → is_content f.content ≡ true → (path : Text) (k : Key) → LeadsTo f.content path k
    → AreDirect f (join path [])
direct_names f w path k at name plain = ap (is_direct f) (joined path name) ∙ direct_joined f w path k at name plain

direct_itself : (f : FileSystem) → is_content f.content ≡ true → (path : Text) (k : Key) → LeadsTo f.content path k
    → is_direct f (join path []) ≡ true
direct_itself f w path k at = direct_joined f w path k at [] refl

-- the path leads to a directory, or nothing is promised for its listing
data LeadsOrNot (c : Content) (path : Text) : Type 0 where
  Leads : (k : Key) → LeadsTo c path k → LeadsOrNot c path
  Not : list_result c path ≡ NoDirectory → LeadsOrNot c path

leads_or_not : (c : Content) (path : Text) → LeadsOrNot c path
unfolding list_result
leads_or_not c path = from_key (resolve c path) refl
  where
    from_kind : (k : Key) (o : Option Kind) → resolve c path ≡ Some k → kind_at c k ≡ o → LeadsOrNot c path
    from_kind k None r is = Not (ap (list_found c) r ∙ ap (list_of c k) is)
    from_kind k (Some Dir) r is = Leads k (record { resolved = r; directory = is_dir_at-kind c k Dir is })
    from_kind k (Some (Shut kind)) r is = Leads k (record { resolved = r; directory = is_dir_at-kind c k (Shut kind) is })
    from_kind k (Some Other) r is = Not (ap (list_found c) r ∙ ap (list_of c k) is)

    from_key : (o : Option Key) → resolve c path ≡ o → LeadsOrNot c path
    from_key None r = Not (ap (list_found c) r)
    from_key (Some k) r = from_kind k (kind_at c k) r refl

-- if none of the names is a stray, all are UTF-8
all_texts : (names : List Text) → strays_of names ≡ [] → texts_of names ≡ names
all_texts [] none = refl
all_texts (n ∷ names) none = by_test (is_utf8 n) refl none (λ none. all_texts names none)
  where
    by_test : (b : Bool) → is_utf8 n ≡ b → cond (not b) (n ∷ strays_of names) (strays_of names) ≡ []
        → (strays_of names ≡ [] → texts_of names ≡ names) → texts_of (n ∷ names) ≡ n ∷ names
    by_test true is none further = ap (λ b. cond b (n ∷ texts_of names) (texts_of names)) is ∙ ap (λ ns. n ∷ ns) (further none)
    by_test false is none further = absurd (omega (arith, ap length none))

moved_nil : (xs : List Text) → IsPermutation [] xs → xs ≡ []
moved_nil [] moved = refl
moved_nil (x ∷ xs) moved = absurd (omega (arith, length_permutation [] (x ∷ xs) moved))

pub no_moved_nil : (x : Text) (xs : List Text) → IsPermutation (x ∷ xs) [] → ⊥
no_moved_nil x xs moved = omega (arith, length_permutation (x ∷ xs) [] moved)

module _ (f : FileSystem) (w : is_content f.content ≡ true) (path : Text) (left : Option (List ℕ)) (fault : Option ErrorKind)
    (opened : is_direct f (join path []) ≡ true
    → IsOpened (list_result f.content (join path [])) (strays_found f (join path [])) left fault) where
  -- what was opened, if the path leads to a directory
  opened_there : (k : Key) → LeadsTo f.content path k → IsOpened (list_result f.content path) (strays_found f path) left fault
  unfolding strays_found
  opened_there k at =
      let same : resolve f.content (join path []) ≡ resolve f.content path =
      resolve_join f.content path [] k at.resolved refl ∙ step_here f.content k [] at.directory refl ∙ sym at.resolved in
      subst (λ a. IsOpened a (strays_found f path) left fault) (list_result-join f.content path)
      (subst (λ o. IsOpened (list_result f.content (join path [])) (strays_at f o) left fault) same (opened (direct_itself f w path k at)))

  -- the UTF-8 names that were read are those of the entries
  texts_there : (es : List DirEntry) → list_result f.content path ≡ Entries es → (names : List Text)
      → IsPermutation (names_of es) (texts_of names)
      → are_text_names (texts_of names) ≡ true
  texts_there es from names moved = texts_read f.content w path es from (texts_of names) moved

  -- the error of a listing with links followed, after the names were read
  pub followed_fault : (e : ListError) → IfSome left (λ bytes. IsEntriesError (are_text_names (names_in bytes)) fault e)
      → IsListError (list_followed f path) e
  unfolding list_followed
  followed_fault Memory of = tt
  followed_fault (Read x) of = by_leads (leads_or_not f.content path)
    where
      by_known : (kind : ErrorKind) (l : Option (List ℕ)) → IsSome l → fault ≡ Some kind
          → IfSome l (λ bytes. IsEntriesError (are_text_names (names_in bytes)) fault (Read x)) → error_kind x ≡ kind
      by_known kind None known ends of = absurd (both_ways false refl known)
      by_known kind (Some bytes) known ends of =
          ⊎_elim (λ same. same_Some (error_kind x) kind (sym same ∙ ends)) (λ other. absurd (none-some kind (sym other.0 ∙ ends))) of

      by_answer : (a : ListAnswer) (ss : List Text) → list_result f.content path ≡ a → IsOpened a ss left fault
          → IsListError (answer_followed f path a ss) (Read x)
      by_answer (Entries es) [] from (bytes, known, end, (moved, strays)) =
          let error = subst (λ o. IfSome o (λ bs. IsEntriesError (are_text_names (names_in bs)) fault (Read x))) known of in
          let texts = all_texts (names_in bytes) (moved_nil (strays_of (names_in bytes)) strays) in
          let all = subst (λ ns. are_text_names ns ≡ true) texts (texts_there es from (names_in bytes) moved) in
          absurd (⊎_elim (λ same. none-some (error_kind x) (sym end ∙ same))
          (λ other. both_ways (are_text_names (names_in bytes)) other.1 all) error)
      by_answer (Entries es) (s ∷ ss) from (bytes, known, end, (moved, strays)) =
          let error = subst (λ o. IfSome o (λ bs. IsEntriesError (are_text_names (names_in bs)) fault (Read x))) known of in
          ⊎_elim (λ same. absurd (none-some (error_kind x) (sym end ∙ same))) (λ other. other.2) error
      by_answer (Fails kind) ss from (known, ends) = by_known kind left known ends of
      by_answer NoDirectory ss from opened = tt

      by_leads : LeadsOrNot f.content path
          → IsListError (answer_followed f path (list_result f.content path) (strays_found f path)) (Read x)
      by_leads (Not none) = subst (λ a. IsListError (answer_followed f path a (strays_found f path)) (Read x)) (sym none) tt
      by_leads (Leads k at) = by_answer (list_result f.content path) (strays_found f path) refl (opened_there k at)

  -- the entries, if the content has every link
  pub kept_answer : {A : Type 0} (v : Vec (Entry A) A)
      → (AreDirect f (join path [])
      → IfSome left (λ bytes. entries_of v.items ≡ said_entries (is_dir_in f.content (join path [])) (texts_of (names_in bytes))))
      → (IsSome left → fault ≡ None) → IsListAnswer (list_result f.content path) (entries_of v.items)
  kept_answer {A} v is whole = by_leads (leads_or_not f.content path)
    where
      by_answer : (k : Key) → LeadsTo f.content path k → (a : ListAnswer) → list_result f.content path ≡ a
          → IsOpened a (strays_found f path) left fault → IsListAnswer a (entries_of v.items)
      by_answer k at (Entries es) from (bytes, known, end, (moved, strays)) =
          let said = subst (λ o. IfSome o
          (λ bs. entries_of v.items ≡ said_entries (is_dir_in f.content (join path [])) (texts_of (names_in bs)))) known
          (is (direct_names f w path k at)) in
          subst (IsPermutation es) (sym said) (entries_kept f.content w path es from (texts_of (names_in bytes)) moved)
      by_answer k at (Fails kind) from (known, ends) = absurd (none-some kind (sym (whole known) ∙ ends))
      by_answer k at NoDirectory from opened = tt

      by_leads : LeadsOrNot f.content path → IsListAnswer (list_result f.content path) (entries_of v.items)
      by_leads (Not none) = subst (λ a. IsListAnswer a (entries_of v.items)) (sym none) tt
      by_leads (Leads k at) = by_answer k at (list_result f.content path) refl (opened_there k at)

  -- the error then
  pub kept_fault : (e : ListError) → IfSome left (λ bytes. IsEntriesError (are_text_names (texts_of (names_in bytes))) fault e)
      → IsListError (list_result f.content path) e
  kept_fault Memory of = tt
  kept_fault (Read x) of = by_leads (leads_or_not f.content path)
    where
      by_known : (kind : ErrorKind) (l : Option (List ℕ)) → IsSome l → fault ≡ Some kind
          → IfSome l (λ bytes. IsEntriesError (are_text_names (texts_of (names_in bytes))) fault (Read x))
          → error_kind x ≡ kind
      by_known kind None known ends of = absurd (both_ways false refl known)
      by_known kind (Some bytes) known ends of =
          ⊎_elim (λ same. same_Some (error_kind x) kind (sym same ∙ ends)) (λ other. absurd (none-some kind (sym other.0 ∙ ends))) of

      by_answer : (a : ListAnswer) → list_result f.content path ≡ a → IsOpened a (strays_found f path) left fault → IsListError a (Read x)
      by_answer (Entries es) from (bytes, known, end, (moved, strays)) =
          let error = subst (λ o. IfSome o (λ bs. IsEntriesError (are_text_names (texts_of (names_in bs))) fault (Read x))) known of in
          ⊎_elim (λ same. none-some (error_kind x) (sym end ∙ same))
          (λ other. both_ways (are_text_names (texts_of (names_in bytes))) other.1 (texts_there es from (names_in bytes) moved)) error
      by_answer (Fails kind) from (known, ends) = by_known kind left known ends of
      by_answer NoDirectory from opened = tt

      by_leads : LeadsOrNot f.content path → IsListError (list_result f.content path) (Read x)
      by_leads (Not none) = subst (λ a. IsListError a (Read x)) (sym none) tt
      by_leads (Leads k at) = by_answer (list_result f.content path) refl (opened_there k at)

  -- the names, wherever links point
  pub kept_names : (names : List Text) → IfSome left (λ bytes. names ≡ texts_of (names_in bytes))
      → (IsSome left → fault ≡ None) → AreListedNames (list_result f.content path) names
  kept_names names is whole = by_leads (leads_or_not f.content path)
    where
      by_answer : (a : ListAnswer) → list_result f.content path ≡ a → IsOpened a (strays_found f path) left fault → AreListedNames a names
      by_answer (Entries es) from (bytes, known, end, (moved, strays)) =
          subst (IsPermutation (names_of es)) (sym (subst (λ o. IfSome o (λ bs. names ≡ texts_of (names_in bs))) known is)) moved
      by_answer (Fails kind) from (known, ends) = absurd (none-some kind (sym (whole known) ∙ ends))
      by_answer NoDirectory from opened = tt

      by_leads : LeadsOrNot f.content path → AreListedNames (list_result f.content path) names
      by_leads (Not none) = subst (λ a. AreListedNames a names) (sym none) tt
      by_leads (Leads k at) = by_answer (list_result f.content path) refl (opened_there k at)

  -- each stray is received once
  pub kept_strays : (old new : Option (List Text)) → IfSome left (λ bytes. new ≡ and_then old (strays_of (names_in bytes)))
      → IsReceived (list_result f.content path) (strays_found f path) old new
  kept_strays old new is = by_leads (leads_or_not f.content path)
    where
      by_answer : (a : ListAnswer) → list_result f.content path ≡ a → IsOpened a (strays_found f path) left fault
          → IsReceived a (strays_found f path) old new
      by_answer (Entries es) from (bytes, known, end, (moved, strays)) =
          (strays_of (names_in bytes), subst (λ o. IfSome o (λ bs. new ≡ and_then old (strays_of (names_in bs)))) known is, strays)
      by_answer (Fails kind) from opened = tt
      by_answer NoDirectory from opened = tt

      by_leads : LeadsOrNot f.content path → IsReceived (list_result f.content path) (strays_found f path) old new
      by_leads (Not none) = subst (λ a. IsReceived a (strays_found f path) old new) (sym none) tt
      by_leads (Leads k at) = by_answer (list_result f.content path) refl (opened_there k at)

-- the error if the directory could not be opened
module _ (f : FileSystem) (w : is_content f.content ≡ true) (path : Text) (e : Error) (made : ListError)
    (fault : is_direct f (join path []) ≡ true → OpenMayFail (list_result f.content (join path [])) e) (of : IsListErrorOf e made) where
  unopened : (a : ListAnswer) (b : ListAnswer) → ((kind : ErrorKind) → IsListFault a kind → IsListFault b kind) → OpenMayFail a e
      → IsListError b made
  unopened a b onto closed = made_of (IsListError b) e tt (λ non. onto (error_kind e) (closed non)) made of

  pub kept_unopened : IsListError (list_result f.content path) made
  kept_unopened = by_leads (leads_or_not f.content path)
    where
      by_leads : LeadsOrNot f.content path → IsListError (list_result f.content path) made
      by_leads (Not none) = subst (λ a. IsListError a made) (sym none) (unopened NoDirectory NoDirectory (λ kind is. is) (λ non. tt))
      by_leads (Leads k at) =
          unopened (list_result f.content path) (list_result f.content path) (λ kind is. is)
          (subst (λ a. OpenMayFail a e) (list_result-join f.content path) (fault (direct_itself f w path k at)))

  pub followed_unopened : IsListError (list_followed f path) made
  unfolding list_followed
  followed_unopened = by_leads (leads_or_not f.content path)
    where
      as_followed : (a : ListAnswer) (ss : List Text) (kind : ErrorKind) → IsListFault a kind
          → IsListFault (answer_followed f path a ss) kind
      as_followed (Entries es) ss kind is = absurd is
      as_followed (Fails wanted) ss kind is = is
      as_followed NoDirectory ss kind is = tt

      by_leads : LeadsOrNot f.content path → IsListError (answer_followed f path (list_result f.content path) (strays_found f path)) made
      by_leads (Not none) =
          subst (λ a. IsListError (answer_followed f path a (strays_found f path)) made) (sym none)
          (unopened NoDirectory NoDirectory (λ kind is. is) (λ non. tt))
      by_leads (Leads k at) =
          unopened (list_result f.content path) (answer_followed f path (list_result f.content path) (strays_found f path))
          (as_followed (list_result f.content path) (strays_found f path))
          (subst (λ a. OpenMayFail a e) (list_result-join f.content path) (fault (direct_itself f w path k at)))
