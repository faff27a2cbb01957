-- The answers of listings that were made with a separator after the path.
use Rattle.std.proofs.Common.{◌≡◌, ℕ, Bool, true, false, [], List, Option, None, Result, Ok, Err, subst}
use Rattle.std.specs.Prelude.{option_and_then, IfErr, IfOk, IfSome, IsSome, OnOk, Vec}
use Rattle.std.specs.Result.{IsErrAnd}
use Rattle.std.specs.declared.io.Error.{Error}
use Rattle.std.specs.declared.io.ErrorKind.{ErrorKind}
use Rattle.glob_text.specs.Text.{Text}
use Rattle.glob_tree.specs.Answers.{entries_of, names_of, IsListAnswer, IsListError, IsListErrorOf, AreListedNames, IsTold}
use Rattle.glob_tree.specs.Content.{Content, ListAnswer, Entries, Fails, NoDirectory, is_content, list_result, look_result}
use Rattle.glob_tree.specs.Directories.{names_in}
use Rattle.glob_tree.specs.FileSystems.{FileSystem, IsHeld, IsOpened, OpenMayFail, IsReceived, is_direct, strays_found}
use Rattle.glob_tree.specs.Followed.{answer_followed, followed, list_followed, look_followed}
use Rattle.glob_tree.specs.Paths.{join}
use Rattle.glob_tree.specs.Private.Listing.{IsEntriesError, are_names_taken, failing, is_dir_in, said_entries}
use Rattle.glob_tree.specs.Private.Looking.{AreDirect}
use Rattle.glob_tree.specs.Strays.{and_then, texts_of, strays_of}
use Rattle.glob_tree.specs.declared.tree.Entry.{Entry}
use Rattle.glob_tree.specs.declared.tree.ListError.{ListError}
use Rattle.glob_tree.specs.declared.tree.ListError.TheVariants.{Read, Memory}
use Rattle.glob_tree.specs.declared.tree.Look.{Look}
use Rattle.glob_tree.proofs.SystemLemmas.Finding.{Follows-from_told, is_direct-from_links, look_followed-plain}
use Rattle.glob_tree.proofs.SystemLemmas.Listing.{list_followed-plain}
use Rattle.glob_tree.proofs.SystemLemmas.Opening.{followed_fault, followed_unopened, kept_answer, kept_fault}
use Rattle.glob_tree.proofs.SystemLemmas.Opening.{kept_names, kept_strays, kept_unopened}

-- what an equal path opens
pub opened_at : (f : FileSystem) (text buffer : Text) → text ≡ buffer → (left : Option (List ℕ)) (fault : Option ErrorKind)
    → (is_direct f text ≡ true → IsOpened (list_result f.content text) (strays_found f text) left fault)
    → is_direct f buffer ≡ true → IsOpened (list_result f.content buffer) (strays_found f buffer) left fault
opened_at f text buffer same left fault = subst
    (λ p. is_direct f p ≡ true → IsOpened (list_result f.content p) (strays_found f p) left fault) same

-- the error of a listing that no name fails
as_received : (f : FileSystem) (path : Text) (e : ListError) → IsListError (list_result f.content path) e
    → IsListError (answer_followed f path (list_result f.content path) []) e
as_received f path Memory is = tt
as_received f path (Read e) is = by_answer (list_result f.content path) is
  where
    by_answer : (a : ListAnswer) → IsListError a (Read e) → IsListError (answer_followed f path a []) (Read e)
    by_answer (Entries es) is = is
    by_answer (Fails kind) is = is
    by_answer NoDirectory is = is

module _ (f : FileSystem) (w : is_content f.content ≡ true) (path buffer : Text) (same : buffer ≡ join path []) where
  module _ (left : Option (List ℕ)) (fault : Option ErrorKind)
      (opened : is_direct f buffer ≡ true → IsOpened (list_result f.content buffer) (strays_found f buffer) left fault) where
    opened_join : is_direct f (join path []) ≡ true
        → IsOpened (list_result f.content (join path [])) (strays_found f (join path [])) left fault
    opened_join = opened_at f buffer (join path []) same left fault opened

    -- if the content has every link
    pub read_kept : {A E : Type 0} (r : Result (Vec (Entry A) A) E)
        → (AreDirect f buffer
        → IfOk r (λ v. IfSome left
        (λ bytes. entries_of v.items ≡ said_entries (is_dir_in f.content buffer) (texts_of (names_in bytes)))))
        → (IsSome left → OnOk r (fault ≡ None)) → IfOk r (λ v. IsListAnswer (list_result f.content path) (entries_of v.items))
    read_kept (Err e) is whole = tt
    read_kept {A} (Ok v) is whole =
        kept_answer f w path left fault opened_join v
        (subst (λ b. AreDirect f b
        → IfSome left (λ bytes. entries_of v.items ≡ said_entries (is_dir_in f.content b) (texts_of (names_in bytes)))) same is) whole

    pub named_kept : {A E : Type 0} (r : Result (Vec (Entry A) A) E)
        → IfOk r (λ v. IfSome left (λ bytes. names_of (entries_of v.items) ≡ texts_of (names_in bytes)))
        → (IsSome left → OnOk r (fault ≡ None)) → IfOk r (λ v. AreListedNames (list_result f.content path) (names_of (entries_of v.items)))
    named_kept (Err e) is whole = tt
    named_kept (Ok v) is whole = kept_names f w path left fault opened_join (names_of (entries_of v.items)) is whole

    pub fault_taken : {T : Type 0} (receives : Bool) (r : Result T ListError)
        → IfErr r (λ e. IfSome left (λ bytes. IsEntriesError (are_names_taken receives (names_in bytes)) fault e))
        → IfErr r (λ e. IsListError (answer_followed f path (list_result f.content path) (failing receives (strays_found f path))) e)
    unfolding list_followed
    fault_taken receives (Ok x) is = tt
    fault_taken true (Err e) is = as_received f path e (kept_fault f w path left fault opened_join e is)
    fault_taken false (Err e) is = followed_fault f w path left fault opened_join e is

    -- the strays that were received
    pub received : {T E : Type 0} (r : Result T E) (old new : Option (List Text))
        → OnOk r (IfSome left (λ bytes. new ≡ and_then old (strays_of (names_in bytes))))
        → OnOk r (IsReceived (list_result f.content path) (strays_found f path) old new)
    received (Err e) old new is = tt
    received (Ok x) old new is = kept_strays f w path left fault opened_join old new is

  module _ (e : Error) (fault : is_direct f buffer ≡ true → OpenMayFail (list_result f.content buffer) e) where
    fault_join : is_direct f (join path []) ≡ true → OpenMayFail (list_result f.content (join path [])) e
    fault_join = subst (λ b. is_direct f b ≡ true → OpenMayFail (list_result f.content b) e) same fault

    pub unopened_taken : {T : Type 0} (receives : Bool) (r : Result T ListError) → IsErrAnd r (IsListErrorOf e)
        → IfErr r (λ made. IsListError (answer_followed f path (list_result f.content path) (failing receives (strays_found f path))) made)
    unfolding list_followed
    unopened_taken receives (Ok x) is = tt
    unopened_taken true (Err made) is = as_received f path made (kept_unopened f w path e made fault_join is)
    unopened_taken false (Err made) is = followed_unopened f w path e made fault_join is

-- what holds for the answers with links followed holds for the content's answers, if the content is known
pub of_content : (files : Option FileSystem) (c : Content) → IsTold (option_and_then followed files) c
    → (path : Text) (P : ListAnswer → Type 0)
    → ((f : FileSystem) → IsHeld files f → P (list_followed f path)) → P (list_result c path)
of_content files c told path P of =
    let is = Follows-from_told files c told in
    subst (λ d. P (list_result d path)) is.same
    (subst P (list_followed-plain is.f is.held.1 is.no_links is.no_strays is.no_hidden path) (of is.f is.held))

pub look_of_content : (files : Option FileSystem) (c : Content) → IsTold (option_and_then followed files) c
    → (path : Text) (P : Look → Type 0)
    → ((f : FileSystem) → IsHeld files f → is_direct f path ≡ true → P (look_followed f path)) → P (look_result c path)
look_of_content files c told path P of =
    let is = Follows-from_told files c told in
    subst (λ d. P (look_result d path)) is.same
    (subst P (look_followed-plain is.f is.no_links is.no_hidden path) (of is.f is.held (is_direct-from_links is.f is.no_links path)))
