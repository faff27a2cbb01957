-- A system that holds the files of a tree in memory.
use Rattle.std.proofs.Common.{◌≡◌, ℕ, Bool, true, false, not, cond, ◌&&◌, ◌+◌, ◌<◌, List, [], ◌∷◌, ◌++◌, length, take, Option}
use Rattle.std.proofs.Common.{Some, None, Result, refl, ap, sym, subst, ◌∙◌}
use Rattle.std.specs.Prelude.{All, IfErr, ◌==◌, IsPermutation, slice_index_or, bytes_eq, option_and_then, option_map, unwrap_or}
use Rattle.std.specs.List.{filter, list_any, list_all, slice_split}
use Rattle.std.specs.Path.{parent_dir}
use Rattle.std.specs.Str.{is_utf8}
use Rattle.std.specs.declared.fs.attrs.Metadata.{Metadata}
use Rattle.std.specs.declared.io.Error.{Error}
use Rattle.std.proofs.lemmas.Bool.{and_parts, not-true, or_from, or_parts}
use Rattle.std.proofs.lemmas.List.Elements.{All-nil, All-cons}
use Rattle.std.proofs.lemmas.List.Sorted.{IsPermutation-refl}
use Rattle.std.proofs.lemmas.List.Splits.{slice_split_at}
use Rattle.std.proofs.lemmas.List.{append_assoc, take_more}
use Rattle.std.proofs.lemmas.Option.{same_Some}
use Rattle.glob_text.specs.Characters.{slash}
use Rattle.glob_text.specs.Text.{Text}
use Rattle.glob_tree.specs.Answers.{entries_of, names_of}
use Rattle.glob_tree.specs.Content.{Content, Key, is_content, kind_at, resolve, look_of, look_result, DirEntry, Entries, list_result}
use Rattle.glob_tree.specs.Directories.{is_listed, names_in}
use Rattle.glob_tree.specs.FileSystems.{FileSystem, IsHeld, IsOpened, IsStatAnswer, lstat_at, stat_at, lstat_found}
use Rattle.glob_tree.specs.FileSystems.{stat_found, plain_files, strays_at, strays_found}
use Rattle.glob_tree.specs.FileSystems.{IsLookupError, IsNumberAnswer, has_hidden, is_lost, is_other, is_target_lost}
use Rattle.glob_tree.specs.FileSystems.{is_unknown, is_unknown_at, no_number, number_at, number_found, target_at}
use Rattle.glob_tree.specs.Paths.{is_barred, is_proper, nul, stays}
use Rattle.glob_tree.specs.Private.Listing.{are_text_names, found_by, is_text_name, name_bytes}
use Rattle.glob_tree.specs.Strays.{texts_of, strays_of}
use Rattle.glob_tree.specs.declared.directory_id.DirectoryId.{DirectoryId}
use Rattle.glob_tree.specs.declared.kind.Kind.{Kind}
use Rattle.glob_tree.specs.declared.kind.Kind.TheVariants.{Dir, Shut, Other}
use Rattle.glob_tree.specs.declared.tree.Entry.{Entry}
use Rattle.glob_tree.proofs.StraysLemmas.{names_more}
use Rattle.glob_tree.proofs.SystemLemmas.Listing.{texts_read}
use Rattle.glob_tree.proofs.SystemLemmas.Losing.{lstat_seen, never_lost, stat_seen}
use Rattle.glob_tree.proofs.SystemLemmas.Naming.{no_strays, texts_same}

-- without links, `lstat` and `stat` find the same
pub plain_found : (c : Content) (path : Text)
    → (found_by (look_result c path) ≡ lstat_found (plain_files c) path) × (found_by (look_result c path) ≡ stat_found (plain_files c) path)
unfolding look_result
plain_found c path =
    let seen = never_lost (plain_files c) refl path in
    let both = at_key (resolve c path) in (
      both.0 ∙ sym (lstat_seen (plain_files c) path seen),
      both.1 ∙ sym (stat_seen (plain_files c) path seen),
    )
  where
    at_kind : (k : Key) (o : Option Kind) → kind_at c k ≡ o
        → (found_by (look_of (kind_at c k)) ≡ lstat_at (plain_files c) k) × (found_by (look_of (kind_at c k)) ≡ stat_at (plain_files c) k)
    at_kind k None e = rw e (refl, refl)
    at_kind k (Some Dir) e = rw e (refl, refl)
    at_kind k (Some (Shut kind)) e = rw e (refl, refl)
    at_kind k (Some Other) e = rw e (refl, refl)

    at_key : (o : Option Key)
        → (found_by (look_of (option_and_then (kind_at c) o)) ≡ option_and_then (lstat_at (plain_files c)) o)
        × (found_by (look_of (option_and_then (kind_at c) o)) ≡ option_and_then (stat_at (plain_files c)) o)
    at_key None = (refl, refl)
    at_key (Some k) = at_kind k (kind_at c k) refl

no_nul : (name : Text) → list_any is_barred name ≡ false → All (λ b. (b == nul) ≡ false) name
no_nul [] h = All-nil (λ b. (b == nul) ≡ false)
no_nul (b ∷ bs) h =
    let parts = or_parts (is_barred b) (list_any is_barred bs) h in
    All-cons (λ b. (b == nul) ≡ false) b bs (or_parts (b == slash) (b == nul) parts.0).1 (no_nul bs parts.1)

-- names written as bytes are read back
pub names_in_bytes : (names : List Text) → are_text_names names ≡ true → names_in (name_bytes names) ≡ names
unfolding are_text_names names_in
names_in_bytes [] all = refl
names_in_bytes (n ∷ names) all =
    let both = and_parts (is_text_name n) (list_all is_text_name names) all in
    let proper = (and_parts (is_utf8 n) (is_proper n) both.0).1 in
    let parts = and_parts (not (stays n) && not (bytes_eq n parent_dir)) (not (list_any is_barred n)) proper in
    let plain = no_nul n (not-true (list_any is_barred n) parts.1) in
    ap (filter is_listed) (slice_split_at (λ b. b == nul) n nul (name_bytes names) plain refl)
    ∙ ap (λ b. cond b (n ∷ filter is_listed (slice_split (λ b. b == nul) (name_bytes names)))
    (filter is_listed (slice_split (λ b. b == nul) (name_bytes names)))) parts.0
    ∙ ap (λ ns. n ∷ ns) (names_in_bytes names both.1)

-- the bytes of one more name
pub name_bytes-more : (names : List Text) (n : Text) → name_bytes (names ++ n ∷ []) ≡ name_bytes names ++ (n ++ nul ∷ [])
name_bytes-more [] n = refl
name_bytes-more (m ∷ names) n = ap (λ bs. m ++ nul ∷ bs) (name_bytes-more names n)
    ∙ sym (append_assoc m (nul ∷ name_bytes names) (n ++ nul ∷ []))

no_strays_at : (c : Content) (o : Option Key) → strays_at (plain_files c) o ≡ []
no_strays_at c None = refl
no_strays_at c (Some k) = refl

-- opening a directory gives its names
pub opened_plain : (c : Content) → is_content c ≡ true → (path : Text) (es : List DirEntry) → list_result c path ≡ Entries es
    → IsOpened (list_result c path) (strays_found (plain_files c) path) (Some (name_bytes (names_of es))) None
unfolding strays_found
opened_plain c w path es from =
    let all = texts_read c w path es from (names_of es) (IsPermutation-refl (names_of es)) in
    let names = names_in_bytes (names_of es) all in
    subst (λ a. IsOpened a (strays_at (plain_files c) (resolve c path)) (Some (name_bytes (names_of es))) None) (sym from) (
      name_bytes (names_of es),
      refl,
      refl,
      (
        subst (IsPermutation (names_of es)) (sym (ap texts_of names ∙ texts_same (names_of es) all)) (IsPermutation-refl (names_of es)),
        subst (λ ss. IsPermutation ss (strays_of (names_in (name_bytes (names_of es))))) (sym (no_strays_at c (resolve c path)))
            (subst (IsPermutation []) (sym (ap strays_of names ∙ no_strays (names_of es) all)) (IsPermutation-refl [])),
      ),
    )

-- what is found in the files of the tree
pub found_held : (c : Content) (f : FileSystem) → Some (plain_files c) ≡ Some f → (path : Text) (r : Result Metadata Error)
    → IsStatAnswer (found_by (look_result c path)) r
    → IsStatAnswer (lstat_found f path) r × IsStatAnswer (stat_found f path) r
found_held c f held path r is =
    subst (λ g. IsStatAnswer (lstat_found g path) r × IsStatAnswer (stat_found g path) r) (same_Some (plain_files c) f held)
    (subst (λ o. IsStatAnswer o r) (plain_found c path).0 is, subst (λ o. IsStatAnswer o r) (plain_found c path).1 is)

-- no directory of the tree has a number
pub number_held : (c : Content) (f : FileSystem) → Some (plain_files c) ≡ Some f → (path : Text) (r : Result (Option DirectoryId) Error)
    → IsNumberAnswer (found_by (look_result c path)) no_number r → IsNumberAnswer (stat_found f path) (number_found f path) r
unfolding number_found
number_held c f held path r is =
    subst (λ g. IsNumberAnswer (stat_found g path) (number_found g path) r) (same_Some (plain_files c) f held)
    (subst (λ n. IsNumberAnswer (stat_found (plain_files c) path) n r) (at_key (resolve c path))
    (subst (λ o. IsNumberAnswer o no_number r) (plain_found c path).1 is))
  where
    at_key : (o : Option Key) → no_number ≡ unwrap_or (option_map (number_at (plain_files c)) o) no_number
    at_key None = refl
    at_key (Some k) = refl

-- errors that say that nothing is there, if nothing is hidden and each target is known
pub known_errors : (f : FileSystem) → has_hidden f.hidden ≡ false
    → ((k : Key) → unwrap_or (option_map is_unknown (target_at f k)) false ≡ false)
    → (path : Text) {T : Type 0} (r : Result T Error) → IfErr r (IsLookupError false)
    → IfErr r (IsLookupError (is_lost f path)) × IfErr r (IsLookupError (is_target_lost f path))
unfolding is_target_lost
known_errors f bare known path r is = (
  subst (λ b. IfErr r (IsLookupError b)) (sym seen) is,
  subst (λ b. IfErr r (IsLookupError b))
      (sym (or_from (is_lost f path) (unwrap_or (option_map (is_unknown_at f) (resolve f.content path)) false) seen
      (at_key (resolve f.content path)))) is,
)
  where
    seen : is_lost f path ≡ false
    seen = never_lost f bare path

    and_no : (a b : Bool) → b ≡ false → (a && b) ≡ false
    and_no true b h = h
    and_no false b h = refl

    at_key : (o : Option Key) → unwrap_or (option_map (is_unknown_at f) o) false ≡ false
    at_key None = refl
    at_key (Some k) =
        and_no (is_other (kind_at f.content k)) (unwrap_or (option_map is_unknown (target_at f k)) false) (known k)

pub fails_held : (c : Content) (f : FileSystem) → Some (plain_files c) ≡ Some f → (path : Text) {T : Type 0} (r : Result T Error)
    → IfErr r (IsLookupError false) → IfErr r (IsLookupError (is_lost f path)) × IfErr r (IsLookupError (is_target_lost f path))
fails_held c f held path r is =
    subst (λ g. IfErr r (IsLookupError (is_lost g path)) × IfErr r (IsLookupError (is_target_lost g path)))
    (same_Some (plain_files c) f held) (known_errors (plain_files c) refl (λ k. refl) path r is)

pub opened_held : (c : Content) (f : FileSystem) → IsHeld (Some (plain_files c)) f → (path : Text) (es : List DirEntry)
    → list_result c path ≡ Entries es
    → (bytes : List ℕ) → bytes ≡ name_bytes (names_of es) → IsOpened (list_result f.content path) (strays_found f path) (Some bytes) None
opened_held c f held path es from bytes is =
    let same = same_Some (plain_files c) f held.0 in
    subst (λ g. IsOpened (list_result g.content path) (strays_found g path) (Some bytes) None) same
    (subst (λ bs. IsOpened (list_result c path) (strays_found (plain_files c) path) (Some bs) None) (sym is)
    (opened_plain c (ap (λ g. is_content g.content) same ∙ held.1) path es from))

-- the bytes of one more entry
pub bytes_more : {A : Type 0} (entries : List (Entry A)) (i : ℕ) (e : Entry A) → i < length entries → e ≡ slice_index_or entries i e
    → (bytes : List ℕ)
    → bytes ≡ name_bytes (names_of (entries_of (take i entries)))
    → (bytes ++ e.name) ++ nul ∷ [] ≡ name_bytes (names_of (entries_of (take (i + 1) entries)))
bytes_more {A} entries i e within read bytes so_far =
    append_assoc bytes e.name (nul ∷ [])
    ∙ ap (λ b. b ++ (e.name ++ nul ∷ [])) so_far
    ∙ sym (name_bytes-more (names_of (entries_of (take i entries))) e.name)
    ∙ ap (λ (x : Entry A). name_bytes (names_of (entries_of (take i entries)) ++ x.name ∷ [])) read
    ∙ ap name_bytes (sym (ap (λ (es : List (Entry A)). names_of (entries_of es)) (take_more entries i e within)
    ∙ names_more (take i entries) (slice_index_or entries i e)))
