-- What a system in memory holds, and what its calls answer.
use Rattle.std.proofs.Common.{◌≡◌, ℕ, Bool, true, false, not, cond, ◌&&◌, List, [], ◌∷◌, ◌++◌, map, Option, Some, None}
use Rattle.std.proofs.Common.{refl, ap, lit<, sym, subst, ◌∙◌}
use Rattle.std.specs.Prelude.{◌==◌, All, IfErr, Result, IsPermutation, filter_map, option_map, option_and_then, unwrap_or, bytes_eq}
use Rattle.std.specs.Borrow.{Bor}
use Rattle.std.specs.Cmp.Lexicographic.{same_text}
use Rattle.std.specs.List.{filter, list_any, list_all, cons_option, slice_split}
use Rattle.std.specs.Path.{cur_dir, parent_dir}
use Rattle.std.specs.Str.{is_utf8}
use Rattle.std.specs.declared.io.Error.{Error}
use Rattle.std.specs.declared.io.ErrorKind.{ErrorKind}
use Rattle.std.proofs.lemmas.Bool.{and_parts, and_from, both_ways, not-true, not_from_false, or_from, or_parts}
use Rattle.std.proofs.lemmas.List.{append_assoc, append-nil}
use Rattle.std.proofs.lemmas.List.Elements.{All-nil, All-cons, filter-append}
use Rattle.std.proofs.lemmas.List.Sorted.{IsPermutation-refl}
use Rattle.std.proofs.lemmas.List.Splits.{slice_split_at}
use Rattle.std.proofs.lemmas.Option.{none-some, same_Some}
use Rattle.std.proofs.lemmas.Str.{encode_ascii, is_utf8-from_IsUtf8}
use Rattle.glob.specs.Characters.{slash}
use Rattle.glob.specs.Pieces.{is_empty}
use Rattle.glob.specs.Text.{Text}
use Rattle.glob_tree.specs.Answers.{IsListFault, names_of}
use Rattle.glob_tree.specs.Content.{Key, same_key, is_content, is_dir, resolve, DirEntry, child_entry, children}
use Rattle.glob_tree.specs.Content.{Entries, list_of, list_found, list_result}
use Rattle.glob_tree.specs.Directories.{is_listed, names_in}
use Rattle.glob_tree.specs.FileSystems.{FileSystem, IsHeld, IsOpened, lstat_reports, stat_reports, target_at, lstat_at}
use Rattle.glob_tree.specs.FileSystems.{stat_at, lstat_found, stat_found, strays_found, IsLookupError, is_lost, no_number}
use Rattle.glob_tree.specs.FileSystems.{is_target_lost, is_unknown, number_at, number_found}
use Rattle.glob_tree.specs.Paths.{is_barred, is_proper, nul, stays}
use Rattle.glob_tree.specs.Private.Listing.{are_text_names, is_text_name, name_bytes}
use Rattle.glob_tree.specs.Strays.{texts_of}
use Rattle.glob_tree.specs.Strays as stray
use Rattle.glob_tree.specs.declared.kind.Kind.{Kind}
use Rattle.glob_tree.specs.declared.kind.Kind.TheVariants.{Dir, Shut, Other}
use Rattle.glob_tree.proofs.SystemLemmas.Holding.{known_errors}
use Rattle.glob_tree.proofs.SystemLemmas.Listing.{texts_read}
use Rattle.glob_tree.proofs.SystemLemmas.Losing.{lstat_seen, never_lost, stat_seen}
use Rattle.glob_tree.proofs.SystemLemmas.Naming.{no_strays, texts_same}
use Rattle.glob_replay_walks.specs.MemFiles.{key_at, value_at, target_of, content_of, links_of, strays_of, is_stray}
use Rattle.glob_replay_walks.specs.MemFiles.{files_of, name_in, names_at, strays_at, found_at, found_of, lstat_of}
use Rattle.glob_replay_walks.specs.MemFiles.{stat_of}
use Rattle.glob_replay_walks.specs.declared.mem_files.Keyed.{Keyed}
use Rattle.glob_replay_walks.specs.declared.mem_files.LinkTo.{LinkTo}
use Rattle.glob_replay_walks.specs.declared.mem_files.LinkTo.TheVariants as to
use Rattle.glob_replay_walks.proofs.FileLemmas.{kind_at-value, value-mapped}

-- a name that the bytes of a directory have
is_plain : Text → Bool
is_plain n = is_listed n && not (list_any (λ b. b == nul) n)

no_nul : (name : Text) → list_any (λ b. b == nul) name ≡ false → All (λ b. (b == nul) ≡ false) name
no_nul [] h = All-nil (λ b. (b == nul) ≡ false)
no_nul (b ∷ bs) h =
    let parts = or_parts (b == nul) (list_any (λ b. b == nul) bs) h in
    All-cons (λ b. (b == nul) ≡ false) b bs parts.0 (no_nul bs parts.1)

names_in-more : (names : List Text) (more : List ℕ) → list_all is_plain names ≡ true →
    names_in (name_bytes names ++ more) ≡ names ++ names_in more
unfolding names_in is_plain
names_in-more [] more all = refl
names_in-more (n ∷ names) more all =
    let both = and_parts (is_plain n) (list_all is_plain names) all in
    let parts = and_parts (is_listed n) (not (list_any (λ b. b == nul) n)) both.0 in
    let plain = no_nul n (not-true (list_any (λ b. b == nul) n) parts.1) in
    ap names_in (append_assoc n (nul ∷ name_bytes names) more)
    ∙ ap (filter is_listed) (slice_split_at (λ b. b == nul) n nul (name_bytes names ++ more) plain refl)
    ∙ ap (λ b. cond b (n ∷ filter is_listed (slice_split (λ b. b == nul) (name_bytes names ++ more)))
    (filter is_listed (slice_split (λ b. b == nul) (name_bytes names ++ more)))) parts.0
    ∙ ap (λ ns. n ∷ ns) (names_in-more names more both.1)

-- `.` and `..` are not among the names
names_in-dots : (more : List ℕ) → names_in ((46 ∷ 0 ∷ 46 ∷ 46 ∷ 0 ∷ []) ++ more) ≡ names_in more
unfolding names_in
names_in-dots more =
    ap (filter is_listed) (slice_split_at (λ b. b == nul) (46 ∷ []) nul (46 ∷ 46 ∷ 0 ∷ more) (no_nul (46 ∷ []) refl) refl)
    ∙ ap (filter is_listed) (slice_split_at (λ b. b == nul) (46 ∷ 46 ∷ []) nul more (no_nul (46 ∷ 46 ∷ []) refl) refl)

not_barred : (n : Text) → list_any is_barred n ≡ false → list_any (λ b. b == nul) n ≡ false
not_barred [] h = refl
not_barred (b ∷ bs) h =
    let parts = or_parts (is_barred b) (list_any is_barred bs) h in
    or_from (b == nul) (list_any (λ c. c == nul) bs) (or_parts (b == slash) (b == nul) parts.0).1 (not_barred bs parts.1)

texts_plain : (names : List Text) → are_text_names names ≡ true → list_all is_plain names ≡ true
unfolding are_text_names is_plain
texts_plain [] all = refl
texts_plain (n ∷ names) all =
    let both = and_parts (is_text_name n) (list_all is_text_name names) all in
    let proper = (and_parts (is_utf8 n) (is_proper n) both.0).1 in
    let parts = and_parts (not (stays n) && not (bytes_eq n parent_dir)) (not (list_any is_barred n)) proper in
    and_from (is_plain n) (list_all is_plain names)
    (and_from (is_listed n) (not (list_any (λ b. b == nul) n)) parts.0
    (not_from_false (list_any (λ b. b == nul) n) (not_barred n (not-true (list_any is_barred n) parts.1))))
    (texts_plain names both.1)

-- a name that is not UTF-8 differs from each name that is
other_name : (n t : Text) → is_utf8 n ≡ false → is_utf8 t ≡ true → bytes_eq n t ≡ false
other_name n t none is = by_test (bytes_eq n t) refl
  where
    by_test : (b : Bool) → bytes_eq n t ≡ b → bytes_eq n t ≡ false
    by_test true same = absurd (both_ways (is_utf8 n) none (ap is_utf8 (same_text n t (sym same)) ∙ is))
    by_test false other = other

not_empty : (n : Text) → is_utf8 n ≡ false → is_empty n ≡ false
not_empty [] none = absurd (both_ways (is_utf8 []) none (is_utf8-from_IsUtf8 [] ([], (refl, refl))))
not_empty (b ∷ bs) none = refl

stray_plain : (n : Text) → is_stray n ≡ true → is_plain n ≡ true
unfolding is_plain
stray_plain n is =
    let parts = and_parts (not (is_utf8 n)) (not (list_any (λ b. b == nul) n)) is in
    let none = not-true (is_utf8 n) parts.0 in
    and_from (is_listed n) (not (list_any (λ b. b == nul) n))
    (and_from (not (stays n)) (not (bytes_eq n parent_dir))
    (not_from_false (stays n) (or_from (is_empty n) (bytes_eq n cur_dir) (not_empty n none)
    (other_name n cur_dir none (is_utf8-from_IsUtf8 cur_dir (cur_dir, (refl, ap (λ bs. bs ++ []) (encode_ascii 46 (lit< tt))))))))
    (not_from_false (bytes_eq n parent_dir) (other_name n parent_dir none
    (is_utf8-from_IsUtf8 parent_dir (parent_dir, (refl, ap (λ bs. bs ++ (bs ++ [])) (encode_ascii 46 (lit< tt))))))))
    parts.1

strays_plain : (names : List Text) → list_all is_stray names ≡ true → list_all is_plain names ≡ true
strays_plain [] all = refl
strays_plain (n ∷ names) all =
    let both = and_parts (is_stray n) (list_all is_stray names) all in
    and_from (is_plain n) (list_all is_plain names) (stray_plain n both.0) (strays_plain names both.1)

no_texts : (names : List Text) → list_all is_stray names ≡ true → texts_of names ≡ []
no_texts [] all = refl
no_texts (n ∷ names) all =
    let both = and_parts (is_stray n) (list_all is_stray names) all in
    let none = not-true (is_utf8 n) (and_parts (not (is_utf8 n)) (not (list_any (λ b. b == nul) n)) both.0).0 in
    ap (λ b. cond b (n ∷ texts_of names) (texts_of names)) none ∙ no_texts names both.1

strays_same : (names : List Text) → list_all is_stray names ≡ true → stray.strays_of names ≡ names
strays_same [] all = refl
strays_same (n ∷ names) all =
    let both = and_parts (is_stray n) (list_all is_stray names) all in
    let none = not-true (is_utf8 n) (and_parts (not (is_utf8 n)) (not (list_any (λ b. b == nul) n)) both.0).0 in
    ap (λ b. cond (not b) (n ∷ stray.strays_of names) (stray.strays_of names)) none ∙ ap (λ ns. n ∷ ns) (strays_same names both.1)

-- the names of the entries
names_are : {A : Type 0} (k : Key) (kinds : List (Keyed Kind A)) → names_of (children (content_of kinds) k) ≡ names_at k kinds
unfolding children
names_are k [] = refl
names_are {A = A} k (e ∷ es) = by_name (name_in k (key_at e))
    (filter_map (child_entry k) (map (λ (x : Keyed Kind A). (key_at x, x.what)) es)) (names_are k es)
  where
    by_name : (o : Option Text) (rest : List DirEntry) → names_of rest ≡ names_at k es
        → names_of (cons_option (option_map (λ name. (name, is_dir e.what)) o) rest) ≡ cons_option o (names_at k es)
    by_name None rest h = h
    by_name (Some n) rest h = ap (λ ns. n ∷ ns) h

strays_are : {A : Type 0} (k : Key) (strays : List (Keyed (Bor Text) A))
    → map (λ (s : Key × Text). s.1) (filter (λ (s : Key × Text). same_key k s.0) (strays_of strays)) ≡ strays_at k strays
strays_are k [] = refl
strays_are {A = A} k (s ∷ ss) = by_test (same_key k (key_at s)) (strays_are k ss)
  where
    by_test : (b : Bool) → map (λ (x : Key × Text). x.1) (filter (λ (x : Key × Text). same_key k x.0) (strays_of ss)) ≡ strays_at k ss
        → map (λ (x : Key × Text). x.1) (cond b ((key_at s, s.what.now) ∷
        filter (λ (x : Key × Text). same_key k x.0) (strays_of ss)) (filter (λ (x : Key × Text). same_key k x.0) (strays_of ss)))
        ≡ map (λ (x : Keyed (Bor Text) A). x.what.now) (cond b
        (s ∷ filter (λ (x : Keyed (Bor Text) A). same_key k (key_at x)) ss)
        (filter (λ (x : Keyed (Bor Text) A). same_key k (key_at x)) ss))
    by_test true h = ap (λ ns. s.what.now ∷ ns) h
    by_test false h = h

some_strays : {A : Type 0} (k : Key) (strays : List (Keyed (Bor Text) A)) → list_all (λ s. is_stray s.what.now) strays ≡
    true → list_all is_stray (strays_at k strays) ≡ true
some_strays k [] all = refl
some_strays {A = A} k (s ∷ ss) all =
    let both = and_parts (is_stray s.what.now) (list_all (λ (x : Keyed (Bor Text) A). is_stray x.what.now) ss) all in
    by_test (same_key k (key_at s)) both.0 (some_strays k ss both.1)
  where
    by_test : (b : Bool) → is_stray s.what.now ≡ true → list_all is_stray (strays_at k ss) ≡ true
        → list_all is_stray (map (λ (x : Keyed (Bor Text) A). x.what.now)
        (cond b (s ∷ filter (λ (x : Keyed (Bor Text) A). same_key k (key_at x)) ss)
        (filter (λ (x : Keyed (Bor Text) A). same_key k (key_at x)) ss))) ≡ true
    by_test true is h = and_from (is_stray s.what.now) (list_all is_stray (strays_at k ss)) is h
    by_test false is h = h

module _ {A : Type 0} (kinds : List (Keyed Kind A)) (links : List (Keyed LinkTo A)) (strays : List (Keyed (Bor Text) A)) where
  abbrev files : FileSystem
  files = record { content = content_of kinds; links = links_of links; strays = strays_of strays; numbers = []; hidden = [] }

  pub files_are : (f : FileSystem) → files_of kinds links strays ≡ Some f →
      (files ≡ f) × (list_all (λ s. is_stray s.what.now) strays ≡ true)
  unfolding files_of
  files_are f h = by_test (list_all (λ (s : Keyed (Bor Text) A). is_stray s.what.now) strays) refl h
    where
      by_test : (b : Bool) → list_all (λ (s : Keyed (Bor Text) A). is_stray s.what.now) strays ≡ b → cond b (Some files) None ≡ Some f
          → (files ≡ f) × (list_all (λ (s : Keyed (Bor Text) A). is_stray s.what.now) strays ≡ true)
      by_test true is h = (same_Some files f h, is)
      by_test false is h = absurd (none-some f h)

  pub lstat_is : (path : Text) (o : Option (Kind × Option LinkTo)) → o ≡ found_of kinds links path → lstat_of o ≡ lstat_found files path
  lstat_is path o is =
      ap lstat_of is ∙ at (resolve (content_of kinds) path) ∙ sym (lstat_seen files path (never_lost files refl path))
    where
      fused : (v : Option LinkTo) (o : Option Kind) → lstat_of (option_map (λ kind. (kind, v)) o) ≡
          option_map (λ kind. lstat_reports kind (option_map target_of v)) o
      fused v None = refl
      fused v (Some kind) = refl

      at : (r : Option Key) → lstat_of (option_and_then (found_at kinds links) r) ≡ option_and_then (lstat_at files) r
      at None = refl
      at (Some k) =
          fused (value_at k links) (value_at k kinds)
          ∙ ap (λ t. option_map (λ kind. lstat_reports kind t) (value_at k kinds)) (sym (value-mapped target_of k links))
          ∙ ap (option_map (λ kind. lstat_reports kind (target_at files k))) (sym (kind_at-value kinds k))

  pub stat_is : (path : Text) (o : Option (Kind × Option LinkTo)) → o ≡ found_of kinds links path → stat_of o ≡ stat_found files path
  stat_is path o is =
      ap stat_of is ∙ at (resolve (content_of kinds) path) ∙ sym (stat_seen files path (never_lost files refl path))
    where
      fused : (v : Option LinkTo) (o : Option Kind) → stat_of (option_map (λ kind. (kind, v)) o) ≡
          option_and_then (λ kind. stat_reports kind (option_map target_of v)) o
      fused v None = refl
      fused v (Some kind) = refl

      at : (r : Option Key) → stat_of (option_and_then (found_at kinds links) r) ≡ option_and_then (stat_at files) r
      at None = refl
      at (Some k) =
          fused (value_at k links) (value_at k kinds)
          ∙ ap (λ t. option_and_then (λ kind. stat_reports kind t) (value_at k kinds)) (sym (value-mapped target_of k links))
          ∙ ap (option_and_then (λ kind. stat_reports kind (target_at files k))) (sym (kind_at-value kinds k))

  -- no directory has a number
  pub number_is : (path : Text) → no_number ≡ number_found files path
  unfolding number_found
  number_is path = at (resolve (content_of kinds) path)
    where
      at : (r : Option Key) → no_number ≡ unwrap_or (option_map (number_at files) r) no_number
      at None = refl
      at (Some k) = refl

  -- errors say that nothing is there
  pub fails_held : (f : FileSystem) → files_of kinds links strays ≡ Some f → (path : Text) {T : Type 0} (r : Result T Error)
      → IfErr r (IsLookupError false) → IfErr r (IsLookupError (is_lost f path)) × IfErr r (IsLookupError (is_target_lost f path))
  fails_held f held path r is =
      subst (λ g. IfErr r (IsLookupError (is_lost g path)) × IfErr r (IsLookupError (is_target_lost g path)))
      (files_are f held).0 (known_errors files refl known path r is)
    where
      known_target : (v : Option LinkTo) → unwrap_or (option_map is_unknown (option_map target_of v)) false ≡ false
      known_target None = refl
      known_target (Some to.Nowhere) = refl
      known_target (Some to.AFile) = refl
      known_target (Some to.ADirectory) = refl

      known : (k : Key) → unwrap_or (option_map is_unknown (target_at files k)) false ≡ false
      known k =
          ap (λ t. unwrap_or (option_map is_unknown t) false) (value-mapped target_of k links) ∙ known_target (value_at k links)

  -- the listing, by what is at the key
  listed : (f : FileSystem) → files_of kinds links strays ≡ Some f → (path : Text) (k : Key) → Some k ≡ resolve (content_of kinds) path
      → (o : Option Kind) → o ≡ value_at k kinds → list_of (content_of kinds) k o ≡ list_result f.content path
  unfolding list_result
  listed f held path k at o is =
      ap (list_of (content_of kinds) k) (is ∙ sym (kind_at-value kinds k))
      ∙ ap (list_found (content_of kinds)) at
      ∙ ap (λ (g : FileSystem). list_result g.content path) (files_are f held).0

  pub fails_nowhere : (f : FileSystem) → files_of kinds links strays ≡ Some f → (path : Text) → None ≡ resolve (content_of kinds) path
      → (kind : ErrorKind) → IsListFault (list_result f.content path) kind
  unfolding list_result
  fails_nowhere f held path at kind = subst (λ a. IsListFault a kind)
      (ap (list_found (content_of kinds)) at ∙ ap (λ (g : FileSystem). list_result g.content path) (files_are f held).0) tt

  pub fails_at_other : (f : FileSystem) → files_of kinds links strays ≡ Some f → (path : Text) (k : Key) → Some k ≡
      resolve (content_of kinds) path
      → Some Other ≡ value_at k kinds → (kind : ErrorKind) → IsListFault (list_result f.content path) kind
  fails_at_other f held path k at is kind = subst (λ a. IsListFault a kind) (listed f held path k at (Some Other) is) tt

  pub fails_at_none : (f : FileSystem) → files_of kinds links strays ≡ Some f → (path : Text) (k : Key) → Some k ≡
      resolve (content_of kinds) path
      → None ≡ value_at k kinds → (kind : ErrorKind) → IsListFault (list_result f.content path) kind
  fails_at_none f held path k at is kind = subst (λ a. IsListFault a kind) (listed f held path k at None is) tt

  pub opened_shut : (f : FileSystem) → files_of kinds links strays ≡ Some f → (path : Text) (k : Key) → Some k ≡
      resolve (content_of kinds) path
      → (kind : ErrorKind) → Some (Shut kind) ≡ value_at k kinds → (bytes : List ℕ)
      → IsOpened (list_result f.content path) (strays_found f path) (Some bytes) (Some kind)
  opened_shut f held path k at kind is bytes =
      subst (λ a. IsOpened a (strays_found f path) (Some bytes) (Some kind)) (listed f held path k at (Some (Shut kind)) is) (refl, refl)

  -- what the bytes of a directory name
  all_names : (k : Key) → list_all (λ s. is_stray s.what.now) strays ≡ true → are_text_names (names_at k kinds) ≡ true
      → names_in (name_bytes (strays_at k strays) ++ ((46 ∷ 0 ∷ 46 ∷ 46 ∷ 0 ∷ []) ++ name_bytes (names_at k kinds))) ≡
      strays_at k strays ++ names_at k kinds
  unfolding names_in
  all_names k odd texts =
      let ss = strays_at k strays in
      let ns = names_at k kinds in
      names_in-more ss ((46 ∷ 0 ∷ 46 ∷ 46 ∷ 0 ∷ []) ++ name_bytes ns) (strays_plain ss (some_strays k strays odd))
      ∙ ap (λ more. ss ++ more)
      (names_in-dots (name_bytes ns) ∙ ap names_in (sym (append-nil (name_bytes ns))) ∙
      names_in-more ns [] (texts_plain ns texts) ∙ append-nil ns)

  pub opened_dir : (f : FileSystem) → IsHeld (files_of kinds links strays) f → (path : Text) (k : Key) → Some k ≡
      resolve (content_of kinds) path
      → Some Dir ≡ value_at k kinds → (bytes : List ℕ)
      → bytes ≡ name_bytes (strays_at k strays) ++ ((46 ∷ 0 ∷ 46 ∷ 46 ∷ 0 ∷ []) ++ name_bytes (names_at k kinds))
      → IsOpened (list_result f.content path) (strays_found f path) (Some bytes) None
  unfolding list_result strays_found
  opened_dir f held path k at is bytes bytes_are =
      let same = files_are f held.0 in
      let ss = strays_at k strays in
      let ns = names_at k kinds in
      let from : list_result (content_of kinds) path ≡ Entries (children (content_of kinds) k) =
      ap (list_found (content_of kinds)) (sym at) ∙ ap (list_of (content_of kinds) k) (kind_at-value kinds k ∙ sym is) in
      let texts : are_text_names ns ≡ true =
      ap are_text_names (sym (names_are k kinds))
      ∙ texts_read (content_of kinds) (ap (λ (g : FileSystem). is_content g.content) same.0 ∙ held.1) path
      (children (content_of kinds) k) from
      (names_of (children (content_of kinds) k)) (IsPermutation-refl (names_of (children (content_of kinds) k))) in
      let odd = some_strays k strays same.1 in
      let named : names_in bytes ≡ ss ++ ns = ap names_in bytes_are ∙ all_names k same.1 texts in
      let some : texts_of (names_in bytes) ≡ ns = ap texts_of named ∙ filter-append is_utf8 ss ns ∙
      (λ i. no_texts ss odd i ++ texts_same ns texts i) in
      let others : stray.strays_of (names_in bytes) ≡ ss =
      ap stray.strays_of named ∙ filter-append (λ n. not (is_utf8 n)) ss ns ∙
      (λ i. strays_same ss odd i ++ no_strays ns texts i) ∙ append-nil ss in
      let found : ss ≡ strays_found f path =
      sym (strays_are k strays) ∙ ap (λ o. elim o [
        | None ↦ []
        | Some l ↦ map (λ (s : Key × Text). s.1)
            (filter (λ (s : Key × Text). same_key l s.0) (strays_of strays))
      ]) at
      ∙ ap (λ (g : FileSystem). strays_found g path) same.0 in
      subst (λ a. IsOpened a (strays_found f path) (Some bytes) None)
      (sym from ∙ ap (λ (g : FileSystem). list_result g.content path) same.0) (
        bytes,
        refl,
        refl,
        (
          subst (IsPermutation (names_of (children (content_of kinds) k))) (names_are k kinds ∙ sym some)
              (IsPermutation-refl (names_of (children (content_of kinds) k))),
          subst (λ xs. IsPermutation xs (stray.strays_of (names_in bytes))) found
              (subst (IsPermutation ss) (sym others) (IsPermutation-refl ss)),
        ),
      )
