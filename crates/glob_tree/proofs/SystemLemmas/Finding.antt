-- What is found at a path, and what a look makes of it.
use Rattle.std.proofs.Common.{◌≡◌, Bool, true, false, cond, ◌&&◌, not, List, [], ◌∷◌, Option, Some, None, Result, Ok}
use Rattle.std.proofs.Common.{Err, refl, ap, sym, ◌∙◌, arith}
use Rattle.std.specs.Prelude.{find, option_map, option_and_then, IfOk, IsOkAnd}
use Rattle.std.specs.Fs.{file_type, IsDir, IsSymlink}
use Rattle.std.specs.List.{list_any}
use Rattle.std.specs.declared.fs.attrs.FileType.{FileType}
use Rattle.std.specs.declared.fs.attrs.Metadata.{Metadata}
use Rattle.std.specs.declared.io.Error.{Error}
use Rattle.std.proofs.lemmas.Bool.{both_ways, not_from_false, or_from, or_parts}
use Rattle.std.proofs.lemmas.Option.{none-some, same_Some}
use Rattle.glob_text.specs.Pieces.{pieces}
use Rattle.glob_text.specs.Text.{Text}
use Rattle.glob_tree.specs.Answers.{IsTold}
use Rattle.glob_tree.specs.Content.{Content, Key, same_key, is_content, kind_at, is_dir_at, step, origin, resolve, look_of, look_result}
use Rattle.glob_tree.specs.FileSystems.{FileSystem, Target, Nowhere, AFile, ADirectory, Unknown, may_be_directory, IsHeld}
use Rattle.glob_tree.specs.FileSystems.{target_at, Found, Directory, Symlink, File, lstat_reports, stat_reports}
use Rattle.glob_tree.specs.FileSystems.{lstat_at, stat_at, lstat_found, stat_found, IsStatAnswer, is_directory_link}
use Rattle.glob_tree.specs.FileSystems.{passes_link, is_direct, has_directory_links, has_hidden}
use Rattle.glob_tree.specs.Followed.{look_found, look_through, look_followed, is_found_directory, has_strays, followed}
use Rattle.glob_tree.specs.Looks.{is_directory}
use Rattle.glob_tree.specs.declared.kind.Kind.{Kind}
use Rattle.glob_tree.specs.declared.kind.Kind.TheVariants.{Dir, Shut, Other}
use Rattle.glob_tree.specs.declared.tree.Look.{Look}
use Rattle.glob_tree.specs.declared.tree.Look.TheVariants as look
use Rattle.glob_tree.proofs.SystemLemmas.Losing.{lstat_seen, never_lost, stat_seen}

-- the files are known, no symbolic link points to a directory, and each name is UTF-8
pub record Follows (files : Option FileSystem) (c : Content) : Type 0 where
  pub f : FileSystem
  pub held : IsHeld files f
  pub same : f.content ≡ c
  pub no_links : has_directory_links f ≡ false
  pub no_strays : has_strays f.strays ≡ false
  pub no_hidden : has_hidden f.hidden ≡ false

pub Follows-from_told : (files : Option FileSystem) (c : Content) → IsTold (option_and_then followed files) c → Follows files c
Follows-from_told None c told = absurd (none-some c told.0)
Follows-from_told (Some f) c told =
    by_test (has_strays f.strays) (has_directory_links f) (has_hidden f.hidden) refl refl refl told.0
  where
    by_test : (strays links hidden : Bool) → has_strays f.strays ≡ strays → has_directory_links f ≡ links
        → has_hidden f.hidden ≡ hidden
        → cond strays None (cond links None (cond hidden None (Some f.content))) ≡ Some c → Follows (Some f) c
    by_test true links hidden d e g h = absurd (none-some c h)
    by_test false true hidden d e g h = absurd (none-some c h)
    by_test false false true d e g h = absurd (none-some c h)
    by_test false false false d e g h =
        let same = same_Some f.content c h in
        record { f = f; held = (refl, ap is_content same ∙ told.1); same = same; no_links = e; no_strays = d; no_hidden = g }

and_no : (a b : Bool) → b ≡ false → (a && b) ≡ false
and_no true b h = h
and_no false b h = refl

no_link_at : (k : Key) (links : List (Key × Target)) → list_any (λ e. may_be_directory e.1) links ≡ false → list_any
    (λ e. same_key k e.0 && may_be_directory e.1) links ≡ false
no_link_at k [] non = refl
no_link_at k (e ∷ es) non =
    let parts = or_parts (may_be_directory e.1) (list_any (λ g. may_be_directory g.1) es) non in
    or_from (same_key k e.0 && may_be_directory e.1) (list_any (λ g. same_key k g.0 && may_be_directory g.1) es)
    (and_no (same_key k e.0) (may_be_directory e.1) parts.0) (no_link_at k es parts.1)

no_link_passed : (f : FileSystem) → list_any (λ e. may_be_directory e.1) f.links ≡ false → (at : Option Key)
    (ps : List Text) → passes_link f at ps ≡ false
no_link_passed f non None ps = refl
no_link_passed f non (Some k) [] = refl
no_link_passed f non (Some k) (p ∷ ps) =
    or_from (is_directory_link f k) (passes_link f (step f.content p k) ps)
    (and_no (not (is_dir_at f.content k)) (list_any (λ e. same_key k e.0 && may_be_directory e.1) f.links)
    (no_link_at k f.links non)) (no_link_passed f non (step f.content p k) ps)

-- without symbolic links to directories, each path is direct
pub is_direct-from_links : (f : FileSystem) → list_any (λ e. may_be_directory e.1) f.links ≡ false → (path : Text) → is_direct f path ≡ true
unfolding is_direct
is_direct-from_links f non path =
    not_from_false (passes_link f (Some (origin f.content path)) (pieces path)) (no_link_passed f non
    (Some (origin f.content path)) (pieces path))

pub no_target : (k : Key) (links : List (Key × Target)) → list_any (λ e. may_be_directory e.1) links ≡ false → option_map
    (λ e. e.1) (find (λ e. same_key k e.0) links) ≡ Some ADirectory → ⊥
no_target k [] non h = none-some ADirectory h
no_target k (e ∷ es) non h =
    let parts = or_parts (may_be_directory e.1) (list_any (λ g. may_be_directory g.1) es) non in
    by_test (same_key k e.0) h parts.0 (no_target k es parts.1)
  where
    by_test : (b : Bool) → option_map (λ g. g.1) (cond b (Some e) (find (λ g. same_key k g.0) es)) ≡ Some ADirectory
        → may_be_directory e.1 ≡ false
        → (option_map (λ g. g.1) (find (λ g. same_key k g.0) es) ≡ Some ADirectory → ⊥) → ⊥
    by_test true h non further = both_ways (may_be_directory e.1) non (ap may_be_directory (same_Some e.1 ADirectory h))
    by_test false h non further = further h

-- what `lstat` finds gives the look, if no file is hidden
pub lstat_look : (f : FileSystem) → has_hidden f.hidden ≡ false → (path : Text)
    → look_found look.Missing (lstat_found f path) ≡ look_result f.content path
unfolding look_result
lstat_look f bare path = ap (look_found look.Missing) (lstat_seen f path (never_lost f bare path)) ∙ at_key (resolve f.content path)
  where
    at_target : (t : Option Target) → look_found look.Missing (Some (lstat_reports Other t)) ≡ look.Other
    at_target None = refl
    at_target (Some t) = refl

    at_kind : (k : Key) (o : Option Kind) → look_found look.Missing (option_map (λ kind. lstat_reports kind (target_at f k)) o) ≡ look_of o
    at_kind k None = refl
    at_kind k (Some Dir) = refl
    at_kind k (Some (Shut kind)) = refl
    at_kind k (Some Other) = at_target (target_at f k)

    at_key : (o : Option Key) → look_found look.Missing (option_and_then (lstat_at f) o) ≡ look_of (option_and_then (kind_at f.content) o)
    at_key None = refl
    at_key (Some k) = at_kind k (kind_at f.content k)

-- for a symbolic link, what `stat` finds gives the look, unless the link points to a directory
pub stat_look : (f : FileSystem) → list_any (λ e. may_be_directory e.1) f.links ≡ false → has_hidden f.hidden ≡ false
    → (path : Text) → lstat_found f path ≡ Some Symlink
    → look_found look.Other (stat_found f path) ≡ look_result f.content path
unfolding look_result
stat_look f non bare path h =
    let seen = never_lost f bare path in
    ap (look_found look.Other) (stat_seen f path seen) ∙ at_key (resolve f.content path) (sym (lstat_seen f path seen) ∙ h)
  where
    at_target : (k : Key) (t : Option Target) → target_at f k ≡ t → look_found look.Other (stat_reports Other t) ≡ look.Other
    at_target k None is = refl
    at_target k (Some Nowhere) is = refl
    at_target k (Some AFile) is = refl
    at_target k (Some ADirectory) is = absurd (no_target k f.links non is)
    at_target k (Some Unknown) is = refl

    at_kind : (k : Key) (o : Option Kind) → option_map (λ kind. lstat_reports kind (target_at f k)) o ≡ Some Symlink
        → look_found look.Other (option_and_then (λ kind. stat_reports kind (target_at f k)) o) ≡ look_of o
    at_kind k None h = absurd (none-some Symlink h)
    at_kind k (Some Dir) h = refl
    at_kind k (Some (Shut kind)) h = refl
    at_kind k (Some Other) h = at_target k (target_at f k) refl

    at_key : (o : Option Key) → option_and_then (lstat_at f) o ≡ Some Symlink → look_found look.Other (option_and_then
        (stat_at f) o) ≡ look_of (option_and_then (kind_at f.content) o)
    at_key None h = absurd (none-some Symlink h)
    at_key (Some k) h = at_kind k (kind_at f.content k) h

-- what `stat` finds says whether a directory is at a path, if no symbolic link points to one and no file is hidden
pub stat_directory : (f : FileSystem) → list_any (λ e. may_be_directory e.1) f.links ≡ false → has_hidden f.hidden ≡ false → (path : Text)
    → is_directory (look_found look.Missing (stat_found f path)) ≡ is_directory (look_result f.content path)
unfolding look_result
stat_directory f non bare path =
    ap (λ o. is_directory (look_found look.Missing o)) (stat_seen f path (never_lost f bare path)) ∙ at_key (resolve f.content path)
  where
    at_target : (k : Key) (t : Option Target) → target_at f k ≡ t → is_directory (look_found look.Missing (stat_reports Other t)) ≡ false
    at_target k None is = refl
    at_target k (Some Nowhere) is = refl
    at_target k (Some AFile) is = refl
    at_target k (Some ADirectory) is = absurd (no_target k f.links non is)
    at_target k (Some Unknown) is = refl

    at_kind : (k : Key) (o : Option Kind) → is_directory (look_found look.Missing (option_and_then
        (λ kind. stat_reports kind (target_at f k)) o)) ≡ is_directory (look_of o)
    at_kind k None = refl
    at_kind k (Some Dir) = refl
    at_kind k (Some (Shut kind)) = refl
    at_kind k (Some Other) = at_target k (target_at f k) refl

    at_key : (o : Option Key) → is_directory (look_found look.Missing (option_and_then (stat_at f) o)) ≡ is_directory
        (look_of (option_and_then (kind_at f.content) o))
    at_key None = refl
    at_key (Some k) = at_kind k (kind_at f.content k)

type_differs : (type : FileType) → IsDir type → IsSymlink type → ⊥
type_differs type d s = omega (arith, d, s)

-- what metadata of a directory, of a non-directory and of a symbolic link, and a failed call, say
pub answer_directory : (absent : Look) (found : Option Found) (m : Metadata) → IsStatAnswer found (Ok m) → IsDir
    (file_type m) → look.Dir ≡ look_found absent found
answer_directory absent None m h d = absurd h
answer_directory absent (Some Directory) m h d = refl
answer_directory absent (Some Symlink) m h d = absurd (type_differs (file_type m) d h)
answer_directory absent (Some File) m h d = absurd (h.0 d)

pub answer_other : (absent : Look) (found : Option Found) (m : Metadata) → IsStatAnswer found (Ok m) →
    (IsDir (file_type m) → ⊥) → look.Other ≡ look_found absent found
answer_other absent None m h non = absurd h
answer_other absent (Some Directory) m h non = absurd (non h)
answer_other absent (Some Symlink) m h non = refl
answer_other absent (Some File) m h non = refl

pub answer_symlink : (found : Option Found) (m : Metadata) → IsStatAnswer found (Ok m) → IsSymlink (file_type m) → found ≡ Some Symlink
answer_symlink None m h s = absurd h
answer_symlink (Some Directory) m h s = absurd (type_differs (file_type m) h s)
answer_symlink (Some Symlink) m h s = refl
answer_symlink (Some File) m h s = absurd (h.1 s)

-- a look reports exactly the directories that are found
pub found_looked : (o : Option Found) → is_found_directory o ≡ is_directory (look_found look.Missing o)
found_looked None = refl
found_looked (Some Directory) = refl
found_looked (Some Symlink) = refl
found_looked (Some File) = refl

-- without symbolic links to directories and hidden files, following links changes no look
pub look_followed-plain : (f : FileSystem) → has_directory_links f ≡ false → has_hidden f.hidden ≡ false → (path : Text)
    → look_followed f path ≡ look_result f.content path
unfolding look_followed
look_followed-plain f non bare path = by_here (lstat_found f path) refl
  where
    by_here : (o : Option Found) → lstat_found f path ≡ o → look_through o (stat_found f path) ≡ look_result f.content path
    by_here None is = ap (look_found look.Missing) (sym is) ∙ lstat_look f bare path
    by_here (Some Directory) is = ap (look_found look.Missing) (sym is) ∙ lstat_look f bare path
    by_here (Some Symlink) is = stat_look f non bare path is
    by_here (Some File) is = ap (look_found look.Missing) (sym is) ∙ lstat_look f bare path

-- and `stat` finds exactly the directories
pub stat_looked : (f : FileSystem) → has_directory_links f ≡ false → has_hidden f.hidden ≡ false → (path : Text)
    → is_found_directory (stat_found f path) ≡ is_directory (look_result f.content path)
stat_looked f non bare path = found_looked (stat_found f path) ∙ stat_directory f non bare path

is_missing : Look → Bool
is_missing look.Dir = false
is_missing look.Other = false
is_missing look.Missing = true

pub missing_other : (l : Look) → l ≡ look.Missing → l ≡ look.Other → ⊥
unfolding is_missing
missing_other l missing other = both_ways false refl (ap is_missing (sym other ∙ missing))

-- the look by the answer of `lstat`, unless that is a symbolic link
pub seen_there : {E : Type 0} (f : FileSystem) (path : Text) (answer : Result Metadata Error) → IsStatAnswer (lstat_found f path) answer
    → IfOk answer (λ m. IsSymlink (file_type m) → ⊥)
    → (r : Result Look E) → ((found : Option Found) → IsStatAnswer found answer → IfOk r (λ l. l ≡ look_found look.Missing found))
    → IfOk r (λ l. l ≡ look_followed f path)
unfolding look_followed
seen_there f path answer found non (Err e) of = tt
seen_there f path (Ok m) found non (Ok l) of = by_found (lstat_found f path) found (of (lstat_found f path) found)
  where
    by_found : (o : Option Found) → IsStatAnswer o (Ok m) → l ≡ look_found look.Missing o → l ≡ look_through o (stat_found f path)
    by_found None h is = is
    by_found (Some Directory) h is = is
    by_found (Some Symlink) h is = absurd (non h)
    by_found (Some File) h is = is
seen_there f path (Err e) found non (Ok l) of = by_found (lstat_found f path) (of (lstat_found f path) found)
  where
    by_found : (o : Option Found) → l ≡ look_found look.Missing o → l ≡ look_through o (stat_found f path)
    by_found None is = is
    by_found (Some Directory) is = is
    by_found (Some Symlink) is = absurd (missing_other l (of None (λ non. refl)) is)
    by_found (Some File) is = is

-- the look by the answer of `stat`, for a symbolic link
pub seen_link : {E : Type 0} (f : FileSystem) (path : Text) (first answer : Result Metadata Error)
    → IsOkAnd first (λ m. IsSymlink (file_type m)) → IsStatAnswer (lstat_found f path) first
    → IsStatAnswer (stat_found f path) answer → (r : Result Look E)
    → ((found : Option Found) → IsStatAnswer found answer → IfOk r (λ l. l ≡ look_found look.Other found))
    → IfOk r (λ l. l ≡ look_followed f path)
unfolding look_followed
seen_link f path (Err e) answer link here there r of = absurd link
seen_link f path (Ok m) answer link here there (Err e) of = tt
seen_link f path (Ok m) answer link here there (Ok l) of =
    of (stat_found f path) there ∙ ap (λ o. look_through o (stat_found f path)) (sym (answer_symlink (lstat_found f path) m here link))
