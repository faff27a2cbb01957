-- What lookups that keep or follow links say about a path.
use Rattle.std.proofs.Common.{◌≡◌, ◌≢◌, ℕ, Bool, true, false, cond, inl, inr, [], ◌∷◌, ◌++◌, Option, Some, None}
use Rattle.std.proofs.Common.{Ok, refl, ap, sym, subst, ◌∙◌}
use Rattle.std.specs.Prelude.{is_some, option_map, option_and_then}
use Rattle.std.specs.Fs.{file_type, IsDir, IsSymlink}
use Rattle.std.specs.Path.{has_no_slash}
use Rattle.std.specs.declared.fs.attrs.Metadata.{Metadata}
use Rattle.std.proofs.lemmas.Bool.{both_ways}
use Rattle.std.proofs.lemmas.Option.{none-some, same_Some}
use Rattle.glob_text.specs.Characters.{slash}
use Rattle.glob_text.specs.Text.{Text}
use Rattle.glob_tree.specs.Answers.{IsTold}
use Rattle.glob_tree.specs.Content.{Content, Key, is_content, kind_at, resolve, look_result}
use Rattle.glob_tree.specs.Disks.{content_with_links, visible_content}
use Rattle.glob_tree.specs.FileSystems.{FileSystem, Target, Nowhere, AFile, ADirectory, Unknown, target_at, Found, Directory}
use Rattle.glob_tree.specs.FileSystems.{Symlink, File, lstat_reports, stat_reports, lstat_at, stat_at, lstat_found}
use Rattle.glob_tree.specs.FileSystems.{stat_found, IsStatAnswer, has_directory_links, has_hidden, is_direct}
use Rattle.glob_tree.specs.Followed.{look_found, look_through, look_followed, is_found_directory}
use Rattle.glob_tree.specs.Looks.{is_directory}
use Rattle.glob_tree.specs.Private.Looking.{has_places, IsSeen, IsFoundAs, IsWay, HasWay, LeadsOn, IsOnWay}
use Rattle.glob_tree.specs.declared.kind.Kind.{Kind}
use Rattle.glob_tree.specs.declared.kind.Kind.TheVariants.{Dir, Shut, Other}
use Rattle.glob_tree.specs.declared.physical.Links.{Links}
use Rattle.glob_tree.specs.declared.physical.Links.TheVariants.{Kept, Followed}
use Rattle.glob_tree.specs.declared.tree.Look.TheVariants as look
use Rattle.glob_tree.proofs.SystemLemmas.Finding.{no_target, lstat_look, answer_directory, answer_other, answer_symlink}
use Rattle.glob_tree.proofs.SystemLemmas.Losing.{found_seen, lstat_seen, stat_seen}
use Rattle.glob_tree.proofs.SystemLemmas.Ways.{direct_one, direct_below, nothing_below, said_no, way_above}

-- the known content is the content of a known file system
pub record Sees (links : Links) (files : Option FileSystem) (c : Content) : Type 0 where
  pub f : FileSystem
  pub seen : IsSeen links files f
  pub same : f.content ≡ c

pub Sees-from_told : (links : Links) (files : Option FileSystem) (c : Content) → IsTold (option_and_then
    (content_with_links links) files) c → Sees links files c
Sees-from_told links None c told = absurd (none-some c told.0)
Sees-from_told Kept (Some f) c told = by_test (has_hidden f.hidden) refl told.0
  where
    by_test : (b : Bool) → has_hidden f.hidden ≡ b → cond b None (Some f.content) ≡ Some c → Sees Kept (Some f) c
    by_test true e h = absurd (none-some c h)
    by_test false e h =
        let same = same_Some f.content c h in
        record { f = f; seen = ((refl, ap is_content same ∙ told.1), ap (λ b. is_some (cond b None (Some f.content))) e); same = same }
Sees-from_told Followed (Some f) c told = by_test (has_directory_links f) (has_hidden f.hidden) refl refl told.0
  where
    by_test : (b d : Bool) → has_directory_links f ≡ b → has_hidden f.hidden ≡ d → cond b None (cond d None (Some f.content)) ≡ Some c
        → Sees Followed (Some f) c
    by_test true d e g h = absurd (none-some c h)
    by_test false true e g h = absurd (none-some c h)
    by_test false false e g h =
        let same = same_Some f.content c h in
        let places : has_places Followed f ≡ true = λ i. is_some (cond (e i) None (cond (g i) None (Some f.content))) in
        record { f = f; seen = ((refl, ap is_content same ∙ told.1), places); same = same }

-- metadata of what was found is an answer
pub as_answer : (found : Option Found) (m : Metadata) → IsFoundAs found (Some m) → IsStatAnswer found (Ok m)
as_answer None m h = absurd h
as_answer (Some t) m h = h

none_found : (found : Option Found) → IsFoundAs found None → look.Missing ≡ look_found look.Missing found
none_found None h = refl
none_found (Some t) h = absurd h

-- if the content is known, no file is hidden
pub no_hidden_files : (links : Links) (f : FileSystem) → has_places links f ≡ true → has_hidden f.hidden ≡ false
no_hidden_files links f places = by_links links places
  where
    by_hidden : (b : Bool) → is_some (cond b None (Some f.content)) ≡ true → b ≡ false
    by_hidden true h = absurd (both_ways false refl h)
    by_hidden false h = refl

    by_test : (b : Bool) → is_some (cond b None (visible_content f)) ≡ true → has_hidden f.hidden ≡ false
    by_test true h = absurd (both_ways false refl h)
    by_test false h = by_hidden (has_hidden f.hidden) h

    by_links : (l : Links) → has_places l f ≡ true → has_hidden f.hidden ≡ false
    by_links Kept h = by_hidden (has_hidden f.hidden) h
    by_links Followed h = by_test (has_directory_links f) h

-- nothing was found at a path
pub look_nothing : (links : Links) (f : FileSystem) → has_places links f ≡ true → (path : Text) → IsFoundAs (lstat_found f path) None
    → look.Missing ≡ look_result f.content path
look_nothing links f places path h = none_found (lstat_found f path) h ∙ lstat_look f (no_hidden_files links f places) path

-- something was found that is not a followed link
pub look_something : (links : Links) (f : FileSystem) → has_places links f ≡ true → (path : Text) (m : Metadata) (d : Bool)
    → IsFoundAs (lstat_found f path) (Some m) → (d ≡ true → IsDir (file_type m)) → (IsDir (file_type m) → d ≡ true)
    → cond d look.Dir look.Other ≡ look_result f.content path
look_something links f places path m true h is back = answer_directory look.Missing (lstat_found f path) m
    (as_answer (lstat_found f path) m h) (is refl) ∙ lstat_look f (no_hidden_files links f places) path
look_something links f places path m false h is back = answer_other look.Missing (lstat_found f path) m
    (as_answer (lstat_found f path) m h) (λ d. both_ways false refl (back d)) ∙ lstat_look f (no_hidden_files links f places) path

-- if the content has every followed link, no such link points to a directory
pub no_directory_links : (f : FileSystem) → has_places Followed f ≡ true → has_directory_links f ≡ false
no_directory_links f places = by_test (has_directory_links f) places
  where
    by_test : (b : Bool) → is_some (cond b None (visible_content f)) ≡ true → b ≡ false
    by_test true h = absurd (both_ways false refl h)
    by_test false h = refl

-- such a link points to no directory
pub no_directory_there : (f : FileSystem) (path : Text) → has_places Followed f ≡ true → lstat_found f path ≡ Some
    Symlink → stat_found f path ≢ Some Directory
no_directory_there f path places h is =
    let seen = found_seen f path Symlink h in
    at_key (resolve f.content path) (sym (lstat_seen f path seen) ∙ h) (sym (stat_seen f path seen) ∙ is)
  where
    at_target : (k : Key) (t : Option Target) → target_at f k ≡ t → stat_reports Other t ≡ Some Directory → ⊥
    at_target k None e is = both_ways false refl (ap is_found_directory is)
    at_target k (Some Nowhere) e is = both_ways false refl (ap is_found_directory is)
    at_target k (Some AFile) e is = both_ways false refl (ap is_found_directory is)
    at_target k (Some ADirectory) e is = no_target k f.links (no_directory_links f places) e
    at_target k (Some Unknown) e is = both_ways false refl (ap is_found_directory is)

    at_kind : (k : Key) (o : Option Kind) → option_map (λ kind. lstat_reports kind (target_at f k)) o ≡ Some Symlink
        → option_and_then (λ kind. stat_reports kind (target_at f k)) o ≡ Some Directory → ⊥
    at_kind k None h is = none-some Symlink h
    at_kind k (Some Dir) h is = both_ways true (ap is_found_directory h) refl
    at_kind k (Some (Shut kind)) h is = both_ways true (ap is_found_directory h) refl
    at_kind k (Some Other) h is = at_target k (target_at f k) refl is

    at_key : (o : Option Key) → option_and_then (lstat_at f) o ≡ Some Symlink → option_and_then (stat_at f) o ≡ Some Directory → ⊥
    at_key None h is = none-some Symlink h
    at_key (Some k) h is = at_kind k (kind_at f.content k) h is

pub link_found : (f : FileSystem) (path : Text) (m : Metadata) → IsFoundAs (lstat_found f path) (Some m) → IsSymlink
    (file_type m) → lstat_found f path ≡ Some Symlink
link_found f path m h s = answer_symlink (lstat_found f path) m (as_answer (lstat_found f path) m h) s

-- the content has a link as a non-directory
pub look_link : (links : Links) (f : FileSystem) → has_places links f ≡ true → (path : Text) → lstat_found f path ≡ Some Symlink
    → look.Other ≡ look_result f.content path
look_link links f places path is = ap (look_found look.Missing) (sym is) ∙ lstat_look f (no_hidden_files links f places) path

pub no_found : (o : Option Found) → o ≢ Some Directory → is_found_directory o ≡ false
no_found None non = refl
no_found (Some Directory) non = absurd (non refl)
no_found (Some Symlink) non = refl
no_found (Some File) non = refl

-- a look with links followed, at a link
pub followed_link : (f : FileSystem) (path : Text) (d : Bool) → lstat_found f path ≡ Some Symlink
    → d ≡ is_found_directory (stat_found f path)
    → cond d look.Dir look.Other ≡ look_followed f path
unfolding look_followed
followed_link f path d link is =
    ap (λ b. cond b look.Dir look.Other) is ∙ by_target (stat_found f path) ∙ ap (λ o. look_through o (stat_found f path)) (sym link)
  where
    by_target : (o : Option Found) → cond (is_found_directory o) look.Dir look.Other ≡ look_found look.Other o
    by_target None = refl
    by_target (Some Directory) = refl
    by_target (Some Symlink) = refl
    by_target (Some File) = refl

-- a path without a separator has a way
pub way_of_one : (f : FileSystem) → is_content f.content ≡ true → (path : Text) → has_no_slash path ≡ true → HasWay f path true
way_of_one f w path plain = direct_one f w path plain

pub way_below : (f : FileSystem) → is_content f.content ≡ true → (path above name : Text) → path ≡ above ++ slash ∷
    name → has_no_slash name ≡ true → (yes : Bool) → LeadsOn f above yes
    → HasWay f path yes
way_below f w path above name is plain true way = direct_below f w above name path way plain is
way_below f w path above name is plain false non = ap (look_result f.content) is ∙ nothing_below f.content above name non.0 non.1

is_nil : Text → Bool
is_nil [] = true
is_nil (x ∷ xs) = false

cons_some : (x : ℕ) (xs : Text) → x ∷ xs ≡ [] → ⊥
unfolding is_nil
cons_some x xs h = both_ways false refl (ap is_nil h)

-- every directory on a way is a way
pub on_way : (c : Content) (directory way : Text) → IsOnWay directory way true → IsWay c way → IsWay c directory
on_way c directory way (inl none) is = inl none
on_way c directory way (inr (inl same)) is = subst (IsWay c) same is
on_way c directory way (inr (inr (more, cut))) is = by_empty directory refl
  where
    by_empty : (d : Text) → directory ≡ d → IsWay c directory
    by_empty [] e = inl e
    by_empty (x ∷ xs) e = way_above c directory more (λ none. cons_some x xs (sym e ∙ none)) (subst (IsWay c) cut is)

-- a directory below a way is a way
pub step_way : (f : FileSystem) → is_content f.content ≡ true → (directory further name : Text) → directory ≡ further
    ++ slash ∷ name → has_no_slash name ≡ true → (told : Bool) → told ≡ true
    → (is_direct f directory ≡ true → told ≡ is_directory (look_result f.content directory)) → IsWay f.content further
    → IsWay f.content directory
step_way f w directory further name is plain told t said way = inr (sym (said (direct_below f w further name directory way plain is)) ∙ t)

pub last_way : (f : FileSystem) → is_content f.content ≡ true → (directory : Text) → has_no_slash directory ≡ true →
    (told : Bool) → told ≡ true
    → (is_direct f directory ≡ true → told ≡ is_directory (look_result f.content directory)) → IsWay f.content directory
last_way f w directory plain told t said = inr (sym (said (direct_one f w directory plain)) ∙ t)

-- nothing is below a non-directory
pub step_none : (c : Content) (directory further name : Text) → directory ≡ further ++ slash ∷ name → further ≢ []
    → is_directory (look_result c further) ≡ false
    → is_directory (look_result c directory) ≡ false
step_none c directory further name is some none = ap (λ d. is_directory (look_result c d)) is ∙ ap is_directory
    (nothing_below c further name some none)

-- if no directory is found, the content has none
pub no_way : (f : FileSystem) (directory : Text) (told : Bool) → told ≡ false → (is_direct f directory ≡ true
    → told ≡ is_directory (look_result f.content directory))
    → is_directory (look_result f.content directory) ≡ false
no_way f directory told n said = said_no f directory (λ direct. sym (said direct) ∙ n)
