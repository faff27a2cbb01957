-- What lookups say about a path, and what they hand over.
use Rattle.std.proofs.Common.{◌≡◌, ◌≢◌, Bool, true, false, not, ◌&&◌, ◌||◌, cond, List, [], ◌∷◌, Option, Some, None}
use Rattle.std.proofs.Common.{refl, ap, sym, subst, ◌∙◌}
use Rattle.std.specs.Prelude.{option_map, option_and_then}
use Rattle.std.specs.Fs.{file_type, IsDir, IsSymlink}
use Rattle.std.specs.List.{filter}
use Rattle.std.specs.declared.fs.attrs.Metadata.{Metadata}
use Rattle.std.proofs.lemmas.Bool.{both_ways}
use Rattle.std.proofs.lemmas.Option.{none-some}
use Rattle.glob_text.specs.Text.{Text}
use Rattle.glob_tree.specs.Content.{Key, is_dir, kind_at, resolve, look_of, look_result}
use Rattle.glob_tree.specs.FileSystems.{FileSystem, Target, target_at, Found, Directory, Symlink, File, lstat_reports, stat_reports}
use Rattle.glob_tree.specs.FileSystems.{lstat_at, stat_at, lstat_found, stat_found, is_above, is_lost, is_target_lost, number_found}
use Rattle.glob_tree.specs.Followed.{look_found, look_through, look_followed, look_with, is_found_directory, is_found_link}
use Rattle.glob_tree.specs.Followed.{is_lost_with, is_reported, leads_back, points_back, AreReported, IsLookReported, IsLookSaid}
use Rattle.glob_tree.specs.Looks.{is_directory, is_there}
use Rattle.glob_tree.specs.Private.Listing.{IsSaid}
use Rattle.glob_tree.specs.Private.Looking.{IsFoundAs, IsLinkSaid, IsLookedUp, IsTarget}
use Rattle.glob_tree.specs.Strays.{and_then}
use Rattle.glob_tree.specs.declared.directory_id.DirectoryId.{DirectoryId}
use Rattle.glob_tree.specs.declared.kind.Kind.{Kind}
use Rattle.glob_tree.specs.declared.kind.Kind.TheVariants.{Dir, Shut, Other}
use Rattle.glob_tree.specs.declared.physical.Links.{Links}
use Rattle.glob_tree.specs.declared.physical.Links.TheVariants.{Kept, Followed}
use Rattle.glob_tree.specs.declared.tree.Look.{Look}
use Rattle.glob_tree.specs.declared.tree.Look.TheVariants as look
use Rattle.glob_tree.proofs.ContentLemmas.Directories.{LeadsTo-from_looked, directory_kind, is_dir_at-kind}
use Rattle.glob_tree.proofs.StraysLemmas.{and_then-nil}
use Rattle.glob_tree.proofs.SystemLemmas.Finding.{answer_directory, answer_other}
use Rattle.glob_tree.proofs.SystemLemmas.Looking.{as_answer, followed_link, no_found}
use Rattle.glob_tree.proofs.SystemLemmas.Losing.{directory_seen, found_seen, lost_none, lstat_seen, stat_not_lost, stat_seen}
use Rattle.glob_tree.proofs.SystemLemmas.Losing.{target_lost-unlinked, target_seen}

-- a directory of the content is found
pub directory_there : (f : FileSystem) (path : Text) → is_directory (look_result f.content path) ≡ true
    → (lstat_found f path ≡ Some Directory) × (stat_found f path ≡ Some Directory)
directory_there f path is =
    let (k, at) = LeadsTo-from_looked f.content path is in
    let (kind, has) = directory_kind f.content k at.directory in
    let both = at_kind k kind has (sym (is_dir_at-kind f.content k kind has) ∙ at.directory) in
    let seen = directory_seen f path k at in (
      lstat_seen f path seen ∙ ap (option_and_then (lstat_at f)) at.resolved ∙ both.0,
      stat_seen f path seen ∙ ap (option_and_then (stat_at f)) at.resolved ∙ both.1,
    )
  where
    here : (k : Key) (kind : Kind) → kind_at f.content k ≡ Some kind
        → lstat_reports kind (target_at f k) ≡ Directory → stat_reports kind (target_at f k) ≡ Some Directory
        → (lstat_at f k ≡ Some Directory) × (stat_at f k ≡ Some Directory)
    here k kind e lstat stat = (
      ap (option_map (λ kind. lstat_reports kind (target_at f k))) e ∙ ap Some lstat,
      ap (option_and_then (λ kind. stat_reports kind (target_at f k))) e ∙ stat,
    )

    at_kind : (k : Key) (kind : Kind) → kind_at f.content k ≡ Some kind → is_dir kind ≡ true
        → (lstat_at f k ≡ Some Directory) × (stat_at f k ≡ Some Directory)
    at_kind k Dir e d = here k Dir e refl refl
    at_kind k (Shut kind) e d = here k (Shut kind) e refl refl
    at_kind k Other e d = absurd (both_ways false refl d)

-- where the content has nothing, nothing is found
pub nothing_there : (f : FileSystem) (path : Text) → look_result f.content path ≡ look.Missing → lstat_found f path ≡ None
unfolding look_result
nothing_there f path none = by_test (is_lost f path) refl
  where
    at_kind : (t : Option Target) (o : Option Kind) → look_of o ≡ look.Missing → option_map (λ kind. lstat_reports kind t) o ≡ None
    at_kind t None is = refl
    at_kind t (Some Dir) is = absurd (both_ways true (ap is_there is) refl)
    at_kind t (Some (Shut kind)) is = absurd (both_ways true (ap is_there is) refl)
    at_kind t (Some Other) is = absurd (both_ways true (ap is_there is) refl)

    at_key : (o : Option Key) → look_of (option_and_then (kind_at f.content) o) ≡ look.Missing → option_and_then (lstat_at f) o ≡ None
    at_key None is = refl
    at_key (Some k) is = at_kind (target_at f k) (kind_at f.content k) is

    by_test : (b : Bool) → is_lost f path ≡ b → lstat_found f path ≡ None
    by_test true e = (lost_none f path e).0
    by_test false e = lstat_seen f path e ∙ at_key (resolve f.content path) none

or_none : (a : Bool) → (a || false) ≡ a
or_none true = refl
or_none false = refl

and_true : (a : Bool) → (a && true) ≡ a
and_true true = refl
and_true false = refl

and_false : (a b : Bool) → b ≡ false → (a && b) ≡ false
and_false true b none = none
and_false false b none = refl

-- if `lstat` finds nothing or no symbolic link, no link leads back
no_link_back : (links : Links) (f : FileSystem) (path : Text) → is_found_link (lstat_found f path) ≡ false → leads_back links f path ≡ false
no_link_back Kept f path none = refl
no_link_back Followed f path none = ap (λ b. b && points_back f path) none

-- what a look returns where `lstat` finds no symbolic link
look_unlinked : (links : Links) (f : FileSystem) (path : Text) (o : Option Found) → lstat_found f path ≡ o → is_found_link o ≡ false
    → look_found look.Missing o ≡ look_with links f path
unfolding look_with look_followed
look_unlinked Kept f path o is none = ap (look_found look.Missing) (sym is)
look_unlinked Followed f path o is none =
    by_found o none ∙ ap (λ o. look_through o (stat_found f path)) (sym is)
    ∙ ap (λ b. cond b look.Other (look_through (lstat_found f path) (stat_found f path)))
    (sym (no_link_back Followed f path (ap is_found_link is ∙ none)))
  where
    by_found : (o : Option Found) → is_found_link o ≡ false → look_found look.Missing o ≡ look_through o (stat_found f path)
    by_found None none = refl
    by_found (Some Directory) none = refl
    by_found (Some Symlink) none = absurd (both_ways true none refl)
    by_found (Some File) none = refl

-- where `lstat` finds no symbolic link, the path is reported only if it is lost
reported_unlinked : (links : Links) (f : FileSystem) (path : Text) → is_found_link (lstat_found f path) ≡ false
    → is_reported links f path ≡ is_lost f path
reported_unlinked links f path non =
    ap (λ b. is_lost_with links f path || b) (no_link_back links f path non) ∙ or_none (is_lost_with links f path) ∙ by_links links
  where
    by_links : (l : Links) → is_lost_with l f path ≡ is_lost f path
    by_links Kept = refl
    by_links Followed = target_lost-unlinked f path non

-- what is reported, by whether it must be
reported_by : (links : Links) (f : FileSystem) (path : Text) (b : Bool) → is_reported links f path ≡ b → (old new : Option (List Text))
    → new ≡ and_then old (cond b (path ∷ []) []) → AreReported links f (path ∷ []) old new
reported_by links f path b is old new more = more ∙ ap (λ x. and_then old (cond x (path ∷ []) [])) (sym is)

-- what a lookup says, where `lstat` finds nothing
pub said_nothing : (links : Links) (f : FileSystem) (path : Text) (old new : Option (List Text)) → IsFoundAs (lstat_found f path) None
    → new ≡ and_then old (filter (is_lost f) (path ∷ [])) → IsLookedUp links f path look.Missing old new
said_nothing links f path old new none more = by_found (lstat_found f path) refl none
  where
    by_found : (o : Option Found) → lstat_found f path ≡ o → IsFoundAs o None → IsLookedUp links f path look.Missing old new
    by_found None is h = (
      look_unlinked links f path None is refl,
      reported_by links f path (is_lost f path) (reported_unlinked links f path (ap is_found_link is)) old new more,
    )
    by_found (Some t) is h = absurd h

-- what a look says below what is no directory
pub said_below : (links : Links) (f : FileSystem) (path : Text) (old new : Option (List Text)) → look_result f.content path ≡ look.Missing
    → IsLookReported links f path old new → IsLookSaid links f path look.Missing old new
said_below links f path old new none reported = (look_unlinked links f path None (nothing_there f path none) refl, reported)

-- what a lookup says of a followed symbolic link
pub said_link : (f : FileSystem) (path : Text) (leads : Bool) (old new : Option (List Text)) → lstat_found f path ≡ Some Symlink
    → IsLinkSaid f path leads old new → IsLookedUp Followed f path (cond leads look.Dir look.Other) old new
unfolding look_with
said_link f path leads old new link (is, more) = (
  by_test (points_back f path) refl,
  reported_by Followed f path (is_target_lost f path || points_back f path) (ap (λ b. is_target_lost f path || b) same) old new more,
)
  where
    same : leads_back Followed f path ≡ points_back f path
    same = ap (λ o. is_found_link o && points_back f path) link

    by_test : (b : Bool) → points_back f path ≡ b → cond leads look.Dir look.Other ≡ look_with Followed f path
    by_test true e =
        ap (λ b. cond b look.Dir look.Other)
        (is ∙ and_false (is_found_directory (stat_found f path)) (not (points_back f path)) (ap not e))
        ∙ ap (λ b. cond b look.Other (look_followed f path)) (sym (same ∙ e))
    by_test false e =
        followed_link f path leads link
        (is ∙ ap (λ b. is_found_directory (stat_found f path) && not b) e ∙ and_true (is_found_directory (stat_found f path)))
        ∙ ap (λ b. cond b look.Other (look_followed f path)) (sym (same ∙ e))

-- what a lookup says of anything else
pub said_something : (links : Links) (f : FileSystem) (path : Text) (m : Metadata) (d : Bool) (old new : Option (List Text))
    → IsFoundAs (lstat_found f path) (Some m) → (links ≡ Followed → IsSymlink (file_type m) → ⊥)
    → (d ≡ true → IsDir (file_type m)) → (IsDir (file_type m) → d ≡ true) → new ≡ old
    → IsLookedUp links f path (cond d look.Dir look.Other) old new
unfolding look_with
said_something links f path m d old new h non is back same = by_found (lstat_found f path) refl h
  where
    by_dir : (o : Option Found) → IsFoundAs o (Some m) → (b : Bool) → d ≡ b → cond d look.Dir look.Other ≡ look_found look.Missing o
    by_dir o h true e = ap (λ b. cond b look.Dir look.Other) e ∙ answer_directory look.Missing o m (as_answer o m h) (is e)
    by_dir o h false e =
        ap (λ b. cond b look.Dir look.Other) e ∙ answer_other look.Missing o m (as_answer o m h) (λ t. both_ways d e (back t))

    nothing : (l : Links) → is_reported l f path ≡ false → AreReported l f (path ∷ []) old new
    nothing l none = reported_by l f path false none old new (same ∙ sym (and_then-nil old))

    unlinked : (t : Found) → lstat_found f path ≡ Some t → is_found_link (Some t) ≡ false
        → IsLookedUp links f path (cond d look.Dir look.Other) old new
    unlinked t at none = (
      by_dir (lstat_found f path) h d refl ∙ ap (look_found look.Missing) at ∙ look_unlinked links f path (Some t) at none,
      nothing links (reported_unlinked links f path (ap is_found_link at ∙ none) ∙ found_seen f path t at),
    )

    kept : lstat_found f path ≡ Some Symlink → IsLookedUp Kept f path (cond d look.Dir look.Other) old new
    kept at = (
      by_dir (lstat_found f path) h d refl,
      nothing Kept (ap (λ b. b || false) (found_seen f path Symlink at)),
    )

    by_links : (l : Links) → links ≡ l → lstat_found f path ≡ Some Symlink → IsSymlink (file_type m)
        → IsLookedUp links f path (cond d look.Dir look.Other) old new
    by_links Followed e at link = absurd (non e link)
    by_links Kept e at link = subst (λ l. IsLookedUp l f path (cond d look.Dir look.Other) old new) (sym e) (kept at)

    by_found : (o : Option Found) → lstat_found f path ≡ o → IsFoundAs o (Some m)
        → IsLookedUp links f path (cond d look.Dir look.Other) old new
    by_found None at h = absurd h
    by_found (Some Directory) at h = unlinked Directory at refl
    by_found (Some File) at h = unlinked File at refl
    by_found (Some Symlink) at h = by_links links refl at h

-- what a lookup says about a directory
pub kind_of_look : (links : Links) (f : FileSystem) (path : Text) (seen : Look) (told : Bool) → told ≡ is_directory seen
    → (old new : Option (List Text)) → IsLookedUp links f path seen old new → IsSaid true links f path told old new
kind_of_look links f path seen told is old new (looked, more) = (more, is ∙ ap is_directory looked)

-- if no directory is reported, the content has none
pub none_said : (links : Links) (f : FileSystem) (path : Text) (told : Bool) → told ≡ false → (old new : Option (List Text))
    → IsSaid true links f path told old new → is_directory (look_result f.content path) ≡ false
none_said links f path told none old new (more, kind) = by_content (is_directory (look_result f.content path)) refl
  where
    by_links : (l : Links) → lstat_found f path ≡ Some Directory → is_directory (look_with l f path) ≡ true
    by_links l is = ap is_directory (sym (look_unlinked l f path (Some Directory) is refl))

    by_content : (b : Bool) → is_directory (look_result f.content path) ≡ b → is_directory (look_result f.content path) ≡ false
    by_content false e = e
    by_content true e = absurd (both_ways told none (kind ∙ by_links links (directory_there f path e).0))

-- where the link at a path leads
pub link_leads : (f : FileSystem) (path : Text) (one : DirectoryId) → IsTarget (stat_found f path) (number_found f path) (Some one)
    → (loop : Bool) → loop ≡ is_above f one path → (old new : Option (List Text)) → (loop ≡ true → new ≡ and_then old (path ∷ []))
    → (loop ≡ false → new ≡ old) → IsLinkSaid f path (not loop) old new
link_leads f path one (is, number) loop above old new back on =
    let found : is_found_directory (stat_found f path) ≡ true = ap is_found_directory is in
    let same : points_back f path ≡ loop =
    ap (λ b. b && is_above f (number_found f path) path) found ∙ ap (λ n. is_above f n path) (sym number) ∙ sym above in (
      ap not (sym same) ∙ ap (λ b. b && not (points_back f path)) (sym found),
      by_loop loop refl
          ∙ ap (λ b. and_then old (cond b (path ∷ []) []))
          (sym same ∙ ap (λ b. b || points_back f path) (sym (target_seen f path Directory is))),
    )
  where
    by_loop : (b : Bool) → loop ≡ b → new ≡ and_then old (cond loop (path ∷ []) [])
    by_loop true e = back e ∙ ap (λ b. and_then old (cond b (path ∷ []) [])) (sym e)
    by_loop false e = on e ∙ sym (and_then-nil old) ∙ ap (λ b. and_then old (cond b (path ∷ []) [])) (sym e)

-- a link that leads to no directory
pub link_ends : (f : FileSystem) (path : Text) → stat_found f path ≢ Some Directory → (old new : Option (List Text))
    → new ≡ and_then old (filter (is_target_lost f) (path ∷ [])) → IsLinkSaid f path false old new
link_ends f path non old new more =
    let none = no_found (stat_found f path) non in (
      ap (λ b. b && not (points_back f path)) (sym none),
      more ∙ ap (λ b. and_then old (cond b (path ∷ []) []))
          (sym (or_none (is_target_lost f path))
          ∙ ap (λ b. is_target_lost f path || (b && is_above f (number_found f path) path)) (sym none)),
    )

pub link_there : (f : FileSystem) (path : Text) → stat_found f path ≡ Some Directory → (k : Key) × (resolve f.content path ≡ Some k)
link_there f path is = at_key (resolve f.content path) refl (sym (stat_seen f path (stat_not_lost f path Directory is)) ∙ is)
  where
    at_key : (o : Option Key) → resolve f.content path ≡ o → option_and_then (stat_at f) o ≡ Some Directory
        → (k : Key) × (resolve f.content path ≡ Some k)
    at_key None e h = absurd (none-some Directory h)
    at_key (Some k) e h = (k, e)
