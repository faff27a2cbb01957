-- What cannot be looked up, and what can.
use Rattle.std.proofs.Common.{◌≡◌, Bool, true, false, cond, not, ◌&&◌, ◌||◌, List, [], ◌∷◌, ◌++◌, Option, Some, None}
use Rattle.std.proofs.Common.{refl, ap, sym, ◌∙◌}
use Rattle.std.specs.Prelude.{option_map, option_and_then, unwrap_or}
use Rattle.std.specs.List.{list_any}
use Rattle.std.proofs.lemmas.Bool.{both_ways, or_from}
use Rattle.std.proofs.lemmas.Option.{none-some, same_Some}
use Rattle.glob_text.specs.Pieces.{pieces}
use Rattle.glob_text.specs.Text.{Text}
use Rattle.glob_tree.specs.Content.{Key, same_key, kind_at, is_dir_at, step, steps, origin, resolve}
use Rattle.glob_tree.specs.FileSystems.{FileSystem, Target, Nowhere, AFile, ADirectory, Unknown, target_at, is_unknown}
use Rattle.glob_tree.specs.FileSystems.{Found, lstat_reports, stat_reports, lstat_at, stat_at}
use Rattle.glob_tree.specs.FileSystems.{lstat_found, stat_found, is_other, is_hidden, is_directory_key, meets_hidden}
use Rattle.glob_tree.specs.FileSystems.{is_lost, is_target_lost, is_unknown_at, has_hidden}
use Rattle.glob_tree.specs.Followed.{is_found_link}
use Rattle.glob_tree.specs.declared.kind.Kind.{Kind}
use Rattle.glob_tree.specs.declared.kind.Kind.TheVariants.{Dir, Shut, Other}
use Rattle.glob_tree.proofs.ContentLemmas.Directories.{LeadsTo}
use Rattle.glob_tree.proofs.ContentLemmas.Resolving.{resolve_some, resolve_steps, steps_none}
use Rattle.glob_tree.proofs.SystemLemmas.Ways.{steps_from}

-- without hidden keys, nothing is lost
pub never_lost : (f : FileSystem) → has_hidden f.hidden ≡ false → (path : Text) → is_lost f path ≡ false
unfolding is_lost
never_lost f none path = along (Some (origin f.content path)) (pieces path)
  where
    no_keys : (p : Key → Bool) (ks : List Key) → has_hidden ks ≡ false → list_any p ks ≡ false
    no_keys p [] none = refl
    no_keys p (k ∷ ks) none = absurd (both_ways true none refl)

    along : (o : Option Key) (ps : List Text) → meets_hidden f o ps ≡ false
    along None ps = refl
    along (Some k) [] = refl
    along (Some k) (p ∷ ps) =
        or_from (is_hidden f k p) (meets_hidden f (step f.content p k) ps)
        (ap (λ b. b && is_dir_at f.content k && not (is_directory_key f (step f.content p k)))
        (no_keys (λ h. same_key k h || same_key (k ++ p ∷ []) h) f.hidden none))
        (along (step f.content p k) ps)

-- a directory of the content is not lost
pub directory_seen : (f : FileSystem) (path : Text) (k : Key) → LeadsTo f.content path k → is_lost f path ≡ false
unfolding is_lost
directory_seen f path k at =
    along (Some (origin f.content path)) (pieces path)
    (sym (resolve_steps f.content path (resolve_some f.content path k at.resolved)) ∙ at.resolved)
  where
    from_directory : (o : Option Key) (ps : List Text) → steps f.content o ps ≡ Some k → is_directory_key f o ≡ true
    from_directory None ps h = absurd (none-some k (sym (steps_none f.content ps) ∙ h))
    from_directory (Some o) [] h = ap (is_dir_at f.content) (same_Some o k h) ∙ at.directory
    from_directory (Some o) (q ∷ qs) h = steps_from f.content o q qs k h

    not_hidden : (x d : Bool) → (x && d && false) ≡ false
    not_hidden true true = refl
    not_hidden true false = refl
    not_hidden false d = refl

    along : (o : Option Key) (ps : List Text) → steps f.content o ps ≡ Some k → meets_hidden f o ps ≡ false
    along None ps h = refl
    along (Some o) [] h = refl
    along (Some o) (p ∷ ps) h =
        let hides = list_any (λ h. same_key o h || same_key (o ++ p ∷ []) h) f.hidden in
        or_from (is_hidden f o p) (meets_hidden f (step f.content p o) ps)
        (ap (λ b. hides && is_dir_at f.content o && not b) (from_directory (step f.content p o) ps h)
        ∙ not_hidden hides (is_dir_at f.content o))
        (along (step f.content p o) ps h)

-- what is not lost is found where the path leads
pub lstat_seen : (f : FileSystem) (path : Text) → is_lost f path ≡ false
    → lstat_found f path ≡ option_and_then (lstat_at f) (resolve f.content path)
unfolding lstat_found
lstat_seen f path seen = ap (λ b. cond b None (option_and_then (lstat_at f) (resolve f.content path))) seen

pub stat_seen : (f : FileSystem) (path : Text) → is_lost f path ≡ false
    → stat_found f path ≡ option_and_then (stat_at f) (resolve f.content path)
unfolding stat_found
stat_seen f path seen = ap (λ b. cond b None (option_and_then (stat_at f) (resolve f.content path))) seen

-- what is lost is not found
pub lost_none : (f : FileSystem) (path : Text) → is_lost f path ≡ true → (lstat_found f path ≡ None) × (stat_found f path ≡ None)
unfolding lstat_found stat_found
lost_none f path lost = (
  ap (λ b. cond b None (option_and_then (lstat_at f) (resolve f.content path))) lost,
  ap (λ b. cond b None (option_and_then (stat_at f) (resolve f.content path))) lost,
)

-- what is found is not lost
pub found_seen : (f : FileSystem) (path : Text) (t : Found) → lstat_found f path ≡ Some t → is_lost f path ≡ false
found_seen f path t is = by_test (is_lost f path) refl
  where
    by_test : (b : Bool) → is_lost f path ≡ b → is_lost f path ≡ false
    by_test true e = absurd (none-some t (sym (lost_none f path e).0 ∙ is))
    by_test false e = e

pub stat_not_lost : (f : FileSystem) (path : Text) (t : Found) → stat_found f path ≡ Some t → is_lost f path ≡ false
stat_not_lost f path t is = by_test (is_lost f path) refl
  where
    by_test : (b : Bool) → is_lost f path ≡ b → is_lost f path ≡ false
    by_test true e = absurd (none-some t (sym (lost_none f path e).1 ∙ is))
    by_test false e = e

-- what `stat` finds is known
pub target_seen : (f : FileSystem) (path : Text) (t : Found) → stat_found f path ≡ Some t → is_target_lost f path ≡ false
unfolding is_target_lost
target_seen f path t is =
    let seen = stat_not_lost f path t is in
    or_from (is_lost f path) (unwrap_or (option_map (is_unknown_at f) (resolve f.content path)) false) seen
    (at_key (resolve f.content path) (sym (stat_seen f path seen) ∙ is))
  where
    at_kind : (o : Option Kind) (u : Option Target) → option_and_then (λ kind. stat_reports kind u) o ≡ Some t
        → (is_other o && unwrap_or (option_map is_unknown u) false) ≡ false
    at_kind None u h = refl
    at_kind (Some Dir) u h = refl
    at_kind (Some (Shut kind)) u h = refl
    at_kind (Some Other) None h = refl
    at_kind (Some Other) (Some Nowhere) h = refl
    at_kind (Some Other) (Some AFile) h = refl
    at_kind (Some Other) (Some ADirectory) h = refl
    at_kind (Some Other) (Some Unknown) h = absurd (none-some t h)

    at_key : (o : Option Key) → option_and_then (stat_at f) o ≡ Some t → unwrap_or (option_map (is_unknown_at f) o) false ≡ false
    at_key None h = refl
    at_key (Some k) h = at_kind (kind_at f.content k) (target_at f k) h

-- without a symbolic link at the path, its target is lost only if it is
pub target_lost-unlinked : (f : FileSystem) (path : Text) → is_found_link (lstat_found f path) ≡ false
    → is_target_lost f path ≡ is_lost f path
unfolding is_target_lost
target_lost-unlinked f path non = by_test (is_lost f path) refl
  where
    at_kind : (o : Option Kind) (u : Option Target) → is_found_link (option_map (λ kind. lstat_reports kind u) o) ≡ false
        → (is_other o && unwrap_or (option_map is_unknown u) false) ≡ false
    at_kind None u h = refl
    at_kind (Some Dir) u h = refl
    at_kind (Some (Shut kind)) u h = refl
    at_kind (Some Other) None h = refl
    at_kind (Some Other) (Some u) h = absurd (both_ways true h refl)

    at_key : (o : Option Key) → is_found_link (option_and_then (lstat_at f) o) ≡ false
        → unwrap_or (option_map (is_unknown_at f) o) false ≡ false
    at_key None h = refl
    at_key (Some k) h = at_kind (kind_at f.content k) (target_at f k) h

    by_test : (b : Bool) → is_lost f path ≡ b
        → (is_lost f path || unwrap_or (option_map (is_unknown_at f) (resolve f.content path)) false) ≡ is_lost f path
    by_test true e =
        ap (λ b. b || unwrap_or (option_map (is_unknown_at f) (resolve f.content path)) false) e ∙ sym e
    by_test false e =
        or_from (is_lost f path) (unwrap_or (option_map (is_unknown_at f) (resolve f.content path)) false) e
        (at_key (resolve f.content path) (ap is_found_link (sym (lstat_seen f path e)) ∙ non)) ∙ sym e
