-- What a search is asked for is what the command line asks for.
use Rattle.std.proofs.Common.{◌≡◌, ℕ, Bool, true, false, ◌&&◌, List, [], ◌++◌, refl, sym, ap, subst, ◌∙◌}
use Rattle.std.proofs.lemmas.Bool.{false≢true}
use Rattle.glob_pattern.specs.declared.options.MatchOptions.{MatchOptions}
use Rattle.glob_rules.specs.Lists.{Ignores}
use Rattle.glob_search.specs.Aims.{aim_of, files_of, outer_of, rules_from, wants}
use Rattle.glob_search.specs.Searching.{Aim}
use Rattle.glob_search.specs.States.{HasGiven, Progress, SearchState}
use Rattle.glob_search.specs.Visiting.{gifts}
use Rattle.glob_search.specs.declared.settings.Settings.{Settings}
use Rattle.glob_search.specs.declared.settings.Wanted.{Wanted}
use Rattle.glob_text.specs.Text.{Text}
use Rattle.glob_tree.specs.Content.{Content, Key, is_dir}
use Rattle.std.specs.Prelude.{Option, Some, unwrap_or}
use Rattle.globs.specs.Chosen.{Chosen}
use Rattle.globs.specs.Find.Above.{is_start_ignored}
use Rattle.globs.specs.Find.Aiming.{IsAsked, aim, depth_at, first_lists, git_names, heeds, is_ruled, last_lists, placed}
use Rattle.globs.specs.Find.Aiming.{rule_files, wanted_of}

abbrev aim_by : (patterns : List Text) (known : Text → Option Text) → MatchOptions → ℕ → Wanted →
    (first : List Ignores) → (files : List Text) → (last : List (Text × Ignores)) → Aim
aim_by patterns known options depth wanted first files last = record {
  options = options;
  patterns = patterns;
  depth = depth;
  is_wanted = λ kind. wants wanted (is_dir kind);
  first = first;
  rules_in = rules_from known files;
  last = last;
}

pub aim_is : {A : Type 0} (o : Chosen) (list : Ignores) (after : List (Text × Ignores)) (is_ignored : Bool) (s : Settings A)
    (patterns : List Text) (place : Key) (known : Text → Option Text) → IsAsked o list after is_ignored s
    → after ≡ last_lists o.settings.is_git place known → is_ignored ≡ (o.settings.is_git && is_start_ignored known place)
    → aim_of patterns s known ≡ aim o list patterns place known
aim_is o list after is_ignored s patterns place known asked same ignored =
    let by = aim_by patterns known in
    let depth = depth_at (o.settings.is_git && is_start_ignored known place) o.settings.depth in
    let wanted = wanted_of o.settings.kinds in
    let first = first_lists o.settings.is_git (is_ruled o) list in
    ap (λ x. by x s.depth s.wanted s.first.items (files_of s) (outer_of s.last.items)) asked.options
    ∙ ap (λ x. by o.settings.options x s.wanted s.first.items (files_of s) (outer_of s.last.items))
    (asked.depth ∙ ap (λ i. depth_at i o.settings.depth) ignored)
    ∙ ap (λ x. by o.settings.options depth x s.first.items (files_of s) (outer_of s.last.items)) asked.wanted
    ∙ ap (λ x. by o.settings.options depth wanted x (files_of s) (outer_of s.last.items)) asked.first
    ∙ ap (λ x. by o.settings.options depth wanted first x (outer_of s.last.items)) asked.files
    ∙ ap (λ x. by o.settings.options depth wanted first (rule_files o) x) (asked.last ∙ same)

-- without `--git` it does not matter where in a repository the start is
ignored-placed : (git : Bool) (above names : Key) (known : Text → Option Text) → placed git (Some above) ≡ Some names
    → (git && is_start_ignored known above) ≡ (git && is_start_ignored known names)
ignored-placed true above names known put = ap (λ o. is_start_ignored known (unwrap_or o [])) put
ignored-placed false above names known put = refl

last-placed : (git : Bool) (above names : Key) (known : Text → Option Text) → placed git (Some above) ≡ Some names
    → last_lists git above known ≡ last_lists git names known
last-placed true above names known put = ap (λ o. last_lists true (unwrap_or o []) known) put
last-placed false above names known put = refl

abbrev aim_at : Chosen → (list : Ignores) → (patterns : List Text) → (known : Text → Option Text) → (is_ignored : Bool)
    → (last : List (Text × Ignores)) → Aim
aim_at o list patterns known is_ignored last =
    aim_by patterns known o.settings.options (depth_at is_ignored o.settings.depth) (wanted_of o.settings.kinds)
    (first_lists o.settings.is_git (is_ruled o) list) (rule_files o) last

pub aim-placed : (o : Chosen) (list : Ignores) (patterns : List Text) (above names : Key) (known : Text → Option Text)
    → placed o.settings.is_git (Some above) ≡ Some names → aim o list patterns above known ≡ aim o list patterns names known
aim-placed o list patterns above names known put =
    let git = o.settings.is_git in
    ap (λ i. aim_at o list patterns known i (last_lists git above known)) (ignored-placed git above names known put)
    ∙ ap (aim_at o list patterns known (git && is_start_ignored known names)) (last-placed git above names known put)

-- a search with one aim also has an equal aim
pub given-same : {P : Progress} (c : Content) (a b : Aim) (known : Text → Option Text) (s : SearchState P)
    → HasGiven (gifts c a) c a known [] s → a ≡ b → HasGiven (gifts c b) c b known [] s
given-same c a b known s given same = subst (λ x. HasGiven (gifts c x) c x known [] s) same given

unheeded_by : (git : Bool) (names : List Text) → heeds (git_names git ++ names) ≡ false → git ≡ false
unheeded_by true names e = absurd (false≢true (sym e))
unheeded_by false names e = refl

-- if no file is heeded, git's rules do not decide
pub unheeded : (o : Chosen) → heeds (rule_files o) ≡ false → o.settings.is_git ≡ false
unheeded o e = unheeded_by o.settings.is_git o.rule_files e
