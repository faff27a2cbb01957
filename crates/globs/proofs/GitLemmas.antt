-- What the rules of git around a start say about paths, and what is written about them.
use Rattle.std.proofs.Common.{◌≡◌, ◌⊎◌, ℕ, ◌&&◌, not, Bool, true, false, List, [], ◌++◌, Option, Some, None, inl, inr}
use Rattle.std.proofs.Common.{map, refl, sym, ap, subst, append-nil, ◌∙◌}
use Rattle.std.proofs.lemmas.Bool.{false≢true}
use Rattle.std.specs.Prelude.{is_some, string_bytes, if◌then◌else◌}
use Rattle.std.specs.Str.{is_utf8}
use Rattle.glob_lines.specs.Lines.{line_feed, with_ends}
use Rattle.glob_rules.specs.Lists.{AreTaken, Ignores, rules_of}
use Rattle.glob_rules.specs.declared.rule.Rule.{Rule}
use Rattle.glob_search.specs.Asking.{Agrees, Origin, is_left_out, rule_about}
use Rattle.glob_search.specs.Searching.{Aim}
use Rattle.glob_text.specs.Text.{Text}
use Rattle.glob_tree.specs.Content.{Key}
use Rattle.globs.specs.ByGit.{CopiesAround, CopiesByGit, GitRules, Here, IsAround, decision_by, git_rules, ignores}
use Rattle.globs.specs.ByGit.{is_unignored, is_within}
use Rattle.globs.specs.Copying.{Input}
use Rattle.globs.specs.Find.Above.{outer_decision}
use Rattle.globs.specs.Find.Aiming.{git_names}
use Rattle.globs.specs.GitNaming.{NamesAround, NamesByGit, decided_by_git, is_decided_by_git, named_by_git, place_by}
use Rattle.globs.specs.GitNaming.{record_by}
use Rattle.globs.specs.Ignoring.{AreRead}
use Rattle.globs.specs.Naming as naming
use Rattle.globs.specs.Naming.{files_of, named_record}
use Rattle.globs.specs.Unignored.{is_directory, path_of, text_path}
use Rattle.globs.specs.declared.ignore.around.Around.{Around}
use Rattle.globs.proofs.CopyLemmas.{no_path, path_is}
use Rattle.globs.proofs.SourceLemmas.{has_rules}

both : (a b : Bool) → a ≡ true → b ≡ (a && b)
both true b e = refl
both false b e = absurd (false≢true e)

none_of : (a b : Bool) → a ≡ false → false ≡ (a && b)
none_of false b e = refl
none_of true b e = absurd (false≢true (sym e))

when_true : {Z : Type 0} (b : Bool) (x y : Z) → b ≡ true → x ≡ (if b then x else y)
when_true true x y e = refl
when_true false x y e = absurd (false≢true e)

when_false : {Z : Type 0} (b : Bool) (x y : Z) → b ≡ false → y ≡ (if b then x else y)
when_false false x y e = refl
when_false true x y e = absurd (false≢true (sym e))

pub not_true : (b : Bool) → not b ≡ true → b ≡ false
not_true false e = refl
not_true true e = absurd (false≢true e)

pub not_false : (b : Bool) → not b ≡ false → b ≡ true
not_false true e = refl
not_false false e = absurd (false≢true (sym e))

-- the rules are still those around the start, whatever was read
pub around-kept : {X A : Type 0} (texts : X → Option (Text → Option Text)) (old new : Around X A)
    → texts new.texts ≡ texts old.texts → new.rules.files ≡ old.rules.files
    → ((a : Aim) (known : Text → Option Text) → texts old.texts ≡ Some known → Agrees a known old.rules → Agrees a known new.rules)
    → new.is_ignored ≡ old.is_ignored → new.ignoring ≡ old.ignoring → new.above ≡ old.above
    → (r : GitRules) → IsAround texts r old → IsAround texts r new
around-kept texts old new same files keeps ignored rule above r is = record {
  known = same ∙ is.known;
  files = files ∙ is.files;
  agrees = keeps r.aim r.known is.known is.agrees;
  ignored = ignored ∙ is.ignored;
  rule = ap outer_decision rule ∙ is.rule;
  above = ap (λ v. map string_bytes v.items) above ∙ is.above;
}

module _ (r : GitRules) (path : Text) (d : Bool) where
  -- if the start is ignored, then so is everything within it
  pub ignores-within : r.is_start_ignored ≡ true → is_within path ≡ ignores r path d
  ignores-within start = when_true r.is_start_ignored (is_within path) (is_left_out r.aim path d) start

  -- if it is not, then the rules decide
  pub ignores-below : (b : Bool) → r.is_start_ignored ≡ false → b ≡ is_left_out r.aim path d → b ≡ ignores r path d
  ignores-below b start says = says ∙ when_false r.is_start_ignored (is_within path) (is_left_out r.aim path d) start

  pub decision-below : (rule : Option (Origin × Rule)) → r.is_start_ignored ≡ false
      → rule ≡ rule_about r.aim r.known (git_names true) path d → rule ≡ decision_by r path d
  decision-below rule start says =
      says ∙ when_false r.is_start_ignored (if is_within path then r.start_rule else None)
      (rule_about r.aim r.known (git_names true) path d) start

  pub below-rule : (rule : Option (Origin × Rule)) (files : List Text) → r.is_start_ignored ≡ false → files ≡ git_names true
      → rule ≡ rule_about r.aim r.known files path d → rule ≡ decision_by r path d
  below-rule rule files start are says =
      decision-below rule start (says ∙ ap (λ fs. rule_about r.aim r.known fs path d) are)

  pub decision-within : (rule : Option (Origin × Rule)) → r.is_start_ignored ≡ true → is_within path ≡ true
      → rule ≡ r.start_rule → rule ≡ decision_by r path d
  decision-within rule start within says =
      says ∙ when_true (is_within path) r.start_rule None within
      ∙ when_true r.is_start_ignored (if is_within path then r.start_rule else None)
      (rule_about r.aim r.known (git_names true) path d) start

  pub decision-outside : r.is_start_ignored ≡ true → is_within path ≡ false → None ≡ decision_by r path d
  decision-outside start outside =
      when_false (is_within path) r.start_rule None outside
      ∙ when_true r.is_start_ignored (if is_within path then r.start_rule else None)
      (rule_about r.aim r.known (git_names true) path d) start

module _ (r : GitRules) (bytes : Text) where
  -- a path is copied if it is not ignored
  pub unignored-by : (path : Text) (b d : Bool) → Some path ≡ text_path bytes → d ≡ is_directory bytes → b ≡ ignores r path d
      → not b ≡ is_unignored r bytes
  unfolding is_unignored
  unignored-by path b d e kind says =
      let (text, is) = path_is bytes path e in
      ap not (says ∙ ap (λ p. ignores r p d) is ∙ ap (ignores r (path_of bytes)) kind)
      ∙ both (is_utf8 (path_of bytes)) (not (ignores r (path_of bytes) (is_directory bytes))) text

  -- a path that is not UTF-8 is not copied
  pub unignored-no_text : None ≡ text_path bytes → false ≡ is_unignored r bytes
  unfolding is_unignored
  unignored-no_text e =
      none_of (is_utf8 (path_of bytes)) (not (ignores r (path_of bytes) (is_directory bytes))) (no_path bytes e)

  pub decided-by : (path : Text) (d : Bool) (rule : Option (Origin × Rule)) → Some path ≡ text_path bytes
      → d ≡ is_directory bytes → rule ≡ decision_by r path d → rule ≡ decided_by_git r bytes
  unfolding decided_by_git
  decided-by path d rule e kind says =
      let (text, is) = path_is bytes path e in
      says ∙ ap (λ p. decision_by r p d) is ∙ ap (decision_by r (path_of bytes)) kind
      ∙ when_true (is_utf8 (path_of bytes)) (decision_by r (path_of bytes) (is_directory bytes)) None text

  pub decided-no_text : None ≡ text_path bytes → None ≡ decided_by_git r bytes
  unfolding decided_by_git
  decided-no_text e =
      when_false (is_utf8 (path_of bytes)) (decision_by r (path_of bytes) (is_directory bytes)) None (no_path bytes e)

  -- whether something is written
  pub answer-some : (selects : List ℕ → Bool) (d : Origin × Rule) → selects ≡ is_decided_by_git r
      → Some d ≡ decided_by_git r bytes → true ≡ selects bytes
  answer-some selects d is e = ap is_some e ∙ ap (λ f. f bytes) (sym is)

  pub answer-none : (selects : List ℕ → Bool) → selects ≡ is_decided_by_git r → None ≡ decided_by_git r bytes
      → false ≡ selects bytes
  answer-none selects is e = ap is_some e ∙ ap (λ f. f bytes) (sym is)

  -- what is written
  pub written-some : (end : ℕ) (files : List naming.File) (write : List ℕ → List ℕ) (old new : List ℕ) (d : Origin × Rule)
      → write ≡ named_by_git end files r → Some d ≡ decided_by_git r bytes
      → new ≡ old ++ named_record end (place_by r files d.0 d.1.line) bytes → new ≡ old ++ write bytes
  written-some end files write old new d is e wrote =
      wrote ∙ ap (λ t. old ++ t) (ap (record_by end files r bytes) e ∙ ap (λ f. f bytes) (sym is))

-- Whichever files of rules were read, either nothing was copied or what they and git do not ignore.
pub copies-by_git : {W : Type 0} (contents : W → Option (List ℕ)) (here : Here) (holds : Text → Option Text) (end : ℕ)
    (names all : List Text) (input : Input) (old new : W) (status : ℕ)
    → (texts : List Text) × AreRead holds names texts × (all ≡ texts ++ []) → (list : Ignores)
    → AreTaken (with_ends line_feed all) × (list ≡ rules_of (with_ends line_feed all))
    → ((known : Text → Option Text) (place : Key) → here.texts ≡ Some known → here.above ≡ Some place
    → CopiesAround (git_rules names list place known) end input (contents old) (contents new) status)
    → CopiesByGit contents here holds end names input old new status
unfolding CopiesByGit
copies-by_git contents here holds end names all input old new status read list taken copied =
    inr (list, has_rules holds names [] all read list taken, copied)

pub names-by_git : {W : Type 0} (contents : W → Option (List ℕ)) (here : Here) (holds : Text → Option Text) (end : ℕ)
    (names all : List Text) (input : Input) (old new : W) (status : ℕ)
    → (texts : List Text) × AreRead holds names texts × (all ≡ texts ++ []) → (list : Ignores) (files : List naming.File)
    → AreTaken (with_ends line_feed all) × (list ≡ rules_of (with_ends line_feed all)) → files ≡ files_of names all
    → ((known : Text → Option Text) (place : Key) → here.texts ≡ Some known → here.above ≡ Some place
    → NamesAround (git_rules names list place known) end files input (contents old) (contents new) status)
    → NamesByGit contents here holds end names input old new status
unfolding NamesByGit
names-by_git contents here holds end names all input old new status (texts, are, same) list files (taken, is) files_are named =
    let whole : all ≡ texts = same ∙ append-nil texts in
    let by : List naming.File → Ignores → Type 0 = (λ fs l. (known : Text → Option Text) (place : Key) → here.texts ≡ Some known
    → here.above ≡ Some place → NamesAround (git_rules names l place known) end fs input (contents old) (contents new) status) in
    inr (
      texts,
      are,
      subst (λ ts. AreTaken (with_ends line_feed ts)) whole taken,
      subst (λ ts. by (files_of names ts) (rules_of (with_ends line_feed ts))) whole
          (subst (λ l. by (files_of names all) l) is (subst (λ fs. by fs list) files_are named)),
    )

-- a status after two reports, each of which may make it 2
pub status-kept : (first second last : ℕ) → (second ≡ first) ⊎ (second ≡ 2) → (last ≡ second) ⊎ (last ≡ 2)
    → (last ≡ first) ⊎ (last ≡ 2)
status-kept first second last (inl same) (inl kept) = inl (kept ∙ same)
status-kept first second last (inr two) (inl kept) = inr (kept ∙ two)
status-kept first second last reported (inr two) = inr two
