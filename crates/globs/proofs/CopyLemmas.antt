-- A copy's status, and which records an ignore list selects.
use Rattle.std.proofs.Common.{◌≡◌, ◌≢◌, ℕ, Bool, true, false, ◌&&◌, ◌||◌, not, List, Option, None, Some, Result, Ok}
use Rattle.std.proofs.Common.{Err, IsErr, IsErrAnd, IsTrue, refl, sym, ap, ◌∙◌, arith}
use Rattle.std.specs.Str.{is_utf8, IsUtf8}
use Rattle.std.proofs.lemmas.Str.{IsUtf8-from_is_utf8, is_utf8-from_IsUtf8}
use Rattle.std.specs.Io.KnownBytes.{Appends, IsAtEnd}
use Rattle.std.specs.Prelude.{if◌then◌else◌}
use Rattle.std.proofs.lemmas.Bool.{cond-false, cond-true, false≢true}
use Rattle.std.proofs.lemmas.Option.{cond_some, none-some}
use Rattle.glob_text.specs.Text.{Text}
use Rattle.glob_rules.specs.Lists.{Ignores}
use Rattle.glob_rules.specs.Deciding.{deciding_rule, is_ignored}
use Rattle.glob_rules.specs.declared.rule.Rule.{Rule}
use Rattle.glob_lines.specs.Lines.{Rewrites, RewritesBytes, RewritesWhole}
use Rattle.globs.specs.Copying.{Input, WritesSelected}
use Rattle.globs.specs.Naming.{deciding_of}
use Rattle.globs.specs.Unignored.{is_directory, is_here, is_selected, path_of, text_path}

module _ (end : ℕ) (selects : List ℕ → Bool) (write : List ℕ → List ℕ) (input : Input) (old new : Option (List ℕ)) where
  -- a copy of some records has the status 0
  pub copies_some : (n : ℕ) → n ≢ 0 → ¬ (IsTrue input.failed) → IsAtEnd input.after →
      Rewrites end selects write input.before old new n → WritesSelected end selects write input old new 0
  unfolding WritesSelected
  copies_some n any read ends copied = (
    λ _. (n, omega (arith, any), copied),
    λ one. absurd (omega (arith, one)),
    λ _. ends,
    λ two. absurd (omega (arith, two)),
    λ failed. absurd (read failed),
  )

  -- a copy of no records has the status 1
  pub copies_none : ¬ (IsTrue input.failed) → IsAtEnd input.after → Rewrites end selects write input.before old new 0 →
      WritesSelected end selects write input old new 1
  unfolding WritesSelected
  copies_none read ends copied =
      (λ zero. absurd (omega (arith, zero)), λ _. copied, λ _. ends, λ two. absurd (omega (arith, two)), λ failed. absurd (read failed))

  -- at the status 2 a prefix was written
  pub copies_bytes : (status : ℕ) → status ≡ 2 → RewritesBytes end selects write input.before old new
      → (IsTrue input.failed → RewritesWhole end selects write input.before input.after old new) →
      WritesSelected end selects write input old new status
  unfolding WritesSelected
  copies_bytes status is some whole = (
    λ none. absurd (omega (arith, is, none)),
    λ one. absurd (omega (arith, is, one)),
    λ other. absurd (other is),
    λ _. some,
    λ failed. (is, whole failed),
  )

-- a call that succeeded did not fail
pub no_failure : {E : Type 0} (r : Result ℕ E) (n : ℕ) (failed : Bool) → r ≡ Ok n → (IsTrue failed → IsErr r) → ¬ (IsTrue failed)
no_failure r n failed is fails did = by r is (fails did)
  where
    by : {E : Type 0} (r : Result ℕ E) → r ≡ Ok n → ¬ (IsErr r)
    by (Ok m) e err = absurd (false≢true err)
    by (Err x) e err = absurd (cc)

-- a call that failed with such an error failed
pub failed_with : {T E : Type 0} (r : Result T E) (P : E → Type 0) → IsErrAnd r P → IsErr r
failed_with (Ok x) P is = absurd is
failed_with (Err e) P is = refl

-- what was appended here was appended there
abbrev pub AlsoAppends : (old new old' new' : Option (List ℕ)) → Type 0
AlsoAppends old new old' new' = (bytes : List ℕ) → Appends old new bytes → Appends old' new' bytes

module _ (end : ℕ) (selects : List ℕ → Bool) (write : List ℕ → List ℕ) where
  -- the same for the selected records
  pub selected_elsewhere : (input old new old' new' : Option (List ℕ)) (count : ℕ) → AlsoAppends old new old' new'
      → Rewrites end selects write input old new count → Rewrites end selects write input old' new' count
  unfolding Rewrites
  selected_elsewhere None old new old' new' count also copied = tt
  selected_elsewhere (Some bytes) old new old' new' count also (kept, are, wrote, counted) = (kept, are, also _ wrote, counted)

  -- the same for the first bytes of the selected records
  pub bytes_elsewhere : (input old new old' new' : Option (List ℕ)) → AlsoAppends old new old' new'
      → RewritesBytes end selects write input old new → RewritesBytes end selects write input old' new'
  unfolding RewritesBytes
  bytes_elsewhere None old new old' new' also copied = tt
  bytes_elsewhere (Some bytes) old new old' new' also (kept, are, (n, wrote)) = (kept, are, (n, also _ wrote))

  -- the same for the selected records whose end was read
  pub whole_elsewhere : (input rest old new old' new' : Option (List ℕ)) → AlsoAppends old new old' new'
      → RewritesWhole end selects write input rest old new → RewritesWhole end selects write input rest old' new'
  unfolding RewritesWhole
  whole_elsewhere input rest old new old' new' also (whole, (partial, consumed, ended, open_end, (kept, are, wrote))) =
      (whole, (partial, consumed, ended, open_end, (kept, are, also _ wrote)))

here_picked : (u h i : Bool) → u ≡ true → h ≡ true → true ≡ (u && (h || i))
here_picked true true i text here = refl
here_picked true false i text here = absurd (false≢true here)
here_picked false h i text here = absurd (false≢true text)

other_picked : (u h i : Bool) → u ≡ true → h ≡ false → i ≡ (u && (h || i))
other_picked true true i text other = absurd (false≢true (sym other))
other_picked true false i text other = refl
other_picked false h i text other = absurd (false≢true text)

none_picked : (u i : Bool) → u ≡ false → false ≡ (u && i)
none_picked true i none = absurd (false≢true (sym none))
none_picked false i none = refl

none_text : (text : Text) (b : Bool) → b ≡ is_utf8 text → ¬ (IsUtf8 text) → is_utf8 text ≡ false
none_text text true is fails = absurd (fails (IsUtf8-from_is_utf8 text (sym is)))
none_text text false is fails = sym is

-- a test for text passes exactly on UTF-8
pub no_text : (text : Text) → ¬ (IsUtf8 text) → is_utf8 text ≡ false
no_text text fails = none_text text (is_utf8 text) refl fails

no_other : (u h : Bool) → h ≡ true → (u && not h) ≡ false
no_other true true here = refl
no_other false true here = refl
no_other true false here = absurd (false≢true here)
no_other false false here = refl

an_other : (u h : Bool) → u ≡ true → h ≡ false → (u && not h) ≡ true
an_other true true text other = absurd (false≢true (sym other))
an_other true false text other = refl
an_other false h text other = absurd (false≢true text)

none_and : (u i : Bool) → u ≡ false → (u && i) ≡ false
none_and true i none = absurd (false≢true (sym none))
none_and false i none = refl

module _ (bytes : Text) where
  -- the path of the record, if it is UTF-8
  pub path_text : (path found : Text) → path ≡ found → found ≡ path_of bytes → IsUtf8 found → Some path ≡ text_path bytes
  path_text path found same is text =
      ap Some (same ∙ is) ∙ sym (cond-true (is_utf8 (path_of bytes)) _ _ (ap is_utf8 (sym is) ∙ is_utf8-from_IsUtf8 found text))

  -- no path, if the record is not UTF-8
  pub path_no_text : (found : Text) → found ≡ path_of bytes → ¬ (IsUtf8 found) → None ≡ text_path bytes
  path_no_text found is fails = sym (cond-false (is_utf8 (path_of bytes)) _ _ (ap is_utf8 (sym is) ∙ no_text found fails))

  pub path_is : (path : Text) → Some path ≡ text_path bytes → (is_utf8 (path_of bytes) ≡ true) × (path ≡ path_of bytes)
  path_is path e = let (text, is) = cond_some (is_utf8 (path_of bytes)) (path_of bytes) path (sym e) in (text, sym is)

  pub no_path : None ≡ text_path bytes → is_utf8 (path_of bytes) ≡ false
  no_path e = by (is_utf8 (path_of bytes)) (path_of bytes) e
    where
      by : (b : Bool) (found : Text) → None ≡ (if b then Some found else None) → b ≡ false
      by true found same = absurd (none-some found same)
      by false found same = refl

  module _ (list : Ignores) where
    -- the list's own directory is selected
    pub selected_here : (path : Text) → Some path ≡ text_path bytes → true ≡ is_here path → true ≡ is_selected list bytes
    unfolding is_selected
    selected_here path e here =
        let (text, is) = path_is path e in
        here_picked (is_utf8 (path_of bytes)) (is_here (path_of bytes)) (not (is_ignored list (path_of bytes) (is_directory bytes)))
        text (ap is_here (sym is) ∙ sym here)

    -- any other path is selected if it is not ignored
    pub selected_by_list : (path : Text) (b d : Bool) → Some path ≡ text_path bytes → false ≡ is_here path → d ≡ is_directory bytes
        → b ≡ is_ignored list path d → not b ≡ is_selected list bytes
    unfolding is_selected
    selected_by_list path b d e other kind ignored =
        let (text, is) = path_is path e in
        ap not (ignored ∙ ap (λ p. is_ignored list p d) is ∙ ap (is_ignored list (path_of bytes)) kind)
        ∙ other_picked (is_utf8 (path_of bytes)) (is_here (path_of bytes)) (not (is_ignored list (path_of bytes) (is_directory bytes)))
        text (ap is_here (sym is) ∙ sym other)

    -- a path that is not UTF-8 is not selected
    pub selected_no_text : None ≡ text_path bytes → false ≡ is_selected list bytes
    unfolding is_selected
    selected_no_text e =
        none_picked (is_utf8 (path_of bytes)) (is_here (path_of bytes) || not
        (is_ignored list (path_of bytes) (is_directory bytes))) (no_path e)

    -- no rule decides about the list's own directory
    pub decided_here : (path : Text) → Some path ≡ text_path bytes → true ≡ is_here path → None ≡ deciding_of list bytes
    unfolding deciding_of
    decided_here path e here =
        let (text, is) = path_is path e in
        sym (cond-false (is_utf8 (path_of bytes) && not (is_here (path_of bytes))) _ _
        (no_other (is_utf8 (path_of bytes)) _ (ap is_here (sym is) ∙ sym here)))

    -- the rule that the list names decides about any other path
    pub decided_by_list : (path : Text) (d : Bool) (rule : Option Rule) → Some path ≡ text_path bytes → false ≡
        is_here path → d ≡ is_directory bytes
        → rule ≡ deciding_rule list path d → rule ≡ deciding_of list bytes
    unfolding deciding_of
    decided_by_list path d rule e other kind decides =
        let (text, is) = path_is path e in
        decides ∙ ap (λ p. deciding_rule list p d) is ∙ ap (deciding_rule list (path_of bytes)) kind
        ∙ sym (cond-true (is_utf8 (path_of bytes) && not (is_here (path_of bytes))) _ _
        (an_other _ _ text (ap is_here (sym is) ∙ sym other)))

    -- no rule decides about a path that is not UTF-8
    pub decided_no_text : None ≡ text_path bytes → None ≡ deciding_of list bytes
    unfolding deciding_of
    decided_no_text e =
        sym (cond-false (is_utf8 (path_of bytes) && not (is_here (path_of bytes))) _ _ (none_and (is_utf8 (path_of bytes)) _ (no_path e)))
