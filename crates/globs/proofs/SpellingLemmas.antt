-- What the options in a word set.
use Rattle.std.proofs.Common.{◌≡◌, ℕ, [], ◌∷◌, Option, None, Bor, refl, sym, ap, ◌∙◌}
use Rattle.std.specs.Prelude.{option_map}
use Rattle.std.specs.Str.{IsUtf8}
use Rattle.std.proofs.lemmas.Str.{is_utf8-from_IsUtf8}
use Rattle.glob_text.specs.Text.{Text}
use Rattle.globs.specs.Options.{with_flag}
use Rattle.globs.specs.Spelling.{with_letter}
use Rattle.globs.specs.declared.name.Name.{Name}
use Rattle.globs.specs.declared.options.Settings.{Settings}
use Rattle.globs.specs.declared.options.Valued.{Valued}
use Rattle.globs.proofs.CopyLemmas.{no_text}

module _ (name : Name) (letter : ℕ) (s : Settings) where
  -- a letter sets the same as the word made of a hyphen and the letter
  pub one_letter : (flag : Text) → flag ≡ 45 ∷ letter ∷ [] → IsUtf8 (45 ∷ letter ∷ []) → with_flag name flag s ≡ with_letter name letter s
  one_letter flag is utf8 = rw (is_utf8-from_IsUtf8 (45 ∷ letter ∷ []) utf8) (rw is refl)

  -- a byte that is not an ASCII letter sets nothing
  pub no_letter : ¬ (IsUtf8 (45 ∷ letter ∷ [])) → None ≡ with_letter name letter s
  no_letter fails = rw (no_text (45 ∷ letter ∷ []) fails) refl

-- a search that finds no option and value returns none
pub none_found : (r : Option (Valued × Bor Text)) (all : Option (Valued × Text)) →
    option_map (λ it. (it.0, it.1.now)) r ≡ all → r ≡ None → all ≡ None
none_found r all is none = sym is ∙ ap (option_map (λ it. (it.0, it.1.now))) none
