-- What `globs ignore` does, with and without the rules of git.
use Rattle.std.specs.Prelude.{◌≡◌, ℕ, List, Option, true, false}
use Rattle.glob_text.specs.Text.{Text}
use Rattle.globs.specs.ByGit.{Here}
use Rattle.globs.specs.Copying.{Input}
use Rattle.globs.specs.GitNaming.{IgnoresByGit}
use Rattle.globs.specs.Naming.{IgnoresByFiles}
use Rattle.globs.specs.declared.options.Settings.{Settings}

-- with git's rules if the settings ask for them
unfoldable pub IgnoresPaths : {W : Type 0} → (contents : W → Option (List ℕ)) → Here → (holds : Text → Option Text)
    → Settings → (names : List Text) → Input → (old new : W) → (status : ℕ) → Type 0
IgnoresPaths contents here holds settings names input old new status =
    (settings.is_git ≡ true → IgnoresByGit contents here holds settings names input old new status)
    × (settings.is_git ≡ false → IgnoresByFiles contents holds settings names input old new status)
