use Rattle.std.specs.Prelude.{codes, string_bytes}
use Rattle.std.specs.Str.{chars}
use Rattle.std.proofs.Common.{◌≡◌, ◌↔◌, ◌++◌, refl, ap, ap₂, ◌∙◌}
use Rattle.std.proofs.lemmas.Str.{chars-append, IsUtf8-string_bytes}
use Rattle.glob.specs.Escaping.{escaped_text}
use Rattle.glob.specs.Matching.Texts.{Matches}
use Rattle.glob.specs.Text.{Text}
use Rattle.glob_examples.proofs.EscapedFolders.{all_below, Matches-below}
use Rattle.glob_examples.specs.Copying.{IsBelow}
use Rattle.glob_examples.specs.PathOptions.{path_options}
use Rattle.glob_examples.proofs.copy.pattern_below.Goals as goal

written : chars (codes "/**/*") ≡ all_below
unfolding chars
written = refl

below : (folder pattern text : Text) → pattern ≡ escaped_text folder ++ all_below → Matches path_options pattern text ↔ IsBelow folder text
unfolding IsBelow
below = Matches-below

pub returns : goal.returns
returns g c = λ text. below (chars c.args.folder.now) _ text
    (ap chars c.in_ok-push_str.ensures.bytes
    ∙ chars-append (string_bytes c.in_ok-pattern.pattern) (codes "/**/*") (IsUtf8-string_bytes c.in_ok-pattern.pattern)
    ∙ ap₂ (λ xs ys. xs ++ ys) c.in_ok-pattern.ensures written)
